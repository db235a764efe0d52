-- The first day that a record shows.
use Rattle.std.proofs.Common.{inl, inr, ◌≡◌, ◌∙◌, ℕ, zero, suc, ◌+◌, ◌-◌, ◌<◌, ◌≤◌, ◌==◌, ◌&&◌, ◌⊎◌, Bool, true, false, Option, None, Some, ap, refl, sym, arith, true≢false}
use Rattle.std.proofs.lemmas.Bool.{cases_lt}
use Rattle.std.proofs.lemmas.Bool.Decides.{nat_tests}
use Rattle.std.specs.Prelude.{IfSome, nat_le}
use Rattle.palm_events.specs.declared.repeat.Repeat.{Repeat}
use Rattle.palm_events.specs.Calendar.{day_number}
use Rattle.palm_events.specs.Events.{EventValue}
use Rattle.palm_events.specs.Forms.{IsEvent, is_repeat}
use Rattle.palm_events.specs.Shown.{IsFirstShown, first_from, first_shown, has_day, is_up_to, last_number, repeats, shows}
use Rattle.palm_events.proofs.WitnessLaws.{witness}

pub either : (b : Bool) → (b ≡ true) ⊎ (b ≡ false)
either true = inl refl
either false = inr refl

-- a test of the first number that does not take it
pub first_from-next : (test : ℕ → Bool) (count index number : ℕ) {total : Option ℕ} → index < count → test number ≡ false
    → first_from test (count - index) number ≡ total → first_from test (count - (index + 1)) (number + 1) ≡ total
unfolding first_from
first_from-next test count index number less is so_far =
    let left : count - index ≡ suc (count - (index + 1)) = omega arith in
    let one : first_from test (count - index) number ≡ first_from test (count - (index + 1)) (number + 1) = rw (left, is) refl in
    sym one ∙ so_far

-- one that takes it
pub first_from-here : (test : ℕ → Bool) (count index number : ℕ) {total : Option ℕ} → index < count → test number ≡ true
    → first_from test (count - index) number ≡ total → total ≡ Some number
unfolding first_from
first_from-here test count index number less is so_far =
    let left : count - index ≡ suc (count - (index + 1)) = omega arith in
    let one : first_from test (count - index) number ≡ Some number = rw (left, is) refl in
    sym so_far ∙ one

-- no number is left
pub first_from-end : (test : ℕ → Bool) (count index number : ℕ) {total : Option ℕ} → count ≤ index
    → first_from test (count - index) number ≡ total → total ≡ None
unfolding first_from
first_from-end test count index number past so_far =
    let left : count - index ≡ 0 = omega arith in
    let one : first_from test (count - index) number ≡ None = rw left refl in
    sym so_far ∙ one

-- what is found
pub record IsFound (test : ℕ → Bool) (number found : ℕ) : Type 0 where
  pub low : number ≤ found
  pub is : test found ≡ true
  pub first : (earlier : ℕ) → number ≤ earlier → earlier < found → test earlier ≡ false

found_later : (test : ℕ → Bool) (number found : ℕ) → test number ≡ false → IsFound test (number + 1) found → IsFound test number found
found_later test number found is later = record {
  low = omega (arith, later.low);
  is = later.is;
  first = λ earlier low high. elim (cases_lt number earlier) [
    | inl lt ↦ later.first earlier (omega arith) high
    | inr ge ↦ let same : earlier ≡ number = omega arith in ap test same ∙ is
  ];
}

pub first_from-Some : (test : ℕ → Bool) (count number found : ℕ) → first_from test count number ≡ Some found → IsFound test number found
unfolding first_from
first_from-Some test zero number found e = absurd (cc)
first_from-Some test (suc count) number found e =
    elim (either (test number)) [
      | inl is ↦ let same : number ≡ found = some_is number found (rw is at e) in
          record { low = omega arith; is = ap test (sym same) ∙ is; first = λ earlier low high. absurd (omega arith) }
      | inr is ↦ found_later test number found is (first_from-Some test count (number + 1) found (rw is at e))
    ]
  where
    some_is : (a b : ℕ) → ◌≡◌ {A = Option ℕ} (Some a) (Some b) → a ≡ b
    some_is a b h = cc

-- what is not found
pub first_from-None : (test : ℕ → Bool) (count number : ℕ) → first_from test count number ≡ None
    → (later : ℕ) → number ≤ later → later < number + count → test later ≡ false
unfolding first_from
first_from-None test zero number e later low high = absurd (omega arith)
first_from-None test (suc count) number e later low high =
    elim (either (test number)) [
      | inl is ↦ absurd (some_is number (rw is at e))
      | inr is ↦ elim (cases_lt number later) [
        | inl lt ↦ first_from-None test count (number + 1) (rw is at e) later (omega arith) (omega arith)
        | inr ge ↦ let same : later ≡ number = omega arith in ap test same ∙ is
      ]
    ]
  where
    some_is : (a : ℕ) → ◌≡◌ {A = Option ℕ} (Some a) None → ⊥
    some_is a h = cc

-- no day before the date is shown
pub shows-early : (event : EventValue) (number : ℕ) → number < day_number event.date → shows event number ≡ false
unfolding shows
shows-early event number early =
    let is : nat_le (day_number event.date) number ≡ false = grind (arith, nat_tests) in
    rw is refl

-- a later one is shown where it repeats
pub shows-repeats : (event : EventValue) (number : ℕ) → day_number event.date ≤ number
    → shows event number ≡ repeats event.repeat (day_number event.date) number
unfolding shows
shows-repeats event number late =
    let is : nat_le (day_number event.date) number ≡ true = grind (arith, nat_tests) in
    rw is refl

-- it is where the repeat has it
pub shows-repeat : (event : EventValue) (repeat : Repeat) (start number : ℕ) (is : Bool) → event.repeat ≡ Some repeat
    → start ≡ day_number event.date → start ≤ number → is ≡ repeats (Some repeat) start number → shows event number ≡ is
shows-repeat event repeat start number is there begin order e =
    shows-repeats event number (rw begin at order)
    ∙ (ap (λ found. repeats found (day_number event.date) number) there ∙ sym (rw begin at e))

-- a date that does not repeat is shown
pub first_shown-once : (event : EventValue) → event.repeat ≡ None → first_shown event ≡ Some (day_number event.date)
unfolding first_shown
first_shown-once event none =
    let start = day_number event.date in
    let own : (start == start) ≡ true = grind (arith, nat_tests) in
    let is : shows event start ≡ true = shows-repeats event start (omega arith) ∙ rw (none, own) refl in
    first_from-here (shows event) 8000 0 start (omega arith) is refl

-- what is first shown
pub first_shown-is : (event : EventValue) (number : ℕ) → first_shown event ≡ Some number → IsFirstShown event number
unfolding first_shown
first_shown-is event number e =
    let h = first_from-Some (shows event) 8000 (day_number event.date) number e in
    record {
      shown = h.is;
      first = λ earlier less. elim (cases_lt earlier (day_number event.date)) [
        | inl lt ↦ shows-early event earlier lt
        | inr ge ↦ h.first earlier ge less
      ];
    }

both_true : (a b : Bool) → (a && b) ≡ true → (a ≡ true) × (b ≡ true)
both_true a b e = grind arith

up_to-earlier : (last : Option ℕ) (early late : ℕ) → early ≤ late → is_up_to last late ≡ true → is_up_to last early ≡ true
up_to-earlier None early late order e = refl
up_to-earlier (Some last) early late order e = grind (arith, nat_tests)

-- a repeat has no day behind those that were looked at, if it has none there
none_behind : (repeat : Option Repeat) (start number : ℕ) → IfSome repeat (λ repeat. is_repeat repeat ≡ true) → start + 8000 ≤ number
    → ((later : ℕ) → start ≤ later → later < start + 8000 → repeats repeat start later ≡ false) → repeats repeat start number ≡ false
none_behind None start number form past none = grind (arith, nat_tests)
none_behind (Some repeat) start number form past none =
    elim (either (repeats (Some repeat) start number)) [
      | inr not_there ↦ not_there
      | inl there ↦ absurd (contrary repeat start number form past none there)
    ]
  where
    contrary : (repeat : Repeat) (start number : ℕ) → is_repeat repeat ≡ true → start + 8000 ≤ number
        → ((later : ℕ) → start ≤ later → later < start + 8000 → repeats (Some repeat) start later ≡ false)
        → repeats (Some repeat) start number ≡ true → ⊥
    contrary repeat start number form past none there =
        let up_to = (both_true (is_up_to (last_number repeat.until) number) (has_day repeat.pattern repeat.every start number) there).0 in
        let w = witness repeat.pattern repeat.every start (grind (arith, nat_tests)) (grind (arith, nat_tests)) (grind (arith, nat_tests)) in
        let early = up_to-earlier (last_number repeat.until) w.number number (omega (arith, w.high)) up_to in
        let is : repeats (Some repeat) start w.number ≡ true = rw (early, w.has) refl in
        true≢false (sym is ∙ none w.number w.low w.high)

-- where no day is found, none is shown
pub none_shown : (event : EventValue) → IsEvent event → first_shown event ≡ None → (number : ℕ) → shows event number ≡ false
unfolding first_shown
none_shown event form e number =
    let start = day_number event.date in
    let none = first_from-None (shows event) 8000 start e in
    elim (cases_lt number start) [
      | inl lt ↦ shows-early event number lt
      | inr ge ↦ elim (cases_lt number (start + 8000)) [
        | inl within ↦ none number ge within
        | inr past ↦ shows-repeats event number ge ∙ none_behind event.repeat start number form.repeat past
            (λ later low high. sym (shows-repeats event later low) ∙ none later low high)
      ]
    ]
