-- What is known of the ends, from one frame to the next.
use Rattle.line_laws.proofs.Names.{◌≡◌, ℕ, ◌+◌, ◌-◌, ◌<◌, ◌≤◌, Bool, true, false, ◌&&◌, cond, List, [], ◌∷◌, ◌++◌, length, Option, Some, None}
use Rattle.line_laws.proofs.Names.{refl, sym, ap, subst, ◌∙◌, arith, inl, inr, cases_Bool, cases_lt, cond-true, cond-false, and_parts, both_ways, nat_eq}
use Rattle.line_laws.proofs.Names.{drop, piece_count, End, PastFrame, Key, at, first, said, add, data_of, is_data_of}
use Rattle.line_laws.proofs.Names.{late_of, newest, Part, part_of, session_parts, pieces_before, messages_of, Talk, is_ack_of}
use Rattle.std.proofs.Common.{get_or, set}
use Rattle.std.proofs.lemmas.Bool.{eqb-true, eq-eqb, ne_eqb}
use Rattle.std.proofs.lemmas.List.{get_or_push, get_or_append_left, length-append, length-set, get_or-set_same, get_or-set_other}
use Rattle.trace_text.specs.Past.{is_newest_key}
use Rattle.trace_text.specs.Proper.{SaysMessages}
use Rattle.line_laws.proofs.PastLaws.{keys_below, add_new, add_first, same_key-true}
use Rattle.trace_check.proofs.ReachLaws.{first-other, first-none, none_found, IsFound}
use Rattle.trace_check.proofs.StartLaws.{newest_apart, new_part, session-length, start-part}
use Rattle.trace_check.specs.Arrivals.{acks, bears, first_late}
use Rattle.trace_check.specs.Sides.{AreStarts, IsSide, SideValue, last_start, with_fragment, with_repeat}
use Rattle.std.specs.Option.{option_or}
use Rattle.std.specs.Bool.{then_some}

-- ---- what is said

pub said-same : (X : End) (frame : PastFrame) (past : List PastFrame) → is_data_of X frame ≡ false → said X (frame ∷ past) ≡ said X past
said-same X frame past other = ap (λ o. add o (said X past)) (cond-false (is_data_of X frame) (Some frame.key) None other)

said-new : (X : End) (frame : PastFrame) (past : List PastFrame) → is_data_of X frame ≡ true → is_newest_key frame.key (said X past) ≡ false
    → said X (frame ∷ past) ≡ frame.key ∷ said X past
said-new X frame past is new =
    ap (λ o. add o (said X past)) (cond-true (is_data_of X frame) (Some frame.key) None is) ∙ add_new (said X past) (newest_apart frame.key (said X past) new)

pub newest_first : (key : Key) (keys : List Key) → is_newest_key key keys ≡ true → (first keys ≡ Some key) × (0 < length keys)
newest_first key [] same = absurd cc
newest_first key (newest ∷ older) same = (ap Some (sym (same_key-true same)), omega arith)

said-again : (X : End) (frame : PastFrame) (past : List PastFrame) → is_data_of X frame ≡ true → is_newest_key frame.key (said X past) ≡ true
    → said X (frame ∷ past) ≡ said X past
said-again X frame past is same =
    ap (λ o. add o (said X past)) (cond-true (is_data_of X frame) (Some frame.key) None is) ∙ add_first (newest_first frame.key (said X past) same).0

-- ---- which frames pass

bears-other : (X : End) (number : ℕ) (frame : PastFrame) (past : List PastFrame) → is_data_of X frame ≡ false → bears X number (frame ∷ past) ≡ false
bears-other X number frame past other = ap (λ b. b && nat_eq (length (said X (frame ∷ past))) number) other

bears-number : (X : End) (number : ℕ) (frame : PastFrame) (past : List PastFrame) → is_data_of X frame ≡ true
    → bears X number (frame ∷ past) ≡ nat_eq (length (said X (frame ∷ past))) number
bears-number X number frame past is = ap (λ b. b && nat_eq (length (said X (frame ∷ past))) number) is

pub acks-other : (X Y : End) (number : ℕ) (frame : PastFrame) (past : List PastFrame) → is_ack_of Y frame ≡ false → acks X Y number (frame ∷ past) ≡ false
acks-other X Y number frame past other =
    ap (λ b. b && nat_eq (length (said X (frame ∷ past))) number && is_newest_key frame.key (said X (frame ∷ past))) other

-- no fragment beyond those that were said is borne or acknowledged
bears-none : (X : End) (number : ℕ) (came : ℕ → Bool) (past : List PastFrame) → length (said X past) < number → first_late (bears X number) X came past ≡ None
bears-none X number came past less = none_found (bears X number) X came past none where
  none : (late : ℕ) → IsFound (bears X number) X came past late → ⊥
  none late it =
      let below = keys_below (data_of X) it.n past in
      let size : length (said X (at it.n past)) ≡ length (said X (it.frame ∷ it.older)) = ap (λ p. length (said X p)) it.here in
      let is : length (said X (it.frame ∷ it.older)) ≡ number =
      eqb-true _ _ (and_parts (is_data_of X it.frame) (nat_eq (length (said X (it.frame ∷ it.older))) number) it.passes).1 in
      omega (arith, below, size, is, less)

acks-none : (X Y : End) (number : ℕ) (came : ℕ → Bool) (past : List PastFrame) → length (said X past) < number → first_late (acks X Y number) Y came past ≡ None
acks-none X Y number came past less = none_found (acks X Y number) Y came past none where
  none : (late : ℕ) → IsFound (acks X Y number) Y came past late → ⊥
  none late it =
      let below = keys_below (data_of X) it.n past in
      let size : length (said X (at it.n past)) ≡ length (said X (it.frame ∷ it.older)) = ap (λ p. length (said X p)) it.here in
      let front = and_parts (is_ack_of Y it.frame && nat_eq (length (said X (it.frame ∷ it.older))) number)
      (is_newest_key it.frame.key (said X (it.frame ∷ it.older)))
      it.passes in
      let is : length (said X (it.frame ∷ it.older)) ≡ number =
      eqb-true _ _ (and_parts (is_ack_of Y it.frame) (nat_eq (length (said X (it.frame ∷ it.older))) number) front.0).1 in
      omega (arith, below, size, is, less)

-- ---- where messages begin

starts-grow : (messages : List (List ℕ)) (said : ℕ) (starts : List ℕ) → AreStarts messages said starts → said < get_or starts (length starts - 1) 0
    → AreStarts messages (said + 1) starts
starts-grow messages said starts were less =
    let last : length starts - 1 ≡ were.begun = omega (arith, were.counted) in
    let at_last : get_or starts (length starts - 1) 0 ≡ pieces_before messages were.begun =
    ap (λ k. get_or starts k 0) last ∙ were.places were.begun (omega arith) in
    record {
      begun = were.begun;
      there = were.there;
      counted = were.counted;
      places = were.places;
      inside = omega (arith, less, at_last);
      behind = λ some. omega (arith, were.behind some);
    }

starts-begin : (messages : List (List ℕ)) (said size : ℕ) (starts : List ℕ) → (were : AreStarts messages said starts)
    → said ≡ get_or starts (length starts - 1) 0
    → were.begun < length messages → 0 < size → pieces_before messages (were.begun + 1) ≡ said + size
    → AreStarts messages (said + 1) (starts ++ (get_or starts (length starts - 1) 0 + size) ∷ [])
starts-begin messages said size starts were same less some next = record {
  begun = were.begun + 1;
  there = omega (arith, less);
  counted = omega (arith, length-append starts ((get_or starts (length starts - 1) 0 + size) ∷ []), were.counted);
  places = λ k inside. elim (cases_lt k (were.begun + 1)) [
    | inl old ↦ get_or_append_left starts _ 0 k (omega (arith, old, were.counted)) ∙ were.places k (omega (arith, old))
    | inr new ↦
        let k_is : k ≡ were.begun + 1 = omega (arith, new, inside) in
        get_or_push starts _ 0 k (omega (arith, k_is, were.counted)) ∙ (omega (arith, same, next) ∙ ap (pieces_before messages) (sym k_is))
  ];
  inside = omega (arith, next, some);
  behind = λ more.
      let last : were.begun + 1 - 1 ≡ were.begun = omega arith in
      let at_last : get_or starts (length starts - 1) 0 ≡ pieces_before messages were.begun =
      ap (λ k. get_or starts k 0) (let e : length starts - 1 ≡ were.begun = omega (arith, were.counted) in e) ∙ were.places were.begun (omega arith) in
      omega (arith, ap (pieces_before messages) last, at_last, same);
}

-- ---- from one frame to the next

-- the end says no data
pub side-quiet : (X Y : End) (talk : Talk) (came : ℕ → Bool) (frame : PastFrame) (past : List PastFrame) (side : SideValue) (acked : Option ℕ) (late : ℕ)
    → IsSide X Y talk came past side → is_data_of X frame ≡ false
    → acked ≡ first_late (acks X Y (length (said X past))) Y came (frame ∷ past) → late ≡ newest (late_of X) (frame ∷ past)
    → IsSide X Y talk came (frame ∷ past) (record { starts = side.starts; arrivals = side.arrivals; key = side.key; ack = acked; late = late })
side-quiet X Y talk came frame past side acked late was other ack_is late_is =
    let same = said-same X frame past other in
    let count = ap length same in
    record {
      starts_are = subst (λ n. AreStarts (messages_of X talk) n side.starts) (sym count) was.starts_are;
      said_all = was.said_all ∙ sym count;
      arrivals_are = λ j less.
          was.arrivals_are j (omega (arith, less, count))
          ∙ sym (first-other (bears X (j + 1)) X came frame past (bears-other X (j + 1) frame past other));
      key_is = was.key_is ∙ ap first (sym same);
      ack_is = ack_is ∙ ap (λ n. first_late (acks X Y n) Y came (frame ∷ past)) (sym count);
      late_is = late_is;
    }

-- it says its newest fragment again
pub side-repeats : (X Y : End) (talk : Talk) (came : ℕ → Bool) (frame : PastFrame) (past : List PastFrame) (side : SideValue)
    → IsSide X Y talk came past side → is_data_of X frame ≡ true → is_ack_of Y frame ≡ false → is_newest_key frame.key (said X past) ≡ true
    → IsSide X Y talk came (frame ∷ past)
    (with_repeat (then_some (came (length past + 1)) (newest (late_of X) (frame ∷ past))) (record side { late = newest (late_of X) (frame ∷ past) }))
side-repeats X Y talk came frame past side was is no_ack again =
    let same = said-again X frame past is again in
    let count : length (said X (frame ∷ past)) ≡ length (said X past) = ap length same in
    let some : 0 < length (said X past) = (newest_first frame.key (said X past) again).1 in
    let arrival = then_some (came (length past + 1)) (newest (late_of X) (frame ∷ past)) in
    let last = length side.arrivals - 1 in
    let value = option_or (get_or side.arrivals last None) arrival in
    record {
      starts_are = subst (λ n. AreStarts (messages_of X talk) n side.starts) (sym count) was.starts_are;
      said_all = length-set side.arrivals last value ∙ (was.said_all ∙ sym count);
      arrivals_are = λ j less. go j (omega (arith, less, count)) some count;
      key_is = was.key_is ∙ ap first (sym same);
      ack_is = was.ack_is
          ∙ (sym (first-other (acks X Y (length (said X past))) Y came frame past (acks-other X Y (length (said X past)) frame past no_ack))
          ∙ ap (λ n. first_late (acks X Y n) Y came (frame ∷ past)) (sym count));
      late_is = refl;
    }
  where
    go : (j : ℕ) → j < length (said X past) → 0 < length (said X past) → length (said X (frame ∷ past)) ≡ length (said X past)
        → get_or (set side.arrivals (length side.arrivals - 1)
        (option_or (get_or side.arrivals (length side.arrivals - 1) None) (then_some (came (length past + 1)) (newest (late_of X) (frame ∷ past))))) j None
        ≡ first_late (bears X (j + 1)) X came (frame ∷ past)
    go j less some count = elim (cases_lt (j + 1) (length (said X past))) [
      | inl old ↦
          let apart : j ≡ length side.arrivals - 1 → ⊥ = λ e. omega (arith, e, old, was.said_all) in
          let differ : nat_eq (length (said X (frame ∷ past))) (j + 1) ≡ false = ne_eqb _ _ (λ e. omega (arith, e, count, old)) in
          get_or-set_other side.arrivals (length side.arrivals - 1) j _ None apart
          ∙ (was.arrivals_are j less
          ∙ sym (first-other (bears X (j + 1)) X came frame past (bears-number X (j + 1) frame past is ∙ differ)))
      | inr new ↦
          let j_is : length side.arrivals - 1 ≡ j = omega (arith, new, less, was.said_all) in
          let passes : bears X (j + 1) (frame ∷ past) ≡ true =
          bears-number X (j + 1) frame past is ∙ eq-eqb _ _ (omega (arith, count, new, less)) in
          let value = λ (n : ℕ). option_or (get_or side.arrivals n None) (then_some (came (length past + 1)) (newest (late_of X) (frame ∷ past))) in
          ap (λ n. get_or (set side.arrivals n (value n)) j None) j_is
          ∙ (get_or-set_same side.arrivals j (value j) None (omega (arith, less, was.said_all))
          ∙ (ap (λ o. option_or o (then_some (came (length past + 1)) (newest (late_of X) (frame ∷ past)))) (was.arrivals_are j less)
          ∙ ap (λ b. option_or (first_late (bears X (j + 1)) X came past) (then_some (b && came (length past + 1)) (newest (late_of X) (frame ∷ past))))
          (sym passes)))
    ]

-- it says a new one
pub side-begins : (X Y : End) (talk : Talk) (came : ℕ → Bool) (frame : PastFrame) (past : List PastFrame) (side : SideValue)
    → IsSide X Y talk came past side → is_data_of X frame ≡ true → is_ack_of Y frame ≡ false → is_newest_key frame.key (said X past) ≡ false
    → SaysMessages X talk (frame ∷ past)
    → IsSide X Y talk came (frame ∷ past)
    (with_fragment frame.key (then_some (came (length past + 1)) (newest (late_of X) (frame ∷ past)))
    (record side { late = newest (late_of X) (frame ∷ past) }))
side-begins X Y talk came frame past side was is no_ack new says =
    let same = said-new X frame past is new in
    let count : length (said X (frame ∷ past)) ≡ length (said X past) + 1 = ap length same ∙ omega arith in
    let arrival = then_some (came (length past + 1)) (newest (late_of X) (frame ∷ past)) in
    record {
      starts_are = subst (λ n. AreStarts (messages_of X talk) n (with_fragment frame.key arrival side).starts) (sym count) (starts);
      said_all = omega (arith, length-append side.arrivals (arrival ∷ []), was.said_all, count);
      arrivals_are = λ j less. go j (omega (arith, less, count)) count;
      key_is = ap first (sym same);
      ack_is = sym (ap (λ n. first_late (acks X Y n) Y came (frame ∷ past)) count
          ∙ (first-other (acks X Y (length (said X past) + 1)) Y came frame past (acks-other X Y (length (said X past) + 1) frame past no_ack)
          ∙ acks-none X Y (length (said X past) + 1) came past (omega arith)));
      late_is = refl;
    }
  where
    it : (rest : List Part) × (drop (length (said X past)) (session_parts 0 (messages_of X talk)) ≡ part_of frame ∷ rest)
        × (length (said X past) < length (session_parts 0 (messages_of X talk)))
    it = new_part X frame past talk says is new

    starts : AreStarts (messages_of X talk) (length (said X past) + 1)
        (cond (nat_eq (length side.arrivals) (last_start side)) (side.starts ++ (last_start side + piece_count frame.key.size) ∷ []) side.starts)
    starts = elim (cases_Bool (nat_eq (length side.arrivals) (last_start side))) [
      | inl first_one ↦
          let e : length (said X past) ≡ last_start side = sym was.said_all ∙ eqb-true _ _ first_one in
          let last : length side.starts - 1 ≡ was.starts_are.begun = omega (arith, was.starts_are.counted) in
          let place : length (said X past) ≡ pieces_before (messages_of X talk) was.starts_are.begun =
          e ∙ (ap (λ k. get_or side.starts k 0) last ∙ was.starts_are.places was.starts_are.begun (omega arith)) in
          let less : was.starts_are.begun < length (messages_of X talk) = inside was.starts_are.begun was.starts_are.there place in
          let next = start-part 0 (messages_of X talk) was.starts_are.begun (part_of frame) it.0 less
          (ap (λ n. drop n (session_parts 0 (messages_of X talk))) (sym place) ∙ it.1) in
          subst (AreStarts (messages_of X talk) (length (said X past) + 1)) (sym (cond-true _ _ _ first_one))
          (starts-begin (messages_of X talk) (length (said X past)) (piece_count frame.key.size) side.starts was.starts_are e less (omega arith)
          (omega (arith, next, place)))
      | inr later ↦
          let apart : length (said X past) ≡ last_start side → ⊥ = λ e. both_ways _ later (eq-eqb _ _ (was.said_all ∙ e)) in
          let last : length side.starts - 1 ≡ was.starts_are.begun = omega (arith, was.starts_are.counted) in
          let place : last_start side ≡ pieces_before (messages_of X talk) was.starts_are.begun =
          ap (λ k. get_or side.starts k 0) last ∙ was.starts_are.places was.starts_are.begun (omega arith) in
          let less : length (said X past) < last_start side = omega (arith, apart, place, was.starts_are.inside) in
          subst (AreStarts (messages_of X talk) (length (said X past) + 1)) (sym (cond-false _ _ _ later))
          (starts-grow (messages_of X talk) (length (said X past)) side.starts was.starts_are less)
    ]
      where
        inside : (begun : ℕ) → begun ≤ length (messages_of X talk) → length (said X past) ≡ pieces_before (messages_of X talk) begun
            → begun < length (messages_of X talk)
        inside begun there place = elim (cases_lt begun (length (messages_of X talk))) [
          | inl less ↦ less
          | inr all ↦
              let e : begun ≡ length (messages_of X talk) = omega (arith, all, there) in
              absurd (omega (arith, it.2, session-length 0 (messages_of X talk), place, ap (pieces_before (messages_of X talk)) e))
        ]

    go : (j : ℕ) → j < length (said X past) + 1 → length (said X (frame ∷ past)) ≡ length (said X past) + 1
        → get_or (side.arrivals ++ then_some (came (length past + 1)) (newest (late_of X) (frame ∷ past)) ∷ []) j None
        ≡ first_late (bears X (j + 1)) X came (frame ∷ past)
    go j less count = elim (cases_lt j (length (said X past))) [
      | inl old ↦
          let differ : nat_eq (length (said X (frame ∷ past))) (j + 1) ≡ false = ne_eqb _ _ (λ e. omega (arith, e, count, old)) in
          get_or_append_left side.arrivals _ None j (omega (arith, old, was.said_all))
          ∙ (was.arrivals_are j old
          ∙ sym (first-other (bears X (j + 1)) X came frame past (bears-number X (j + 1) frame past is ∙ differ)))
      | inr newest_one ↦
          let j_is : j ≡ length (said X past) = omega (arith, newest_one, less) in
          let passes : bears X (j + 1) (frame ∷ past) ≡ true =
          bears-number X (j + 1) frame past is ∙ eq-eqb _ _ (omega (arith, count, j_is)) in
          get_or_push side.arrivals _ None j (was.said_all ∙ sym j_is)
          ∙ (ap (λ b. then_some (b && came (length past + 1)) (newest (late_of X) (frame ∷ past))) (sym passes)
          ∙ sym (first-none (bears X (j + 1)) X came frame past (bears-none X (j + 1) came past (omega (arith, j_is)))))
    ]
