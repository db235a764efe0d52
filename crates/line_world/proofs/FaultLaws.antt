-- The last ten frames that a line did harm.
use Rattle.std.proofs.Common.{add-one, length-set}
use Rattle.std.proofs.Math.Seq.{drop-cons}
use Rattle.std.proofs.lemmas.Bool.{cond-false, cond-true}
use Rattle.std.proofs.lemmas.List.{drop-set}
use Rattle.std.proofs.lemmas.Option.{get_or_from_slice_get, slice_get_within}
use Rattle.std.specs.Prelude.{slice_set}
use Rattle.trace_text.specs.FrameLogs.{IsFrameAt}
use Rattle.line_world.proofs.Names.{if◌then◌else◌, AllByRecursion, ◌≡◌, ℕ, suc, zero, ◌+◌, ◌-◌, ◌<◌, ◌≤◌, Bool, true, false, List, [], ◌∷◌, ◌++◌, length, map}
use Rattle.line_world.proofs.Names.{take, drop, refl, sym, ap, subst, ◌∙◌, arith, inl, inr, cases_lt, length-append, length-drop, length-map, map-append}
use Rattle.line_world.proofs.Names.{take-append-drop, RuleValue, fate_by, Frame, is_fault, faulted, count, at, faults_from, FrameValue, frame_value, AllBy}
use Rattle.line_world.proofs.Names.{TenFaults, past_now, AllGo, count_at, length-past, AreLastTen, AreTenFaults, faults_in}

pub faults-append : (xs ys : List FrameValue) → faults_in (xs ++ ys) ≡ faults_in xs ++ faults_in ys
faults-append [] ys = refl
faults-append (x ∷ xs) ys = go (is_fault x.fate) (faults-append xs ys) where
  go : (b : Bool) → faults_in (xs ++ ys) ≡ faults_in xs ++ faults_in ys
      → (if b then x.number ∷ faults_in (xs ++ ys) else faults_in (xs ++ ys)) ≡ (if b then x.number ∷ faults_in xs else faults_in xs) ++ faults_in ys
  go true later = ap (λ l. x.number ∷ l) later
  go false later = later

-- as many as the script gives
faults-count : (script : List RuleValue) (number : ℕ) (frames : List Frame) → AllBy script number frames
    → length (faults_in (map frame_value frames)) ≡ faults_from (fate_by script) number (length frames)
faults-count script number [] all = refl
faults-count script number (frame ∷ later) all =
    let rest = faults-count script (number + 1) later all.2 in
    let here = ap is_fault all.1 in
    go (is_fault (frame_value frame).fate) (is_fault (fate_by script number)) here rest
  where
    go : (b c : Bool) → b ≡ c → length (faults_in (map frame_value later)) ≡ faults_from (fate_by script) (number + 1) (length later)
        → length (if b then (frame_value frame).number ∷ faults_in (map frame_value later) else faults_in (map frame_value later))
        ≡ (if c then 1 else 0) + faults_from (fate_by script) (number + 1) (length later)
    go true true same rest = omega (arith, rest)
    go false false same rest = omega (arith, rest)
    go true false same rest = absurd cc
    go false true same rest = absurd cc

weaken : {a b : ℕ} (xs : List ℕ) → a ≤ b → AllByRecursion (λ n. b ≤ n) xs → AllByRecursion (λ n. a ≤ n) xs
weaken [] le all = tt
weaken (x ∷ xs) le all = (omega (arith, le, all.0), weaken xs le all.1)

-- and their numbers rise from the first one on
faults-above : (script : List RuleValue) (number : ℕ) (frames : List Frame) → AllBy script number frames
    → AllByRecursion (λ n. number ≤ n) (faults_in (map frame_value frames))
faults-above script number [] all = tt
faults-above script number (frame ∷ later) all =
    go (is_fault (frame_value frame).fate) (weaken (faults_in (map frame_value later)) (omega arith) (faults-above script (number + 1) later all.2)) where
      go : (b : Bool) → AllByRecursion (λ n. number ≤ n) (faults_in (map frame_value later))
          → AllByRecursion (λ n. number ≤ n) (if b then (frame_value frame).number ∷ faults_in (map frame_value later) else faults_in (map frame_value later))
      go true rest = (omega (arith, all.0), rest)
      go false rest = rest

-- ---- the end of a list

suffix : (front : List ℕ) {back : List ℕ} (before : List ℕ) {last : List ℕ} → front ++ back ≡ before ++ last → length last ≤ length back
    → (rest : List ℕ) × (back ≡ rest ++ last)
suffix [] before same short = (before, same)
suffix (x ∷ front) {back} [] same short = absurd (omega (arith, ap length same, length-append front back, short))
suffix (x ∷ front) (y ∷ before) same short = suffix front before (ap (λ l. drop 1 l) same) short

all-end : (number : ℕ) (front last : List ℕ) → AllByRecursion (λ n. number ≤ n) (front ++ last) → AllByRecursion (λ n. number ≤ n) last
all-end number [] last all = all
all-end number (x ∷ front) last all = all-end number front last all.1

near-all : {size : ℕ} (number : ℕ) (xs : List ℕ) → size < number + 54 → AllByRecursion (λ n. number ≤ n) xs → AllByRecursion (λ n. size < n + 64) xs
near-all number [] less all = tt
near-all number (x ∷ xs) less all = (omega (arith, less, all.0), near-all number xs less all.1)

-- ---- ten faults among the last frames are the last ten

enough : (script : List RuleValue) (frames : List Frame) {n : ℕ} → n ≤ length frames → AllBy script 1 frames → AllGo 1 frames
    → 10 + count faulted (at n (past_now frames)) ≤ count faulted (past_now frames) → 10 ≤ faults_from (fate_by script) (1 + n) (length frames - n)
enough script frames inside all go ten = omega (arith, ten, count_at script frames inside all go)

by_drop : (script : List RuleValue) (number n : ℕ) (frames : List Frame) → n ≤ length frames → AllBy script number frames
    → AllBy script (number + n) (drop n frames)
by_drop script number zero frames inside all = (let e : number ≡ number + 0 = omega arith in subst (λ k. AllBy script k frames) e all)
by_drop script number (suc n) [] inside all = absurd (omega arith)
by_drop script number (suc n) (frame ∷ later) inside all = (let e : number + 1 + n ≡ number + suc n = omega arith in
    subst (λ k. AllBy script k (drop n later)) e (by_drop script (number + 1) n later (omega arith) all.2))

pub ten-last : (script : List RuleValue) (frames : List Frame) {numbers : List ℕ} → AllBy script 1 frames → AllGo 1 frames → TenFaults (past_now frames)
    → length numbers ≡ 10 → AreLastTen numbers (map frame_value frames) → AreTenFaults numbers (map frame_value frames)
ten-last script frames {numbers} all go ten length_is last =
    let size = length-past frames go in
    elim (cases_lt (length frames) (ten.0 - 1)) [
      | inl over ↦ absurd (let none : length (past_now frames) - (ten.0 - 1) ≡ 0 = omega (arith, over, size) in
          let same : at (ten.0 - 1) (past_now frames) ≡ past_now frames = ap (λ k. drop k (past_now frames)) none in
          omega (arith, ten.3, ap (λ p. count faulted p) same))
      | inr inside ↦ found (ten.0 - 1) (omega (arith, inside)) (omega (arith, ten.1, ten.2, size)) (enough script frames (omega (arith, inside)) all go ten.3)
    ]
  where
    found : (n : ℕ) → n ≤ length frames → length frames < (1 + n) + 54 → 10 ≤ faults_from (fate_by script) (1 + n) (length frames - n)
        → AreTenFaults numbers (map frame_value frames)
    found n inside near many =
        let back = by_drop script 1 n frames inside all in
        let count_back : length (faults_in (map frame_value (drop n frames))) ≡ faults_from (fate_by script) (1 + n) (length frames - n) =
        faults-count script (1 + n) (drop n frames) back ∙ ap (λ k. faults_from (fate_by script) (1 + n) k) (length-drop n frames) in
        let split : faults_in (map frame_value frames) ≡ faults_in (map frame_value (take n frames)) ++ faults_in (map frame_value (drop n frames)) =
        ap (λ fs. faults_in (map frame_value fs)) (sym (take-append-drop n frames))
        ∙ (ap faults_in (map-append frame_value (take n frames) (drop n frames)) ∙ faults-append (map frame_value (take n frames))
        (map frame_value (drop n frames))) in
        let whole : 10 ≤ length (faults_in (map frame_value frames)) = omega (
          arith,
          ap length split,
          length-append (faults_in (map frame_value (take n frames)))
              (faults_in (map frame_value (drop n frames))),
          count_back,
          many,
        ) in
        let these = last whole in
        let cut = suffix (faults_in (map frame_value (take n frames))) these.0 (sym split ∙ these.1) (omega (arith, length_is, count_back, many)) in
        record {
          before = these.0;
          is = these.1;
          ten = length_is;
          near = subst (λ k. AllByRecursion (λ number. k < number + 64) numbers) (sym (length-map frames frame_value))
              (near-all (1 + n) numbers near (all-end (1 + n) cut.0 numbers
              (subst (λ l. AllByRecursion (λ number. 1 + n ≤ number) l) cut.1 (faults-above script (1 + n) (drop n frames) back))));
        }

-- ---- the loop

pub record Collected (numbers : List ℕ) (place left : ℕ) (frames : List Frame) : Type 0 where
  pub room : place ≤ 10
  pub inside : left ≤ length frames
  pub ten : length numbers ≡ 10
  pub is : faults_in (map frame_value (drop left frames)) ≡ drop place numbers

-- there is no more room
pub collected-all : {numbers : List ℕ} {place left : ℕ} {frames : List Frame} → Collected numbers place left frames → place ≤ 0
    → (before : List ℕ) × (faults_in (map frame_value frames) ≡ before ++ numbers)
collected-all {numbers} {place} {left} {frames} it full =
    let none : place ≡ 0 = omega (arith, full) in
    let these : faults_in (map frame_value (drop left frames)) ≡ numbers = it.is ∙ ap (λ k. drop k numbers) none in (
      faults_in (map frame_value (take left frames)),
      ap (λ fs. faults_in (map frame_value fs)) (sym (take-append-drop left frames))
          ∙ (ap faults_in (map-append frame_value (take left frames) (drop left frames))
          ∙ (faults-append (map frame_value (take left frames)) (map frame_value (drop left frames))
          ∙ ap (λ l. faults_in (map frame_value (take left frames)) ++ l) these)),
    )

-- one frame more, from behind
faults-one : {frames : List Frame} {n : ℕ} {value : FrameValue} → IsFrameAt frames n value
    → faults_in (map frame_value (drop n frames))
    ≡ (if is_fault value.fate then value.number ∷ faults_in (map frame_value (drop (n + 1) frames)) else faults_in (map frame_value (drop (n + 1) frames)))
faults-one {frames} {n} it =
    let later = faults_in (map frame_value (drop (n + 1) frames)) in
    let front : drop n frames ≡ it.frame ∷ drop (n + 1) frames = drop-cons frames n it.frame (slice_get_within frames n it.frame it.here)
    ∙ (ap (λ f. f ∷ drop (suc n) frames) (get_or_from_slice_get frames n it.frame it.frame it.here)
    ∙ ap (λ k. it.frame ∷ drop k frames) (sym (add-one n))) in
    ap (λ fs. faults_in (map frame_value fs)) front
    ∙ ap (λ v. if is_fault v.fate then v.number ∷ later else later) (sym it.is)

back_one : {n : ℕ} → 0 < n → n - 1 + 1 ≡ n
back_one some = omega (arith, some)

module _ {numbers : List ℕ} {place left : ℕ} {frames : List Frame} {value : FrameValue} where
  -- it was a fault
  pub collected-fault : Collected numbers place left frames → 0 < left → 0 < place → IsFrameAt frames (left - 1) value → is_fault value.fate ≡ true
      → Collected (slice_set numbers (place - 1) value.number) (place - 1) (left - 1) frames
  collected-fault it some room one fault = record {
    room = omega (arith, it.room);
    inside = omega (arith, it.inside);
    ten = length-set numbers (place - 1) value.number ∙ it.ten;
    is = faults-one one ∙ (cond-true _ _ _ fault ∙ (ap (λ k. value.number ∷ faults_in (map frame_value (drop k frames))) (back_one some)
        ∙ (ap (λ l. value.number ∷ l) (it.is ∙ ap (λ k. drop k numbers) (sym (back_one room)))
        ∙ sym (drop-set numbers (place - 1) value.number (omega (arith, it.ten, it.room, room))))));
  }

  -- it was none
  pub collected-none : Collected numbers place left frames → 0 < left → IsFrameAt frames (left - 1) value → is_fault value.fate ≡ false
      → Collected numbers place (left - 1) frames
  collected-none it some one none = record {
    room = it.room;
    inside = omega (arith, it.inside);
    ten = it.ten;
    is = faults-one one ∙ (cond-false _ _ _ none ∙ (ap (λ k. faults_in (map frame_value (drop k frames))) (back_one some) ∙ it.is));
  }
