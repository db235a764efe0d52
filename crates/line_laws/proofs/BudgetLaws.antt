-- The budget of an end that is held up.
use Rattle.line_laws.proofs.Names.{rules, ◌≡◌, ℕ, zero, suc, ◌+◌, ◌*◌, ◌-◌, ◌<◌, ◌≤◌, Bool, true, false, cond, List, [], ◌∷◌, length, drop, Some, None}
use Rattle.line_laws.proofs.Names.{ap, subst, ◌∙◌, arith, inl, inr, cases_Bool, cases_lt, cond-true, cond-false, comes, faulted, data_comes, newest}
use Rattle.line_laws.proofs.Names.{count, PastFrame, add, data_of, said, acked, at, is_data_of, End, data_pending, load, RepeatBudget, HeldBudget, FirstTry, HeldUp}
use Rattle.line_laws.proofs.Names.{Counts, DataPends, AckPends, Progress, IsHeld, IsBlocked}
use Rattle.line_laws.proofs.PastLaws.{at_all, at_push, at_at, add_either}
use Rattle.line_laws.proofs.CountLaws.{follows-length}
use Rattle.line_laws.proofs.FaultLaws.{newest_inside, newest_from, fault_at_tick, late_is_fault}
use Rattle.std.proofs.lemmas.Bool.{and_left}

-- ---- counts

pub count_pass : (p : PastFrame → Bool) (frame : PastFrame) (past : List PastFrame) → p frame ≡ true → count p (frame ∷ past) ≡ count p past + 1
count_pass p frame past passes = cond-true _ _ _ passes

pub count_fail : (p : PastFrame → Bool) (frame : PastFrame) (past : List PastFrame) → p frame ≡ false → count p (frame ∷ past) ≡ count p past
count_fail p frame past fails = cond-false _ _ _ fails

pub count_drop : (p : PastFrame → Bool) (k : ℕ) (past : List PastFrame) → count p (drop k past) ≤ count p past
count_drop p zero past = omega arith
count_drop p (suc k) [] = omega arith
count_drop p (suc k) (frame ∷ past) = let below = count_drop p k past in elim (cases_Bool (p frame)) [
  | inl passes ↦ omega (arith, below, count_pass p frame past passes)
  | inr fails ↦ omega (arith, below, count_fail p frame past fails)
]

pub count_grows : (p : PastFrame → Bool) (m n : ℕ) (past : List PastFrame) → m ≤ n → n ≤ length past → count p (at m past) ≤ count p (at n past)
count_grows p m n past below inside = subst (λ s. count p s ≤ count p (at n past)) (at_at past below inside) (count_drop p (n - m) (at n past))

-- before the newest that passes there is one fewer
pub count_newest : (p : PastFrame → Bool) (past : List PastFrame) → 0 < newest p past → count p (at (newest p past - 1) past) + 1 ≤ count p past
count_newest p [] some = absurd (omega arith)
count_newest p (frame ∷ past) some = elim (cases_Bool (p frame)) [
  | inl passes ↦ (let n : newest p (frame ∷ past) ≡ length past + 1 = cond-true _ _ _ passes in
      let e : newest p (frame ∷ past) - 1 ≡ length past = omega (arith, n) in
      let here : at (newest p (frame ∷ past) - 1) (frame ∷ past) ≡ past = ap (λ k. at k (frame ∷ past)) e ∙ at_push frame past (omega arith) ∙ at_all past in
      omega (arith, count_pass p frame past passes, ap (λ s. count p s) here))
  | inr fails ↦ (let n : newest p (frame ∷ past) ≡ newest p past = cond-false _ _ _ fails in
      let older = count_newest p past (omega (arith, some, n)) in
      let here : at (newest p (frame ∷ past) - 1) (frame ∷ past) ≡ at (newest p past - 1) past =
      ap (λ k. at (k - 1) (frame ∷ past)) n ∙ at_push frame past (omega (arith, newest_inside p past)) in
      omega (arith, count_fail p frame past fails, older, ap (λ s. count p s) here))
]

pub count_above : (p : PastFrame → Bool) (past : List PastFrame) {m : ℕ} → m < newest p past → count p (at m past) + 1 ≤ count p past
count_above p past {m} below = omega (
  arith,
  count_newest p past (omega (arith, below)),
  count_grows p m (newest p past - 1) past (omega (arith, below)) (omega (arith, newest_inside p past)),
)

-- each new fragment is a data frame
pub said_data-drop : (X : End) (k : ℕ) (past : List PastFrame)
    → count (is_data_of X) (drop k past) + length (said X past) ≤ count (is_data_of X) past + length (said X (drop k past))
said_data-drop X zero past = omega arith
said_data-drop X (suc k) [] = omega arith
said_data-drop X (suc k) (frame ∷ past) = let below = said_data-drop X k past in elim (cases_Bool (is_data_of X frame)) [
  | inl passes ↦ elim (add_either (data_of X frame) (said X past)) [
    | inl same ↦ omega (arith, below, count_pass (is_data_of X) frame past passes, ap length same)
    | inr more ↦ omega (arith, below, count_pass (is_data_of X) frame past passes, ap length more.is)
  ]
  | inr fails ↦ omega (
    arith,
    below,
    count_fail (is_data_of X) frame past fails,
    ap (λ o. length (add o (said X past))) (cond-false (is_data_of X frame) (Some frame.key) None fails),
  )
]

-- data that comes is data
pub comes_data-drop : (X : End) (k : ℕ) (past : List PastFrame)
    → count (data_comes X) past + count (is_data_of X) (drop k past) ≤ count (is_data_of X) past + count (data_comes X) (drop k past)
comes_data-drop X zero past = omega arith
comes_data-drop X (suc k) [] = omega arith
comes_data-drop X (suc k) (frame ∷ past) = let below = comes_data-drop X k past in elim (cases_Bool (is_data_of X frame)) [
  | inl passes ↦ elim (cases_Bool (data_comes X frame)) [
    | inl both ↦ omega (arith, below, count_pass (is_data_of X) frame past passes, count_pass (data_comes X) frame past both)
    | inr lost ↦ omega (arith, below, count_pass (is_data_of X) frame past passes, count_fail (data_comes X) frame past lost)
  ]
  | inr fails ↦ omega (
    arith,
    below,
    count_fail (is_data_of X) frame past fails,
    count_fail (data_comes X) frame past (and_left (is_data_of X frame) (comes frame.course) fails),
  )
]

-- ---- at most four data frames of an end are on the line, two of them above the last tick

module _ {X Y : End} {past : List PastFrame} {fresh : Bool} {cx : ℕ} where
  pub above_tick : {released m : ℕ} → Counts X Y past fresh cx → RepeatBudget X past cx released → cx ≤ m
      → released ≤ m → m ≤ length past → count (data_comes X) past ≤ count (data_comes X) (at m past) + 2
  above_tick {released} {m} counts queued from above inside =
      let follows = follows-length _ _ fresh counts.follows in
      let fits = counts.fits m from inside in
      let a = comes_data-drop X (length past - m) past in
      let b = subst (λ s. count (is_data_of X) s + length (said X (at m past)) ≤ count (is_data_of X) (at m past) + length (said X s)) (at_at past above inside)
      (said_data-drop X (m - released) (at m past)) in
      let one : cond fresh 1 0 ≤ 1 = at_most fresh in
      omega (arith, follows, fits.taken, a, b, queued.once, one) where
        at_most : (b : Bool) → cond b 1 0 ≤ 1
        at_most true = omega arith
        at_most false = omega arith

  pub four : {released : ℕ} → Counts X Y past fresh cx → RepeatBudget X past cx released
      → released ≤ length past → data_pending X past cx ≤ 4
  four {released} counts queued inside = elim (cases_lt cx released) [
    | inl before ↦ omega (arith, above_tick counts queued (omega (arith, before)) (omega arith) inside, queued.old)
    | inr behind ↦ omega (arith, above_tick counts queued (omega arith) behind counts.cur_in)
  ]

  -- ---- the tick

  -- at any frame from the cursor on, all but two of the fragments and acknowledgements are known
  few_unknown : {n : ℕ} → Counts X Y past fresh cx → cx ≤ n → n ≤ length past
      → length (said X past) + length (said Y past) ≤ length (said X (at n past)) + length (acked X (at n past)) + 2
  few_unknown counts from inside = search rules

  -- where X is held, the load is near the newest fault
  held_load : (cy : ℕ) {released : ℕ} → Counts X Y past fresh cx → HeldBudget 10 X Y past cx cy released
      → IsHeld X past cx released → load X Y past cx cy ≤ newest faulted past + 14
  held_load cy counts budget held =
      let b = budget (cx + 1) held.frame held.older (omega arith) held.above (omega (arith, held.inside)) held.here held.late in
      let few = few_unknown {n = cx + 1} counts (omega arith) (omega (arith, held.inside)) in
      let near = newest_from faulted past (omega (arith, held.inside)) held.here (late_is_fault X held.frame held.late) in
      omega (arith, b, few, near)

-- what is known of X when its timer is to run, for the time after it and the other timer
pub record AfterTick (X Y : End) (past : List PastFrame) (cx cy faults : ℕ) : Type 0 where
  pub f : ℕ
  pub some : 0 < f
  pub inside : f ≤ length past
  pub faults_are : faults + count faulted (at (f - 1) past) ≤ count faulted past
  pub bound : load X Y past cx cy + 4 + 2 * length (acked X past) ≤ f + 14 + 4 * faults + 2 * length (said Y past)

-- the first try
pub tick_first : {X Y : End} {past : List PastFrame} {fx fy : Bool} {cx cy released : ℕ} → Counts X Y past fx cx → Counts Y X past fy cy
    → Progress X Y past cx cy released → IsBlocked X past cx released → IsBlocked Y past cy released
    → HeldBudget 10 X Y past cx cy released → HeldBudget 10 Y X past cy cx released → FirstTry X Y past cx cy → AfterTick X Y past cx cy 1
tick_first {X} {Y} {past} {fy} {cx} {cy} {released} there back progress bx by held_x held_y try =
    let fault = fault_at_tick progress bx by in
    record {
      f = newest faulted past;
      some = omega (arith, fault);
      inside = newest_inside faulted past;
      faults_are = omega (arith, count_newest faulted past (omega (arith, fault)));
      bound = elim progress.cause [
        | inl late ↦ omega (arith, late, try.bound)
        | inr (inl pends) ↦ omega (arith, near_x pends bx, follows-length _ _ fy back.follows)
        | inr (inr pends) ↦ omega (arith, near_y pends by, follows-length _ _ fy back.follows)
      ];
    } where
      near_x : DataPends X past cx → IsBlocked X past cx released → load X Y past cx cy ≤ newest faulted past + 14
      near_x pends (inl none) = absurd (omega (arith, none, pends.from, pends.inside))
      near_x pends (inr held) = held_load cy there held_x held

      near_y : AckPends X Y past cy → IsBlocked Y past cy released → load X Y past cx cy ≤ newest faulted past + 14
      near_y pends (inl none) = absurd (omega (arith, none, pends.from, pends.inside))
      near_y pends (inr held) = omega (arith, held_load cx back held_y held)

-- a later try
pub tick_later : {X Y : End} {past : List PastFrame} {cx cy released faults : ℕ} → Progress X Y past cx cy released → IsBlocked X past cx released
    → IsBlocked Y past cy released → HeldUp 0 X Y past cx cy released faults → AfterTick X Y past cx cy (faults + 1)
tick_later {past} progress bx by was =
    let fault = fault_at_tick progress bx by in
    record {
      f = was.f;
      some = was.some;
      inside = was.inside;
      faults_are = omega (arith, was.faults_are, count_above faulted past fault);
      bound = omega (arith, was.bound);
    }

-- where the tenth timer is to run, ten faults stand among the last 53 frames
pub ten_faults : {X Y : End} {past : List PastFrame} {fy : Bool} {cx cy released : ℕ} → Counts Y X past fy cy → Progress X Y past cx cy released
    → IsBlocked X past cx released → IsBlocked Y past cy released → HeldUp 0 X Y past cx cy released 9
    → (f : ℕ) × (0 < f) × (length past < f + 53) × (10 + count faulted (at (f - 1) past) ≤ count faulted past)
ten_faults {fy} back progress bx by was =
    let after = tick_later progress bx by was in
    let one : cond fy 1 0 ≤ 1 = at_most fy in
    (after.f, after.some, omega (arith, after.bound, follows-length _ _ fy back.follows, one), after.faults_are) where
      at_most : (b : Bool) → cond b 1 0 ≤ 1
      at_most true = omega arith
      at_most false = omega arith
