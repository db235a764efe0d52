-- The budget over the steps.
use Rattle.line_laws.proofs.Names.{rules, ◌≡◌, ℕ, ◌+◌, ◌*◌, ◌-◌, ◌<◌, ◌≤◌, Bool, true, false, List, ◌∷◌, length, sym, ap, ◌∙◌, arith, inl, inr, cases_lt}
use Rattle.line_laws.proofs.Names.{faulted, late_of, data_comes, newest, count, PastFrame, said, acked, at, is_data_of, End, load, RepeatBudget, HeldBudget, FirstTry}
use Rattle.line_laws.proofs.Names.{HeldUp}
use Rattle.line_laws.proofs.PastLaws.{at_all, at_push}
use Rattle.line_laws.proofs.FaultLaws.{at_top}
use Rattle.line_laws.proofs.BudgetLaws.{count_pass, count_fail, count_grows}

pub count_at-push : (p : PastFrame → Bool) {n : ℕ} (frame : PastFrame) (past : List PastFrame) → n ≤ length past → count p (at n (frame ∷ past)) ≡ count p (at n past)
count_at-push p frame past inside = search rules

count_more : (p : PastFrame → Bool) (frame : PastFrame) (past : List PastFrame) → (count p past ≤ count p (frame ∷ past)) × (count p (frame ∷ past) ≤ count p past + 1)
count_more p frame past = search rules

no_data_comes : (X : End) (frame : PastFrame) → is_data_of X frame ≡ false → data_comes X frame ≡ false
no_data_comes X frame other = cc

-- ---- the load

-- a frame that is no data of either end
pub load_push : (X Y : End) (frame : PastFrame) (past : List PastFrame) (cx : ℕ) {cy : ℕ} → cx ≤ length past → cy ≤ length past → is_data_of X frame ≡ false
    → is_data_of Y frame ≡ false → load X Y (frame ∷ past) cx cy ≡ load X Y past cx cy + 1
load_push X Y frame past cx x_in y_in no_x no_y =
    let a = count_at-push (data_comes X) frame past x_in in
    let b = count_at-push (data_comes Y) frame past y_in in
    let c = count_fail (data_comes X) frame past (no_data_comes X frame no_x) in
    let d = count_fail (data_comes Y) frame past (no_data_comes Y frame no_y) in
    omega (arith, a, b, c, d)

-- a data frame of one end
pub load_sent : (X Y : End) (frame : PastFrame) (past : List PastFrame) {cx cy : ℕ} → cx ≤ length past → cy ≤ length past → is_data_of Y frame ≡ false
    → load X Y (frame ∷ past) cx cy ≤ load X Y past cx cy + 2
load_sent X Y frame past x_in y_in no_y =
    let a = count_at-push (data_comes X) frame past x_in in
    let b = count_at-push (data_comes Y) frame past y_in in
    let c = count_more (data_comes X) frame past in
    let d = count_fail (data_comes Y) frame past (no_data_comes Y frame no_y) in
    omega (arith, a, b, c.1, d)

pub load_turned : (X Y : End) (past : List PastFrame) (cx cy : ℕ) → load X Y past cx cy ≡ load Y X past cy cx
load_turned X Y past cx cy = omega arith

-- a cursor moves
pub load_moves : (X Y : End) (past : List PastFrame) (cx cy later : ℕ) → cx ≤ later → later ≤ length past → load X Y past later cy ≤ load X Y past cx cy
load_moves X Y past cx cy later more inside = let g = count_grows (data_comes X) cx later past more inside in omega (arith, g)

-- data that comes is taken
pub load_takes : (X Y : End) (past : List PastFrame) {cx : ℕ} (cy : ℕ) {frame : PastFrame} {older : List PastFrame} → cx < length past → at (cx + 1) past ≡ frame ∷ older
    → older ≡ at cx past → data_comes X frame ≡ true → load X Y past (cx + 1) cy + 1 ≡ load X Y past cx cy
load_takes X Y past {cx} cy {frame} {older} inside here behind comes_here =
    let one : count (data_comes X) (at (cx + 1) past) ≡ count (data_comes X) (at cx past) + 1 =
    ap (λ s. count (data_comes X) s) here ∙ count_pass (data_comes X) frame older comes_here ∙ ap (λ s. count (data_comes X) s + 1) behind in
    let rest = count_grows (data_comes X) (cx + 1) (length past) past (omega (arith, inside)) (omega arith) in
    let all = ap (λ s. count (data_comes X) s) (at_all past) in
    omega (arith, one, rest, all)

-- ---- the queues

module _ {X : End} {past : List PastFrame} {cx : ℕ} where
  pub queued_push : {frame : PastFrame} {released : ℕ} → RepeatBudget X past cx released → cx ≤ length past → released ≤ length past
      → count (is_data_of X) (frame ∷ past) + length (said X past) ≤ count (is_data_of X) past + length (said X (frame ∷ past))
      → RepeatBudget X (frame ∷ past) cx released
  queued_push {frame} queued x_in r_in fair =
      let a = count_at-push (is_data_of X) frame past r_in in
      let b = ap (λ s. length (said X s)) (at_push frame past r_in) in
      let c = count_at-push (data_comes X) frame past r_in in
      let d = count_at-push (data_comes X) frame past x_in in
      record { once = omega (arith, queued.once, a, b, fair); old = omega (arith, queued.old, c, d) }

  pub queued_moves : {later released : ℕ} → RepeatBudget X past cx released → cx ≤ later → later ≤ length past
      → RepeatBudget X past later released
  queued_moves {later} queued more inside = record { once = queued.once; old = omega (arith, queued.old, count_grows (data_comes X) cx later past more inside) }

  -- ---- the budgets

  pub first_step : {Y : End} {later : List PastFrame} {cy dx dy : ℕ} → FirstTry X Y past cx cy → newest (is_data_of X) later ≡ newest (is_data_of X) past
      → load X Y later dx dy + 2 * length (acked X later) + 2 * length (said Y past) ≤ load X Y past cx cy + 2 * length
      (acked X past) + 2 * length (said Y later)
      → FirstTry X Y later dx dy
  first_step was same fair = omega arith

  pub held_up-step : {Y : End} {frame : PastFrame} {cy dx dy released faults : ℕ} → HeldUp 0 X Y past cx cy released faults
      → released ≤ length past
      → load X Y (frame ∷ past) dx dy + 2 * length (acked X (frame ∷ past)) + 2 * length (said Y past) ≤ load X Y past cx cy + 2 * length (acked X past) + 2
      * length (said Y (frame ∷ past))
      → HeldUp 0 X Y (frame ∷ past) dx dy released faults
  held_up-step {frame} was r_in fair = record {
    f = was.f;
    some = was.some;
    inside = omega (arith, was.inside);
    faults_are =
        omega (arith, was.faults_are, count_at-push faulted {n = was.f - 1} frame past (omega (arith, was.inside)), count_at-push faulted frame past r_in);
    bound = omega (arith, was.bound, fair);
  }

  pub held_up-moves : {Y : End} {cy dx dy released faults : ℕ} → HeldUp 0 X Y past cx cy released faults
      → load X Y past dx dy ≤ load X Y past cx cy → HeldUp 0 X Y past dx dy released faults
  held_up-moves was fair = search rules

pub held_moves : (slack : ℕ) (X Y : End) (past : List PastFrame) {cx : ℕ} (cy : ℕ) {dx : ℕ} (dy : ℕ) {released : ℕ} → HeldBudget slack X Y past cx cy released
    → cx ≤ dx
    → load X Y past dx dy ≤ load X Y past cx cy → HeldBudget slack X Y past dx dy released
held_moves slack X Y past cy dy all more fair n frame older from above inside here late = search rules

-- a pushed frame, which itself stands within the budget
pub held_step : (slack wider : ℕ) (X Y : End) (frame : PastFrame) (past : List PastFrame) {cx : ℕ} (cy : ℕ) {dx : ℕ} (dy : ℕ) {released : ℕ}
    → HeldBudget slack X Y past cx cy released → cx ≤ dx
    → load X Y (frame ∷ past) dx dy + slack + 2 * (length (said X past) + length (said Y past)) ≤ load X Y past cx cy + wider + 2 *
    (length (said X (frame ∷ past)) + length (said Y (frame ∷ past)))
    → (late_of X frame ≡ true → load X Y (frame ∷ past) dx dy + 2 * (length (said X (frame ∷ past)) + length (acked X (frame ∷ past))) ≤ length past + 1 + wider
    + 2 * (length (said X (frame ∷ past)) + length (said Y (frame ∷ past))))
    → HeldBudget wider X Y (frame ∷ past) dx dy released
held_step slack wider X Y frame past cy dy all more fair new n found older from above inside here late = elim (cases_lt (length past) n) [
  | inl top ↦ (let e : n ≡ length past + 1 = omega arith in
      let all_of : at n (frame ∷ past) ≡ frame ∷ past = ap (λ k. at k (frame ∷ past)) e ∙ at_top in
      let it : frame ≡ found = (let both : frame ∷ past ≡ found ∷ older = sym all_of ∙ here in cc) in
      omega (arith, new (ap (λ f. late_of X f) it ∙ late), ap (λ s. length (said X s)) all_of, ap (λ s. length (acked X s)) all_of))
  | inr old ↦ (let e = at_push frame past old in
      omega (
        arith,
        all n found older (omega (arith, from, more)) above old (sym e ∙ here) late,
        fair,
        ap (λ s. length (said X s)) e,
        ap (λ s. length (acked X s)) e,
      ))
]
