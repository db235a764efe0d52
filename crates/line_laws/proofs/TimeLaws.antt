-- The time of both ends over the steps between two ticks.
use Rattle.line_laws.proofs.Names.{◌≡◌, ℕ, zero, suc, ◌+◌, ◌*◌, ◌<◌, ◌≤◌, Bool, true, false, ◌&&◌, List, ◌∷◌, length, refl, ap, arith, cond-true, cond-false}
use Rattle.line_laws.proofs.Names.{Key, late_of, data_comes, newest, FrameCourse, PastFrame, is_end, said, acked, at, is_data_of, End, Handheld, Desktop, load, RepeatBudget}
use Rattle.line_laws.proofs.Names.{HeldBudget, TryBudget, EndTime, Apart, Counts, Side, Waiting, data_frame, ack_frame, DataPends, AckPends, Progress}
use Rattle.line_laws.proofs.PastLaws.{said_data-other, acked_data, said_ack, acked_ack-other}
use Rattle.line_laws.proofs.CountLaws.{follows-length, len}
use Rattle.line_laws.proofs.FaultLaws.{progress_sent, progress_push, progress_x, progress_y, is_data-frame}
use Rattle.line_laws.proofs.BudgetLaws.{count_pass, count_fail, four}
use Rattle.line_laws.proofs.LoadLaws.{load_push, load_sent, load_turned, load_moves, load_takes, queued_push, queued_moves, first_step, held_up-step}
use Rattle.line_laws.proofs.LoadLaws.{held_up-moves, held_moves, held_step}
use Rattle.line_laws.proofs.TickLaws.{late_from}

-- ---- tries

tried_push : (X Y : End) (frame : PastFrame) (past : List PastFrame) (cx cy dx dy : ℕ) {released : ℕ} (tries : ℕ) → TryBudget X Y past cx cy released tries
    → released ≤ length past → newest (is_data_of X) (frame ∷ past) ≡ newest (is_data_of X) past
    → load X Y (frame ∷ past) dx dy + 2 * length (acked X (frame ∷ past)) + 2 * length (said Y past) ≤ load X Y past cx cy + 2 * length (acked X past) + 2
    * length (said Y (frame ∷ past))
    → TryBudget X Y (frame ∷ past) dx dy released tries
tried_push X Y frame past cx cy dx dy zero tried inside same fair = tried
tried_push X Y frame past cx cy dx dy (suc zero) tried inside same fair = first_step tried same fair
tried_push X Y frame past cx cy dx dy (suc (suc faults)) tried inside same fair = held_up-step tried inside fair

tried_moves : (X Y : End) (past : List PastFrame) (cx cy dx dy released tries : ℕ) → TryBudget X Y past cx cy released tries
    → load X Y past dx dy ≤ load X Y past cx cy → TryBudget X Y past dx dy released tries
tried_moves X Y past cx cy dx dy released zero tried fair = tried
tried_moves X Y past cx cy dx dy released (suc zero) tried fair = first_step tried refl (omega (arith, fair))
tried_moves X Y past cx cy dx dy released (suc (suc faults)) tried fair = held_up-moves tried fair

-- two ends at eight data frames on the line
eight : {X Y : End} {past : List PastFrame} {fx fy : Bool} {cx cy released : ℕ} → Counts X Y past fx cx → Counts Y X past fy cy → RepeatBudget X past cx released
    → RepeatBudget Y past cy released → released ≤ length past → load X Y past cx cy ≤ length past + 8
eight there back qx qy inside = omega (arith, four there qx inside, four back qy inside)

-- ---- a cursor moves by one frame

pub time_passes : {X Y : End} {past : List PastFrame} {cx cy released : ℕ} {x y : Side} {tx ty : ℕ} → EndTime X Y past cx cy released x tx
    → EndTime Y X past cy cx released y ty → cx < length past
    → (Waiting x → (pends : DataPends X past cx) → pends.n ≡ cx + 1 → ⊥) → (Waiting y → (pends : AckPends Y X past cx) → pends.n ≡ cx + 1 → ⊥)
    → EndTime X Y past (cx + 1) cy released x tx × EndTime Y X past cy (cx + 1) released y ty
time_passes {X} {Y} {past} {cx} {cy} {released} {tx} {ty} x_time y_time inside no_data no_ack =
    let fair = load_moves X Y past cx cy (cx + 1) (omega arith) (omega arith) in
    let t0 = load_turned X Y past cx cy in
    let t1 = load_turned X Y past (cx + 1) cy in (
      record {
        queued = queued_moves x_time.queued (omega arith) (omega arith);
        held = held_moves 10 X Y past cy cy x_time.held (omega arith) fair;
        progress = λ w. progress_x (x_time.progress w) (no_data w);
        tried = λ w. tried_moves X Y past cx cy (cx + 1) cy released tx (x_time.tried w) fair;
      },
      record {
        queued = y_time.queued;
        held = held_moves 10 Y X past cx (cx + 1) y_time.held (omega arith) (omega (arith, fair, t0, t1));
        progress = λ w. progress_y (y_time.progress w) (no_ack w);
        tried = λ w. tried_moves Y X past cy cx cy (cx + 1) released ty (y_time.tried w) (omega (arith, fair, t0, t1));
      },
    )

-- ---- X begins a fragment

pub time_begins : {X Y : End} {key : Key} {bytes : List ℕ} {course : FrameCourse} {past : List PastFrame} {cx cy released : ℕ} {x y : Side} {ty : ℕ} → Apart X Y
    → RepeatBudget X past cx released → HeldBudget 10 X Y past cx cy released → EndTime Y X past cy cx released y ty → released ≤ length past
    → cx ≤ length past → cy ≤ length past → said X (data_frame X key bytes course ∷ past) ≡ key ∷ said X past
    → Counts X Y (data_frame X key bytes course ∷ past) true cx → Counts Y X (data_frame X key bytes course ∷ past) false cy
    → EndTime X Y (data_frame X key bytes course ∷ past) cx cy released x 1 × EndTime Y X (data_frame X key bytes course ∷ past) cy cx released y ty
time_begins {X} {Y} {key} {bytes} {course} {past} {cx} {cy} {ty} apart qx hx y_time inside x_in y_in sx there back =
    let frame = data_frame X key bytes course in
    let sy = said_data-other X Y apart.back key bytes course past in
    let ax = acked_data X X key bytes course past in
    let ay = acked_data X Y key bytes course past in
    let is = is_data-frame X key bytes course in
    let other : is_data_of Y frame ≡ false = ap (λ b. b && true) apart.back in
    let loads = load_sent X Y frame past x_in y_in other in
    let t0 = load_turned X Y past cx cy in
    let t1 = load_turned X Y (frame ∷ past) cx cy in
    let x_queued = queued_push qx x_in inside (omega (arith, count_pass (is_data_of X) frame past is, len sx)) in
    let y_queued = queued_push y_time.queued y_in inside (omega (arith, count_fail (is_data_of Y) frame past other, len sy)) in
    let most = eight there back x_queued y_queued (omega (arith, inside)) in
    let f = follows-length _ _ false back.follows in (
      record {
        queued = x_queued;
        held = held_step 10 10 X Y frame past cy cy hx (omega arith) (omega (arith, loads, len sx, len sy)) (λ late. omega (arith, most, f));
        progress = λ w. progress_sent inside x_in;
        tried = λ w. record { bound = omega (arith, most, f, cond-true (is_data_of X frame) (length past + 1) (newest (is_data_of X) past) is) };
      },
      record {
        queued = y_queued;
        held = held_step 10 10 Y X frame past cx cx y_time.held (omega arith) (omega (arith, loads, t0, t1, len sx, len sy))
            (λ late. absurd (late_from X Y key bytes course apart.back late));
        progress = λ w. progress_push (y_time.progress w) other sy;
        tried = λ w. tried_push Y X frame past cy cx cy cx ty (y_time.tried w) inside (cond-false _ _ _ other) (omega (arith, loads, t0, t1, len sx, len ay));
      },
    )

-- ---- data that comes is taken and acknowledged

pub ack_is_no_data : (X Y : End) (key : Key) (course : FrameCourse) → is_data_of X (ack_frame Y key course) ≡ false
ack_is_no_data Handheld Handheld key course = refl
ack_is_no_data Handheld Desktop key course = refl
ack_is_no_data Desktop Handheld key course = refl
ack_is_no_data Desktop Desktop key course = refl

ack_late : (X Y : End) (key : Key) (course : FrameCourse) → is_end X Y ≡ false → late_of X (ack_frame Y key course) ≡ true → ⊥
ack_late X Y key course apart late = cc

pub time_takes : {X Y : End} {key : Key} {course : FrameCourse} {past : List PastFrame} {fx fy : Bool} {cx cy released : ℕ} {x y y' : Side} {tx ty : ℕ}
    {frame : PastFrame} {older : List PastFrame}
    → Apart X Y → EndTime X Y past cx cy released x tx → EndTime Y X past cy cx released y ty → released ≤ length past
    → cx < length past → cy ≤ length past → at (cx + 1) past ≡ frame ∷ older → older ≡ at cx past → data_comes X frame ≡ true
    → Counts X Y (ack_frame Y key course ∷ past) fx (cx + 1) → Counts Y X (ack_frame Y key course ∷ past) fy cy
    → (Waiting x → Progress X Y (ack_frame Y key course ∷ past) (cx + 1) cy released)
    → (Waiting y' → Waiting y × (acked Y (ack_frame Y key course ∷ past) ≡ acked Y past)) → ((pends : AckPends Y X past cx) → pends.n ≡ cx + 1 → ⊥)
    → EndTime X Y (ack_frame Y key course ∷ past) (cx + 1) cy released x tx × EndTime Y X (ack_frame Y key course ∷ past) cy (cx + 1) released y' ty
time_takes {X} {Y} {key} {course} {past} {fx} {cx} {cy} {tx} {ty} apart x_time y_time inside x_in y_in here behind comes_here there back progress waits no_ack =
    let ack = ack_frame Y key course in
    let sx = said_ack Y X key course past in
    let sy = said_ack Y Y key course past in
    let ax = acked_ack-other Y X apart.there key course past in
    let no_x = ack_is_no_data X Y key course in
    let no_y = ack_is_no_data Y Y key course in
    let takes = load_takes X Y past cy x_in here behind comes_here in
    let pushed = load_push X Y ack past (cx + 1) (omega (arith, x_in)) y_in no_x no_y in
    let t0 = load_turned X Y past cx cy in
    let t1 = load_turned X Y (ack ∷ past) (cx + 1) cy in
    let moved = queued_moves x_time.queued (omega arith) (omega (arith, x_in)) in
    let x_queued = queued_push moved (omega (arith, x_in)) inside (omega (arith, count_fail (is_data_of X) ack past no_x, len sx)) in
    let y_queued = queued_push y_time.queued y_in inside (omega (arith, count_fail (is_data_of Y) ack past no_y, len sy)) in
    let most = eight there back x_queued y_queued (omega (arith, inside)) in
    let f = follows-length _ _ fx there.follows in (
      record {
        queued = x_queued;
        held = held_step 10 10 X Y ack past cy cy x_time.held (omega arith) (omega (arith, takes, pushed, len sx, len sy))
            (λ late. absurd (ack_late X Y key course apart.there late));
        progress = progress;
        tried = λ w. tried_push X Y ack past cx cy (cx + 1) cy tx (x_time.tried w) inside (cond-false _ _ _ no_x)
            (omega (arith, takes, pushed, len ax, len sy));
      },
      record {
        queued = y_queued;
        held = held_step 10 10 Y X ack past cx (cx + 1) y_time.held (omega arith) (omega (arith, takes, pushed, t0, t1, len sx, len sy))
            (λ late. omega (arith, most, t1, f));
        progress = λ w. progress_push (progress_y (y_time.progress (waits w).0) no_ack) no_y sy;
        tried = λ w. tried_push Y X ack past cy cx cy (cx + 1) ty (y_time.tried (waits w).0) inside (cond-false _ _ _ no_y)
            (omega (arith, takes, pushed, t0, t1, len sx, len (waits w).1));
      },
    )
