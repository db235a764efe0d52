-- The tick: both timers run where their ends wait.
use Rattle.line_laws.proofs.Names.{common_steps, rules, ◌≡◌, ℕ, zero, suc, ◌+◌, ◌*◌, ◌-◌, ◌<◌, ◌≤◌, Bool, true, false, List, ◌∷◌, length, ap, subst, arith, inl}
use Rattle.line_laws.proofs.Names.{inr, Key, ReceiverValue, faulted, late_of, data_comes, count, FrameCourse, PastFrame, is_end, said, acked, at, is_data_of, End, load}
use Rattle.line_laws.proofs.Names.{RepeatBudget, HeldBudget, HeldUp, TryBudget, EndTime, Apart, Counts, Side, Waiting, key_now, part_now, CoreAt, data_frame, Progress}
use Rattle.line_laws.proofs.Names.{IsBlocked}
use Rattle.line_laws.proofs.PastLaws.{at_all, at_push}
use Rattle.line_laws.proofs.CountLaws.{follows-length, len}
use Rattle.line_laws.proofs.StepLaws.{turned, again}
use Rattle.line_laws.proofs.FaultLaws.{progress_sent, progress_push}
use Rattle.line_laws.proofs.BudgetLaws.{count_pass, count_fail, four, above_tick, AfterTick, tick_first, tick_later}
use Rattle.line_laws.proofs.LoadLaws.{count_at-push, load_sent, load_turned, queued_push, held_step}

blocked_above : {X : End} {past : List PastFrame} {c released : ℕ} → released ≤ length past → IsBlocked X past c released → released ≤ c
blocked_above inside (inl all) = omega (arith, all)
blocked_above inside (inr held) = omega (arith, held.above)

-- the tick itself: no data frame of X stands above it, and at most two of X are on the line
pub record Fresh (X : End) (past : List PastFrame) (cx tick : ℕ) : Type 0 where
  pub none : count (is_data_of X) past + length (said X (at tick past)) ≤ count (is_data_of X) (at tick past) + length (said X past)
  pub old : count (data_comes X) (at tick past) ≤ count (data_comes X) (at cx past) + 2

module _ {X : End} {past : List PastFrame} {cx : ℕ} where
  pub fresh_at_tick : {Y : End} {fx : Bool} {released : ℕ} → Counts X Y past fx cx → RepeatBudget X past cx released
      → released ≤ length past → IsBlocked X past cx released → Fresh X past cx (length past)
  fresh_at_tick counts queued inside blocked =
      let all = at_all past in
      record {
        none = omega (arith, ap (λ s. length (said X s)) all, ap (λ s. count (is_data_of X) s) all);
        old = omega (arith, above_tick counts queued (omega arith) (blocked_above inside blocked) counts.cur_in, ap (λ s. count (data_comes X) s) all);
      }

  pub fresh_queued : {tick : ℕ} → Fresh X past cx tick → RepeatBudget X past cx tick
  fresh_queued fresh = omega arith

  -- by its tries, what is known once the tick was
  tick_held_up : {Y : End} {cy faults : ℕ} → AfterTick X Y past cx cy faults → HeldUp 4 X Y past cx cy (length past) faults
  tick_held_up after = search rules

  pub tried_tick : {Y : End} {fx fy : Bool} {cy released : ℕ} (tries : ℕ) → Counts X Y past fx cx → Counts Y X past fy cy
      → Progress X Y past cx cy released → IsBlocked X past cx released → IsBlocked Y past cy released
      → HeldBudget 10 X Y past cx cy released → HeldBudget 10 Y X past cy cx released → TryBudget X Y past cx cy released tries
      → HeldUp 4 X Y past cx cy (length past) tries
  tried_tick zero there back progress bx by held_x held_y tried = absurd tried
  tried_tick (suc zero) there back progress bx by held_x held_y tried = tick_held_up (tick_first there back progress bx by held_x held_y tried)
  tried_tick {Y} {cy} (suc (suc faults)) there back progress bx by held_x held_y tried =
      let e : suc faults + 1 ≡ suc (suc faults) = omega arith in
      tick_held_up (subst (λ k. AfterTick X Y past cx cy k) e (tick_later progress bx by tried))

  -- a data frame of either end, within the slack
  pub held_up-sent : {slack : ℕ} {Y : End} {frame : PastFrame} {cy tick faults : ℕ} → HeldUp (slack + 2) X Y past cx cy tick faults
      → tick ≤ length past → load X Y (frame ∷ past) cx cy ≤ load X Y past cx cy + 2
      → acked X (frame ∷ past) ≡ acked X past → said Y (frame ∷ past) ≡ said Y past → HeldUp slack X Y (frame ∷ past) cx cy tick faults
  held_up-sent {frame} was inside more ax sy = record {
    f = was.f;
    some = was.some;
    inside = omega (arith, was.inside);
    faults_are = omega (
      arith,
      was.faults_are,
      count_at-push faulted {n = was.f - 1} frame past (omega (arith, was.inside)),
      count_at-push faulted frame past inside,
    );
    bound = omega (arith, was.bound, more, ap length ax, ap length sy);
  }

-- ---- one timer: X sends again, in a past that holds the tick and perhaps the other's frame

-- a repeat of X
pub record Repeats (X Y : End) (frame : PastFrame) (past : List PastFrame) : Type 0 where
  pub sx : said X (frame ∷ past) ≡ said X past
  pub sy : said Y (frame ∷ past) ≡ said Y past
  pub ax : acked X (frame ∷ past) ≡ acked X past
  pub ay : acked Y (frame ∷ past) ≡ acked Y past
  pub is : is_data_of X frame ≡ true
  pub other : is_data_of Y frame ≡ false

module _ {X Y : End} {frame : PastFrame} {past : List PastFrame} {tick : ℕ} where
  pub queued_again : {cx : ℕ} → Repeats X Y frame past → Fresh X past cx tick → cx ≤ length past
      → tick ≤ length past → RepeatBudget X (frame ∷ past) cx tick
  queued_again repeat fresh x_in t_in = record {
    once = omega (
      arith,
      fresh.none,
      count_pass (is_data_of X) frame past repeat.is,
      count_at-push (is_data_of X) frame past t_in,
      ap (λ s. length (said X s)) (at_push frame past t_in),
      ap length repeat.sx,
    );
    old = omega (arith, fresh.old, count_at-push (data_comes X) frame past t_in, count_at-push (data_comes X) frame past x_in);
  }

  pub fresh_other : {cy : ℕ} → Repeats X Y frame past → Fresh Y past cy tick → cy ≤ length past
      → tick ≤ length past → Fresh Y (frame ∷ past) cy tick
  fresh_other repeat fresh y_in t_in = record {
    none = omega (
      arith,
      fresh.none,
      count_fail (is_data_of Y) frame past repeat.other,
      count_at-push (is_data_of Y) frame past t_in,
      ap (λ s. length (said Y s)) (at_push frame past t_in),
      ap length repeat.sy,
    );
    old = omega (arith, fresh.old, count_at-push (data_comes Y) frame past t_in, count_at-push (data_comes Y) frame past y_in);
  }

  -- what a late repeat may have before it
  pub held_again : {fx fy : Bool} {cx cy : ℕ} → Repeats X Y frame past
      → Counts X Y (frame ∷ past) fx cx → Counts Y X (frame ∷ past) fy cy → RepeatBudget X (frame ∷ past) cx tick → RepeatBudget Y (frame ∷ past) cy tick
      → tick ≤ length past
      → load X Y (frame ∷ past) cx cy + 2 * (length (said X (frame ∷ past)) + length (acked X (frame ∷ past))) ≤ length past + 1 + 8 + 2 *
      (length (said X (frame ∷ past)) + length (said Y (frame ∷ past)))
  held_again {fy} repeat there back qx qy t_in =
      let a = four there qx (omega arith) in
      let b = four back qy (omega arith) in
      let f = follows-length _ _ fy back.follows in
      omega (arith, a, b, f)

-- ---- the whole tick

pub repeats_of : {X Y : End} {past : List PastFrame} {cx cy : ℕ} {x y : Side} {rx ry : ReceiverValue} {fx fy : Bool} {course : FrameCourse} → Apart X Y
    → CoreAt X Y past cx cy x y rx ry fx fy → Waiting x → Repeats X Y (data_frame X (key_now x) ((part_now x).bytes) course) past
repeats_of apart core waits = grind (arith, common_steps)

-- nothing is held at the tick
none_held : (slack : ℕ) (X Y : End) (past : List PastFrame) (cx cy : ℕ) → HeldBudget slack X Y past cx cy (length past)
none_held slack X Y past cx cy n frame older from above inside here late = absurd (omega arith)

pub held_wider : {slack wider : ℕ} (X Y : End) (past : List PastFrame) {cx : ℕ} (cy : ℕ) {released : ℕ} → slack ≤ wider → HeldBudget slack X Y past cx cy released
    → HeldBudget wider X Y past cx cy released
held_wider X Y past cy more all n frame older from above inside here late = search rules

pub late_from : (X Y : End) (key : Key) (bytes : List ℕ) (course : FrameCourse) → is_end Y X ≡ false → late_of Y (data_frame X key bytes course) ≡ true → ⊥
late_from X Y key bytes course apart late = cc

tried_from : {X Y : End} {past : List PastFrame} {cx cy released : ℕ} (tries : ℕ) → HeldUp 0 X Y past cx cy released tries → 0 < tries
    → TryBudget X Y past cx cy released (suc tries)
tried_from zero held some = absurd (omega arith)
tried_from (suc faults) held some = held

pub tried_some : (X Y : End) (past : List PastFrame) (cx cy released tries : ℕ) → TryBudget X Y past cx cy released tries → 0 < tries
tried_some X Y past cx cy released zero tried = absurd tried
tried_some X Y past cx cy released (suc tries) tried = omega arith

held_up-less : {X Y : End} {past : List PastFrame} {cx cy tick faults : ℕ} → HeldUp 2 X Y past cx cy tick faults → HeldUp 0 X Y past cx cy tick faults
held_up-less was = search rules

-- X's repeat makes at most two more of the load
sent_load : {X Y : End} {frame : PastFrame} {past : List PastFrame} {cx cy : ℕ} → Repeats X Y frame past → cx ≤ length past → cy ≤ length past
    → load X Y (frame ∷ past) cx cy ≤ load X Y past cx cy + 2
sent_load {X} {Y} {frame} {past} repeat x_in y_in = load_sent X Y frame past x_in y_in repeat.other

-- only X waits
pub tick_one : {X Y : End} {past : List PastFrame} {cx cy released : ℕ} {x y : Side} {rx ry : ReceiverValue} {fx fy : Bool} {tx ty : ℕ} {course : FrameCourse}
    → Apart X Y → CoreAt X Y past cx cy x y rx ry fx fy → EndTime X Y past cx cy released x tx → EndTime Y X past cy cx released y ty
    → released ≤ length past
    → IsBlocked X past cx released → IsBlocked Y past cy released → Waiting x → (Waiting y → ⊥)
    → CoreAt X Y (data_frame X (key_now x) ((part_now x).bytes) course ∷ past) cx cy x y rx ry fx fy
    × EndTime X Y (data_frame X (key_now x) ((part_now x).bytes) course ∷ past) cx cy (length past) x (suc tx)
    × EndTime Y X (data_frame X (key_now x) ((part_now x).bytes) course ∷ past) cy cx (length past) y ty
tick_one {X} {Y} {past} {cx} {cy} {released} {x} {tx} {course} apart core x_time y_time inside bx by waits idle =
    let frame = data_frame X (key_now x) ((part_now x).bytes) course in
    let more = again course apart core waits in
    let repeat = repeats_of apart core waits in
    let x_in = core.there.cur_in in
    let y_in = core.back.cur_in in
    let x_fresh = fresh_at_tick core.there x_time.queued inside bx in
    let y_fresh = fresh_at_tick core.back y_time.queued inside by in
    let x_queued = queued_again repeat x_fresh x_in (omega arith) in
    let y_queued = fresh_queued (fresh_other repeat y_fresh y_in (omega arith)) in
    let loads = sent_load repeat x_in y_in in
    let turned_load = load_turned X Y past cx cy in
    let turned_load' = load_turned X Y (frame ∷ past) cx cy in
    let tried = tried_tick tx core.there core.back (x_time.progress waits) bx by x_time.held y_time.held (x_time.tried waits) in (
      more,
      record {
        queued = x_queued;
        held = held_wider X Y (frame ∷ past) cy (omega arith)
            (held_step 6 8 X Y frame past cy cy (none_held 6 X Y past cx cy) (omega arith) (omega (arith, loads, len repeat.sx, len repeat.sy))
            (λ late. held_again repeat more.there more.back x_queued y_queued (omega arith)));
        progress = λ w. progress_sent (omega arith) x_in;
        tried = λ w. tried_from tx (held_up-less (held_up-sent tried (omega arith) loads repeat.ax repeat.sy))
            (tried_some X Y past cx cy released tx (x_time.tried waits));
      },
      record {
        queued = y_queued;
        held = held_wider Y X (frame ∷ past) cx (omega arith)
            (held_step 6 8 Y X frame past cx cx (none_held 6 Y X past cy cx) (omega arith)
            (omega (arith, loads, turned_load, turned_load', len repeat.sx, len repeat.sy))
            (λ late. absurd (late_from X Y (key_now x) ((part_now x).bytes) course apart.back late)));
        progress = λ w. absurd (idle w);
        tried = λ w. absurd (idle w);
      },
    )

-- both wait: X sends, then Y
pub tick_two : {X Y : End} {past : List PastFrame} {cx cy released : ℕ} {x y : Side} {rx ry : ReceiverValue} {fx fy : Bool} {tx ty : ℕ} {course other : FrameCourse}
    → Apart X Y → CoreAt X Y past cx cy x y rx ry fx fy → EndTime X Y past cx cy released x tx → EndTime Y X past cy cx released y ty
    → released ≤ length past
    → IsBlocked X past cx released → IsBlocked Y past cy released → Waiting x → Waiting y
    → CoreAt Y X (data_frame Y (key_now y) ((part_now y).bytes) other ∷ data_frame X (key_now x) ((part_now x).bytes) course ∷ past) cy cx y x ry rx fy fx
    × EndTime X Y (data_frame Y (key_now y) ((part_now y).bytes) other ∷ data_frame X (key_now x) ((part_now x).bytes) course ∷
    past) cx cy (length past) x (suc tx)
    × EndTime Y X (data_frame Y (key_now y) ((part_now y).bytes) other ∷ data_frame X (key_now x) ((part_now x).bytes) course ∷
    past) cy cx (length past) y (suc ty)
tick_two {X} {Y} {past} {cx} {cy} {released} {x} {y} {tx} {ty} {course} {other} apart core x_time y_time inside bx by wx wy =
    let back_apart : Apart Y X = record { there = apart.back; back = apart.there } in
    let frame = data_frame X (key_now x) ((part_now x).bytes) course in
    let last = data_frame Y (key_now y) ((part_now y).bytes) other in
    let mid = frame ∷ past in
    let first_core = again course apart core wx in
    let swapped = turned first_core in
    let second_core = again other back_apart swapped wy in
    let repeat = repeats_of apart core wx in
    let repeat' = repeats_of back_apart swapped wy in
    let x_in = core.there.cur_in in
    let y_in = core.back.cur_in in
    let x_fresh = fresh_at_tick core.there x_time.queued inside bx in
    let y_fresh = fresh_at_tick core.back y_time.queued inside by in
    let x_queued = queued_again repeat x_fresh x_in (omega arith) in
    let y_mid = fresh_other repeat y_fresh y_in (omega arith) in
    let y_queued = queued_again repeat' y_mid (omega (arith, y_in)) (omega arith) in
    let x_last = queued_push x_queued (omega (arith, x_in)) (omega arith) (omega (arith, count_fail (is_data_of X) last mid repeat'.other, len repeat'.sy)) in
    let loads = sent_load repeat x_in y_in in
    let loads' = sent_load repeat' (omega (arith, y_in)) (omega (arith, x_in)) in
    let t0 = load_turned X Y past cx cy in
    let t1 = load_turned X Y mid cx cy in
    let t2 = load_turned X Y (last ∷ mid) cx cy in
    let x_tried = tried_tick tx core.there core.back (x_time.progress wx) bx by x_time.held y_time.held (x_time.tried wx) in
    let y_tried = tried_tick ty core.back core.there (y_time.progress wy) by bx y_time.held x_time.held (y_time.tried wy) in
    let x_mid = held_step 6 8 X Y frame past cy cy (none_held 6 X Y past cx cy) (omega arith) (omega (arith, loads, len repeat.sx, len repeat.sy))
    (λ late. held_again repeat first_core.there first_core.back x_queued (fresh_queued y_mid) (omega arith)) in
    let y_held = held_step 6 8 Y X frame past cx {dx = cy} cx (none_held 6 Y X past cy cx) (omega arith)
    (omega (arith, loads, t0, t1, len repeat.sx, len repeat.sy)) (λ late. absurd (late_from X Y (key_now x) ((part_now x).bytes) course apart.back late)) in (
      second_core,
      record {
        queued = x_last;
        held = held_step 8 10 X Y last mid cy cy x_mid (omega arith) (omega (arith, loads', t1, t2, len repeat'.sx, len repeat'.sy))
            (λ late. absurd (late_from Y X (key_now y) ((part_now y).bytes) other apart.there late));
        progress = λ w. progress_push (progress_sent (omega arith) x_in) repeat'.other repeat'.sy;
        tried = λ w. tried_from tx (held_up-sent (held_up-sent x_tried (omega arith) loads repeat.ax repeat.sy) (omega arith) (omega (arith, loads', t1, t2))
            repeat'.ay repeat'.sx) (tried_some X Y past cx cy released tx (x_time.tried wx));
      },
      record {
        queued = y_queued;
        held = held_step 8 10 Y X last mid cx cx y_held (omega arith) (omega (arith, loads', len repeat'.sx, len repeat'.sy))
            (λ late. omega (arith, held_again repeat' second_core.there second_core.back y_queued x_last (omega arith)));
        progress = λ w. progress_sent (omega arith) (omega (arith, y_in));
        tried = λ w. tried_from ty (held_up-sent (held_up-sent y_tried (omega arith) (omega (arith, loads, t0, t1)) repeat.ay repeat.sx) (omega arith) loads'
            repeat'.ax repeat'.sy) (tried_some Y X past cy cx released ty (y_time.tried wy));
      },
    )
