-- The whole of a running line over each step.
use Rattle.line_laws.proofs.Names.{rules, ◌≡◌, ℕ, suc, ◌+◌, ◌<◌, ◌≤◌, Bool, true, false, not, ◌&&◌, List, [], ◌∷◌, length, Some, refl, sym, ap, ◌∙◌, arith, inl}
use Rattle.line_laws.proofs.Names.{inr, cases_lt, both_ways, and_parts, and_from, Taken, piece_count, data_fragment, ReceiverValue, after_answer}
use Rattle.line_laws.proofs.Names.{next_key_differs, comes, is_late, late_of, data_comes, FrameCourse, Came, Gone, Late, PastFrame, is_end, first, data_of, ack_of, said}
use Rattle.line_laws.proofs.Names.{acked, at, IsDataOf, IsAckOf, is_data_of, End, Apart, Side, Waiting, key_now, part_now, data_frame, ack_frame, Knows, LineAt}
use Rattle.line_laws.proofs.Names.{IsBlocked, IsAcknowledged}
use Rattle.line_laws.proofs.PastLaws.{said_ack, said_data, said_data-other, add_new, add_first, keys_below}
use Rattle.line_laws.proofs.CountLaws.{IsCopy, follows-length}
use Rattle.line_laws.proofs.StepLaws.{turned, again}
use Rattle.line_laws.proofs.FaultLaws.{fault_at_tick}
use Rattle.line_laws.proofs.TickLaws.{tick_one, tick_two}
use Rattle.line_laws.proofs.TakeLaws.{Accepting, acknowledged, matched, beginning}
use Rattle.line_laws.proofs.TimeLaws.{ack_is_no_data}
use Rattle.line_laws.proofs.LineLaws.{line_skips, line_other_ack, line_copy, line_newest, line_last_ack, line_next_piece, line_starts}
use Rattle.line_laws.proofs.TurnLaws.{no_ack-push, no_ack-begins, acknowledged-push, acknowledged-moves}
use Rattle.line_laws.proofs.JoinLaws.{acknowledged_by_ack, acknowledged_by_answer, run_again, run_begins, run_other}
use Rattle.line_laws.proofs.TracedLaws.{traced_turned, traced_moves, traced_taken, traced_begins, traced_tick, traced_tick_two}

-- ---- what an end knows

pub knows_moves : {X Y : End} {past : List PastFrame} {cy : ℕ} {x : Side} {tx : ℕ} {frame : PastFrame} → Knows X Y past cy x tx
    → at (cy + 1) past ≡ frame ∷ at cy past → (Waiting x → IsAckOf Y frame → comes frame.course ≡ true → frame.key ≡ key_now x → ⊥)
    → Knows X Y past (cy + 1) x tx
knows_moves knows here other = search rules

pub knows_push : {X Y : End} {frame : PastFrame} {past : List PastFrame} {cy : ℕ} {x : Side} {tx : ℕ} → Knows X Y past cy x tx → cy ≤ length past
    → said X (frame ∷ past) ≡ said X past → is_data_of X frame ≡ false → Knows X Y (frame ∷ past) cy x tx
knows_push {X} {Y} {frame} {past} knows inside same other = record {
  run_is = λ w. run_other X frame past other ∙ knows.run_is w;
  none = λ w. no_ack-push X Y frame past (knows.none w) inside same;
  done = λ idle some. acknowledged-push (knows.done idle (omega (arith, some, ap length same))) inside same;
}

late_comes : (course : FrameCourse) → is_late course ≡ true → comes course ≡ true
late_comes Came late = absurd cc
late_comes Gone late = absurd cc
late_comes Late late = refl

pub no_data : (a b c : Bool) → (a && c) ≡ false → ((a && b) && c) ≡ false
no_data false b c gone = refl
no_data true false c gone = refl
no_data true true c gone = gone

pub ack_no_data : (X : End) (frame : PastFrame) → IsAckOf X frame → data_comes X frame ≡ false
ack_no_data X frame is = go (is_end X frame.from) frame.is_data (comes frame.course) is where
  go : (a b c : Bool) → (a && not b) ≡ true → ((a && b) && c) ≡ false
  go false b c is = refl
  go true false c is = refl
  go true true c is = absurd cc

data_no_ack : (X : End) (frame : PastFrame) → IsDataOf X frame → IsAckOf X frame → ⊥
data_no_ack X frame is_data is_ack = search rules

-- ---- the steps

module _ {X Y : End} {past : List PastFrame} {cx cy released : ℕ} {x y : Side} {rx ry : ReceiverValue} {fx fy : Bool} {tx ty : ℕ} {frame : PastFrame} where
  -- a frame that doesn't come, or the other end's, is passed
  pub running_skips : LineAt X Y past cx cy released x y rx ry fx fy tx ty
      → cx < length past → at (cx + 1) past ≡ frame ∷ at cx past → (is_end X frame.from && comes frame.course) ≡ false
      → LineAt X Y past (cx + 1) cy released x y rx ry fx fy tx ty
  running_skips line x_in here gone =
      let step = line_skips line.core line.x_time line.y_time x_in here gone in
      record {
        core = step.0;
        x_time = step.1;
        y_time = step.2;
        inside = line.inside;
        traced = traced_moves line.traced here x_in
            (λ late. absurd (let parts = and_parts (is_end X frame.from) _ late in both_ways _ gone (and_from _ _ parts.0 (late_comes frame.course parts.1))))
            (no_data (is_end X frame.from) frame.is_data (comes frame.course) gone);
        x_knows = line.x_knows;
        y_knows = knows_moves line.y_knows here (λ w is came key. both_ways _ gone (and_from _ _ ((and_parts (is_end X frame.from) _ is).0) came));
      }

  -- another acknowledgement than the waiting one
  pub running_other_ack : LineAt X Y past cx cy released x y rx ry fx fy tx ty
      → cx < length past → at (cx + 1) past ≡ frame ∷ at cx past → (late_of X frame ≡ true → cx + 1 ≤ released) → IsAckOf X frame
      → (Waiting y → key_now y ≡ frame.key → ⊥) → LineAt X Y past (cx + 1) cy released x y rx ry fx fy tx ty
  running_other_ack line x_in here free is other =
      let step = line_other_ack line.core line.x_time line.y_time x_in here is other in
      record {
        core = step.0;
        x_time = step.1;
        y_time = step.2;
        inside = line.inside;
        traced = traced_moves line.traced here x_in free (ack_no_data X frame is);
        x_knows = line.x_knows;
        y_knows = knows_moves line.y_knows here (λ w it came key. other w (sym key));
      }

  -- data, a copy: acknowledged again
  pub running_copy : {course : FrameCourse}
      → Apart X Y → LineAt X Y past cx cy released x y rx ry fx fy tx ty
      → cx < length past → at (cx + 1) past ≡ frame ∷ at cx past → (late_of X frame ≡ true → cx + 1 ≤ released) → IsDataOf X frame
      → comes frame.course ≡ true → IsCopy X Y frame (cx + 1) past
      → LineAt X Y (ack_frame Y (frame.key) course ∷ past) (cx + 1) cy released x y rx ry fx fy tx ty
  running_copy {course} apart line x_in here free is comes_here copy =
      let step = line_copy apart line.core line.x_time line.y_time line.inside x_in here is comes_here copy in
      let after = step.0 in
      record {
        core = step.0;
        x_time = step.1;
        y_time = step.2;
        inside = omega (arith, line.inside);
        traced = traced_taken fx fy apart line.traced here x_in line.core.back.cur_in free (and_from (is_data_of X frame) (comes frame.course) is comes_here)
            after.there.follows after.back.follows;
        x_knows = knows_push line.x_knows line.core.back.cur_in (said_ack Y X frame.key course past) (ack_is_no_data X Y frame.key course);
        y_knows = knows_push (knows_moves line.y_knows here (λ w it came key. data_no_ack X frame is it)) (omega (arith, x_in))
            (said_ack Y Y frame.key course past) (ack_is_no_data Y Y frame.key course);
      }

  -- the newest fragment: taken, the other end's wait ends, and it is acknowledged
  pub running_newest : {k : ℕ} {course : FrameCourse} {answer : Taken} {whole : Bool}
      → Apart X Y → LineAt X Y past cx cy released x y rx ry fx fy tx ty
      → cx < length past → at (cx + 1) past ≡ frame ∷ at cx past → (late_of X frame ≡ true → cx + 1 ≤ released) → IsDataOf X frame
      → comes frame.course ≡ true → Accepting X Y past cy (cx + 1) x y rx ry (frame.key) (frame.bytes) answer whole → piece_count (length y.message) ≤ k
      → LineAt X Y (ack_frame Y (frame.key) course ∷ past) (cx + 1) cy released x (record y { acknowledged = k }) rx
      (after_answer ry (frame.key.id) (data_fragment (frame.key) (frame.bytes)) answer) false false tx ty
  running_newest {course} apart line x_in here free is comes_here accepting idle =
      let step = line_newest apart line.core line.x_time line.y_time line.inside x_in here is comes_here accepting idle in
      let after = step.0 in
      let same = said_ack Y Y frame.key course past in
      record {
        core = step.0;
        x_time = step.1;
        y_time = step.2;
        inside = omega (arith, line.inside);
        traced = traced_taken false false apart line.traced here x_in line.core.back.cur_in free
            (and_from (is_data_of X frame) (comes frame.course) is comes_here) after.there.follows after.back.follows;
        x_knows = knows_push line.x_knows line.core.back.cur_in (said_ack Y X frame.key course past) (ack_is_no_data X Y frame.key course);
        y_knows = record {
          run_is = λ w. absurd (omega (arith, w, idle));
          none = λ w. absurd (omega (arith, w, idle));
          done = λ _ some. acknowledged-push (known (omega (arith, some, ap length same))) (omega (arith, x_in)) same;
        };
      } where
        known : 0 < length (said Y past) → IsAcknowledged Y X past (cx + 1)
        known some = elim (cases_lt y.acknowledged (piece_count (length y.message))) [
          | inl waits ↦ acknowledged_by_answer cx here is comes_here
              (omega (arith, accepting.knows, keys_below (ack_of X) (cx + 1) past, follows-length _ _ fy line.core.back.follows))
          | inr idle ↦ acknowledged-moves (line.y_knows.done (λ w. omega (arith, w, idle)) some) (omega arith)
        ]

  -- the acknowledgement of the last piece
  pub running_last_ack : LineAt X Y past cx cy released x y rx ry fx fy tx ty
      → cx < length past → at (cx + 1) past ≡ frame ∷ at cx past → (late_of X frame ≡ true → cx + 1 ≤ released) → IsAckOf X frame
      → comes frame.course ≡ true → Waiting y → key_now y ≡ frame.key → y.acknowledged + 1 ≡ piece_count (length y.message)
      → LineAt X Y past (cx + 1) cy released x (acknowledged y) rx ry fx false tx ty
  running_last_ack line x_in here free is came waits key last =
      let step = line_last_ack line.core line.x_time line.y_time x_in here is waits key last in
      let m = matched line.core (omega arith) (omega (arith, x_in)) here is waits key in
      record {
        core = step.0;
        x_time = step.1;
        y_time = step.2;
        inside = line.inside;
        traced = traced_moves line.traced here x_in free (ack_no_data X frame is);
        x_knows = line.x_knows;
        y_knows = record {
          run_is = λ w. absurd (omega (arith, w, last));
          none = λ w. absurd (omega (arith, w, last));
          done = λ _ some. acknowledged_by_ack cx here is came
              (omega (arith, m.knows, line.traced.y_behind (cx + 1) (omega (arith, x_in)), keys_below (data_of Y) (cx + 1) past))
              (line.core.y_speaks.newest waits ∙ ap Some key);
        };
      }

-- a fragment begins
module _ {X Y : End} {key : _} {bytes : List ℕ} {course : FrameCourse} {past : List PastFrame} where
  knows_begins : {cy : ℕ} {x : Side} → cy ≤ length past
      → (first (said X past) ≡ Some key → ⊥) → Waiting x → Knows X Y (data_frame X key bytes course ∷ past) cy x 1
  knows_begins inside new waits = record {
    run_is = λ w. run_begins X bytes course past new;
    none = λ w. no_ack-begins X Y (data_frame X key bytes course) past inside (said_data X key bytes course past ∙ add_new (said X past) new);
    done = λ idle some. absurd (idle waits);
  }

  knows_other : {cx : ℕ} {y : Side} {ty : ℕ} → is_end Y X ≡ false
      → Knows Y X past cx y ty → cx ≤ length past → Knows Y X (data_frame X key bytes course ∷ past) cx y ty
  knows_other apart knows inside = knows_push knows inside (said_data-other X Y apart key bytes course past) (ap (λ b. b && true) apart)

  knows_again : {cy : ℕ} {x : Side} {tx : ℕ} → Knows X Y past cy x tx
      → cy ≤ length past → first (said X past) ≡ Some key → Waiting x → Knows X Y (data_frame X key bytes course ∷ past) cy x (suc tx)
  knows_again knows inside newest_is waits = record {
    run_is = λ w. omega (arith, run_again X bytes course past newest_is, knows.run_is w);
    none = λ w. no_ack-push X Y (data_frame X key bytes course) past (knows.none w) inside (said_data X key bytes course past ∙ add_first newest_is);
    done = λ idle some. absurd (idle waits);
  }

-- the acknowledgement of another piece: the next one goes
module _ {X Y : End} {past : List PastFrame} {cx cy released : ℕ} {x y : Side} {rx ry : ReceiverValue} {tx ty : ℕ} where
  pub running_next_piece : {fx fy : Bool} {frame : PastFrame} {course : FrameCourse}
      → Apart X Y → LineAt X Y past cx cy released x y rx ry fx fy tx ty
      → cx < length past → at (cx + 1) past ≡ frame ∷ at cx past → (late_of X frame ≡ true → cx + 1 ≤ released) → IsAckOf X frame → Waiting y
      → key_now y ≡ frame.key → y.acknowledged + 1 < piece_count (length y.message)
      → LineAt X Y (data_frame Y (key_now (acknowledged y)) ((part_now (acknowledged y)).bytes) course ∷ past) (cx + 1) cy released x
      (acknowledged y) rx ry false true tx 1
  running_next_piece {frame} apart line x_in here free is waits key more =
      let step = line_next_piece apart line.core line.x_time line.y_time line.inside x_in here is waits key more in
      let after = step.0 in
      let next = key_now (acknowledged y) in
      let bytes = (part_now (acknowledged y)).bytes in
      let newest_is = line.core.y_speaks.newest waits in
      let new : first (said Y past) ≡ Some (key_now (acknowledged y)) → ⊥ = λ same.
      (let e : Some (key_now y) ≡ Some (key_now (acknowledged y)) = sym newest_is ∙ same in
      next_key_differs y.id (length y.message) y.acknowledged (let k : key_now y ≡ key_now (acknowledged y) = cc in k)) in
      let moved = traced_moves line.traced here x_in free (ack_no_data X frame is) in
      let begun = traced_begins true false (record { there = apart.back; back = apart.there }) (traced_turned moved) line.core.back.cur_in (omega (arith, x_in))
      new after.back.follows after.there.follows in
      record {
        core = step.0;
        x_time = step.1;
        y_time = step.2;
        inside = omega (arith, line.inside);
        traced = traced_turned begun;
        x_knows = knows_other apart.there line.x_knows line.core.back.cur_in;
        y_knows = knows_begins (omega (arith, x_in)) new more;
      }

  -- a new message
  pub running_starts : {id : ℕ} {message : List ℕ} (course : FrameCourse)
      → Apart X Y → LineAt X Y past cx cy released x y rx ry false false tx ty
      → length (said X past) ≤ length (acked Y (at cy past)) → (id ≡ x.id → ⊥) → ry.awaited ≡ Some id → ry.pieces ≡ []
      → (Waiting y → y.acknowledged + 1 ≡ piece_count (length y.message))
      → LineAt X Y (data_frame X (key_now (beginning id message)) ((part_now (beginning id message)).bytes) course ∷ past) cx cy released
      (beginning id message) y rx ry true false 1 ty
  running_starts {id} {message} course apart line caught other awaited none last =
      let step = line_starts apart line.core line.x_time line.y_time line.inside caught other awaited none last in
      let after = step.0 in
      let key = key_now (beginning id message) in
      let bytes = (part_now (beginning id message)).bytes in
      let new : first (said X past) ≡ Some (key_now (beginning id message)) → ⊥ = λ same. other (line.core.x_speaks.newest_id _ same) in
      record {
        core = step.0;
        x_time = step.1;
        y_time = step.2;
        inside = omega (arith, line.inside);
        traced = traced_begins true false apart line.traced line.core.there.cur_in line.core.back.cur_in new after.there.follows after.back.follows;
        x_knows = knows_begins line.core.back.cur_in new (after.x_speaks.waits refl);
        y_knows = knows_other apart.back line.y_knows line.core.there.cur_in;
      }

  -- the tick where X alone waits
  pub running_tick_one : {fx fy : Bool} {course : FrameCourse}
      → Apart X Y → LineAt X Y past cx cy released x y rx ry fx fy tx ty
      → IsBlocked X past cx released → IsBlocked Y past cy released → Waiting x → (Waiting y → ⊥)
      → LineAt X Y (data_frame X (key_now x) ((part_now x).bytes) course ∷ past) cx cy (length past) x y rx ry fx fy (suc tx) ty
  running_tick_one {fx} {fy} apart line bx by waits idle =
      let step = tick_one apart line.core line.x_time line.y_time line.inside bx by waits idle in
      let after = step.0 in
      let newest_is = line.core.x_speaks.newest waits in
      record {
        core = step.0;
        x_time = step.1;
        y_time = step.2;
        inside = omega arith;
        traced = traced_tick fx fy apart line.traced line.core.there.cur_in line.core.back.cur_in newest_is (fault_at_tick (line.x_time.progress waits) bx by)
            after.there.follows after.back.follows;
        x_knows = knows_again line.x_knows line.core.back.cur_in newest_is waits;
        y_knows = knows_other apart.back line.y_knows line.core.there.cur_in;
      }

  -- and where both wait: X sends, then Y
  pub running_tick_two : {fx fy : Bool} {course : FrameCourse} (other : FrameCourse)
      → Apart X Y → LineAt X Y past cx cy released x y rx ry fx fy tx ty
      → IsBlocked X past cx released → IsBlocked Y past cy released → Waiting x → Waiting y
      → LineAt X Y (data_frame Y (key_now y) ((part_now y).bytes) other ∷ data_frame X (key_now x) ((part_now x).bytes) course ∷ past) cx cy (length past) x
      y rx ry fx fy (suc tx) (suc ty)
  running_tick_two {fx} {fy} {course} other apart line bx by wx wy =
      let mid = data_frame X (key_now x) ((part_now x).bytes) course ∷ past in
      let last = data_frame Y (key_now y) ((part_now y).bytes) other ∷ data_frame X (key_now x) ((part_now x).bytes) course ∷ past in
      let step = tick_two apart line.core line.x_time line.y_time line.inside bx by wx wy in
      let after = turned step.0 in
      let between = again course apart line.core wx in
      let newest_x = line.core.x_speaks.newest wx in
      let newest_y = line.core.y_speaks.newest wy in
      let x_mid = knows_again line.x_knows line.core.back.cur_in newest_x wx in
      let y_mid = knows_other apart.back line.y_knows line.core.there.cur_in in
      record {
        core = after;
        x_time = step.1;
        y_time = step.2;
        inside = omega arith;
        traced = traced_tick_two fx fy fx fy apart line.traced line.core.there.cur_in line.core.back.cur_in newest_x newest_y
            (fault_at_tick (line.x_time.progress wx) bx by) between.there.follows between.back.follows after.there.follows after.back.follows;
        x_knows = knows_other apart.there x_mid between.back.cur_in;
        y_knows = knows_again y_mid between.there.cur_in (between.y_speaks.newest wy) wy;
      }
