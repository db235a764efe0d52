-- Core and time together, over the frames that are taken.
use Rattle.line_laws.proofs.Names.{rules, ◌≡◌, ℕ, ◌+◌, ◌<◌, ◌≤◌, Bool, true, false, ◌&&◌, List, [], ◌∷◌, length, Some, refl, sym, ap, ◌∙◌, arith, both_ways}
use Rattle.line_laws.proofs.Names.{and_parts, and_from, Taken, piece_count, data_fragment, ReceiverValue, after_answer, next_key_differs, comes, FrameCourse, PastFrame}
use Rattle.line_laws.proofs.Names.{is_end, first, said, acked, at, IsDataOf, IsAckOf, is_data_of, End, EndTime, Apart, Follows, Side, Waiting, key_now, part_now}
use Rattle.line_laws.proofs.Names.{CoreAt, data_frame, ack_frame, AckPends, Progress}
use Rattle.line_laws.proofs.PastLaws.{said_data, add_new, said_ack, add_first, acked_ack, first_acked, ends_all}
use Rattle.line_laws.proofs.CountLaws.{IsCopy, acked_ends, len}
use Rattle.line_laws.proofs.StepLaws.{passes, repeats}
use Rattle.line_laws.proofs.TakeLaws.{Accepting, acknowledged, matched, take_last_ack, take_ack, beginning, starts}
use Rattle.line_laws.proofs.FaultLaws.{progress_push, progress_acked, progress_x}
use Rattle.line_laws.proofs.TimeLaws.{ack_is_no_data, time_takes, time_passes, time_begins}

-- data is no acknowledgement
both_kinds : (X : End) {frame found : PastFrame} {older behind : List PastFrame} → frame ∷ older ≡ found ∷ behind → IsDataOf X frame → IsAckOf X found → ⊥
both_kinds X same is_data is_ack = search rules

module _ {X Y : End} {past : List PastFrame} {cx cy released : ℕ} {x y : Side} {rx ry : ReceiverValue} {fx fy : Bool} {tx ty : ℕ}
    {course : FrameCourse} {frame : PastFrame} where
  -- a copy is taken and acknowledged once more
  pub line_copy : Apart X Y → CoreAt X Y past cx cy x y rx ry fx fy → EndTime X Y past cx cy released x tx → EndTime Y X past cy cx released y ty
      → released ≤ length past
      → cx < length past → at (cx + 1) past ≡ frame ∷ at cx past → IsDataOf X frame → comes frame.course ≡ true → IsCopy X Y frame (cx + 1) past
      → CoreAt X Y (ack_frame Y (frame.key) course ∷ past) (cx + 1) cy x y rx ry fx fy
      × EndTime X Y (ack_frame Y (frame.key) course ∷ past) (cx + 1) cy released x tx
      × EndTime Y X (ack_frame Y (frame.key) course ∷ past) cy (cx + 1) released y ty
  line_copy apart core x_time y_time inside x_in here is comes_here copy =
      let key = frame.key in
      let ack = ack_frame Y key course in
      let after = repeats apart core (omega arith) (omega (arith, x_in)) copy.key in
      let time = time_takes apart x_time y_time inside x_in core.back.cur_in here refl
      (and_from (is_data_of X frame) (comes frame.course) is comes_here) after.there after.back
      (λ w. progress fx core.there.follows after.there.follows (x_time.progress w)) (λ w. (w, acked_ack Y key course past ∙ add_first copy.key))
      (λ pends same. both_kinds X (sym here ∙ ap (λ n. at n past) (sym same) ∙ pends.here) is pends.is) in
      (after, time.0, time.1) where
        progress : (fx : Bool) → Follows (said X past) (acked Y past) fx
            → Follows (said X (ack_frame Y frame.key course ∷ past)) (acked Y (ack_frame Y frame.key course ∷ past)) fx → Progress X Y past cx cy released
            → Progress X Y (ack_frame Y frame.key course ∷ past) (cx + 1) cy released
        progress false was now before = progress_acked before (ack_is_no_data X Y frame.key course) core.back.cur_in (sym now)
        progress true was now before =
            let moved = progress_x before (λ pends same. omega (arith, pends.newest_is, copy.old, len was.1, ap (λ n. length (said X (at n past))) same)) in
            progress_push moved (ack_is_no_data X Y frame.key course) (said_ack Y X frame.key course past)

  -- the newest fragment is taken and acknowledged, and the other end waits no more
  pub line_newest : {k : ℕ} {answer : Taken} {whole : Bool}
      → Apart X Y → CoreAt X Y past cx cy x y rx ry fx fy → EndTime X Y past cx cy released x tx → EndTime Y X past cy cx released y ty
      → released ≤ length past
      → cx < length past → at (cx + 1) past ≡ frame ∷ at cx past → IsDataOf X frame → comes frame.course ≡ true
      → Accepting X Y past cy (cx + 1) x y rx ry (frame.key) (frame.bytes) answer whole → piece_count (length y.message) ≤ k
      → CoreAt X Y (ack_frame Y (frame.key) course ∷ past) (cx + 1) cy x (record y { acknowledged = k }) rx
      (after_answer ry (frame.key.id) (data_fragment (frame.key) (frame.bytes)) answer) false false
      × EndTime X Y (ack_frame Y (frame.key) course ∷ past) (cx + 1) cy released x tx
      × EndTime Y X (ack_frame Y (frame.key) course ∷ past) cy (cx + 1) released (record y { acknowledged = k }) ty
  line_newest {k} apart core x_time y_time inside x_in here is comes_here accepting idle =
      let key = frame.key in
      let after = accepting.core k course idle in
      let time = time_takes {y' = record y { acknowledged = k }} apart x_time y_time inside x_in core.back.cur_in here refl
      (and_from (is_data_of X frame) (comes frame.course) is comes_here) after.there after.back
      (λ w. progress_acked (x_time.progress w) (ack_is_no_data X Y key course) core.back.cur_in (sym after.there.follows)) (λ w. absurd (omega arith))
      (λ pends same. both_kinds X (sym here ∙ ap (λ n. at n past) (sym same) ∙ pends.here) is pends.is) in
      (after, time.0, time.1)

-- an acknowledgement that bears another key than the waiting one isn't the awaited one
pub other_ack : {X Y : End} {past : List PastFrame} {cx : ℕ} (x y : Side) (fy : Bool) {frame : PastFrame} → Follows (said Y past) (acked X past) fy
    → at (cx + 1) past ≡ frame ∷ at cx past → (first (said Y past) ≡ Some (frame.key) → ⊥) → (pends : AckPends Y X past cx) → pends.n ≡ cx + 1 → ⊥
other_ack {X} {Y} {past} {cx} x y fy {frame} follows here other pends same =
    let all_of : frame ∷ at cx past ≡ pends.frame ∷ pends.older = sym here ∙ ap (λ n. at n past) (sym same) ∙ pends.here in
    let it : frame ≡ pends.frame = cc in
    let all = ends_all (acked_ends X Y past fy pends.n follows) pends.newest_is in
    let newest : first (acked X (at pends.n past)) ≡ Some pends.frame.key =
    ap (λ s. first (acked X s)) pends.here ∙ first_acked X pends.frame pends.older pends.is in
    other (ap first (sym all) ∙ newest ∙ ap (λ f. Some f.key) (sym it))

module _ {X Y : End} {past : List PastFrame} {cx cy released : ℕ} {x : Side} {tx : ℕ} where
  -- it changes nothing
  pub line_other_ack : {y : Side} {rx ry : ReceiverValue} {fx fy : Bool} {ty : ℕ} {frame : PastFrame}
      → CoreAt X Y past cx cy x y rx ry fx fy → EndTime X Y past cx cy released x tx → EndTime Y X past cy cx released y ty
      → cx < length past → at (cx + 1) past ≡ frame ∷ at cx past → IsAckOf X frame → (Waiting y → key_now y ≡ frame.key → ⊥)
      → CoreAt X Y past (cx + 1) cy x y rx ry fx fy × EndTime X Y past (cx + 1) cy released x tx × EndTime Y X past cy (cx + 1) released y ty
  line_other_ack {y} {fy} {frame} core x_time y_time x_in here is other =
      let time = time_passes x_time y_time x_in
      (λ w pends same. both_kinds X (sym pends.here ∙ ap (λ n. at n past) same ∙ here) pends.is is)
      (λ w. other_ack x y fy core.back.follows here (λ e. other w (let s : Some (key_now y) ≡ Some frame.key = sym (core.y_speaks.newest w) ∙ e in
      let k : key_now y ≡ frame.key = cc in k))) in
      (passes core (omega arith) (omega (arith, x_in)), time.0, time.1)

  -- a frame that doesn't come, or is of the other end, changes nothing
  pub line_skips : {y : Side} {rx ry : ReceiverValue} {fx fy : Bool} {ty : ℕ} {frame : PastFrame}
      → CoreAt X Y past cx cy x y rx ry fx fy → EndTime X Y past cx cy released x tx → EndTime Y X past cy cx released y ty
      → cx < length past → at (cx + 1) past ≡ frame ∷ at cx past → (is_end X frame.from && comes frame.course) ≡ false
      → CoreAt X Y past (cx + 1) cy x y rx ry fx fy × EndTime X Y past (cx + 1) cy released x tx × EndTime Y X past cy (cx + 1) released y ty
  line_skips {frame} core x_time y_time x_in here gone =
      let time = time_passes x_time y_time x_in
      (λ w pends same. never pends.frame pends.older (sym pends.here ∙ ap (λ n. at n past) same ∙ here)
      (and_parts (is_end X pends.frame.from) _ pends.is).0 pends.comes_here)
      (λ w pends same. never pends.frame pends.older (sym pends.here ∙ ap (λ n. at n past) same ∙ here)
      (and_parts (is_end X pends.frame.from) _ pends.is).0 pends.comes_here) in
      (passes core (omega arith) (omega (arith, x_in)), time.0, time.1) where
        never : (found : PastFrame) (older : List PastFrame) → found ∷ older ≡ frame ∷ at cx past → is_end X found.from ≡ true → comes found.course ≡ true → ⊥
        never found older same from comes_here =
            (let it : found ≡ frame = cc in both_ways _ gone (ap (λ f. is_end X f.from && comes f.course) (sym it) ∙ and_from _ _ from comes_here))
        -- ---- acknowledgements of the waiting piece

-- an acknowledgement of X comes, and Y waits for none from then on
module _ {X Y : End} {past : List PastFrame} {cx cy released : ℕ} {x y : Side} {tx ty : ℕ} where
  moves_idle : {y' : Side} {frame : PastFrame} → EndTime X Y past cx cy released x tx
      → EndTime Y X past cy cx released y ty → cx < length past → at (cx + 1) past ≡ frame ∷ at cx past → IsAckOf X frame
      → piece_count (length y'.message) ≤ y'.acknowledged
      → EndTime X Y past (cx + 1) cy released x tx × EndTime Y X past cy (cx + 1) released y' ty
  moves_idle x_time y_time x_in here is idle = search rules

  pub line_last_ack : {rx ry : ReceiverValue} {fx fy : Bool} {frame : PastFrame}
      → CoreAt X Y past cx cy x y rx ry fx fy → EndTime X Y past cx cy released x tx → EndTime Y X past cy cx released y ty
      → cx < length past → at (cx + 1) past ≡ frame ∷ at cx past → IsAckOf X frame → Waiting y → key_now y ≡ frame.key
      → y.acknowledged + 1 ≡ piece_count (length y.message)
      → CoreAt X Y past (cx + 1) cy x (acknowledged y) rx ry fx false × EndTime X Y past (cx + 1) cy released x tx
      × EndTime Y X past cy (cx + 1) released (acknowledged y) ty
  line_last_ack core x_time y_time x_in here is waits key last =
      let time = moves_idle x_time y_time x_in here is (omega arith) in
      (take_last_ack core (omega arith) (omega (arith, x_in)) here is waits key last, time.0, time.1)

  pub line_next_piece : {rx ry : ReceiverValue} {fx fy : Bool} {frame : PastFrame} {course : FrameCourse}
      → Apart X Y → CoreAt X Y past cx cy x y rx ry fx fy → EndTime X Y past cx cy released x tx → EndTime Y X past cy cx released y ty
      → released ≤ length past
      → cx < length past → at (cx + 1) past ≡ frame ∷ at cx past → IsAckOf X frame → Waiting y → key_now y ≡ frame.key
      → y.acknowledged + 1 < piece_count (length y.message)
      → CoreAt X Y (data_frame Y (key_now (acknowledged y)) ((part_now (acknowledged y)).bytes) course ∷ past) (cx + 1) cy x (acknowledged y) rx ry false true
      × EndTime X Y (data_frame Y (key_now (acknowledged y)) ((part_now (acknowledged y)).bytes) course ∷ past) (cx + 1) cy released x tx
      × EndTime Y X (data_frame Y (key_now (acknowledged y)) ((part_now (acknowledged y)).bytes) course ∷ past) cy (cx + 1) released (acknowledged y) 1
  line_next_piece {course} apart core x_time y_time inside x_in here is waits key more =
      let after = take_ack course apart core (omega arith) (omega (arith, x_in)) here is waits key more in
      let idle = record y { acknowledged = piece_count (length y.message) } in
      let time = moves_idle {y' = idle} x_time y_time x_in here is (omega arith) in
      let m = matched core (omega arith) (omega (arith, x_in)) here is waits key in
      let newest = core.y_speaks.newest waits in
      let new : first (said Y past) ≡ Some (key_now (acknowledged y)) → ⊥ = λ same.
      (let e : Some (key_now y) ≡ Some (key_now (acknowledged y)) = sym newest ∙ same in
      next_key_differs y.id (length y.message) y.acknowledged (let k : key_now y ≡ key_now (acknowledged y) = cc in k)) in
      let begun = time_begins (record { there = apart.back; back = apart.there }) time.1.queued time.1.held time.0 inside core.back.cur_in (omega (arith, x_in))
      (said_data Y (key_now (acknowledged y)) ((part_now (acknowledged y)).bytes) course past ∙ add_new (said Y past) new) after.back after.there in
      (after, begun.1, begun.0)

  -- ---- a message begins

  pub line_starts : {rx ry : ReceiverValue} {id : ℕ} {message : List ℕ} {course : FrameCourse}
      → Apart X Y → CoreAt X Y past cx cy x y rx ry false false → EndTime X Y past cx cy released x tx → EndTime Y X past cy cx released y ty
      → released ≤ length past
      → length (said X past) ≤ length (acked Y (at cy past)) → (id ≡ x.id → ⊥) → ry.awaited ≡ Some id → ry.pieces ≡ []
      → (Waiting y → y.acknowledged + 1 ≡ piece_count (length y.message))
      → CoreAt X Y (data_frame X (key_now (beginning id message)) ((part_now (beginning id message)).bytes) course ∷ past) cx cy
      (beginning id message) y rx ry true false
      × EndTime X Y (data_frame X (key_now (beginning id message)) ((part_now (beginning id message)).bytes) course ∷ past) cx cy
      released (beginning id message) 1
      × EndTime Y X (data_frame X (key_now (beginning id message)) ((part_now (beginning id message)).bytes) course ∷ past) cy cx released y ty
  line_starts {id} {message} {course} apart core x_time y_time inside caught other awaited none last =
      let after = starts apart core caught other awaited none last in
      let new : first (said X past) ≡ Some (key_now (beginning id message)) → ⊥ = λ same. other (core.x_speaks.newest_id _ same) in
      let begun = time_begins apart x_time.queued x_time.held y_time inside core.there.cur_in core.back.cur_in
      (said_data X (key_now (beginning id message)) ((part_now (beginning id message)).bytes) course past ∙ add_new (said X past) new) after.there after.back in
      (after, begun.0, begun.1)
