-- The trace over the steps.
use Rattle.line_laws.proofs.Names.{common_steps, rules, ◌≡◌, ℕ, ◌+◌, ◌<◌, ◌≤◌, Bool, true, false, not, ◌&&◌, List, ◌∷◌, length, Some, refl, sym, ap, subst}
use Rattle.line_laws.proofs.Names.{arith, inl, inr, Key, faulted, late_of, data_comes, newest, FrameCourse, PastFrame, is_end, first, said, acked, at, is_repeat, End}
use Rattle.line_laws.proofs.Names.{Handheld, Desktop, Apart, Follows, data_frame, ack_frame, TraceFacts}
use Rattle.line_laws.proofs.TraceLaws.{begun_no_repeat, release_push, release_moves, faults_push, acks_taken, acks_push}
use Rattle.line_laws.proofs.JoinLaws.{release_one, release_two, acks_behind-push, repeat_only, either}

pub traced_turned : {X Y : End} {past : List PastFrame} {cx cy released : ℕ} → TraceFacts X Y past cx cy released → TraceFacts Y X past cy cx released
traced_turned traced = search rules

-- a frame is passed that isn't data that comes, and isn't held
pub traced_moves : {X Y : End} {past : List PastFrame} {cx cy released : ℕ} {frame : PastFrame} → TraceFacts X Y past cx cy released
    → at (cx + 1) past ≡ frame ∷ at cx past → cx < length past → (late_of X frame ≡ true → cx + 1 ≤ released) → data_comes X frame ≡ false
    → TraceFacts X Y past (cx + 1) cy released
traced_moves traced here inside free other = grind (arith, common_steps)

-- an acknowledgement is no repeat, and one of Y is none of X
ack_no_repeat : (X Y : End) (key : Key) (course : FrameCourse) (past : List PastFrame) → is_repeat X (ack_frame Y key course) past ≡ false
ack_no_repeat X Y key course past = search rules

other_ack_end : (X Y : End) (key : Key) (course : FrameCourse) → is_end X Y ≡ false
    → (is_end X ((ack_frame Y key course).from) && not ((ack_frame Y key course).is_data)) ≡ false
other_ack_end X Y key course apart = ap (λ b. b && true) apart

data_no_ack : (X Y : End) (key : Key) (bytes : List ℕ) (course : FrameCourse)
    → (is_end X ((data_frame Y key bytes course).from) && not ((data_frame Y key bytes course).is_data)) ≡ false
data_no_ack Handheld Handheld key bytes course = refl
data_no_ack Handheld Desktop key bytes course = refl
data_no_ack Desktop Handheld key bytes course = refl
data_no_ack Desktop Desktop key bytes course = refl

-- data that comes is taken and acknowledged
pub traced_taken : {X Y : End} {past : List PastFrame} {cx cy released : ℕ} {frame : PastFrame} {course : FrameCourse} (fx fy : Bool) → Apart X Y
    → TraceFacts X Y past cx cy released → at (cx + 1) past ≡ frame ∷ at cx past → cx < length past → cy ≤ length past
    → (late_of X frame ≡ true → cx + 1 ≤ released) → data_comes X frame ≡ true
    → Follows (said X (ack_frame Y (frame.key) course ∷ past)) (acked Y (ack_frame Y (frame.key) course ∷ past)) fx
    → Follows (said Y (ack_frame Y (frame.key) course ∷ past)) (acked X (ack_frame Y (frame.key) course ∷ past)) fy
    → TraceFacts X Y (ack_frame Y (frame.key) course ∷ past) (cx + 1) cy released
traced_taken {X} {Y} {past} {frame} {course} fx fy apart traced here x_in y_in free is there back = record {
  x_release = release_push (release_moves traced.x_release here x_in free) (omega (arith, x_in)) (ack_no_repeat X Y frame.key course past);
  y_release = release_push traced.y_release y_in (ack_no_repeat Y Y frame.key course past);
  x_acks = acks_taken X Y course past traced.x_acks x_in here is refl;
  y_acks = acks_push Y X (ack_frame Y frame.key course) past traced.y_acks y_in (other_ack_end X Y frame.key course apart.there);
  x_behind = acks_behind-push X Y (ack_frame Y frame.key course) past fx traced.x_behind there;
  y_behind = acks_behind-push Y X (ack_frame Y frame.key course) past fy traced.y_behind back;
  faults = faults_push (ack_frame Y frame.key course) past traced.faults (λ Z. ack_no_repeat Z Y frame.key course past);
}

module _ {X Y : End} {past : List PastFrame} {cx cy released : ℕ} {key : Key} {bytes : List ℕ} {course : FrameCourse} where
  -- X begins a fragment
  pub traced_begins : (fx fy : Bool) → Apart X Y
      → TraceFacts X Y past cx cy released → cx ≤ length past → cy ≤ length past → (first (said X past) ≡ Some key → ⊥)
      → Follows (said X (data_frame X key bytes course ∷ past)) (acked Y (data_frame X key bytes course ∷ past)) fx
      → Follows (said Y (data_frame X key bytes course ∷ past)) (acked X (data_frame X key bytes course ∷ past)) fy
      → TraceFacts X Y (data_frame X key bytes course ∷ past) cx cy released
  traced_begins fx fy apart traced x_in y_in new there back = record {
    x_release = release_push traced.x_release x_in mine;
    y_release = release_push traced.y_release y_in other;
    x_acks = acks_push X Y (data_frame X key bytes course) past traced.x_acks x_in (data_no_ack Y X key bytes course);
    y_acks = acks_push Y X (data_frame X key bytes course) past traced.y_acks y_in (data_no_ack X X key bytes course);
    x_behind = acks_behind-push X Y (data_frame X key bytes course) past fx traced.x_behind there;
    y_behind = acks_behind-push Y X (data_frame X key bytes course) past fy traced.y_behind back;
    faults = faults_push (data_frame X key bytes course) past traced.faults none;
  } where
    mine : is_repeat X (data_frame X key bytes course) past ≡ false
    mine = begun_no_repeat X bytes course past new

    other : is_repeat Y (data_frame X key bytes course) past ≡ false
    other = repeat_only X Y key bytes course past apart.back

    none : (Z : End) → is_repeat Z (data_frame X key bytes course) past ≡ false
    none Z = elim (either X Y Z apart.there) [
      | inl is ↦ subst (λ E. is_repeat E (data_frame X key bytes course) past ≡ false) (sym is) mine
      | inr is ↦ subst (λ E. is_repeat E (data_frame X key bytes course) past ≡ false) (sym is) other
    ]

  -- the tick where X alone waits
  pub traced_tick : (fx fy : Bool) → Apart X Y
      → TraceFacts X Y past cx cy released → cx ≤ length past → cy ≤ length past → first (said X past) ≡ Some key → released < newest faulted past
      → Follows (said X (data_frame X key bytes course ∷ past)) (acked Y (data_frame X key bytes course ∷ past)) fx
      → Follows (said Y (data_frame X key bytes course ∷ past)) (acked X (data_frame X key bytes course ∷ past)) fy
      → TraceFacts X Y (data_frame X key bytes course ∷ past) cx cy (length past)
  traced_tick fx fy apart traced x_in y_in newest_is fault there back =
      let all = release_one apart newest_is traced.x_release traced.y_release x_in y_in traced.faults fault in
      record {
        x_release = all.0;
        y_release = all.1;
        x_acks = acks_push X Y (data_frame X key bytes course) past traced.x_acks x_in (data_no_ack Y X key bytes course);
        y_acks = acks_push Y X (data_frame X key bytes course) past traced.y_acks y_in (data_no_ack X X key bytes course);
        x_behind = acks_behind-push X Y (data_frame X key bytes course) past fx traced.x_behind there;
        y_behind = acks_behind-push Y X (data_frame X key bytes course) past fy traced.y_behind back;
        faults = all.2;
      }

  -- and where both wait
  pub traced_tick_two : {key' : Key} {bytes' : List ℕ} {course' : FrameCourse} (fx fy gx gy : Bool)
      → Apart X Y → TraceFacts X Y past cx cy released → cx ≤ length past → cy ≤ length past → first (said X past) ≡ Some key
      → first (said Y past) ≡ Some key' → released < newest faulted past
      → Follows (said X (data_frame X key bytes course ∷ past)) (acked Y (data_frame X key bytes course ∷ past)) fx
      → Follows (said Y (data_frame X key bytes course ∷ past)) (acked X (data_frame X key bytes course ∷ past)) fy
      → Follows (said X (data_frame Y key' bytes' course' ∷ data_frame X key bytes course ∷ past))
      (acked Y (data_frame Y key' bytes' course' ∷ data_frame X key bytes course ∷ past)) gx
      → Follows (said Y (data_frame Y key' bytes' course' ∷ data_frame X key bytes course ∷ past))
      (acked X (data_frame Y key' bytes' course' ∷ data_frame X key bytes course ∷ past)) gy
      → TraceFacts X Y (data_frame Y key' bytes' course' ∷ data_frame X key bytes course ∷ past) cx cy (length past)
  traced_tick_two {key'} {bytes'} {course'} fx fy gx gy apart traced x_in y_in newest_x newest_y fault there back there' back' =
      let mid = data_frame X key bytes course ∷ past in
      let all = release_two apart newest_x newest_y traced.x_release traced.y_release x_in y_in traced.faults fault in
      record {
        x_release = all.0;
        y_release = all.1;
        x_acks = acks_push X Y (data_frame Y key' bytes' course') mid
            (acks_push X Y (data_frame X key bytes course) past traced.x_acks x_in (data_no_ack Y X key bytes course)) (omega (arith, x_in))
            (data_no_ack Y Y key' bytes' course');
        y_acks = acks_push Y X (data_frame Y key' bytes' course') mid
            (acks_push Y X (data_frame X key bytes course) past traced.y_acks y_in (data_no_ack X X key bytes course)) (omega (arith, y_in))
            (data_no_ack X Y key' bytes' course');
        x_behind = acks_behind-push X Y (data_frame Y key' bytes' course') mid gx
            (acks_behind-push X Y (data_frame X key bytes course) past fx traced.x_behind there) there';
        y_behind = acks_behind-push Y X (data_frame Y key' bytes' course') mid gy
            (acks_behind-push Y X (data_frame X key bytes course) past fy traced.y_behind back) back';
        faults = all.2;
      }
