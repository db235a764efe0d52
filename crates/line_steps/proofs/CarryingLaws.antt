-- The steps by which a message goes over.
use Rattle.line_steps.proofs.Names.{rules, Result, Ok, Err, OnOk, ◌≡◌, ◌<◌, ◌≤◌, Bool, true, false, List, length, refl, sym, ap, subst, ◌∙◌, arith, Accepted}
use Rattle.line_steps.proofs.Names.{Whole, Repeated, Dropped, piece_count, Waits, RuleValue, Apart, Side, Waiting, Half, Wire, Heard, Nothing, Ack, took_count}
use Rattle.line_steps.proofs.Names.{SameMessage, HasMessage, Reaches, StepTo, makes_whole, side_of, Holds, MovesCursor, MovesReader, Stays, AllTaken, Turn, TurnBehind}
use Rattle.line_steps.proofs.Names.{Underway, UnderwayBehind, StillUnderway, work_left, KeepsTalk, KeepsAll, RecordsFrames}
use Rattle.line_steps.specs.declared.hearing.Heard.TheVariants.{Data}
use Rattle.line_steps.proofs.HoldsLaws.{moved}
use Rattle.line_steps.proofs.StartingLaws.{waits_now, waits_then}
use Rattle.line_steps.proofs.TalkedLaws.{talk_turned, talks_turned}
use Rattle.line_steps.proofs.WorkLaws.{work_turned}
use Rattle.line_steps.proofs.TurnLaws.{apart_turned, holds_turned}

pub same_trans : {a b c : Half} → SameMessage a b → SameMessage b c → SameMessage a c
same_trans one two = search rules

pub same_refl : {a : Half} → SameMessage a a
same_refl = search rules

pub stays_refl : {a : Half} → Stays a a
stays_refl = search rules

pub stays_same : {a b : Half} → Stays a b → SameMessage a b
stays_same stays = search rules

pub moved_same : {a b : Half} → b ≡ moved a → SameMessage a b
moved_same is = search rules

-- ---- both ends at their heads

-- x skipped to x1 while y read as y1, and then y to y2 while x read as x2
pub record Skipped (wire : Wire) (x y x1 y1 x2 y2 : Half) : Type 0 where
  pub x_moved : MovesCursor x x1
  pub y_read : MovesReader y y1
  pub y_moved : MovesCursor y1 y2
  pub x_read : MovesReader x1 x2
  pub first : work_left wire x1 y1 ≤ work_left wire x y
  pub second : work_left wire y2 x2 ≤ work_left wire y1 x1
  pub talks : KeepsTalk wire x y wire x2 y2

skip_same : {x x1 x2 : Half} → MovesCursor x x1 → MovesReader x1 x2 → SameMessage x x2
skip_same moved read = search rules

read_same : {y y1 y2 : Half} → MovesReader y y1 → MovesCursor y1 y2 → SameMessage y y2
read_same read moved = search rules

pub skipped-underway : {wire : Wire} {x y x1 y1 x2 y2 : Half} → Skipped wire x y x1 y1 x2 y2 → Underway wire x y → Underway wire x2 y2
skipped-underway it on = search rules

-- the ends are two still
pub still_apart : (x y later_x later_y : Half) → later_x.end ≡ x.end → later_y.end ≡ y.end → Apart x.end y.end → Apart later_x.end later_y.end
still_apart x y later_x later_y x_end y_end apart = search rules

pub skipped-talks : (wire : Wire) (x y : Half) {x1 y1 x2 y2 : Half} → Apart x.end y.end → MovesCursor x x1 → MovesReader y y1 → MovesCursor y1 y2 → MovesReader x1 x2
    → KeepsTalk wire x y wire x1 y1 → KeepsTalk wire y1 x1 wire y2 x2 → KeepsTalk wire x y wire x2 y2
skipped-talks wire x y {x1} {y1} {x2} {y2} apart x_moved y_read y_moved x_read first second =
    let x_mid = ap (λ h. h.end) x_moved in
    let y_mid = ap (λ h. h.end) y_read in
    let mid = still_apart x y x1 y1 x_mid y_mid apart in
    let later = still_apart x y x2 y2 (ap (λ h. h.end) x_read ∙ x_mid) (ap (λ h. h.end) y_moved ∙ y_mid) apart in
    λ talk talks. talks_turned wire y2 x2 (apart_turned later) (second talk (talks_turned wire x1 y1 mid (first talk talks)))

module _ {wire : Wire} {x y x1 y1 x2 y2 : Half} where
  pub skipped-recorded : {script : List RuleValue} → Apart x.end y.end → MovesCursor x x1 → MovesReader y y1 → MovesCursor y1 y2 → MovesReader x1 x2 → KeepsAll wire x y x1 y1
      → KeepsAll wire y1 x1 y2 x2 → RecordsFrames script wire x y → RecordsFrames script wire x2 y2
  skipped-recorded apart x_moved y_read y_moved x_read first second was = search rules

  -- and as much of both ends is taken
  pub skipped-took : MovesCursor x x1 → MovesReader y y1 → MovesCursor y1 y2 → MovesReader x1 x2 → KeepsAll wire x y x1 y1 → KeepsAll wire y1 x1 y2 x2
      → (took_count wire x2 ≡ took_count wire x) × (took_count wire y2 ≡ took_count wire y)
  skipped-took x_moved y_read y_moved x_read first second = search rules

  pub skipped-work : Skipped wire x y x1 y1 x2 y2 → work_left wire x2 y2 ≤ work_left wire x y
  skipped-work it = search rules

  -- what was all taken is so still, where x waits
  pub skipped-taken : Skipped wire x y x1 y1 x2 y2 → Waiting (side_of x) → AllTaken wire x y → AllTaken wire x2 y2
  skipped-taken it waits all = search rules

  -- so what is reached from there is reached from before
  pub skipped-steps : {whole : Bool} {new : Wire} {later_x later_y : Half} → Skipped wire x y x1 y1 x2 y2 → Waiting (side_of x)
      → StepTo whole wire x2 y2 new later_x later_y → StepTo whole wire x y new later_x later_y
  skipped-steps it waits step = record {
    holds = step.holds;
    less = omega (arith, step.less, skipped-work it);
    underway = λ on. step.underway (skipped-underway it on);
    taken = λ all. step.taken (skipped-taken it waits all);
    x_same = same_trans (skip_same it.x_moved it.x_read) step.x_same;
    y_same = same_trans (read_same it.y_read it.y_moved) step.y_same;
    talks = λ talk talks. step.talks talk (it.talks talk talks);
  }

-- x waits there, too
pub skipped-waits : (x : Half) {x1 x2 : Half} → MovesCursor x x1 → MovesReader x1 x2 → Waits x.sender → Waits x2.sender
skipped-waits x moved read waits = search rules

-- ---- a step

-- what five clauses on Ok give
pub of_five : {T E A B C D F G : Type 0} (r : Result T E) → (A → B → C → D → F → G) → OnOk r A → OnOk r B → OnOk r C → OnOk r D → OnOk r F → OnOk r G
of_five (Ok x) f a b c d e = f a b c d e
of_five (Err y) f a b c d e = tt

-- what holds anyhow holds on Ok
pub fine : {T E A : Type 0} (r : Result T E) → A → OnOk r A
fine (Ok x) a = a
fine (Err y) a = tt

module _ {wire : Wire} {x y : Half} {new : Wire} {later_x later_y : Half} where
  -- y took the next frame of x, which waits
  pub own_step : {heard : Heard} {whole : Bool} → whole ≡ makes_whole heard → Holds wire x y → Waits x.sender → StillUnderway heard wire x y new later_x later_y
      → TurnBehind heard new later_y later_x
      → Holds new later_x later_y → work_left new later_x later_y < work_left wire x y → later_x ≡ moved x → SameMessage y later_y
      → StepTo whole wire x y new later_x later_y
  own_step {heard} is before waits still turn holds less x_moved y_same = record {
    holds = holds;
    less = less;
    underway = λ on. subst (λ w. Reaches w new later_x later_y) (sym is) (go heard turn (still.own on));
    taken = λ all. still.own_taken (waits_now before.x_half waits) all;
    x_same = moved_same x_moved;
    y_same = y_same;
    talks = still.talks;
  } where
    go : (heard : Heard) → TurnBehind heard new later_y later_x → UnderwayBehind heard new later_x later_y → Reaches (makes_whole heard) new later_x later_y
    go Nothing turn now = now
    go (Ack key) turn now = now
    go (Data key Accepted) turn now = now
    go (Data key Repeated) turn now = now
    go (Data key Dropped) turn now = now
    go (Data key Whole) turn now = record { turn = turn.0; waits = subst (λ h. Waits h.sender) (sym x_moved) waits; message = turn.1; acked = turn.2 }

  -- x, which waits, took the next frame of y
  pub other_step : {heard : Heard} → Apart x.end y.end → Waiting (side_of x) → StillUnderway heard wire y x new later_y later_x → Holds new later_y later_x
      → work_left new later_y later_x < work_left wire y x → SameMessage x later_x → SameMessage y later_y
      → StepTo false wire x y new later_x later_y
  other_step apart waits still holds less x_same y_same = record {
    holds = holds_turned holds;
    less = omega (arith, less, work_turned wire x y, work_turned new later_x later_y);
    underway = λ on. still.other on;
    taken = λ all. still.other_taken waits all;
    x_same = x_same;
    y_same = y_same;
    talks = talk_turned wire y x new later_y later_x (apart_turned apart) holds.apart still.talks;
  }

  -- a tick, with the timer of x first
  pub tick_step : Waiting (side_of x) → StillUnderway Nothing wire x y new later_x later_y → Holds new later_x later_y
      → work_left new later_x later_y < work_left wire x y → Stays x later_x → Stays y later_y
      → StepTo false wire x y new later_x later_y
  tick_step waits still holds less x_stays y_stays = record {
    holds = holds;
    less = less;
    underway = λ on. still.own on;
    taken = λ all. still.own_taken waits all;
    x_same = stays_same x_stays;
    y_same = stays_same y_stays;
    talks = still.talks;
  }

-- and with the timer of y first
module _ {wire : Wire} {x y : Half} where
  pub tick_back : {new : Wire} {later_x later_y : Half} → Apart x.end y.end → Waiting (side_of x) → StillUnderway Nothing wire y x new later_y later_x
      → Holds new later_y later_x → work_left new later_y later_x < work_left wire y x → Stays y later_y → Stays x later_x
      → StepTo false wire x y new later_x later_y
  tick_back apart waits still holds less y_stays x_stays = other_step apart waits still holds less (stays_same x_stays) (stays_same y_stays)

  pub underway-waits : Holds wire x y → Underway wire x y → Waits x.sender
  underway-waits holds it = waits_then holds.x_half it.waits

  pub not_over : {whole : Bool} → whole ≡ false → Reaches whole wire x y → Underway wire x y
  not_over is reached = search rules

  pub is_over : {whole : Bool} → whole ≡ true → Reaches whole wire x y → HasMessage wire x y
  is_over is reached = search rules

  -- ---- an end that waits until all was acknowledged

  pub taken-turn : Turn wire y x → Waits x.sender → AllTaken wire x y
  taken-turn turn waits = search rules

-- what isn't awaited was taken
none_fresh : (fresh : Bool) (side : Side) → (fresh ≡ true → Waiting side) → piece_count (length side.message) ≤ side.acknowledged → fresh ≡ false
none_fresh false side waits over = refl
none_fresh true side waits over = absurd (omega (arith, waits refl, over))

pub taken-settled : {wire : Wire} {x y : Half} → Holds wire x y → AllTaken wire x y → (Waits x.sender → ⊥) → Turn wire x y
taken-settled holds taken idle = search rules
