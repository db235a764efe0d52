-- What the frames tell of the messages, over each step.
use Rattle.line_steps.proofs.Names.{rules, ◌≡◌, ℕ, ◌+◌, Bool, false, List, refl, subst, End, Handheld, Desktop, PastFrame, is_end, said, acked, Talk, Apart, Side}
use Rattle.line_steps.proofs.Names.{Follows, TalkingAt, Moves, Half, Wire, past_now, side_of, Holds, HeardOf, cursors, cursor_of, TellsTalk, Talks, KeepsTalk}

-- ---- the cursors

pub cursor_own : (X : End) (own other : ℕ) → cursors X own other X ≡ own
cursor_own Handheld own other = refl
cursor_own Desktop own other = refl

pub cursor_other : (X Y : End) (own other : ℕ) → is_end X Y ≡ false → cursors X own other Y ≡ other
cursor_other Handheld Handheld own other apart = absurd cc
cursor_other Handheld Desktop own other apart = refl
cursor_other Desktop Handheld own other apart = refl
cursor_other Desktop Desktop own other apart = absurd cc

pub cursor_moves : {X Y : End} (own other : ℕ) → is_end X Y ≡ false → Moves X Y (cursors X own other) (cursors X (own + 1) other)
cursor_moves own other apart = search rules

cursor_same : (X Y : End) (own other : ℕ) → is_end X Y ≡ false → (Z : End) → cursors X own other Z ≡ cursors Y other own Z
cursor_same Handheld Handheld own other apart Z = absurd cc
cursor_same Handheld Desktop own other apart Handheld = refl
cursor_same Handheld Desktop own other apart Desktop = refl
cursor_same Desktop Handheld own other apart Handheld = refl
cursor_same Desktop Handheld own other apart Desktop = refl
cursor_same Desktop Desktop own other apart Z = absurd cc

pub cursor_turned : (X Y : End) (own other : ℕ) → is_end X Y ≡ false → cursors X own other ≡ cursors Y other own
cursor_turned X Y own other apart = λ i Z. cursor_same X Y own other apart Z i

-- ---- whether the newest fragment wasn't taken yet is told by what was said and acknowledged

pub talking_as : {X Y : End} {talk : Talk} {cursor : End → ℕ} {past : List PastFrame} {x y : Side} {fx fy : Bool} → Follows (said X past) (acked Y past) fx
    → Follows (said Y past) (acked X past) fy
    → TellsTalk X Y talk cursor past x y → TalkingAt X Y talk cursor past x y fx fy
talking_as there back talked = search rules

pub talking_now : {talk : Talk} {wire : Wire} {x y : Half} → (holds : Holds wire x y) → Talks talk wire x y
    → TalkingAt x.end y.end talk (cursor_of x y) (past_now wire.frames.items) (side_of x) (side_of y) holds.fx holds.fy
talking_now holds talked =
    talking_as holds.line.core.there.follows holds.line.core.back.follows talked

-- what was taken of each end, by the cursors themselves
pub x_heard_as : {talk : Talk} (wire : Wire) (x y : Half) (fx : Bool)
    → Follows (said x.end (past_now wire.frames.items)) (acked y.end (past_now wire.frames.items)) fx → Talks talk wire x y
    → HeardOf x.end (past_now wire.frames.items) x.taken fx (side_of x)
x_heard_as wire x y fx there talked = search rules

pub y_heard_as : {talk : Talk} (wire : Wire) (x y : Half) (fy : Bool) → is_end x.end y.end ≡ false
    → Follows (said y.end (past_now wire.frames.items)) (acked x.end (past_now wire.frames.items)) fy → Talks talk wire x y
    → HeardOf y.end (past_now wire.frames.items) y.taken fy (side_of y)
y_heard_as wire x y fy apart back talked = search rules

pub x_heard_now : {talk : Talk} {wire : Wire} {x y : Half} → (holds : Holds wire x y) → Talks talk wire x y
    → HeardOf x.end (past_now wire.frames.items) x.taken holds.fx (side_of x)
x_heard_now holds talked = search rules

pub y_heard_now : {talk : Talk} {wire : Wire} {x y : Half} → (holds : Holds wire x y) → Talks talk wire x y
    → HeardOf y.end (past_now wire.frames.items) y.taken holds.fy (side_of y)
y_heard_now holds talked = search rules

-- and the other way, for cursors that stand there
pub at_own : (X Y : End) (own other : ℕ) (past : List PastFrame) (fx : Bool) (side : Side) → HeardOf X past own fx side
    → HeardOf X past (cursors X own other X) fx side
at_own X Y own other past fx side heard = search rules

pub at_other : (X Y : End) (own other : ℕ) (past : List PastFrame) (fy : Bool) (side : Side) → is_end X Y ≡ false → HeardOf Y past other fy side
    → HeardOf Y past (cursors X own other Y) fy side
at_other X Y own other past fy side apart heard = search rules

talked_turned : {X Y : End} {talk : Talk} {cursor : End → ℕ} {past : List PastFrame} {x y : Side} → TellsTalk X Y talk cursor past x y → TellsTalk Y X talk cursor past y x
talked_turned talked = search rules

pub talks_turned : {talk : Talk} (wire : Wire) (x y : Half) → Apart x.end y.end → Talks talk wire x y → Talks talk wire y x
talks_turned {talk} wire x y apart talked =
    subst (λ c. TellsTalk y.end x.end talk c (past_now wire.frames.items) (side_of y) (side_of x)) (cursor_turned x.end y.end x.taken y.taken apart.there)
    (talked_turned talked)

pub talk_turned : (wire : Wire) (x y : Half) (new : Wire) (later_x later_y : Half) → Apart x.end y.end → Apart later_x.end later_y.end
    → KeepsTalk wire x y new later_x later_y → KeepsTalk wire y x new later_y later_x
talk_turned wire x y new later_x later_y apart later_apart keeps = λ talk talks. talks_turned new later_x later_y later_apart
    (keeps talk (talks_turned wire y x (record { there = apart.back; back = apart.there }) talks))
