-- What the frames so far tell: the messages of both ends, which frames came, and the fates that a
-- script gave them.
use Rattle.std.specs.Prelude.{◌≡◌, ◌⊎◌, ℕ, ◌+◌, ◌≤◌, ◌<◌, Bool, List, [], length, map}
use Rattle.padp_link.specs.Neighbours.{session_id}
use Rattle.padp_link.specs.Pieces.{piece_count}
use Rattle.line_script.specs.Rules.{RuleValue}
use Rattle.trace_text.specs.declared.frame.End.{End}
use Rattle.trace_text.specs.declared.frame.End.TheVariants.{Handheld, Desktop}
use Rattle.trace_text.specs.Past.{PastFrame, said, acked}
use Rattle.trace_text.specs.Talks.{Talk}
use Rattle.trace_text.specs.TraceLines.{frame_value}
use Rattle.line_laws.specs.Core.{Side, Follows, speaker}
use Rattle.line_laws.specs.Framing.{CameByCursor}
use Rattle.line_laws.specs.Talking.{Talking, count_messages}
use Rattle.line_steps.specs.declared.half.Half.{Half}
use Rattle.line_steps.specs.declared.half.Wire.{Wire}
use Rattle.line_steps.specs.Adding.{AllBy}
use Rattle.line_steps.specs.Advancing.{took_count}
use Rattle.line_steps.specs.Counting.{CountsTaken}
use Rattle.line_steps.specs.Running.{past_now, side_of}
use Rattle.line_steps.specs.Stories.{HeardOf}

-- the cursors of this end and of the other one, for each end
abbrev pub cursors : End → ℕ → ℕ → End → ℕ
cursors Handheld own other Handheld = own
cursors Handheld own other Desktop = other
cursors Desktop own other Handheld = other
cursors Desktop own other Desktop = own

abbrev pub cursor_of : Half → Half → End → ℕ
cursor_of x y = cursors x.end x.taken y.taken

-- nothing was said yet
abbrev pub no_talk : Talk
no_talk = record { handheld = []; desktop = [] }

-- what both ends said of the messages of the talk, what each knows was taken, and what was
pub record TellsTalk (X Y : End) (talk : Talk) (cursor : End → ℕ) (past : List PastFrame)
    (x y : Side) : Type 0 where
  pub fx : Bool
  pub fy : Bool
  pub there : Follows (said X past) (acked Y past) fx
  pub back : Follows (said Y past) (acked X past) fy
  pub talking : Talking X Y talk cursor past (speaker x fx) (speaker y fy)
  pub x_heard : HeardOf X past (cursor X) fx x
  pub y_heard : HeardOf Y past (cursor Y) fy y

abbrev pub Talks : Talk → Wire → Half → Half → Type 0
Talks talk wire x y =
    TellsTalk x.end y.end talk (cursor_of x y) (past_now wire.frames.items) (side_of x) (side_of y)

-- a step says no new message
abbrev pub KeepsTalk : Wire → Half → Half → Wire → Half → Half → Type 0
KeepsTalk wire x y new later_x later_y =
    (talk : Talk) → Talks talk wire x y → Talks talk new later_x later_y

-- each frame has its number and the fate that the script gives it, and came exactly where it
-- arrives and was taken
pub record RecordsFrames (script : List RuleValue) (wire : Wire) (x y : Half) : Type 0 where
  pub by : AllBy script 1 wire.frames.items
  pub came : CameByCursor 1 (cursor_of x y) (map frame_value wire.frames.items)

-- the frames tell what they told, though the cursors pass more of them
pub record KeepsAll (wire : Wire) (x y later_x later_y : Half) : Type 0 where
  pub talks : KeepsTalk wire x y wire later_x later_y
  pub took : took_count wire later_x ≡ took_count wire x
  pub recorded : (script : List RuleValue) → RecordsFrames script wire x y
      → RecordsFrames script wire later_x later_y
  pub counted : CountsTaken wire x y → CountsTaken wire later_x later_y

-- What the next message of x answers: the other end's last one, or nothing, or for the first
-- request the desktop's own greeting, where the other end waits for nothing.
abbrev pub IsInTurn : End → ℕ → ℕ → Half → Type 0
IsInTurn Handheld handheld desktop y =
    ((handheld ≡ 0) × (desktop ≡ 0)) ⊎ ((0 < handheld) × (desktop ≡ handheld + 1))
IsInTurn Desktop handheld desktop y =
    ((handheld ≡ 1) × (desktop ≡ 0))
    ⊎ ((handheld ≡ 1) × (desktop ≡ 1)
    × (piece_count (length y.message) ≤ y.sender.acknowledged))
    ⊎ ((1 < desktop) × (handheld ≡ desktop))

-- so its id is that of its number
pub record IsNextTo (talk : Talk) (x y : Half) (id : ℕ) : Type 0 where
  pub turn : IsInTurn x.end (count_messages Handheld talk) (count_messages Desktop talk) y
  pub id_is : id ≡ session_id (count_messages x.end talk)
