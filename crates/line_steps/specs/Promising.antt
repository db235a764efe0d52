-- What the frames of a line promise, while it runs and where it halted.
use Rattle.std.specs.Prelude.{◌≡◌, ◌⊎◌, ℕ, ◌-◌, ◌<◌, List, length, map, take}
use Rattle.line_script.specs.Rules.{RuleValue}
use Rattle.line_script.specs.Scripts.{fate_by}
use Rattle.trace_text.specs.declared.frame.End.{End}
use Rattle.trace_text.specs.declared.frame.End.TheVariants.{Handheld, Desktop}
use Rattle.trace_text.specs.declared.frame.Frame.{Frame}
use Rattle.trace_text.specs.Proper.{IsProper}
use Rattle.trace_text.specs.Stories.{IsStory}
use Rattle.trace_text.specs.Talks.{Talk, messages_of}
use Rattle.trace_text.specs.Tallies.{IsFairUpTo}
use Rattle.trace_text.specs.TraceLines.{FrameValue, frame_value}
use Rattle.line_steps.specs.declared.half.Half.{Half}
use Rattle.line_steps.specs.declared.half.Wire.{Wire}
use Rattle.line_steps.specs.declared.sending.Halt.{Halt}
use Rattle.line_steps.specs.Adding.{AllBy}
use Rattle.line_steps.specs.Halting.{HaltsBy, IsSpent, Spoke}
use Rattle.line_steps.specs.Running.{past_now, AllGo, Holds}
use Rattle.line_steps.specs.Stories.{told_from}
use Rattle.line_steps.specs.Telling.{cursor_of, Talks, RecordsFrames}
use Rattle.line_steps.specs.Turning.{Turn}

-- the frames of a running line are a proper trace
abbrev pub RunningIsProper : Type 0
RunningIsProper =
    (script : List RuleValue) (talk : Talk) (wire : Wire) (x y : Half) → x.end ≡ Handheld
    → Holds wire x y → Talks talk wire x y → RecordsFrames script wire x y
    → IsProper (fate_by script) talk (map frame_value wire.frames.items)

-- so are those of a line that halted, for whatever reason
abbrev pub HaltedIsProper : Type 0
HaltedIsProper =
    (halt : Halt) (script : List RuleValue) (talk : Talk) (wire : Wire) (x y : Half)
    → x.end ≡ Handheld → y.end ≡ Desktop
    → HaltsBy halt (cursor_of x y) wire.frames.items → Spoke talk wire x y
    → RecordsFrames script wire x y
    → IsProper (fate_by script) talk (map frame_value wire.frames.items)

-- over a script that is fair up to the last of its frames no line goes down
abbrev pub FairIsNeverDown : Type 0
FairIsNeverDown =
    (script : List RuleValue) (frames : List Frame) (cursor : End → ℕ) (end : End)
    → AllBy script 1 frames → AllGo 1 frames
    → IsFairUpTo (length frames) (fate_by script) → IsSpent end cursor (past_now frames) → ⊥

-- What the frames tell the end that takes the messages of X: these, all of them or all but the last
-- one.
abbrev pub TellsOf : End → List (List ℕ) → List FrameValue → Type 0
TellsOf X messages frames = IsStory X frames (told_from 0 messages)
    ⊎ ((0 < length messages) × IsStory X frames (told_from 0 (take (length messages - 1) messages)))

-- so the frames of a line that halted, and of one that runs, tell both ends the messages of the
-- talk
abbrev pub HaltedTells : Type 0
HaltedTells =
    (halt : Halt) (script : List RuleValue) (talk : Talk) (wire : Wire) (x y : Half)
    → HaltsBy halt (cursor_of x y) wire.frames.items → Spoke talk wire x y
    → RecordsFrames script wire x y
    → TellsOf x.end (messages_of x.end talk) (map frame_value wire.frames.items)
    × TellsOf y.end (messages_of y.end talk) (map frame_value wire.frames.items)

-- and where it is the turn of an end, all of them
abbrev pub TurnTellsAll : Type 0
TurnTellsAll =
    (script : List RuleValue) (talk : Talk) (wire : Wire) (x y : Half) → Turn wire x y
    → Talks talk wire x y → RecordsFrames script wire x y
    → IsStory x.end (map frame_value wire.frames.items) (told_from 0 (messages_of x.end talk))
    × IsStory y.end (map frame_value wire.frames.items) (told_from 0 (messages_of y.end talk))
