-- What went over the line of a session, and what the handheld made of it.
use Rattle.std.specs.Prelude.{◌≡◌, ℕ, ◌<◌, true, false, List, [], filter, length, map, Option, Some, None}
use Rattle.std.specs.List.{flat_map}
use Rattle.hs_folders.specs.Moments.{EachMomentSince}
use Rattle.palm_device.specs.Devices.{Device}
use Rattle.dlp_commands.specs.Changes.{changes, given_in}
use Rattle.dlp_commands.specs.DeviceRuns.{DeviceRun, Exchange, exchanged}
use Rattle.handheld_files.specs.Openings.{Stands}
use Rattle.slp_frames.specs.Readers.{TallyValue}
use Rattle.trace_text.specs.Proper.{IsProper}
use Rattle.trace_text.specs.TraceLines.{FrameValue, frame_value}
use Rattle.trace_text.specs.declared.frame.End.{End}
use Rattle.trace_text.specs.declared.frame.End.TheVariants.{Handheld, Desktop}
use Rattle.trace_text.specs.declared.frame.Frame.{Frame}
use Rattle.line_script.specs.Rules.{RuleValue}
use Rattle.line_script.specs.Scripts.{fate_by}
use Rattle.line_world.specs.Counts.{CountsOf}
use Rattle.line_world.specs.Folders.{FilesRan, OthersStay, StoodAfterSome}
use Rattle.line_world.specs.Logs.{LogValue, said_in, texts}
use Rattle.line_world.specs.Worlds.{EndsAcknowledged, IsLog, LeavesOff, TellBoth, TellDone, WorldValue}
use Rattle.call_parts.specs.Told.{FolderTold}
use Rattle.call_parts.specs.declared.report.Report.{Report}

-- what was said
abbrev pub log_in : Report → LogValue
log_in report = record {
  issued = texts report.issued.items;
  performed = texts report.performed.items;
  replies = texts report.replies.items;
  given = report.given.items;
}

abbrev pub frames_in : Report → List FrameValue
frames_in report = map frame_value report.frames.items

-- these requests were issued and performed, and no others
pub record SaidAll (requests : List (List ℕ)) (report : Report) : Type 0 where
  pub issued : (log_in report).issued ≡ requests
  pub performed : (log_in report).performed ≡ requests

-- each performed request, with its reply
abbrev pub exchanges_in : Report → List Exchange
exchanges_in report = exchanged (texts report.performed.items) (texts report.replies.items)

-- how many of these requests change databases or the user
unfoldable pub write_count : List (List ℕ) → ℕ
write_count requests = length (filter changes requests)

-- there is a count, and it is that of the reader that took the frames of X
abbrev pub IsCounted : End → Option TallyValue → List Frame → Type 0
IsCounted X None frames = ⊥
IsCounted X (Some tally) frames = CountsOf X tally frames

-- The frames are a proper trace by the script of all that was said, and tell each end all messages
-- of the other one, or all but the last. Each performed request is one that was issued, once and in
-- order, or all but the last are performed; each is one step of the handheld, with its reply, and
-- all replies but the last at most were taken. The folder stands for the handheld after the last
-- step, and at each moment it stood for the handheld after some of them; its files went with the
-- steps, each of which touched one file at most. Where all that was issued was answered, the frames
-- end with the desktop's acknowledgement of the last reply.
pub record LineRan (rules : List RuleValue) (device : Device) (before after : FolderTold)
    (report : Report) : Type 0 where
  pub proper : IsProper (fate_by rules) (said_in (log_in report)) (frames_in report)
  pub told : TellBoth (said_in (log_in report)) (frames_in report)
  pub answered : ℕ
  pub log : IsLog (log_in report) answered
  pub acked : 0 < answered → length (log_in report).issued ≡ answered
      → EndsAcknowledged (log_in report) (frames_in report)
  pub last : Device
  pub ran : DeviceRun device (log_in report).performed (log_in report).replies last
  pub stands : Stands after.contents last.databases last.user
  pub files : FilesRan before.contents device (exchanges_in report) after.contents last
  pub others : OthersStay before.contents after.contents
  pub moments : EachMomentSince
      (StoodAfterSome device (exchanges_in report)) before.moments after.moments
  pub given : (log_in report).given
      ≡ flat_map (λ (exchange : Exchange). given_in exchange.request exchange.reply)
      (exchanges_in report)
  pub writes : report.writes ≡ write_count (log_in report).performed
  pub to_handheld : IsCounted Desktop report.to_handheld report.frames.items
  pub to_desktop : IsCounted Handheld report.to_desktop report.frames.items

-- a report tells all of a world that is left
pub record TellsWorld {F : Type 0} (world : WorldValue F) (report : Report) : Type 0 where
  pub said : log_in report ≡ world.log
  pub frames : frames_in report ≡ world.frames
  pub log : IsLog world.log world.answered
  pub proper : IsProper (fate_by world.script) (said_in world.log) (frames_in report)
  pub told : TellBoth (said_in world.log) (frames_in report)
  pub done : world.begun ≡ true
      → TellDone world.log world.answered world.fault world.cause (frames_in report)
  pub silent : world.begun ≡ false → world.log.issued ≡ []
  pub left_off : LeavesOff world.log world.answered world.fault world.cause
  pub acked : 0 < world.answered → length world.log.issued ≡ world.answered
      → EndsAcknowledged world.log (frames_in report)
  pub writes : report.writes ≡ write_count (log_in report).performed
  pub to_handheld : IsCounted Desktop report.to_handheld report.frames.items
  pub to_desktop : IsCounted Handheld report.to_desktop report.frames.items
