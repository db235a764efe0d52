-- What is known of every session over a line once it is over, whatever it was to do.
use Rattle.std.specs.Prelude.{◌≡◌, ◌⊎◌, ℕ, List, [], length, Option, Some}
use Rattle.hs_folders.specs.Causes.{Rose}
use Rattle.hs_folders.specs.FileMaps.{FileMap}
use Rattle.hs_folders.specs.Moments.{EachMomentSince}
use Rattle.palm_device.specs.Devices.{Device}
use Rattle.handheld_files.specs.Openings.{Stands}
use Rattle.trace_text.specs.Tallies.{IsFairUpTo}
use Rattle.trace_text.specs.declared.frame.End.{End}
use Rattle.line_script.specs.Rules.{RuleValue}
use Rattle.line_script.specs.Scripts.{fate_by}
use Rattle.line_world.specs.Causes.{BearsOut}
use Rattle.line_world.specs.declared.down.Down.TheVariants as down
use Rattle.desktop_session.specs.Says.{IsPrefix}
use Rattle.session_parts.specs.Fronts.{Front}
use Rattle.call_parts.specs.Causes.{ByEnd, EndsAs, IsLineDown, cause_in}
use Rattle.call_parts.specs.LineRuns.{LineRan, frames_in, log_in}
use Rattle.call_parts.specs.Reports.{IsNotStarted}
use Rattle.call_parts.specs.Stops.{TellsStop}
use Rattle.call_parts.specs.Told.{FolderTold, SidesTold}
use Rattle.call_parts.specs.Whole.{DealtWith}
use Rattle.call_parts.specs.declared.report.Report.{Report}
use Rattle.call_parts.specs.declared.report.SessionEnd.TheVariants.{Stopped}
use Rattle.cmd_status.specs.declared.status.Status.{Status}
use Rattle.cmd_status.specs.declared.status.Status.TheVariants.{HandheldFolder, DesktopFolder, NoMemory}

-- ---- what was said

-- what a session is to say: the rules of its line, the handheld, and all of its requests
pub record Agenda : Type 0 where
  pub rules : List RuleValue
  pub device : Device
  pub asked : List (List ℕ)

-- what a folder told stands for a handheld at a front of these requests: behind some of them, with
-- the writes among them and the ids that these gave
pub record StandsAtFront (device : Device) (asked : List (List ℕ)) (told : Option FileMap)
    : Type 0 where
  pub writes : ℕ
  pub given : List ℕ
  pub reached : Device
  pub front : Front device asked writes given reached
  pub stands : Stands told reached.databases reached.user

-- no frame is named, or these are the last ten that the line did harm, and it went down for them
abbrev pub NamesFaults : Report → Type 0
NamesFaults report =
    (report.faulted.items ≡ [])
    ⊎ ((end : End) × BearsOut (Some (down.LineDown end report.faulted.items)) (frames_in report))

-- What a status says of the frames of a session: how far it came, and its cause where it stopped,
-- which is the last frame where that ends the run. Where the script is fair up to the last frame no
-- line goes down.
pub record SaysWhy (rules : List RuleValue) (status : Status) (report : Report) : Type 0 where
  pub ends : EndsAs status report.end
  pub caused : BearsOut (cause_in status report.faulted.items) (frames_in report)
  pub stops : TellsStop status (frames_in report)
  pub fair : IsFairUpTo (length (frames_in report)) (fate_by rules) → ¬ IsLineDown status
  pub faulted : NamesFaults report

-- A session that began: what went over the line and how far it was dealt with, and why it ended.
-- What was sent begins what is asked. Databases are told where it ended. The handheld stands at a
-- front of that, as its folder did at each moment.
pub record Spoke (agenda : Agenda) (before after : FolderTold) (status : Status) (report : Report)
    : Type 0 where
  pub line : LineRan agenda.rules agenda.device before after report
  pub issued : IsPrefix (log_in report).issued agenda.asked
  pub why : SaysWhy agenda.rules status report
  pub dealt : DealtWith agenda.asked status report line.answered
  pub stopped : report.end ≡ Stopped → report.databases.items ≡ []
  pub front : Front agenda.device agenda.asked report.writes report.given.items line.last
  pub fronts : EachMomentSince (StandsAtFront agenda.device agenda.asked) before.moments
      after.moments

-- the same with what it left of both sides, and what its status shows of them
pub record HadSession (Left : Report → Type 0) (Shows : Status → Report → Type 0) (agenda : Agenda)
    (before after : FolderTold) (status : Status) (report : Report) : Type 0 where
  pub spoke : Spoke agenda before after status report
  pub left : Left report
  pub shows : Shows status report

-- ---- how a command has it

-- memory ran out before anything was sent, and both folders are as they were
pub record KeptSilent (before after : SidesTold) (status : Status) (report : Report) : Type 0 where
  pub memory : status ≡ NoMemory
  pub report_is : IsNotStarted report
  pub handheld : after.palm ≡ before.palm
  pub desktop : after.desk ≡ before.desk

-- a folder that is blamed had its count rise
pub record BlamesFolders (before after : SidesTold) (status : Status) : Type 0 where
  pub handheld : status ≡ HandheldFolder → Rose before.palm.faults after.palm.faults
  pub desktop : status ≡ DesktopFolder → Rose before.desk.faults after.desk.faults

-- neither folder was opened at another path
pub record SamePaths (before after : SidesTold) : Type 0 where
  pub handheld : after.palm.paths ≡ before.palm.paths
  pub desktop : after.desk.paths ≡ before.desk.paths

-- what is known of a session between opened folders, whatever is written of it: it kept silent, or
-- it had the session
pub record IsTalk (Had : Status → Report → Type 0) (before after : SidesTold) (status : Status)
    (report : Report) : Type 0 where
  pub shown : ByEnd report.end (KeptSilent before after status report) (Had status report)
  pub blames : BlamesFolders before after status
  pub paths : SamePaths before after
