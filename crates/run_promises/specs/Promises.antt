-- The words of the promises: calls for the words of one command, their sessions, and what they
-- leave.
use Rattle.std.specs.Prelude.{◌≡◌, ◌⊎◌, false, Option, None, Some, IsSome}
use Rattle.std.specs.Option.{option_map}
use Rattle.hs_folders.specs.FileMaps.{FileMap}
use Rattle.hs_folders.specs.Moments.{EachMomentSince}
use Rattle.desk_journal.specs.Overlays.{finished}
use Rattle.palm_device.specs.Devices.{Device}
use Rattle.session_plan.specs.Choosing.{is_fast}
use Rattle.session_plan.specs.Limits.{first_over}
use Rattle.session_plan.specs.Tasks.{Meeting, Task}
use Rattle.install_backup.specs.declared.mark.Mark.{Mark}
use Rattle.install_backup.specs.declared.mark.Mark.TheVariants.{Unchanged}
use Rattle.install_backup.specs.InstallFronts.{IsAsItWas}
use Rattle.category_mirror.specs.FilingEnds.{StandsFiled}
use Rattle.category_mirror.specs.Sides.{Filing, block_writes, filing_of}
use Rattle.run_words.specs.Betweens.{Between}
use Rattle.run_words.specs.Commands.{WordTask}
use Rattle.run_words.specs.Runs.{Run}
use Rattle.cmd_status.specs.declared.status.Status.{Status}
use Rattle.cmd_files.specs.Backups.{BackupRan}
use Rattle.run_promises.specs.Calls.{Call, IsAnsweredCall}
use Rattle.cmd_session.specs.DryRuns.{HoldTheSame}
use Rattle.cmd_session.specs.Filings.{CategoriesRan}
use Rattle.run_promises.specs.RunCalls.{RunCall}
use Rattle.cmd_files.specs.Installs.{InstallRan}
use Rattle.cmd_session.specs.Meetings.{Meets}
use Rattle.cmd_files.specs.Restores.{RestoreRan}
use Rattle.cmd_session.specs.Runs.{IsRun}
use Rattle.call_parts.specs.Told.{CallTold}
use Rattle.cmd_session.specs.Undisturbed.{IsCalm}
use Rattle.call_parts.specs.declared.report.Report.{Report}

-- a fact holds of each answered call for words of this command
abbrev pub EachCall : {W : Type 0} → (W → WordTask) → (Call → W → Type 0) → Type 0
EachCall {W} command Fact =
    (call : Call) (words : W) → IsAnsweredCall call → call.task ≡ Some (command words)
    → Fact call words

-- ---- runs

-- nothing disturbs the run but what its folders hold
abbrev pub IsCalmRun : RunCall → Type 0
IsCalmRun call = IsCalm call.run call.before call.after call.out call.out_after call.report

-- no limit would be passed
abbrev pub PassesNoLimit : RunCall → Type 0
PassesNoLimit call =
    (meeting : Meeting) → Meets call.run call.before meeting → first_over meeting ≡ None

-- it answers and writes what a run does over folders that hold the same
abbrev pub RunsOverTheSame : Call → Run → Type 0
RunsOverTheSame call run =
    (first : CallTold) × (last : CallTold) × HoldTheSame call.before call.after first
    × (last.trace ≡ call.after.trace)
    × IsRun run first last call.out call.out_after call.status call.report

-- ---- sessions of calls

-- the session of an install, as the call tells it
abbrev pub InstallSession : Call → Between → Type 0
InstallSession call words = InstallRan words call.before call.after call.status call.report

-- that of a backup
abbrev pub BackupSession : Call → Between → Type 0
BackupSession call words = BackupRan words call.before call.after call.status call.report

-- that of a restore
abbrev pub RestoreSession : Call → Between → Type 0
RestoreSession call words = RestoreRan words call.before call.after call.status call.report

-- that of categories
abbrev pub FilingSession : Call → Between → Type 0
FilingSession call words = CategoriesRan words call.before call.after call.status call.report

-- a run over the handheld that a call left, with any desktop
pub record RunsNext (call : Call) (next : RunCall) (meeting : Meeting) : Type 0 where
  pub told : IsSome next.before.palm.contents
  pub same : next.before.palm.contents ≡ call.after.palm.contents
  pub meets : Meets next.run next.before meeting

-- each such run behind a call that said this mark, if it is one, reads no database fast
abbrev pub IsReadWhole : Mark → Call → Type 0
IsReadWhole mark call =
    ¬ (mark ≡ Unchanged) → (next : RunCall) (meeting : Meeting) → RunsNext call next meeting
    → (task : Task) → is_fast meeting task ≡ false

-- the same, or it meets the handheld as it was
abbrev pub IsReadWholeOrSame : Mark → Device → Call → Type 0
IsReadWholeOrSame mark device call =
    ¬ (mark ≡ Unchanged) → (next : RunCall) (meeting : Meeting) → RunsNext call next meeting
    → ((task : Task) → is_fast meeting task ≡ false) ⊎ IsAsItWas device meeting.device

-- at each moment of the call the handheld's folder told so
abbrev pub HandheldStays : (Option FileMap → Type 0) → Call → Type 0
HandheldStays Fact call =
    EachMomentSince Fact call.before.palm.moments call.after.palm.moments

-- ---- categories

-- what it brought together
abbrev pub filing_in : {words : Between} {before after : CallTold} {status : Status}
    {report : Report} → CategoriesRan words before after status report → Filing
filing_in ran = filing_of ran.device ran.slots

-- this follows where the call got behind the desktop's commit
abbrev pub IfCommitted : Filing → Call → Type 0 → Type 0
IfCommitted filing call Fact =
    StandsFiled filing call.after.desk.contents → call.report.writes ≡ block_writes filing → Fact

-- it leaves the desktop's folder as it was, with a journal that was left finished
abbrev pub LeavesDesktop : Call → Type 0
LeavesDesktop call = call.after.desk.contents ≡ option_map finished call.before.desk.contents
