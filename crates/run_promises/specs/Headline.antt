-- What a run promises whose session began: the page behind the README's "What you can rely on".
-- What it cites are chapters: the handheld's steps (`DeviceRun`), a proper trace (`IsProper`), what
-- the frames tell (`DealtWith`), what a session says (`requests`), its merge (`merged_device`,
-- `merged_slots`), what folders stand for (`Stands`, `FinishesAs`, `StandsForSlots`).
use Rattle.std.specs.Prelude.{◌≡◌, ◌⊎◌, ℕ, List, length, map, IsSome}
use Rattle.std.specs.Option.{option_map}
use Rattle.hs_folders.specs.Moments.{EachMomentSince}
use Rattle.palm_device.specs.Devices.{Device}
use Rattle.dlp_commands.specs.DeviceRuns.{DeviceRun}
use Rattle.handheld_files.specs.Openings.{Stands}
use Rattle.trace_text.specs.Proper.{IsProper}
use Rattle.trace_text.specs.Tallies.{IsFairUpTo}
use Rattle.trace_text.specs.TraceLines.{trace_text}
use Rattle.line_script.specs.Rules.{RuleValue}
use Rattle.line_script.specs.Scripts.{fate_by}
use Rattle.line_world.specs.Causes.{BearsOut}
use Rattle.line_world.specs.Logs.{said_in}
use Rattle.line_world.specs.Worlds.{IsLog, TellBoth}
use Rattle.desk_journal.specs.Overlays.{FinishesAs, finished}
use Rattle.desktop_session.specs.Acts.{text}
use Rattle.desktop_session.specs.Says.{IsPrefix}
use Rattle.sync_session.specs.Fronts.{MeetingFront}
use Rattle.session_plan.specs.Limits.{first_over}
use Rattle.session_plan.specs.Losses.{first_loss}
use Rattle.session_plan.specs.Merges.{merged_slots}
use Rattle.sync_session.specs.Outcomes.{StandsForSlots}
use Rattle.sync_session.specs.Sessions.{before_writes, requests}
use Rattle.session_plan.specs.Tasks.{Meeting}
use Rattle.call_parts.specs.Causes.{EndsAs, IsLineDown, cause_in}
use Rattle.cmd_session.specs.Ends.{EndedSession, IsToldRefusal, StatusShows, StoppedBefore, StoppedBehind}
use Rattle.run_promises.specs.Equal.{AreEqualBehind}
use Rattle.run_promises.specs.Kept.{KeepsBytes}
use Rattle.run_promises.specs.RunCalls.{RunCall}
use Rattle.call_parts.specs.LineRuns.{frames_in, log_in}
use Rattle.cmd_session.specs.Meetings.{Meets}
use Rattle.call_parts.specs.Scripts.{IsScripted}
use Rattle.call_parts.specs.SessionCalls.{BlamesByCount}
use Rattle.call_parts.specs.Stops.{TellsStop}
use Rattle.cmd_session.specs.Talks.{DesktopRan}
use Rattle.call_parts.specs.Traces.{TakesTrace}
use Rattle.call_parts.specs.Undisturbed.{EndsWell}
use Rattle.cmd_session.specs.Undisturbed.{IsUndisturbed}
use Rattle.call_parts.specs.Whole.{DealtWith}
use Rattle.call_parts.specs.declared.report.SessionEnd.TheVariants.{Ended, Stopped}

-- ---- the sentences

-- What is sent acts at most once: what was performed was sent, in order and each once, or all but
-- the last of it, and each was one step of the handheld, with its reply. So many were answered: of
-- these the frames tell the desktop the replies, and of no other but the one that it was not dealt
-- with any more.
pub record ActsOnce (meeting : Meeting) (reached : Device) (call : RunCall) : Type 0 where
  pub answered : ℕ
  pub once : IsLog (log_in call.report) answered
  pub dealt : DealtWith (requests meeting) call.status call.report answered
  pub steps : DeviceRun meeting.device (log_in call.report).performed (log_in call.report).replies
      reached

-- A line is what it says: the frames are a proper trace of that by the script, they tell each end
-- what the other one said, or all but the last of it, and their text was written where a trace is
-- named.
pub record IsWhatItSays (rules : List RuleValue) (call : RunCall) : Type 0 where
  pub trace : IsProper (fate_by rules) (said_in (log_in call.report)) (frames_in call.report)
  pub told : TellBoth (said_in (log_in call.report)) (frames_in call.report)
  pub written : TakesTrace call.run.trace (trace_text (frames_in call.report)) call.before.trace
      call.after.trace call.status

-- A stop has the cause that is told: the status says whether it ended, the frames bear the cause
-- out, and where the last frame ends the run the cause is that frame, unless memory ran out. An
-- object is blamed only where it failed, and another user, a limit and a new handheld are those
-- that both sides show.
pub record TellsCause (meeting : Meeting) (call : RunCall) : Type 0 where
  pub ends : EndsAs call.status call.report.end
  pub cause : BearsOut (cause_in call.status call.report.faulted.items) (frames_in call.report)
  pub stops : TellsStop call.status (frames_in call.report)
  pub blames : BlamesByCount call.before call.after call.status
  pub shows : StatusShows meeting call.report call.status
  pub refused : IsToldRefusal meeting call.status

-- Where a line is fair, it does not go down.
abbrev pub FairStaysUp : List RuleValue → RunCall → Type 0
FairStaysUp rules call =
    IsFairUpTo (length (frames_in call.report)) (fate_by rules) → ¬ IsLineDown call.status

-- An ended session leaves both sides at the merge, and what was sent begins that session. One that
-- stopped left the desktop as it was, or merged, and the handheld behind the first of the session's
-- writes. The desktop's folder changed once at most: it stood for what it stood for, and from some
-- moment on for the merge, or still for that. Of the handheld's files only the information file and
-- those of databases that the session doesn't skip changed, and of the desktop's, once a journal
-- that was left is finished, only its information file and those of such databases in the picked
-- slot. Where a limit would be passed nothing was written, nor where the session would cost the
-- desktop live rows.
pub record LeavesTheMerge (meeting : Meeting) (reached : Device) (call : RunCall) : Type 0 where
  pub begins : IsPrefix (log_in call.report).issued (requests meeting)
  pub ended : call.report.end ≡ Ended
      → EndedSession meeting call.after.palm call.after.desk call.report
  pub stopped : call.report.end ≡ Stopped
      → StoppedBefore meeting call.before.desk call.after.desk call.report
      ⊎ StoppedBehind meeting call.after.desk call.report
  pub commit : DesktopRan meeting (option_map finished call.before.desk.contents) call.before.desk
      call.after.desk call.report.end
  pub given : List ℕ
  pub merged : EachMomentSince
      (λ told. FinishesAs call.before.desk.contents told
      ⊎ StandsForSlots (merged_slots meeting given) told) commit.between call.after.desk.moments
  pub handheld : MeetingFront meeting call.report.writes call.report.given.items reached
  pub files : KeepsBytes meeting call.before.palm.contents call.after.palm.contents
  pub limit : IsSome (first_over meeting)
      → IsPrefix (log_in call.report).issued (map text (before_writes meeting))
  pub loss : IsSome (first_loss meeting)
      → IsPrefix (log_in call.report).issued (map text (before_writes meeting))

-- An ended run leaves both sides equal, in each database that was shown whole.
abbrev pub EndsEqual : Meeting → RunCall → Type 0
EndsEqual meeting call = call.report.end ≡ Ended → AreEqualBehind meeting call

-- A run that nothing disturbs is done.
abbrev pub IsDoneUndisturbed : RunCall → Type 0
IsDoneUndisturbed call =
    IsUndisturbed call.run call.before call.after call.out call.out_after call.report
    → EndsWell call.status call.report

-- ---- all of them

-- Of a run whose session began, by the script that was read, between the sides that its folders
-- held, with the handheld that its folder stands for in the end.
pub record Headline (rules : List RuleValue) (meeting : Meeting) (call : RunCall) : Type 0 where
  pub scripted : IsScripted call.run.script call.before.source.left rules
  pub meets : Meets call.run call.before meeting
  pub reached : Device
  pub stands : Stands call.after.palm.contents reached.databases reached.user
  pub once : ActsOnce meeting reached call
  pub line : IsWhatItSays rules call
  pub cause : TellsCause meeting call
  pub fair : FairStaysUp rules call
  pub leaves : LeavesTheMerge meeting reached call
  pub equal : EndsEqual meeting call
  pub done : IsDoneUndisturbed call
