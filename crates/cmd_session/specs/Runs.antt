-- What holds of every run: all objects before it, and all of them after it.
use Rattle.std.specs.Prelude.{List, Some}
use Rattle.std.specs.Option.{option_map}
use Rattle.trace_text.specs.TraceLines.{trace_text}
use Rattle.line_script.specs.Rules.{RuleValue}
use Rattle.desk_journal.specs.Overlays.{finished}
use Rattle.run_words.specs.Runs.{Run}
use Rattle.session_plan.specs.Tasks.{Meeting}
use Rattle.call_parts.specs.LineRuns.{frames_in}
use Rattle.cmd_session.specs.Meetings.{Meets}
use Rattle.call_parts.specs.Judges.{Refuses, desktop_judges}
use Rattle.call_parts.specs.Refusals.{LeavesDesktopUnread}
use Rattle.call_parts.specs.Scripts.{IsScripted}
use Rattle.call_parts.specs.SessionCalls.{IsSessionCall, MayHaveSession, Paths, SessionCommand}
use Rattle.call_parts.specs.Stays.{StaysAsItWas}
use Rattle.cmd_session.specs.Talks.{DesktopRan, BegunSession}
use Rattle.cmd_status.specs.Told.{SinkTold}
use Rattle.call_parts.specs.Stays.{StandsAsItDid}
use Rattle.call_parts.specs.Told.{CallTold, FolderTold, sides_of}
use Rattle.call_parts.specs.Traces.{TakesTrace}
use Rattle.cmd_session.specs.Undisturbed.{IsUndisturbed}
use Rattle.call_parts.specs.declared.report.Report.{Report}
use Rattle.cmd_status.specs.declared.status.Status.{Status}

-- ---- a run that sent nothing

-- its script is judged, the handheld's folder, the desktop's and the trace, in this order
abbrev pub RunRefuses : Run → CallTold → Status → Type 0
RunRefuses run before refusal = Refuses (desktop_judges run.script) run.trace before refusal

-- what a run that sent nothing keeps of the desktop's folder: what it stood for, and all of it
-- where it was not read
pub record KeepsDesktop (before after : FolderTold) (status : Status) : Type 0 where
  pub stands : StandsAsItDid before after
  pub unread : LeavesDesktopUnread status → StaysAsItWas before after

-- ---- a run with a session

-- Both sides before it; the script; how the desktop's folder was changed; all that is known of the
-- session between both; and what the trace took.
pub record SessionRan (run : Run) (before after : CallTold) (status : Status) (report : Report)
    : Type 0 where
  pub rules : List RuleValue
  pub scripted : IsScripted run.script before.source.left rules
  pub meeting : Meeting
  pub meets : Meets run before meeting
  pub changed : DesktopRan meeting (option_map finished before.desk.contents) before.desk
      after.desk report.end
  pub talked : BegunSession rules meeting (sides_of before) (sides_of after) status report
  pub traced : TakesTrace run.trace (trace_text (frames_in report)) before.trace after.trace status

-- ---- every run

-- the paths of a run's words
abbrev pub run_paths : Run → Paths
run_paths run = record {
  handheld = Some run.handheld;
  desktop = Some run.desktop;
  source = run.script;
  trace = run.trace;
}

-- a run as a command: the script, both folders and the trace are judged, in this order
abbrev pub run_command : Run → SessionCommand
run_command run = record {
  paths = run_paths run;
  Judged = λ before refusal. RunRefuses run before refusal;
  Kept = λ before after status. KeepsDesktop before after status;
  Had = λ before after status report. SessionRan run before after status report;
  Undisturbed = λ before after out said report. IsUndisturbed run before after out said report;
}

-- what is known of a run before its lines are printed
abbrev pub HasRun : Run → CallTold → CallTold → Status → Report → Type 0
HasRun run before after status report = MayHaveSession (run_command run) before after status report

-- what is known of a run
abbrev pub IsRun : Run → CallTold → CallTold → SinkTold → SinkTold → Status → Report → Type 0
IsRun run before after out out_after status report =
    IsSessionCall (run_command run) before after out out_after status report
