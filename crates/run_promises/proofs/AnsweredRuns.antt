-- No request of a run is refused.
use Rattle.std.proofs.Common.{arith, ℕ, List}
use Rattle.std.specs.List.{AllByRecursion}
use Rattle.line_script.specs.Rules.{RuleValue}
use Rattle.made_folders.specs.Items.{made}
use Rattle.made_folders.specs.declared.item.Item.{Item}
use Rattle.run_words.specs.Runs.{Run}
use Rattle.session_plan.specs.Tasks.{Meeting}
use Rattle.front_laws.specs.Answered.{IsAnsweredExchange}
use Rattle.call_parts.specs.Causes.{ByEnd}
use Rattle.call_parts.specs.LineRuns.{exchanges_in}
use Rattle.cmd_session.specs.Makes.{IsMake, MadeNothing, MadeRan}
use Rattle.call_parts.specs.Reports.{IsNotStarted}
use Rattle.cmd_session.specs.Runs.{IsRun, SessionRan, run_command}
use Rattle.call_parts.specs.SessionCalls.{SentNothing}
use Rattle.cmd_session.specs.Talks.{BegunSession}
use Rattle.cmd_status.specs.Told.{SinkTold}
use Rattle.call_parts.specs.Told.{CallTold, SidesTold}
use Rattle.call_parts.specs.declared.report.Report.{Report}
use Rattle.call_parts.specs.declared.report.SessionEnd.{SessionEnd}
use Rattle.call_parts.specs.declared.report.SessionEnd.TheVariants.{NotStarted, Ended, Stopped}
use Rattle.cmd_status.specs.declared.status.Status.{Status}
use Rattle.cmd_session.proofs.AnsweredLaws.{AreAnswered, session_answered}

talked_answered : {rules : List RuleValue} {meeting : Meeting} {before after : SidesTold} {status : Status} {report : Report}
    → BegunSession rules meeting before after status report → AreAnswered report
talked_answered talked = session_answered talked.spoke.line talked.left

not_started : {report : Report} → IsNotStarted report → AreAnswered report
not_started is = grind arith

-- ---- runs, and sessions between made folders

pub run-answered : (run : Run) (before after : CallTold) (out out_after : SinkTold) (status : Status) (report : Report)
    → IsRun run before after out out_after status report → AllByRecursion IsAnsweredExchange (exchanges_in report)
run-answered run before after out out_after status report is = by report.end is.ran.shown
  where
    session : SessionRan run before after status report → AreAnswered report
    session ran = talked_answered ran.talked

    by : (end : SessionEnd) → ByEnd end (SentNothing (run_command run) before after status report) (SessionRan run before after status report) → AreAnswered report
    by NotStarted sent = not_started sent.report_is
    by Ended ran = session ran
    by Stopped ran = session ran

pub made-answered : (seed count : ℕ) (out out_after : SinkTold) (status : Status) (report : Report) → IsMake seed count out out_after status report
    → AllByRecursion IsAnsweredExchange (exchanges_in report)
made-answered seed count out out_after status report is = by report.end is.ran
  where
    items : List Item
    items = made seed count

    session : MadeRan items status report → AreAnswered report
    session ran =
        talked_answered ran.talked.talked

    by : (end : SessionEnd) → ByEnd end (MadeNothing status report) (MadeRan items status report) → AreAnswered report
    by NotStarted nothing = not_started nothing.report_is
    by Ended ran = session ran
    by Stopped ran = session ran
