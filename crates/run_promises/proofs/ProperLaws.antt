-- The trace of a run is proper by itself, since both ends begin with their greetings.
use Rattle.std.proofs.Common.{refl, arith, ℕ, List, [], ◌∷◌}
use Rattle.cmp_hello.specs.HelloText.{HelloText}
use Rattle.cmp_hello.specs.declared.hello.HelloKind.TheVariants.{Wake, Init}
use Rattle.line_script.specs.Scripts.{fate_by}
use Rattle.line_steps.specs.TalkTelling.{bytes_of, init, wake}
use Rattle.line_world.specs.Logs.{said_in}
use Rattle.trace_check.specs.Judging.{IsProperTrace}
use Rattle.trace_check.specs.Messages.{IsGreeting}
use Rattle.trace_check.proofs.TalkLaws.{proper-trace}
use Rattle.palm_device.specs.Devices.{Device}
use Rattle.line_script.specs.Rules.{RuleValue}
use Rattle.made_folders.specs.Items.{made}
use Rattle.made_folders.specs.declared.item.Item.{Item}
use Rattle.cmd_status.specs.Told.{SinkTold}
use Rattle.cmd_status.specs.declared.status.Status.{Status}
use Rattle.call_parts.specs.Causes.{ByEnd, HasBegun}
use Rattle.run_promises.specs.RunCalls.{IsAnsweredRun, RunCall}
use Rattle.call_parts.specs.LineRuns.{LineRan, frames_in, log_in}
use Rattle.cmd_session.specs.Makes.{IsMake, MadeNothing, MadeRan}
use Rattle.call_parts.specs.Told.{FolderTold}
use Rattle.call_parts.specs.declared.report.Report.{Report}
use Rattle.call_parts.specs.declared.report.SessionEnd.{SessionEnd}
use Rattle.call_parts.specs.declared.report.SessionEnd.TheVariants.{NotStarted, Ended, Stopped}
use Rattle.run_promises.proofs.HeadlineLaws.{line-is}

wake_text : HelloText wake (bytes_of wake)
wake_text = record { unread = 0 ∷ 0 ∷ []; two = refl; rate_fits = omega arith; is = refl }

init_text : HelloText init (bytes_of init)
init_text = record { unread = 0 ∷ 0 ∷ []; two = refl; rate_fits = omega arith; is = refl }

wakes : IsGreeting Wake (bytes_of wake)
wakes = record { hello = wake; text = wake_text; kind_is = refl }

inits : IsGreeting Init (bytes_of init)
inits = record { hello = init; text = init_text; kind_is = refl }

line_proper : {rules : List RuleValue} {device : Device} {before after : FolderTold} {report : Report} → LineRan rules device before after report
    → IsProperTrace (frames_in report)
line_proper {rules} {report = report} line =
    proper-trace (fate_by rules) (said_in (log_in report)) (frames_in report) line.proper wakes inits

pub run-proper : (call : RunCall) → IsAnsweredRun call → HasBegun call.report.end → IsProperTrace (frames_in call.report)
run-proper call is begun =
    let said = line-is call is begun in
    proper-trace (fate_by said.0) (said_in (log_in call.report)) (frames_in call.report) said.2.trace wakes inits

pub made-proper : (seed count : ℕ) (out out_after : SinkTold) (status : Status) (report : Report) → IsMake seed count out out_after status report
    → HasBegun report.end → IsProperTrace (frames_in report)
made-proper seed count out out_after status report is begun = by report.end is.ran begun
  where
    items : List Item
    items = made seed count

    by : (end : SessionEnd) → ByEnd end (MadeNothing status report) (MadeRan items status report) → HasBegun end → IsProperTrace (frames_in report)
    by NotStarted nothing begun = absurd begun
    by Ended ran begun = line_proper ran.talked.talked.spoke.line
    by Stopped ran begun = line_proper ran.talked.talked.spoke.line
