-- The handheld of a session refuses no request.
use Rattle.std.proofs.Common.{arith, ◌≡◌, refl, sym, subst, ℕ, List, length, take}
use Rattle.std.specs.Prelude.{Option, Some, None, IsSome}
use Rattle.std.specs.List.{AllByRecursion}
use Rattle.palm_device.specs.Devices.{Device}
use Rattle.dlp_commands.specs.DeviceRuns.{DeviceRun, exchanged}
use Rattle.desktop_session.specs.Says.{IsPrefix}
use Rattle.line_script.specs.Rules.{RuleValue}
use Rattle.session_plan.specs.Limits.{first_over}
use Rattle.session_plan.specs.Tasks.{Meeting}
use Rattle.front_laws.specs.Answered.{IsAnsweredExchange}
use Rattle.front_laws.proofs.OrderRuns.{read-answered, whole-answered}
use Rattle.cmd_session.specs.Ends.{SessionLeft}
use Rattle.call_parts.specs.LineRuns.{LineRan, exchanges_in, log_in}
use Rattle.call_parts.specs.Told.{FolderTold}
use Rattle.call_parts.specs.declared.report.Report.{Report}
use Rattle.call_parts.proofs.FrontLaws.{performed-begins}

-- each request of a report has an answer of its own
abbrev pub AreAnswered : Report → Type 0
AreAnswered report = AllByRecursion IsAnsweredExchange (exchanges_in report)

-- where the performed requests begin these, of which none is refused
module _ {rules : List RuleValue} {before after : FolderTold} {report : Report} where
  run_by : {whole : List (List ℕ)} {device : Device} → LineRan rules device before after report → IsPrefix (log_in report).issued whole
      → ((count : ℕ) (replies : List (List ℕ)) (last : Device) → DeviceRun device (take count whole) replies last
      → AllByRecursion IsAnsweredExchange (exchanged (take count whole) replies))
      → AreAnswered report
  run_by line prefix answered = grind (arith, performed-begins line prefix, length ((log_in report).replies))

  pub session_answered : {meeting : Meeting} {desk desk_after : FolderTold} → LineRan rules meeting.device before after report
      → SessionLeft meeting after desk desk_after report → AreAnswered report
  session_answered {meeting} line left = by (first_over meeting) refl
    where
      by : (o : Option (List ℕ)) → first_over meeting ≡ o → AreAnswered report
      by None none =
          run_by line left.issued (λ count replies last run. whole-answered meeting count replies last left.sound none run)
      by (Some name) over =
          run_by line (left.over (subst IsSome (sym over) refl)) (λ count replies last run. read-answered meeting count replies last left.sound run)
