use Rattle.std.proofs.Common.{◌≡◌, ◌∙◌, ap, subst}
use Rattle.std.specs.Global.{Vec}
use Rattle.std.specs.Prelude.{Option, Result, ℕ}
use Rattle.line_world.specs.declared.down.Down.{Down}
use Rattle.session_parts.specs.declared.report.DbReport.{DbReport}
use Rattle.session_parts.specs.declared.stop.Stop.{Stop}
use Rattle.call_parts.specs.Closings.{IsLeft, left_in}
use Rattle.call_parts.specs.declared.left.Left.{Left}
use Rattle.call_parts.specs.declared.report.Report.{Report}
use Rattle.call_parts.proofs.SpokeLaws.{left_unsaid}
use Rattle.call_parts.proofs.closing.close_session.Goals as goal

-- how a report tells what was left
left_told : {answer : Result (Vec DbReport) Stop} {cause down : Option Down} (left : Left) (report : Report) → cause ≡ down → IsLeft answer cause left
    → report.end ≡ left.end → report.databases ≡ left.databases → report.faulted ≡ left.faulted → IsLeft answer down (left_in left.status report)
left_told {answer} left report same is end databases faulted =
    subst (λ (d : Option Down). IsLeft answer d (left_in left.status report)) same (record {
      status = is.status;
      end = end ∙ is.end;
      databases = ap (λ (v : Vec DbReport). v.items) databases ∙ is.databases;
      faulted = ap (λ (v : Vec ℕ). v.items) faulted ∙ is.faulted;
    })

pub returns-clause-closes : goal.returns-clause-closes
returns-clause-closes g c =
    let told = c.report_of-report.ensures in
    record {
      left = left_told c.left_of-left.result c.report_of-report.result.0 c.cause.ensures.cause c.left_of-left.ensures told.end told.databases told.faulted;
      tells = told.tells;
      caused = c.cause.ensures.caused;
      borne_out = c.cause.ensures.borne_out;
      fair = c.cause.ensures.fair;
    }

pub returns-clause-unsaid : goal.returns-clause-unsaid
returns-clause-unsaid g c = left_unsaid _ _ _ c.left_of-left.ensures
