-- Readings and plans, and then what is judged.
use Rattle.std.proofs.Common.{◌≡◌, ◌∙◌, Err, List, length, refl, subst, ℕ}
use Rattle.std.proofs.lemmas.Result.{err_from_is_err_and}
use Rattle.std.specs.Global.{Vec}
use Rattle.std.specs.Prelude.{Result}
use Rattle.pdb_values.specs.declared.user.UserInfo.{UserInfo}
use Rattle.desk_store.specs.Views.{DeskValue}
use Rattle.session_parts.specs.declared.report.DbReport.{DbReport}
use Rattle.session_parts.specs.declared.stop.Stop.{Stop}
use Rattle.session_plan.specs.declared.planned.Planned.{Planned}
use Rattle.sync_session.specs.Courses.{JudgesPlanned}
use Rattle.sync_session.proofs.RepliesLaws.{prepared_by, unprepared}
use Rattle.sync_session.proofs.preparing.prepare.Goals as goal

-- what was judged, by the user and the databases that it is said of
judged_of : {F : Type 0} (desk : DeskValue F) {user same old : UserInfo} (listed : ℕ) {given planned : List Planned} (answer : Result (Vec DbReport) Stop)
    → user ≡ same → same ≡ old → given ≡ planned → JudgesPlanned desk user listed given answer → JudgesPlanned desk old listed planned answer
judged_of desk {user} {old} listed {planned} answer is stays are judged =
    subst (λ (who : UserInfo). JudgesPlanned desk who listed planned answer) (is ∙ stays)
    (subst (λ (those : List Planned). JudgesPlanned desk user listed those answer) are judged)

pub returns-in_err-planned-clause-follows : goal.returns-in_err-planned-clause-follows
returns-in_err-planned-clause-follows g c =
    let p = err_from_is_err_and c.from_residual.result c.from_residual.ensures.1 in
    rw (p.1, p.2) (unprepared c.in_err-planned.ensures.follows)

pub returns-in_err-reports-clause-follows : goal.returns-in_err-reports-clause-follows
returns-in_err-reports-clause-follows g c =
    let p = err_from_is_err_and c.from_residual-in_err-reports.result c.from_residual-in_err-reports.ensures.1 in
    let judged = judged_of c.args.desk.now (length c.args.heads.now) (Err c.in_err-reports.field-0.0) c.user.ensures c.in_ok-planned.ensures.reads.reads.user
    c.deref.ensures.value c.in_err-reports.ensures in
    rw (p.1, p.2) (prepared_by c.in_ok-planned.planned c.in_ok-planned.ensures.follows c.in_ok-planned.ensures.reads.plans judged tt)

pub returns-clause-follows : goal.returns-clause-follows
returns-clause-follows g c =
    let judged = rw (c.user.ensures, c.in_ok-planned.ensures.reads.reads.user, c.deref.ensures.value) at c.in_ok-reports.ensures in
    prepared_by _ c.in_ok-planned.ensures.follows c.in_ok-planned.ensures.reads.plans judged refl
