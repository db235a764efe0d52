use Rattle.std.proofs.lemmas.Result.{err_from_is_err_and}
use Rattle.std.proofs.Common.{◌∙◌, arith, sym}
use Rattle.content_lines.specs.Refusals.{fault_by}
use Rattle.content_lines.proofs.BadLaws.{accepted, first_bad-drop, none_left, refused}
use Rattle.content_lines.proofs.broken.refuse_first_bad.Goals as goal

pub returns-in_err-check_item : goal.returns-in_err-check_item
returns-in_err-check_item g c =
    let p = err_from_is_err_and c.from_residual.result c.from_residual.ensures.1 in
    let step =
    first_bad-drop (fault_by g.F.Form.fault) c.args.privacy c.loop-index.index c.index-records-index.result c.args.records.now
    (omega arith) c.index-records-index.is in
    rw (p.1, p.2) (sym (refused c.loop-index.index _ _ _ _ (sym c.loop-index.invariant ∙ step) (sym c.in_err-check_item.ensures)))

pub loop-index-preserved : goal.loop-index-preserved
loop-index-preserved g c =
    let step =
    first_bad-drop (fault_by g.F.Form.fault) c.args.privacy c.loop-index.index c.index-records-index.result c.args.records.now
    (omega arith) c.index-records-index.is in
    accepted c.loop-index.index _ _ _ _ (sym c.loop-index.invariant ∙ step) (sym c.in_ok-check_item.ensures)

pub returns : goal.returns
returns g c = sym (none_left (fault_by g.F.Form.fault) c.args.privacy c.loop-index.index c.args.records.now _ (omega arith) c.loop-index.invariant)
