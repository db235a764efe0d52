use Rattle.std.proofs.Common.{◌∙◌, ap, sym}
use Rattle.session_plan.specs.Tasks.{with_name}
use Rattle.session_plan.proofs.NamesLaws.{heads_more}
use Rattle.session_plan.proofs.jobs.put_heads.Goals as goal

pub loop-head-preserved : goal.loop-head-preserved
loop-head-preserved c =
    c.in_ok-put_name.ensures.put ∙ ap (λ n. with_name n c.loop-head.names.items) c.copy.ensures
    ∙ ap (with_name c.head-item.result.name) c.loop-head.invariant
    ∙ sym (heads_more c.args.heads.now c.loop-head.head-index c.head-item.result c.args.names.now.items c.loop-head-test.true c.head-item.is)
