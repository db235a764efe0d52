use Rattle.std.proofs.Common.{◌∙◌, sym}
use Rattle.database_merge.proofs.LeftLaws.{carried-merged}
use Rattle.database_merge.proofs.merging.merge_opened.Goals as goal

pub returns-in-Ok-clause-merged : goal.returns-in-Ok-clause-merged
returns-in-Ok-clause-merged c =
    carried-merged c.args.both c.args.wishes.now c.in_ok-plan.plan c.in-Ok.after
    (record {
      opened = c.requires;
      bounded = c.in_ok-plan.ensures.bounded;
      goes_on = sym c.skip_in.ensures ∙ c.in_default.is;
      plan_is = c.in_ok-plan.ensures.plan;
      small = rw c.as_ref.ensures.value at (sym c.in_ok-is_large.ensures ∙ c.if-branch.false);
    })
    c.in-Ok.ensures.carried
