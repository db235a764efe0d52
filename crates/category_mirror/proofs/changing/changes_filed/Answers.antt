-- One change comes behind another.
use Rattle.std.proofs.Common.{◌<◌, arith, length}
use Rattle.mirrors.proofs.NewsLaws.{split_at}
use Rattle.desk_store.specs.Views.{shelves_in}
use Rattle.category_mirror.specs.Changes.{changes_filed}
use Rattle.category_mirror.proofs.ChangeLaws.{changes-step}
use Rattle.category_mirror.proofs.changing.changes_filed.Goals as goal
use Rattle.desktop_session.proofs.GrowLaws.{take_whole}

pub loop-index-init : goal.loop-index-init
unfolding changes_filed
loop-index-init g c = c.new-made.ensures.items

pub loop-index-preserved : goal.loop-index-preserved
loop-index-preserved g c =
    let less : c.loop-index.index < length c.args.merges.now = omega (arith, c.requires, c.loop-index-test.true) in
    changes-step (shelves_in c.args.desk.now) c.args.jobs.now c.args.merges.now c.loop-index.index c.requires
    (split_at c.args.jobs.now c.loop-index.index c.index-jobs-index.result c.loop-index-test.true c.index-jobs-index.is)
    (split_at c.args.merges.now c.loop-index.index c.index-merges-index.result less c.index-merges-index.is) c.in_ok-change.change c.loop-index.invariant
    c.in_ok-put_change.ensures c.in_ok-change.ensures

pub returns : goal.returns
returns g c =
    let past = c.loop-index-test.false in
    rw (take_whole c.args.jobs.now c.loop-index.index past, take_whole c.args.merges.now c.loop-index.index (omega (arith, c.requires, past))) at
    c.loop-index.invariant
