use Rattle.std.proofs.Common.{below_more, rules}
use Rattle.handheld_store.proofs.ListLaws.{same_lists}
use Rattle.handheld_store.proofs.copies.same_resources.Goals as goal
use Rattle.handheld_files.proofs.FreshLaws.{get_some}

pub loop-place-preserved : goal.loop-place-preserved
loop-place-preserved c = search (rules, get_some, below_more)

pub returns-then-not-same_resource : goal.returns-then-not-same_resource
returns-then-not-same_resource c = search (rules, get_some)

pub returns : goal.returns
returns c = search (rules, same_lists)
