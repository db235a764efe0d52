use Rattle.std.proofs.Common.{◌≡◌, take}
use Rattle.desk_store.specs.Views.{shelves_in}
use Rattle.category_mirror.specs.Changes.{changes_filed}
use Rattle.category_mirror.proofs.changing.changes_filed.Given as goal

abbrev pub invariant-loop-index : goal.invariant-loop-index
invariant-loop-index g l = l.made.items ≡ changes_filed (shelves_in l.desk) (take l.index l.jobs) (take l.index l.merges)
