use Rattle.std.proofs.Common.{◌≡◌, ◌-◌}
use Rattle.category_tables.specs.Likes.{by_like}
use Rattle.category_tables.specs.Makings.{merging_value}
use Rattle.category_tables.specs.Merges.{begun, rounds}
use Rattle.category_tables.specs.Tables.{table_value}
use Rattle.category_tables.proofs.liking.liking.Given as goal

abbrev pub invariant-loop-number : goal.invariant-loop-number
invariant-loop-number l =
    merging_value l.merging ≡ rounds (by_like (table_value l.made)) (l.number - 1) (begun (table_value l.other))
