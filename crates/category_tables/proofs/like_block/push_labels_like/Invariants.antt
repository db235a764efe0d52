use Rattle.std.proofs.Common.{◌≡◌, ◌++◌, map}
use Rattle.category_tables.specs.Likes.{labels_like}
use Rattle.category_tables.specs.Tables.{entry_value, table_value}
use Rattle.category_tables.proofs.like_block.push_labels_like.Given as goal

abbrev pub invariant-loop-number : goal.invariant-loop-number
invariant-loop-number l =
    l.out.items ≡ l.fn.out.items ++ labels_like (table_value l.other).entries (map entry_value l.entries) l.block l.number
