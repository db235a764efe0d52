use Rattle.std.proofs.Common.{◌≡◌, ◌+◌, ◌-◌, map}
use Rattle.category_tables.specs.Likes.{id_from}
use Rattle.category_tables.specs.Tables.{entry_value}
use Rattle.category_tables.proofs.liking.new_id.Given as goal

abbrev pub invariant-loop-tried : goal.invariant-loop-tried
invariant-loop-tried l = record {
  id : l.id ≡ 128 + l.tried;
  same : id_from (16 - l.tried) l.id (map entry_value l.entries) ≡ id_from 16 128 (map entry_value l.entries);
}
