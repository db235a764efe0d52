use Rattle.std.proofs.Common.{◌≡◌, [], take, map, None, Some}
use Rattle.category_tables.specs.Likes.{block_like, moved}
use Rattle.category_tables.specs.Tables.{entry_value, table_value}
use Rattle.category_tables.proofs.like.database_like.Given as goal

abbrev pub invariant-loop-item : goal.invariant-loop-item
invariant-loop-item l =
    l.like ≡ record {
      head = l.database.head;
      app = Some (block_like (table_value l.other).entries (map entry_value l.merging.entries) l.block);
      sort = None;
      records = map (moved l.merging.places) (take l.item-index l.database.records);
      resources = [];
    }
