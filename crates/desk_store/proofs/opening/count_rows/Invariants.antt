use Rattle.std.proofs.Common.{◌≡◌, ◌≤◌, take}
use Rattle.std.specs.Prelude.{map, string_bytes}
use Rattle.desk_store.specs.Finds.{rows_count}
use Rattle.desk_store.proofs.opening.count_rows.Given as goal

abbrev pub invariant-loop-name : goal.invariant-loop-name
invariant-loop-name l = record {
  counted : l.count ≡ rows_count (take l.name-index (map string_bytes l.names));
  bound : l.count ≤ l.name-index;
}
