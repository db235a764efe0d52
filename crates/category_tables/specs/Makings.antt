-- A table in the making, as the definitions have it.
use Rattle.std.specs.Prelude.{map}
use Rattle.category_tables.specs.declared.merging.Merging.{Merging}
use Rattle.category_tables.specs.Merges.{MergingValue}
use Rattle.category_tables.specs.Tables.{entry_value}

abbrev pub merging_value : Merging → MergingValue
merging_value merging = record {
  entries = map entry_value merging.entries;
  places = merging.places;
}
