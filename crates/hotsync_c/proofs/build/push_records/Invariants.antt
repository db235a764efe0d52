use Rattle.std.proofs.Common.{◌≡◌, ◌++◌, true, false, drop, length}
use Rattle.std.specs.List.{list_all}
use Rattle.hotsync_c.specs.Building.{is_cut, is_entry, items_in, record_in}
use Rattle.hotsync_c.proofs.build.push_records.Given as goal

abbrev pub invariant-loop-entry : goal.invariant-loop-entry
invariant-loop-entry l = record {
  rest_is : l.database ≡ record l.initial.database { records = l.database.records };
  count : length l.database.records ≡ l.entry-index;
  read : l.database.records ++ items_in record_in (drop l.entry-index l.entries) l.rest ≡ items_in record_in l.entries l.packed;
  each : list_all (is_entry false) (drop l.entry-index l.entries) ≡ true;
  cut : is_cut (drop l.entry-index l.entries) l.rest ≡ true;
}
