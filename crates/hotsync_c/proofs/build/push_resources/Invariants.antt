use Rattle.std.proofs.Common.{◌≡◌, ◌++◌, true, drop, length}
use Rattle.std.specs.List.{list_all}
use Rattle.hotsync_c.specs.Building.{is_cut, is_entry, items_in, resource_in}
use Rattle.hotsync_c.proofs.build.push_resources.Given as goal

abbrev pub invariant-loop-entry : goal.invariant-loop-entry
invariant-loop-entry l = record {
  rest_is : l.database ≡ record l.initial.database { resources = l.database.resources };
  count : length l.database.resources ≡ l.entry-index;
  read : l.database.resources ++ items_in resource_in (drop l.entry-index l.entries) l.rest ≡ items_in resource_in l.entries l.packed;
  each : list_all (is_entry true) (drop l.entry-index l.entries) ≡ true;
  cut : is_cut (drop l.entry-index l.entries) l.rest ≡ true;
}
