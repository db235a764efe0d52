use Rattle.std.proofs.Common.{◌≡◌, ◌≤◌, false, filter, length, map, take}
use Rattle.pdb_values.specs.Heads.{holds_resources}
use Rattle.pdb_values.specs.Records.{is_live}
use Rattle.install_backup.specs.Installed.{untouched}
use Rattle.install_backup.proofs.live.live.Given as goal

abbrev pub invariant-loop-item : goal.invariant-loop-item
invariant-loop-item l = record {
  holds : holds_resources l.live.head.attributes ≡ false;
  is : l.live.records ≡ map untouched (filter is_live (take l.item-index l.database.records));
  few : length l.live.records ≤ l.item-index;
}
