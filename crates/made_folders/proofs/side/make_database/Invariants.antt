use Rattle.std.proofs.Common.{◌≡◌, ◌≤◌, take, length}
use Rattle.made_folders.specs.Sides.{made_database}
use Rattle.made_folders.proofs.side.make_database.Given as goal

abbrev pub invariant-loop-item : goal.invariant-loop-item
invariant-loop-item l = record {
  is : l.database ≡ made_database l.side (take l.item-index l.items);
  few : length l.database.records ≤ l.item-index;
}
