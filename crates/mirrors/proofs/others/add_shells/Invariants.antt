use Rattle.std.proofs.Common.{◌≡◌, ◌++◌, map, take}
use Rattle.mirrors.specs.Entries.{AreBounded}
use Rattle.mirrors.specs.Shells.{shell}
use Rattle.mirrors.proofs.others.add_shells.Given as goal

abbrev pub invariant-loop-place : goal.invariant-loop-place
invariant-loop-place l = record {
  seen : l.seen.items ≡ l.initial.seen.items ++ map shell (take l.place l.ids);
  bounded : AreBounded l.seen.items;
}
