use Rattle.std.proofs.Common.{◌≡◌, map, take}
use Rattle.conduit_rules.specs.Views.{slow_seen}
use Rattle.mirrors.specs.Entries.{AreBounded}
use Rattle.database_merge.proofs.seeing.slow_view.Given as goal

abbrev pub invariant-loop-item : goal.invariant-loop-item
invariant-loop-item l = record {
  seen : l.seen.items ≡ map slow_seen (take l.item-index l.records);
  bounded : AreBounded l.seen.items;
}
