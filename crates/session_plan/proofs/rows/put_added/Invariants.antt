use Rattle.std.proofs.Common.{◌≡◌, ◌++◌, map, take}
use Rattle.record_merge.specs.Writes.{numbered}
use Rattle.mirrors.specs.Entries.{AreBounded}
use Rattle.session_plan.specs.Rows.{row_seen}
use Rattle.session_plan.proofs.rows.put_added.Given as goal

abbrev pub invariant-loop-index : goal.invariant-loop-index
invariant-loop-index l = record {
  rows : l.rows.items ≡ l.fn.rows.items ++ map row_seen (numbered (take l.index l.given) (take l.index l.adds));
  bounded : AreBounded l.fn.rows.items → AreBounded l.rows.items;
}
