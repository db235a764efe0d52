use Rattle.std.proofs.Common.{◌≡◌, ◌++◌, map, take}
use Rattle.mirrors.specs.Entries.{AreBounded}
use Rattle.session_plan.specs.Rows.{row_seen}
use Rattle.session_plan.proofs.rows.put_kept.Given as goal

abbrev pub invariant-loop-entry : goal.invariant-loop-entry
invariant-loop-entry l = record {
  rows : l.rows.items ≡ l.fn.rows.items ++ map row_seen (take l.entry-index l.kept);
  bounded : AreBounded l.fn.rows.items → AreBounded l.rows.items;
}
