use Rattle.std.proofs.Common.{◌≡◌, map, take}
use Rattle.cmd_files.specs.Moves.{moved_report}
use Rattle.cmd_files.proofs.moved.moved_reports.Given as goal

abbrev pub invariant-loop-one : goal.invariant-loop-one
invariant-loop-one l = l.reports.items ≡ map (moved_report l.way) (take l.one-index l.moved)
