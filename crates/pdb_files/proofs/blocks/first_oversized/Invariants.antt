use Rattle.std.proofs.Common.{◌≡◌, drop}
use Rattle.std.specs.List.{position_from}
use Rattle.pdb_files.specs.Blocks.{AreInOrder, is_oversized, first_oversized, spans}
use Rattle.pdb_files.proofs.blocks.first_oversized.Given as goal

abbrev pub invariant-loop-place : goal.invariant-loop-place
invariant-loop-place l = record {
  order : AreInOrder 0 l.end (drop l.place l.begins);
  left : position_from is_oversized l.place (spans (drop l.place l.begins) l.end) ≡ first_oversized l.end l.begins;
}
