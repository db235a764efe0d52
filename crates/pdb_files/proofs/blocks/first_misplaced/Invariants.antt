use Rattle.std.proofs.Common.{◌≡◌, ◌≤◌, ◌∷◌, drop}
use Rattle.std.specs.List.{position_from, zip}
use Rattle.pdb_files.specs.Blocks.{is_misplaced, first_misplaced}
use Rattle.pdb_files.proofs.blocks.first_misplaced.Given as goal

abbrev pub invariant-loop-place : goal.invariant-loop-place
invariant-loop-place l = record {
  behind : l.first ≤ l.before;
  left : position_from (is_misplaced l.first l.end) l.place (zip (l.before ∷ drop l.place l.begins) (drop l.place l.begins))
      ≡ first_misplaced l.first l.end l.begins;
}
