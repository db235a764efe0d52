use Rattle.std.proofs.Common.{◌≡◌, ◌-◌, ◌*◌, ◌≤◌, ◌++◌, drop, length}
use Rattle.pdb_files.specs.Blocks.{AreInOrder, AreShort, blocks_in}
use Rattle.pdb_files.specs.Reading.{resources_in}
use Rattle.pdb_files.proofs.reader.read_resources.Given as goal

abbrev pub invariant-loop-place : goal.invariant-loop-place
invariant-loop-place l = record {
  rest : l.database ≡ record l.initial.database { resources = l.database.resources };
  count : length l.database.resources ≡ l.place;
  read : l.database.resources
      ++ resources_in l.entries (blocks_in (drop l.place l.begins) l.bytes) ≡ resources_in (drop 78 l.bytes) (blocks_in l.begins l.bytes);
  left : 10 * (length l.begins - l.place) ≤ length l.entries;
  order : AreInOrder 0 (length l.bytes) (drop l.place l.begins);
  short : AreShort (blocks_in (drop l.place l.begins) l.bytes);
}
