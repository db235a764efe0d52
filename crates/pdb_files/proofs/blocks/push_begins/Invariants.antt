use Rattle.std.proofs.Common.{◌≡◌, ◌-◌, ◌*◌, ◌≤◌, ◌++◌, length}
use Rattle.pdb_files.specs.Entries.{begin_place, begins_in, entry_length}
use Rattle.pdb_files.proofs.blocks.push_begins.Given as goal

abbrev pub invariant-loop : goal.invariant-loop
invariant-loop l = record {
  read : l.begins.items ++ begins_in (entry_length l.of_resources) (begin_place l.of_resources) (l.count - l.counter) l.rest
      ≡ l.initial.begins.items ++ begins_in (entry_length l.of_resources) (begin_place l.of_resources) l.count l.entries;
  left : entry_length l.of_resources * (l.count - l.counter) ≤ length l.rest;
}
