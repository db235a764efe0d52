use Rattle.std.proofs.Common.{append_assoc, rules}
use Rattle.pdb_files.proofs.ReadLaws.{begins_are, entries_room}
use Rattle.pdb_files.proofs.blocks.block_begins.Goals as goal

pub push_begins-requires : goal.push_begins-requires
push_begins-requires c = search (rules, entries_room)

pub returns : goal.returns
returns c = search (rules, begins_are, append_assoc)
