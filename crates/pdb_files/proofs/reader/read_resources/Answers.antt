use Rattle.std.proofs.Common.{rules}
use Rattle.std.proofs.lemmas.List.{length-append, length-drop}
use Rattle.pdb_files.proofs.ReadLaws.{one_more_item, order_left, short_left, short_of}
use Rattle.pdb_files.proofs.reader.read_resources.Goals as goal

pub add_resource-requires-clause-short : goal.add_resource-requires-clause-short
add_resource-requires-clause-short c = search (rules, short_of, short_left)

pub loop-place-preserved : goal.loop-place-preserved
loop-place-preserved c = search (rules, one_more_item, length-append, length-drop, order_left, short_left)
