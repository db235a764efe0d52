use Rattle.std.proofs.lemmas.Grind.{common_steps}
use Rattle.std.proofs.Common.{arith, rules}
use Rattle.std.proofs.lemmas.List.{length-append, length-drop}
use Rattle.pdb_files.proofs.EntryLaws.{read_record}
use Rattle.pdb_files.proofs.ReadLaws.{one_more_item, order_left, short_left}
use Rattle.pdb_files.proofs.reader.read_records.Goals as goal

pub record-requires : goal.record-requires
record-requires c = search (rules, short_left)

pub loop-place-preserved : goal.loop-place-preserved
loop-place-preserved c = grind (arith, common_steps, one_more_item, read_record, length-append, length-drop, order_left, short_left)
