use Rattle.std.proofs.lemmas.Grind.{common_steps}
use Rattle.std.proofs.Common.{arith}
use Rattle.pdb_files.proofs.EntryLaws.{bytes_of_record}
use Rattle.pdb_files.proofs.WriteLaws.{one_more_block}
use Rattle.pdb_files.proofs.writer.push_record_data.Goals as goal

pub loop-item-preserved : goal.loop-item-preserved
loop-item-preserved c = grind (arith, common_steps, one_more_block, bytes_of_record)
