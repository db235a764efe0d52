use Rattle.std.proofs.lemmas.Grind.{common_steps}
use Rattle.std.proofs.Common.{arith}
use Rattle.pdb_files.proofs.EntryLaws.{bytes_of_resource}
use Rattle.pdb_files.proofs.WriteLaws.{one_more_block}
use Rattle.pdb_files.proofs.writer.push_resource_data.Goals as goal

pub loop-resource-preserved : goal.loop-resource-preserved
loop-resource-preserved c = grind (arith, common_steps, one_more_block, bytes_of_resource)
