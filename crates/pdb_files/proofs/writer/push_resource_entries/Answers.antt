use Rattle.std.proofs.lemmas.Grind.{common_steps}
use Rattle.std.proofs.Common.{arith, rules}
use Rattle.std.proofs.lemmas.List.{take_all}
use Rattle.std.proofs.lemmas.List.Elements.{All-get_or}
use Rattle.pdb_files.proofs.EntryLaws.{bytes_of_resource}
use Rattle.pdb_files.proofs.WriteLaws.{all_of_more, all_short, one_more_text}
use Rattle.pdb_files.proofs.writer.push_resource_entries.Goals as goal

pub loop-resource-preserved : goal.loop-resource-preserved
loop-resource-preserved c = grind (arith, common_steps, one_more_text, bytes_of_resource, All-get_or, all_of_more)

pub returns-clause-fits : goal.returns-clause-fits
returns-clause-fits c = search (rules, take_all)

pub returns-clause-short : goal.returns-clause-short
returns-clause-short c = grind (arith, common_steps, all_short, bytes_of_resource, take_all)
