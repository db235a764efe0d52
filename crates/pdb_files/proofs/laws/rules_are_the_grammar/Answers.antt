use Rattle.pdb_files.proofs.FileLaws.{file-written, text_without_fault}
use Rattle.pdb_files.proofs.laws.rules_are_the_grammar.Goals as goal

pub returns-clause-text : goal.returns-clause-text
returns-clause-text c = text_without_fault

pub returns-clause-no_fault : goal.returns-clause-no_fault
returns-clause-no_fault c = λ bytes database is. (file-written database bytes is).none
