-- A name keeps the bounds of names.
use Rattle.std.proofs.Common.{rules}
use Rattle.folder_files.proofs.ValueLaws.{name_says}
use Rattle.folder_files.proofs.word.name_word.Goals as goal

pub returns-clause-says : goal.returns-clause-says
returns-clause-says c = search (rules, name_says)
