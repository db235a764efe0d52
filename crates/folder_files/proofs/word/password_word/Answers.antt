-- A password keeps the bound of passwords.
use Rattle.std.proofs.Common.{rules}
use Rattle.folder_files.proofs.ValueLaws.{password_says}
use Rattle.folder_files.proofs.word.password_word.Goals as goal

pub returns-clause-says : goal.returns-clause-says
returns-clause-says c = search (rules, password_says)
