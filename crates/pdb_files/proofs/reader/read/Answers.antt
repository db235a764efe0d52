use Rattle.std.proofs.Common.{rules}
use Rattle.std.proofs.lemmas.Result.{err_from_is_err_and}
use Rattle.pdb_files.proofs.ReadLaws.{gives_refusal, gives_value}
use Rattle.pdb_files.proofs.reader.read.Goals as goal

pub returns-in_err-header : goal.returns-in_err-header
returns-in_err-header c = search (rules, gives_refusal, err_from_is_err_and)

pub returns : goal.returns
returns c = search (rules, gives_value)
