-- What stands before the first line feed is the first line.
use Rattle.std.proofs.Common.{rules}
use Rattle.std.proofs.lemmas.Bool.{eqb-false}
use Rattle.line_script.proofs.LineLaws.{lent-line, lent-last}
use Rattle.line_script.proofs.line.split_line.Goals as goal

pub returns-in-Some-clause-line : goal.returns-in-Some-clause-line
returns-in-Some-clause-line c = search (rules, lent-line)

pub returns-in-None-clause-line : goal.returns-in-None-clause-line
returns-in-None-clause-line c = search (rules, lent-last, eqb-false)
