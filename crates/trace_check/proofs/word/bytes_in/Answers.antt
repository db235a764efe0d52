-- The word is tested as its definition says.
use Rattle.std.proofs.Common.{rules}
use Rattle.line_script.specs.Words.{bytes_in}
use Rattle.trace_check.proofs.word.bytes_in.Goals as goal

pub returns-then-is_empty : goal.returns-then-is_empty
unfolding bytes_in
returns-then-is_empty c = search rules

pub returns-in_err-ok : goal.returns-in_err-ok
unfolding bytes_in
returns-in_err-ok c = search rules

pub returns-then-not-is_text_of : goal.returns-then-not-is_text_of
unfolding bytes_in
returns-then-not-is_text_of c = search rules

pub returns : goal.returns
unfolding bytes_in
returns c = search rules
