-- What was stripped is the number and a space.
use Rattle.std.proofs.Common.{◌∙◌}
use Rattle.std.proofs.lemmas.Bool.Decides.{Decides-eqb}
use Rattle.std.proofs.lemmas.Slice.Eq.{strip_prefix_is}
use Rattle.trace_check.proofs.StripLaws.{stripped}
use Rattle.trace_check.proofs.word.behind_number.Goals as goal

pub returns-clause-some : goal.returns-clause-some
returns-clause-some c =
    (stripped _ c.args.line.now _ _ (c.as_bytes.ensures.value ∙ c.in_ok-head.ensures.ok) (strip_prefix_is Decides-eqb _ _ _ c.strip_prefix.ensures.cases)).0

pub returns-clause-none : goal.returns-clause-none
returns-clause-none c =
    (stripped _ c.args.line.now _ _ (c.as_bytes.ensures.value ∙ c.in_ok-head.ensures.ok) (strip_prefix_is Decides-eqb _ _ _ c.strip_prefix.ensures.cases)).1
