-- The words before the mark, and the digits behind it.
use Rattle.std.proofs.Common.{[], ◌∷◌}
use Rattle.std.proofs.lemmas.Bool.Decides.{Decides-eqb}
use Rattle.std.proofs.lemmas.Slice.Eq.{strip_prefix_is, strip_suffix_is}
use Rattle.trace_check.proofs.LineLaws.{marked-some, unspaced-front, unspaced-back}
use Rattle.trace_check.proofs.word.split_mark.Goals as goal

pub returns-in_default-strip_suffix-clause-none : goal.returns-in_default-strip_suffix-clause-none
returns-in_default-strip_suffix-clause-none c =
    unspaced-front c.args.words.now c.in-Some.before.now c.in-Some.came c.in-Some.behind.now c.in-Some.ensures.front c.in-Some.ensures.some
    (rw c.in_default-strip_suffix.is at (strip_suffix_is Decides-eqb c.in-Some.before.now (32 ∷ []) c.strip_suffix.result c.strip_suffix.ensures.cases))

pub returns-in_default-strip_prefix-clause-none : goal.returns-in_default-strip_prefix-clause-none
returns-in_default-strip_prefix-clause-none c =
    unspaced-back c.args.words.now c.in-Some.before.now c.in-Some.came c.in-Some.behind.now c.in-Some.ensures.front c.in-Some.ensures.some
    (rw c.in_default-strip_prefix.is at (strip_prefix_is Decides-eqb c.in-Some.behind.now (32 ∷ []) c.strip_prefix.result c.strip_prefix.ensures.cases))

pub returns-clause-some : goal.returns-clause-some
returns-clause-some c =
    marked-some c.args.words.now c.in-Some.before.now c.in-Some.came c.in-Some.behind.now _ _ c.in-Some.ensures.front c.in-Some.ensures.some
    (rw c.in-Some-strip_suffix.is at (strip_suffix_is Decides-eqb c.in-Some.before.now (32 ∷ []) c.strip_suffix.result c.strip_suffix.ensures.cases))
    (rw c.in-Some-strip_prefix.is at (strip_prefix_is Decides-eqb c.in-Some.behind.now (32 ∷ []) c.strip_prefix.result c.strip_prefix.ensures.cases))
