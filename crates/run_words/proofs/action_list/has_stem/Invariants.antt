use Rattle.std.proofs.Common.{◌≡◌}
use Rattle.std.specs.Prelude.{option_copied}
use Rattle.run_words.specs.Actions.{has_stem, items_of}
use Rattle.run_words.proofs.SplitLaws.{length_left}
use Rattle.run_words.proofs.action_list.has_stem.Given as goal

abbrev pub invariant-loop-rest : goal.invariant-loop-rest
invariant-loop-rest l = has_stem l.stem (items_of (option_copied l.rest)) ≡ has_stem l.stem (items_of (option_copied l.initial.rest))

abbrev pub decreases-loop-rest : goal.decreases-loop-rest
decreases-loop-rest l = length_left (option_copied l.rest)
