use Rattle.std.proofs.Common.{◌≡◌}
use Rattle.std.specs.Prelude.{option_copied}
use Rattle.run_words.specs.Actions.{are_items, items_of}
use Rattle.run_words.proofs.SplitLaws.{length_left}
use Rattle.run_words.proofs.action_list.are_actions.Given as goal

abbrev pub invariant-loop-rest : goal.invariant-loop-rest
invariant-loop-rest l = are_items (items_of (option_copied l.rest)) ≡ are_items (items_of (option_copied l.initial.rest))

abbrev pub decreases-loop-rest : goal.decreases-loop-rest
decreases-loop-rest l = length_left (option_copied l.rest)
