use Rattle.std.proofs.Common.{◌≡◌}
use Rattle.std.specs.Prelude.{option_copied}
use Rattle.std.specs.List.{list_all}
use Rattle.run_words.specs.Actions.{items_of}
use Rattle.run_words.proofs.OnlyLaws.{is_stem}
use Rattle.run_words.proofs.SplitLaws.{length_left}
use Rattle.run_words.proofs.only.are_stems.Given as goal

abbrev pub invariant-loop-rest : goal.invariant-loop-rest
invariant-loop-rest l = list_all is_stem (items_of (option_copied l.rest)) ≡ list_all is_stem (items_of (option_copied l.initial.rest))

abbrev pub decreases-loop-rest : goal.decreases-loop-rest
decreases-loop-rest l = length_left (option_copied l.rest)
