use Rattle.std.proofs.Common.{◌≡◌, ◌++◌}
use Rattle.std.specs.Prelude.{option_copied}
use Rattle.std.specs.List.{filter_map}
use Rattle.run_words.specs.Actions.{items_of}
use Rattle.run_words.specs.StemNames.{name_of}
use Rattle.run_words.proofs.SplitLaws.{length_left}
use Rattle.run_words.proofs.only.read_names.Given as goal

abbrev pub invariant-loop-rest : goal.invariant-loop-rest
invariant-loop-rest l = l.names.items ++ filter_map name_of (items_of (option_copied l.rest)) ≡ filter_map name_of (items_of (option_copied l.initial.rest))

abbrev pub decreases-loop-rest : goal.decreases-loop-rest
decreases-loop-rest l = length_left (option_copied l.rest)
