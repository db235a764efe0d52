use Rattle.std.proofs.Common.{◌≡◌, map, take}
use Rattle.run_words.specs.Actions.{action_for, aimed}
use Rattle.run_words.specs.declared.action.Target.TheVariants.{One}
use Rattle.run_words.proofs.only.restricted.Given as goal

abbrev pub invariant-loop-name : goal.invariant-loop-name
invariant-loop-name l = l.only.items ≡ map (λ name. aimed (One name) (action_for name l.actions)) (take l.name-index l.names)
