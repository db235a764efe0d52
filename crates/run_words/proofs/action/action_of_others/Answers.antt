use Rattle.std.proofs.Common.{◌∙◌, ap, sym, rules, tests}
use Rattle.std.proofs.lemmas.Iterator.{YieldsList-from_slice}
use Rattle.std.proofs.lemmas.Iterator.Search.{find_from_yields_List}
use Rattle.std.specs.Option.{option_map}
use Rattle.run_words.specs.Actions.{action_or, is_of_others}
use Rattle.run_words.specs.declared.action.ActionWord.TheVariants.{Sync}
use Rattle.run_words.proofs.action.action_of_others.Goals as goal

pub returns-in-Some : goal.returns-in-Some
returns-in-Some c =
    let found = find_from_yields_List is_of_others _ _ c.find.result c.find.ensures.ran (YieldsList-from_slice c.args.actions.now cc)
    (λ x b q k. search (rules, tests)) in
    ap (action_or Sync) (ap (option_map (λ x. x.now)) (sym c.in-Some.is) ∙ found)

pub returns-in-None : goal.returns-in-None
returns-in-None c =
    let found = find_from_yields_List is_of_others _ _ c.find.result c.find.ensures.ran (YieldsList-from_slice c.args.actions.now cc)
    (λ x b q k. search (rules, tests)) in
    ap (action_or Sync) (ap (option_map (λ x. x.now)) (sym c.in-None.is) ∙ found)
