use Rattle.std.proofs.Common.{◌∙◌, ◌++◌, sym, ap}
use Rattle.std.proofs.lemmas.List.{append-nil}
use Rattle.std.specs.List.{filter_map}
use Rattle.std.specs.Prelude.{option_copied}
use Rattle.run_words.specs.Actions.{item_of, items_of}
use Rattle.run_words.proofs.ItemLaws.{item_is_skipped}
use Rattle.run_words.proofs.action_list.items_in.Goals as goal

pub loop-rest-preserved : goal.loop-rest-preserved
loop-rest-preserved c =
    item_is_skipped (option_copied c.first_item.result.1) (ap option_copied c.in-Some.is) c.first_item.ensures.items c.loop-rest.actions.items
    c.loop-rest.invariant c.in_default-item_in.ensures

pub returns : goal.returns
returns c =
    sym (append-nil c.loop-rest.actions.items)
    ∙ sym (ap (λ rest. c.loop-rest.actions.items ++ filter_map item_of (items_of (option_copied rest))) c.in_default.is) ∙ c.loop-rest.invariant
