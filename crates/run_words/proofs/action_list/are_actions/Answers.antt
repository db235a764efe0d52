use Rattle.std.proofs.Common.{◌∙◌, sym, ap}
use Rattle.std.specs.Prelude.{option_copied}
use Rattle.run_words.specs.Actions.{are_items, items_of}
use Rattle.run_words.proofs.ItemLaws.{are_items-nil, items_stop, items_go_on}
use Rattle.run_words.proofs.action_list.are_actions.Goals as goal

pub returns-then-not-is_next : goal.returns-then-not-is_next
returns-then-not-is_next c =
    items_stop (option_copied c.first_item.result.1) (ap option_copied c.in-Some.is) c.first_item.ensures.items
    c.loop-rest.invariant (sym c.if-not-is_next.ensures)

pub loop-rest-preserved : goal.loop-rest-preserved
loop-rest-preserved c =
    items_go_on (option_copied c.first_item.result.1) (ap option_copied c.in-Some.is) c.first_item.ensures.items
    c.loop-rest.invariant (sym c.if-not-is_next.ensures)

pub returns : goal.returns
returns c = sym (ap (λ rest. are_items (items_of (option_copied rest))) c.in_default.is ∙ are_items-nil) ∙ c.loop-rest.invariant
