-- Records once more, in a database of their own.
use Rattle.std.proofs.Common.{◌≡◌, ◌∙◌, ap, map}
use Rattle.std.proofs.lemmas.List.{take_all}
use Rattle.category_mirror.specs.Changes.{cleared_database, cleared_record}
use Rattle.category_mirror.proofs.changing.cleared_database.Goals as goal

pub returns : goal.returns
unfolding cleared_database
returns c =
    let same : c.loop-item.records.items ≡ map cleared_record c.args.database.now.records =
    c.loop-item.invariant ∙ ap (map cleared_record)
    (take_all c.loop-item.item-index c.records-item-items.result.now c.loop-item-test.false ∙ c.records-item-items.ensures.records) in
    rw same at c.refilled.ensures
