use Rattle.std.proofs.Common.{◌≡◌, Some, find, rules}
use Rattle.handheld_store.specs.Indexes.{is_of}
use Rattle.handheld_store.proofs.AddedLaws.{more_ids}
use Rattle.handheld_store.proofs.IndexLaws.{left_right}
use Rattle.handheld_store.proofs.index.add_id.Goals as goal

pub returns-in-Some : goal.returns-in-Some
returns-in-Some c =
    let name = c.args.name.now in
    let old = c.args.indexes.now.items in
    let rest = c.take_index-taken.new.indexes.items in
    let first : find (is_of name) old ≡ Some c.in-Some.index = search rules in
    λ was databases are one. c.put_more.ensures databases
    (left_right name was databases rest c.forget.new.indexes.items one.others (c.take_index-taken.ensures.others was are) c.forget.ensures)
    (more_ids name c.args.id was databases old c.in-Some.index first are one)

pub returns-in-None : goal.returns-in-None
returns-in-None c =
    λ was databases are one. left_right c.args.name.now was databases c.take_index-taken.new.indexes.items
    c.forget.new.indexes.items one.others (c.take_index-taken.ensures.others was are) c.forget.ensures
