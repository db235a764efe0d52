use Rattle.std.proofs.Common.{◌≡◌, ◌∙◌, Some, ap, rules, sym}
use Rattle.std.specs.Prelude.{find, option_and_then}
use Rattle.pdb_values.specs.Databases.{DatabaseValue}
use Rattle.pdb_values.specs.NamedDatabases.{database_of}
use Rattle.palm_device.specs.Records.{place_of_id}
use Rattle.handheld_store.specs.Indexes.{is_of}
use Rattle.handheld_store.proofs.IndexLaws.{named_own, place_found, place_within}
use Rattle.handheld_store.proofs.index.place_in.Goals.{else-is_none, then-is_none}
use Rattle.handheld_store.proofs.index.place_in.Goals as goal

pub returns-in-Some-index_of-clause-indexes : goal.returns-in-Some-index_of-clause-indexes
returns-in-Some-index_of-clause-indexes c = search (rules, then-is_none, named_own, else-is_none)

pub returns-in-None-clause-indexes : goal.returns-in-None-clause-indexes
returns-in-None-clause-indexes c = search (rules, then-is_none, named_own, else-is_none)

pub returns-in-Some-index_of-clause-place : goal.returns-in-Some-index_of-clause-place
returns-in-Some-index_of-clause-place c =
    let here : database_of c.args.name.now c.args.databases.now ≡ Some c.in-Some.database.now = search rules in
    let is : find (is_of c.args.name.now) c.if-is_none.indexes.items ≡ Some c.in-Some-index_of.index.now = search rules in
    place_found c.args.databases.now c.args.name.now c.if-is_none.indexes.items c.in-Some-index_of.index.now
    c.in-Some.database.now c.args.id c.get_index_of.result is (returns-in-Some-index_of-clause-indexes c) here c.get_index_of.ensures.index
    ∙ sym (ap (option_and_then (λ (database : DatabaseValue). place_of_id c.args.id database.records)) here)

pub returns-in-Some-index_of-clause-within : goal.returns-in-Some-index_of-clause-within
returns-in-Some-index_of-clause-within c =
    let here : database_of c.args.name.now c.args.databases.now ≡ Some c.in-Some.database.now = search rules in
    let is : find (is_of c.args.name.now) c.if-is_none.indexes.items ≡ Some c.in-Some-index_of.index.now = search rules in
    place_within c.args.id c.in-Some.database.now.records c.get_index_of.result
    (place_found c.args.databases.now c.args.name.now c.if-is_none.indexes.items c.in-Some-index_of.index.now
    c.in-Some.database.now c.args.id c.get_index_of.result is (returns-in-Some-index_of-clause-indexes c) here c.get_index_of.ensures.index)
    (let few = c.records-items.ensures.bound in search rules)
