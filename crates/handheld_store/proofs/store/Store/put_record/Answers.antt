use Rattle.std.proofs.Common.{◌≡◌, None, rules}
use Rattle.std.specs.Prelude.{IfSome, IsSomeAnd, false, is_none, option_and_then}
use Rattle.pdb_values.specs.Databases.{DatabaseValue}
use Rattle.pdb_values.specs.NamedDatabases.{database_of, replaced}
use Rattle.palm_device.specs.Records.{place_of_id}
use Rattle.handheld_store.specs.Indexes.{AreIndexes, HasOneMore}
use Rattle.handheld_store.specs.Placed.{Takes, with_record}
use Rattle.handheld_store.proofs.WritingLaws.{AreIndexes-again, one_more}
use Rattle.handheld_store.proofs.store.Store.put_record.Goals as goal

pub invariant_of-self : goal.invariant_of-self
invariant_of-self g c =
    let databases = c.self.inside.databases.items in
    let name = c.args.name.now in
    let place = c.place_in-place.result in
    let are : AreIndexes databases c.place_in-place.new.indexes.items = search rules in
    let takes : IsSomeAnd (database_of name databases) (Takes c.args.id) = search rules in
    let put : IfSome (database_of name databases) (λ was. c.put_record.new.databases.items ≡ replaced (with_record c.args.id c.args.content was) databases) =
    search rules in
    let found : place ≡ option_and_then (λ (database : DatabaseValue). place_of_id c.args.id database.records) (database_of name databases) = search rules in
    let none : place ≡ None = search rules in
    let bytes : c.as_bytes.result.now ≡ name = search rules in
    let number : c.number-then-is_none.result ≡ c.args.id = search rules in
    let one : HasOneMore c.as_bytes.result.now c.number-then-is_none.result databases c.put_record.new.databases.items =
    rw (bytes, number) (one_more c.args.id place c.args.content name databases c.put_record.new.databases.items takes put found none) in
    (c.put_record.ensures.kept, c.add_id.ensures databases c.put_record.new.databases.items are one)

pub invariant_of-self-else-is_none : goal.invariant_of-self-else-is_none
invariant_of-self-else-is_none g c =
    let databases = c.self.inside.databases.items in
    let name = c.args.name.now in
    let place = c.place_in-place.result in
    let indexes = c.place_in-place.new.indexes.items in
    let are : AreIndexes databases indexes = search rules in
    let takes : IsSomeAnd (database_of name databases) (Takes c.args.id) = search rules in
    let put : IfSome (database_of name databases) (λ was. c.put_record.new.databases.items ≡ replaced (with_record c.args.id c.args.content was) databases) =
    search rules in
    let found : place ≡ option_and_then (λ (database : DatabaseValue). place_of_id c.args.id database.records) (database_of name databases) = search rules in
    let some : is_none place ≡ false = search rules in (
      c.put_record.ensures.kept,
      AreIndexes-again c.args.id place c.args.content name databases c.put_record.new.databases.items indexes takes put are found some,
    )
