use Rattle.std.proofs.Common.{◌≡◌, None, filter, not, refl, rules}
use Rattle.pdb_values.specs.NamedDatabases.{database_of, with_new}
use Rattle.palm_device.specs.Blocks.{empty_database}
use Rattle.handheld_store.specs.Indexes.{is_of}
use Rattle.handheld_store.proofs.IndexLaws.{left_right, others-with_new}
use Rattle.handheld_store.proofs.store.Store.create.Goals as goal

pub invariant_of-self : goal.invariant_of-self
invariant_of-self g c =
    let inside = c.self.inside in
    let new = empty_database c.args.head in
    let forgot : c.forget.new.indexes.items ≡ filter (λ index. not (is_of c.args.head.name index)) inside.indexes.items = search rules in
    let added : c.add_database.new.databases.items ≡ with_new new inside.databases.items = search rules in
    let none : database_of c.args.head.name inside.databases.items ≡ None = search rules in (
      c.add_database.ensures.kept,
      rw added (left_right c.args.head.name inside.databases.items (with_new new inside.databases.items)
          inside.indexes.items c.forget.new.indexes.items (others-with_new new inside.databases.items none) c.self.invariant.1 forgot),
    )

pub invariant_of-self-in-Err-add_database : goal.invariant_of-self-in-Err-add_database
invariant_of-self-in-Err-add_database g c =
    let inside = c.self.inside in
    let forgot : c.forget.new.indexes.items ≡ filter (λ index. not (is_of c.args.head.name index)) inside.indexes.items = search rules in
    let stays : c.add_database.new.databases.items ≡ inside.databases.items = search rules in (
      c.add_database.ensures.kept,
      rw stays (left_right c.args.head.name
          inside.databases.items inside.databases.items inside.indexes.items c.forget.new.indexes.items (λ other differs. refl) c.self.invariant.1 forgot),
    )
