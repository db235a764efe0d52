use Rattle.std.proofs.Common.{◌≡◌, filter, not, refl, rules}
use Rattle.pdb_values.specs.NamedDatabases.{without_named}
use Rattle.handheld_store.specs.Indexes.{is_of}
use Rattle.handheld_store.proofs.IndexLaws.{left_right, others-without_named}
use Rattle.handheld_store.proofs.store.Store.delete.Goals as goal

pub invariant_of-self : goal.invariant_of-self
invariant_of-self g c =
    let inside = c.self.inside in
    let forgot : c.forget.new.indexes.items ≡ filter (λ index. not (is_of c.args.name.now index)) inside.indexes.items = search rules in
    let taken : c.take_database.new.databases.items ≡ without_named c.args.name.now inside.databases.items = search rules in (
      c.take_database.ensures.kept,
      rw taken
          (left_right c.args.name.now inside.databases.items
          (without_named c.args.name.now inside.databases.items) inside.indexes.items c.forget.new.indexes.items
          (others-without_named c.args.name.now inside.databases.items c.self.invariant.0.order) c.self.invariant.1 forgot),
    )

pub invariant_of-self-in-Err : goal.invariant_of-self-in-Err
invariant_of-self-in-Err g c =
    let inside = c.self.inside in
    let forgot : c.forget.new.indexes.items ≡ filter (λ index. not (is_of c.args.name.now index)) inside.indexes.items = search rules in
    let stays : c.take_database.new.databases.items ≡ inside.databases.items = search rules in (
      c.take_database.ensures.kept,
      rw stays (left_right c.args.name.now
          inside.databases.items inside.databases.items inside.indexes.items c.forget.new.indexes.items (λ other differs. refl) c.self.invariant.1 forgot),
    )
