use Rattle.std.proofs.Common.{◌≡◌, filter, not, rules}
use Rattle.std.specs.Prelude.{true}
use Rattle.pdb_values.specs.NamedDatabases.{replaced}
use Rattle.handheld_store.specs.Indexes.{is_of}
use Rattle.handheld_store.proofs.IndexLaws.{Serve, serve_forgotten, serve_same}
use Rattle.handheld_store.proofs.store.Store.put_back.Goals.{else-not-has_ids_of, then-not-has_ids_of}
use Rattle.handheld_store.proofs.store.Store.put_back.Goals as goal

pub invariant_of-self : goal.invariant_of-self
invariant_of-self g c =
    let inside = c.self.inside in
    let serve : Serve c.args.database inside.databases.items c.if-not-has_ids_of.self-inside.indexes.items =
    elim c.if-not-has_ids_of.branch [
      | then-not-has_ids_of w ↦ let forgot : c.if-not-has_ids_of.self-inside.indexes.items ≡ filter (λ index. not
          (is_of c.args.database.head.name index)) inside.indexes.items = search rules in
          serve_forgotten c.args.database inside.databases.items inside.indexes.items
          c.if-not-has_ids_of.self-inside.indexes.items c.self.invariant.1 forgot
      | else-not-has_ids_of w ↦ let left : c.if-not-has_ids_of.self-inside.indexes.items
          ≡ inside.indexes.items = search rules in let has : c.has_ids_of.result ≡ true = search rules in serve_same c.args.database inside.databases.items
          c.if-not-has_ids_of.self-inside.indexes.items (rw left c.self.invariant.1) (rw (← c.deref.ensures.value) (c.has_ids_of.ensures has))
    ] in
    let put : c.put_database.new.databases.items ≡ replaced c.args.database inside.databases.items = search rules in
    (c.put_database.ensures.kept, rw put serve.after)

pub invariant_of-self-in-Err : goal.invariant_of-self-in-Err
invariant_of-self-in-Err g c =
    let inside = c.self.inside in
    let serve : Serve c.args.database inside.databases.items c.if-not-has_ids_of.self-inside.indexes.items =
    elim c.if-not-has_ids_of.branch [
      | then-not-has_ids_of w ↦ let forgot : c.if-not-has_ids_of.self-inside.indexes.items ≡ filter (λ index. not
          (is_of c.args.database.head.name index)) inside.indexes.items = search rules in
          serve_forgotten c.args.database inside.databases.items inside.indexes.items
          c.if-not-has_ids_of.self-inside.indexes.items c.self.invariant.1 forgot
      | else-not-has_ids_of w ↦ let left : c.if-not-has_ids_of.self-inside.indexes.items
          ≡ inside.indexes.items = search rules in let has : c.has_ids_of.result ≡ true = search rules in serve_same c.args.database inside.databases.items
          c.if-not-has_ids_of.self-inside.indexes.items (rw left c.self.invariant.1) (rw (← c.deref.ensures.value) (c.has_ids_of.ensures has))
    ] in
    let stays : c.put_database.new.databases.items ≡ inside.databases.items = search rules in
    (c.put_database.ensures.kept, rw stays serve.before)
