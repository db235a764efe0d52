-- One database more is put.
use Rattle.std.proofs.Common.{List, sym, ap, ◌∙◌}
use Rattle.desk_store.specs.Changes.{with_changes}
use Rattle.desk_store.specs.declared.change.DbChange.{DbChange}
use Rattle.desk_store.proofs.ChangedLaws.{with_changes-append}
use Rattle.desk_store.proofs.change.put_changes.Goals as goal

pub loop-database-preserved : goal.loop-database-preserved
loop-database-preserved c =
    ap (with_changes c.pop.new.self.items) c.in_ok-put_change.ensures
    ∙ (sym (with_changes-append c.pop.new.self.items c.in-Some.database c.loop-database.shelves)
    ∙ (ap (λ (changes : List DbChange). with_changes changes c.loop-database.shelves) (sym c.in-Some.ensures.items) ∙ c.loop-database.invariant))
