use Rattle.std.proofs.Common.{◌≡◌, take}
use Rattle.std.specs.List.{AllByRecursion}
use Rattle.desk_store.specs.Changes.{IsDbChange}
use Rattle.desk_store.specs.Views.{shelves_in}
use Rattle.session_plan.specs.Takes.{changes_of, each_of}
use Rattle.session_plan.proofs.committing.take_all.Given as goal

abbrev pub invariant-loop-index : goal.invariant-loop-index
invariant-loop-index g l = record {
  changes : l.changes.items ≡ changes_of l.date (shelves_in l.desk) (take l.index l.planned) (each_of (take l.index l.ids));
  fit : AllByRecursion IsDbChange l.changes.items;
}
