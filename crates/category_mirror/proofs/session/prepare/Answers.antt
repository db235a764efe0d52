-- What changes is what the desktop takes.
use Rattle.std.proofs.Common.{◌∙◌, sym, subst, map}
use Rattle.folder_files.specs.Partings.{PartedRise}
use Rattle.std.specs.List.{AllByRecursion}
use Rattle.pdb_values.specs.NamedDatabases.{NamesRise}
use Rattle.desk_store.specs.Changes.{IsDbChange}
use Rattle.desk_store.specs.Views.{shelves_in}
use Rattle.desk_store.specs.declared.change.DbChange.{DbChange}
use Rattle.std.specs.Prelude.{List}
use Rattle.category_mirror.proofs.ChangeLaws.{changes-fit, changes-rise}
use Rattle.category_mirror.proofs.session.prepare.Goals as goal

pub returns-clause-fit : goal.returns-clause-fit
returns-clause-fit g c = record {
  may = rw c.deref.ensures.value at (c.may_commit.ensures (c.if-not-may_commit.false));
  rise = subst (λ (changes : List DbChange). NamesRise (map (λ (change : DbChange). change.rows) changes)) (sym c.in_ok-changes.ensures)
      (changes-rise (shelves_in c.args.desk.now) c.args.jobs.now c.args.merges.now c.requires.rise);
  each = subst (AllByRecursion IsDbChange) (sym c.in_ok-changes.ensures) (changes-fit (shelves_in c.args.desk.now) c.args.jobs.now c.args.merges.now);
}

pub returns-clause-kept : goal.returns-clause-kept
returns-clause-kept g c = record {
  same = c.in_ok-parted.ensures ∙ c.parted.ensures.parted;
  rise = subst PartedRise (sym c.in_ok-parted.ensures) c.parted.ensures.rise;
}
