-- What was planned is a change that the desktop takes.
use Rattle.std.proofs.Common.{ap, arith, length, subst, sym, map}
use Rattle.pdb_values.specs.NamedDatabases.{NamesRise}
use Rattle.desk_store.specs.Views.{shelves_in}
use Rattle.desk_store.specs.declared.change.DbChange.{DbChange}
use Rattle.session_plan.specs.Takes.{each_of}
use Rattle.session_plan.proofs.FitLaws.{changes-few, changes-rise}
use Rattle.session_plan.proofs.committing.change_all.Goals as goal

pub returns-clause-fit : goal.returns-clause-fit
returns-clause-fit g c = record {
  few = omega (
    arith,
    c.requires.few,
    ap length c.in_ok-databases.ensures.changes,
    changes-few c.args.done.last (shelves_in c.args.desk.now) c.args.planned.now (each_of c.args.ids.now),
  );
  rise = subst (λ changes. NamesRise (map (λ (change : DbChange). change.rows) changes)) (sym c.in_ok-databases.ensures.changes)
      (changes-rise c.args.done.last (shelves_in c.args.desk.now) c.args.planned.now (each_of c.args.ids.now) c.requires.each c.requires.rise);
  each = c.in_ok-databases.ensures.fit;
  parted = c.in_ok-parted.ensures.rise;
}

pub returns-clause-bears : goal.returns-clause-bears
returns-clause-bears g c =
    record { number = c.requires.number; own = c.requires.seat.own; first = c.requires.seat.first }
