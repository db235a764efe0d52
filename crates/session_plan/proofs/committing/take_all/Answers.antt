-- The changes of one database after another.
use Rattle.std.proofs.Common.{◌≡◌, ◌∙◌, arith, ℕ, List, sym, subst, option_to_list, length}
use Rattle.std.proofs.lemmas.List.{length-map}
use Rattle.std.specs.Global.{Vec}
use Rattle.std.specs.List.{AllByRecursion}
use Rattle.desk_store.specs.Changes.{IsDbChange}
use Rattle.desk_store.specs.Views.{shelves_in}
use Rattle.desk_store.specs.declared.change.DbChange.{DbChange}
use Rattle.session_plan.proofs.PlanWords.{Planned, ShelvesValue}
use Rattle.session_plan.specs.Fits.{AreTakeable}
use Rattle.session_plan.specs.Takes.{each_of}
use Rattle.session_plan.proofs.FitLaws.{takes-at, takes-length}
use Rattle.session_plan.proofs.TakeLaws.{changes_none, changes_step}
use Rattle.session_plan.proofs.committing.take_all.Goals as goal
use Rattle.desktop_session.proofs.GrowLaws.{take_whole}
use Rattle.desk_journal.proofs.StepLaws.{all-append}

pub loop-index-init : goal.loop-index-init
loop-index-init g c = record {
  changes = c.new-changes.ensures.items ∙ sym (changes_none c.args.date (shelves_in c.args.desk.now));
  fit = subst (AllByRecursion IsDbChange) (sym c.new-changes.ensures.items) tt;
}

-- each has a list of ids
counts : (date : ℕ) (shelves : ShelvesValue) (planned : List Planned) (ids : List (Vec ℕ)) → AreTakeable date shelves planned (each_of ids)
    → length ids ≡ length planned
counts date shelves planned ids each =
    sym (length-map ids (λ (one : Vec ℕ). one.items)) ∙ takes-length date shelves planned (each_of ids) each

pub bounds-ids-index : goal.bounds-ids-index
bounds-ids-index g c =
    let all = counts c.args.date (shelves_in c.args.desk.now) c.args.planned.now c.args.ids.now c.requires in
    omega (arith, all, c.loop-index-test.true)

pub take_one-requires : goal.take_one-requires
take_one-requires g c =
    rw c.deref.ensures.value
    (takes-at c.args.date (shelves_in c.args.desk.now) c.args.planned.now c.args.ids.now c.loop-index.index c.index-planned-index.result
    c.index-ids-index.result c.requires c.loop-index-test.true c.index-planned-index.is c.index-ids-index.is)

pub loop-index-preserved : goal.loop-index-preserved
loop-index-preserved g c =
    let before = c.loop-index.invariant in
    let all = counts c.args.date (shelves_in c.args.desk.now) c.args.planned.now c.args.ids.now c.requires in
    record {
      changes = changes_step c.args.date (shelves_in c.args.desk.now) c.args.planned.now c.args.ids.now c.loop-index.index c.index-planned-index.result
          c.index-ids-index.result c.deref.result.now c.loop-index.changes.items c.put_change.new.changes.items c.in_ok-change.change all
          c.loop-index-test.true c.index-planned-index.is c.index-ids-index.is c.in_ok-put_change.ensures before.changes c.in_ok-change.ensures.change
          c.deref.ensures.value;
      fit = subst (AllByRecursion IsDbChange) (sym {A = List DbChange} c.in_ok-put_change.ensures)
          (all-append IsDbChange c.loop-index.changes.items (option_to_list c.in_ok-change.change) before.fit c.in_ok-change.ensures.fit);
    }

pub returns-clause-changes : goal.returns-clause-changes
returns-clause-changes g c =
    let all = counts c.args.date (shelves_in c.args.desk.now) c.args.planned.now c.args.ids.now c.requires in
    let past = c.loop-index-test.false in
    rw (take_whole c.args.planned.now c.loop-index.index past, take_whole c.args.ids.now c.loop-index.index (omega (arith, all, past))) at
    c.loop-index.invariant.changes
