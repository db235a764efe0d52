-- What holds of the slots inside holds of the desktop.
use Rattle.std.proofs.Common.{◌≡◌, ◌⊎◌, ◌≤◌, ℕ, List, ap}
use Rattle.std.specs.Prelude.{IfSome, Some}
use Rattle.std.specs.Option.{option_map, option_or}
use Rattle.hs_folders.specs.Moments.{EachMomentSince}
use Rattle.pdb_values.specs.NamedDatabases.{database_of}
use Rattle.desk_journal.specs.Overlays.{FinishesAs, StandsAs, put_all}
use Rattle.desk_journal.specs.Steps.{GoesThrough, GoesThroughAll}
use Rattle.desk_store.specs.Changes.{change_entries, changed, files_with, steps_of, with_commit}
use Rattle.desk_store.specs.Desks.{IsDesk, StaysOpenable, all_rows}
use Rattle.desk_store.specs.Shelves.{SlotValue, shelf_at, shelf_of}
use Rattle.desk_store.specs.Views.{shelves_in}
use Rattle.desk_store.specs.declared.role.Role.{Role}
use Rattle.desk_store.proofs.CommitLaws.{databases_after, picked_as, seen}
use Rattle.desk_store.proofs.OpenableLaws.{commit_openable}
use Rattle.desk_store.proofs.desk.Desk.commit.Goals as goal

pub returns-in-Ok-clause-written : goal.returns-in-Ok-clause-written
returns-in-Ok-clause-written g c =
    seen (λ d. g.F.Folder.contents c.write_change.new.folder ≡ files_with c.args.change d.picked d.slots (g.F.Folder.contents d.folder)) c.self.view_is
    c.in-Ok.ensures.written

pub returns-in-Ok-clause-marks : goal.returns-in-Ok-clause-marks
returns-in-Ok-clause-marks g c =
    ap (λ (slot : SlotValue). slot.marks)
    (picked_as c.args.change c.in-Ok.slots.items c.self.invariant.0.formed c.self.invariant.1 c.in-Ok.ensures.slots)

pub returns-in-Ok-clause-parted : goal.returns-in-Ok-clause-parted
returns-in-Ok-clause-parted g c =
    ap (λ (slot : SlotValue). slot.parted)
    (picked_as c.args.change c.in-Ok.slots.items c.self.invariant.0.formed c.self.invariant.1 c.in-Ok.ensures.slots)

pub returns-in-Ok-clause-databases : goal.returns-in-Ok-clause-databases
returns-in-Ok-clause-databases g c =
    let picked = c.self.inside.picked in
    let changes = c.args.change.databases.items in
    seen (λ d. (role : Role) (name : List ℕ) → database_of name (shelf_at c.in-Ok.slots.items picked role) ≡ option_or (changed role name changes)
    (database_of name (shelf_of (shelves_in d) role))) c.self.view_is
    (databases_after c.self.invariant.0.formed c.self.invariant.1 c.requires.change c.in-Ok.ensures.slots)

pub returns-in-Ok-clause-each_moment : goal.returns-in-Ok-clause-each_moment
returns-in-Ok-clause-each_moment g c = seen
    (λ d. EachMomentSince (StandsAs (option_map (put_all (change_entries c.args.change d.picked d.slots)) (g.F.Folder.contents d.folder)))
    (g.F.Folder.moments d.folder) (g.F.Folder.moments c.write_change.new.folder)) c.self.view_is c.in-Ok.ensures.each_moment

pub returns-in-Err-clause-refused : goal.returns-in-Err-clause-refused
returns-in-Err-clause-refused g c =
    let now = g.F.Folder.contents c.write_change.new.folder in
    seen (λ d. StandsAs (g.F.Folder.contents d.folder) now ⊎ StandsAs
    (option_map (put_all (change_entries c.args.change d.picked d.slots)) (g.F.Folder.contents d.folder)) now) c.self.view_is c.in-Err.ensures.refused

pub returns-in-Err-clause-each_moment : goal.returns-in-Err-clause-each_moment
returns-in-Err-clause-each_moment g c = seen
    (λ d. EachMomentSince (StandsAs (option_map (put_all (change_entries c.args.change d.picked d.slots)) (g.F.Folder.contents d.folder)))
    (g.F.Folder.moments d.folder) (g.F.Folder.moments c.write_change.new.folder)) c.self.view_is c.in-Err.ensures.each_moment

pub returns-in-Ok-clause-made : goal.returns-in-Ok-clause-made
returns-in-Ok-clause-made g c =
    seen (λ d. (c.write_change.new.folder ≡ d.folder) ⊎ IsDesk
    (option_map (put_all (change_entries c.args.change d.picked d.slots)) (g.F.Folder.contents d.folder))
    (with_commit c.args.change d.picked d.slots)) c.self.view_is c.in-Ok.ensures.made

pub returns-in-Err-clause-made : goal.returns-in-Err-clause-made
returns-in-Err-clause-made g c =
    seen (λ d. (c.write_change.new.folder ≡ d.folder) ⊎ IsDesk
    (option_map (put_all (change_entries c.args.change d.picked d.slots)) (g.F.Folder.contents d.folder))
    (with_commit c.args.change d.picked d.slots)) c.self.view_is c.in-Err.ensures.made

pub returns-in-Ok-clause-left : goal.returns-in-Ok-clause-left
returns-in-Ok-clause-left g c =
    let now = g.F.Folder.contents c.write_change.new.folder in
    let new = g.F.Folder.moments c.write_change.new.folder in
    seen (λ d. FinishesAs (g.F.Folder.contents d.folder) now ⊎ FinishesAs
    (option_map (put_all (change_entries c.args.change d.picked d.slots)) (g.F.Folder.contents d.folder)) now) c.self.view_is c.in-Ok.ensures.left

pub returns-in-Ok-clause-each_left : goal.returns-in-Ok-clause-each_left
returns-in-Ok-clause-each_left g c =
    let now = g.F.Folder.contents c.write_change.new.folder in
    let new = g.F.Folder.moments c.write_change.new.folder in
    seen (λ d. EachMomentSince (FinishesAs (option_map (put_all (change_entries c.args.change d.picked d.slots)) (g.F.Folder.contents d.folder)))
    (g.F.Folder.moments d.folder) new) c.self.view_is c.in-Ok.ensures.each_left

pub returns-in-Ok-clause-steps : goal.returns-in-Ok-clause-steps
returns-in-Ok-clause-steps g c =
    let now = g.F.Folder.contents c.write_change.new.folder in
    let new = g.F.Folder.moments c.write_change.new.folder in
    seen (λ d. IfSome (g.F.Folder.contents d.folder) (λ held. GoesThrough (steps_of c.args.change d.picked d.slots held) (Some held) now
    (g.F.Folder.moments d.folder) new)) c.self.view_is c.in-Ok.ensures.steps

pub returns-in-Err-clause-left : goal.returns-in-Err-clause-left
returns-in-Err-clause-left g c =
    let now = g.F.Folder.contents c.write_change.new.folder in
    let new = g.F.Folder.moments c.write_change.new.folder in
    seen (λ d. FinishesAs (g.F.Folder.contents d.folder) now ⊎ FinishesAs
    (option_map (put_all (change_entries c.args.change d.picked d.slots)) (g.F.Folder.contents d.folder)) now) c.self.view_is c.in-Err.ensures.left

pub returns-in-Err-clause-each_left : goal.returns-in-Err-clause-each_left
returns-in-Err-clause-each_left g c =
    let now = g.F.Folder.contents c.write_change.new.folder in
    let new = g.F.Folder.moments c.write_change.new.folder in
    seen (λ d. EachMomentSince (FinishesAs (option_map (put_all (change_entries c.args.change d.picked d.slots)) (g.F.Folder.contents d.folder)))
    (g.F.Folder.moments d.folder) new) c.self.view_is c.in-Err.ensures.each_left

pub returns-in-Err-clause-steps : goal.returns-in-Err-clause-steps
returns-in-Err-clause-steps g c =
    let now = g.F.Folder.contents c.write_change.new.folder in
    let new = g.F.Folder.moments c.write_change.new.folder in
    seen (λ d. IfSome (g.F.Folder.contents d.folder) (λ held. GoesThrough (steps_of c.args.change d.picked d.slots held) (Some held) now
    (g.F.Folder.moments d.folder) new)) c.self.view_is c.in-Err.ensures.steps

pub returns-in-Ok-clause-all : goal.returns-in-Ok-clause-all
returns-in-Ok-clause-all g c =
    let now = g.F.Folder.contents c.write_change.new.folder in
    let new = g.F.Folder.moments c.write_change.new.folder in
    seen (λ d. IfSome (g.F.Folder.contents d.folder) (λ held. GoesThroughAll (steps_of c.args.change d.picked d.slots held)
    (g.F.Folder.moments d.folder) new)) c.self.view_is c.in-Ok.ensures.all

pub returns-in-Ok-clause-openable : goal.returns-in-Ok-clause-openable
returns-in-Ok-clause-openable g c =
    let now = g.F.Folder.contents c.write_change.new.folder in
    let new = g.F.Folder.moments c.write_change.new.folder in
    seen (λ d. all_rows d.slots ≤ 200 → all_rows (with_commit c.args.change d.picked d.slots) ≤ 200 → StaysOpenable now (g.F.Folder.moments d.folder) new)
    c.self.view_is
    (commit_openable g.F.Folder.contents g.F.Folder.moments c.self.invariant.0 c.in-Ok.ensures.made c.in-Ok.ensures.left c.in-Ok.ensures.each_left)

pub returns-in-Err-clause-openable : goal.returns-in-Err-clause-openable
returns-in-Err-clause-openable g c =
    let now = g.F.Folder.contents c.write_change.new.folder in
    let new = g.F.Folder.moments c.write_change.new.folder in
    seen (λ d. all_rows d.slots ≤ 200 → all_rows (with_commit c.args.change d.picked d.slots) ≤ 200 → StaysOpenable now (g.F.Folder.moments d.folder) new)
    c.self.view_is
    (commit_openable g.F.Folder.contents g.F.Folder.moments c.self.invariant.0 c.in-Err.ensures.made c.in-Err.ensures.left c.in-Err.ensures.each_left)
