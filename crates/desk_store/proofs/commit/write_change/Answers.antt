-- The files of a change form a journal, and the folder then stands for the slots.
use Rattle.std.proofs.Common.{◌⊎◌, ◌∙◌, List, subst, ap, refl, inr}
use Rattle.std.specs.Prelude.{IfSome, Some}
use Rattle.std.specs.Option.{option_map}
use Rattle.hs_folders.specs.Moments.{EachMomentSince}
use Rattle.desk_journal.specs.Entries.{EntryValue}
use Rattle.desk_journal.specs.Overlays.{FinishesAs, StandsAs, put_all}
use Rattle.desk_journal.specs.Steps.{GoesThrough, GoesThroughAll, changed_in, commit_steps}
use Rattle.desk_journal.proofs.OverlayLaws.{on_err_of}
use Rattle.desk_store.specs.Changes.{change_entries}
use Rattle.desk_store.specs.Desks.{IsDesk}
use Rattle.desk_store.proofs.CommitLaws.{desk_after, done_when, slot_of}
use Rattle.desk_store.proofs.JournalLaws.{change_is_journal}
use Rattle.desk_store.proofs.commit.write_change.Goals as goal

pub commit_files-requires-clause-form : goal.commit_files-requires-clause-form
commit_files-requires-clause-form g c =
    let done = done_when c.requires.place c.requires.change c.requires.marks c.in_ok-entries.ensures.written c.in_ok-entries.ensures.text in
    change_is_journal c.in_ok-entries.entries.items (slot_of c.requires.desk.formed c.requires.place) c.requires.change done.written done.text
    c.in_ok-entries.ensures.entries

pub returns-in_err-commit_files-clause-refused : goal.returns-in_err-commit_files-clause-refused
returns-in_err-commit_files-clause-refused g c =
    let before = g.F.Folder.contents c.args.folder.now in
    let after = g.F.Folder.contents c.commit_files.new.folder in
    on_err_of c.from_residual-in_err-commit_files.result
    (subst (λ (entries : List EntryValue). StandsAs before after ⊎ StandsAs (option_map (put_all entries) before) after) c.in_ok-entries.ensures.entries
    c.in_err-commit_files.ensures.refused)

pub returns-in_err-commit_files-clause-each_moment : goal.returns-in_err-commit_files-clause-each_moment
returns-in_err-commit_files-clause-each_moment g c =
    subst (λ (entries : List EntryValue). EachMomentSince (StandsAs (option_map (put_all entries) (g.F.Folder.contents c.args.folder.now)))
    (g.F.Folder.moments c.args.folder.now) (g.F.Folder.moments c.commit_files.new.folder))
    c.in_ok-entries.ensures.entries c.in_err-commit_files.ensures.each_moment

pub returns-clause-written : goal.returns-clause-written
returns-clause-written g c =
    c.in_ok-commit_files.ensures.done ∙ ap (λ (entries : List EntryValue). option_map (put_all entries) (g.F.Folder.contents c.args.folder.now))
    c.in_ok-entries.ensures.entries

pub returns-clause-desk : goal.returns-clause-desk
returns-clause-desk g c =
    let done = done_when c.requires.place c.requires.change c.requires.marks c.in_ok-entries.ensures.written c.in_ok-entries.ensures.text in
    let before = g.F.Folder.contents c.args.folder.now in
    let after = g.F.Folder.contents c.commit_files.new.folder in
    let written = c.in_ok-commit_files.ensures.done ∙ ap (λ (entries : List EntryValue). option_map (put_all entries) before) c.in_ok-entries.ensures.entries in
    desk_after after c.requires.desk done written c.in_ok-entries.ensures.slots

pub returns-clause-each_moment : goal.returns-clause-each_moment
returns-clause-each_moment g c =
    subst (λ (entries : List EntryValue). EachMomentSince (StandsAs (option_map (put_all entries) (g.F.Folder.contents c.args.folder.now)))
    (g.F.Folder.moments c.args.folder.now) (g.F.Folder.moments c.commit_files.new.folder))
    c.in_ok-entries.ensures.entries c.in_ok-commit_files.ensures.each_moment

pub returns-in_err-commit_files-clause-made : goal.returns-in_err-commit_files-clause-made
returns-in_err-commit_files-clause-made g c =
    let slots = c.args.slots.items in
    let done = done_when c.requires.place c.requires.change c.requires.marks c.in_ok-entries.ensures.written c.in_ok-entries.ensures.text in
    let before = g.F.Folder.contents c.args.folder.now in
    let made = option_map (put_all (change_entries c.args.change c.args.place slots)) before in
    inr (subst (IsDesk made) c.in_ok-entries.ensures.slots
    (desk_after made c.requires.desk done refl c.in_ok-entries.ensures.slots))

pub returns-clause-made : goal.returns-clause-made
returns-clause-made g c =
    let slots = c.args.slots.items in
    let done = done_when c.requires.place c.requires.change c.requires.marks c.in_ok-entries.ensures.written c.in_ok-entries.ensures.text in
    let before = g.F.Folder.contents c.args.folder.now in
    let made = option_map (put_all (change_entries c.args.change c.args.place slots)) before in
    inr (subst (IsDesk made) c.in_ok-entries.ensures.slots
    (desk_after made c.requires.desk done refl c.in_ok-entries.ensures.slots))

pub returns-in_err-commit_files-clause-left : goal.returns-in_err-commit_files-clause-left
returns-in_err-commit_files-clause-left g c =
    let before = g.F.Folder.contents c.args.folder.now in
    let after = g.F.Folder.contents c.commit_files.new.folder in
    subst (λ (entries : List EntryValue). FinishesAs before after ⊎ FinishesAs (option_map (put_all entries) before) after) c.in_ok-entries.ensures.entries
    c.commit_files.ensures.left

pub returns-in_err-commit_files-clause-each_left : goal.returns-in_err-commit_files-clause-each_left
returns-in_err-commit_files-clause-each_left g c =
    let before = g.F.Folder.contents c.args.folder.now in
    let old = g.F.Folder.moments c.args.folder.now in
    let new = g.F.Folder.moments c.commit_files.new.folder in
    subst (λ (entries : List EntryValue). EachMomentSince (FinishesAs (option_map (put_all entries) before)) old new) c.in_ok-entries.ensures.entries
    c.commit_files.ensures.each_left

pub returns-in_err-commit_files-clause-steps : goal.returns-in_err-commit_files-clause-steps
returns-in_err-commit_files-clause-steps g c =
    let before = g.F.Folder.contents c.args.folder.now in
    let after = g.F.Folder.contents c.commit_files.new.folder in
    let old = g.F.Folder.moments c.args.folder.now in
    let new = g.F.Folder.moments c.commit_files.new.folder in
    subst (λ (entries : List EntryValue). IfSome before (λ held. GoesThrough (commit_steps (changed_in held entries) (Some held)) (Some held) after old new))
    c.in_ok-entries.ensures.entries
    c.commit_files.ensures.steps

pub returns-clause-left : goal.returns-clause-left
returns-clause-left g c =
    let before = g.F.Folder.contents c.args.folder.now in
    let after = g.F.Folder.contents c.commit_files.new.folder in
    subst (λ (entries : List EntryValue). FinishesAs before after ⊎ FinishesAs (option_map (put_all entries) before) after) c.in_ok-entries.ensures.entries
    c.commit_files.ensures.left

pub returns-clause-each_left : goal.returns-clause-each_left
returns-clause-each_left g c =
    let before = g.F.Folder.contents c.args.folder.now in
    let old = g.F.Folder.moments c.args.folder.now in
    let new = g.F.Folder.moments c.commit_files.new.folder in
    subst (λ (entries : List EntryValue). EachMomentSince (FinishesAs (option_map (put_all entries) before)) old new) c.in_ok-entries.ensures.entries
    c.commit_files.ensures.each_left

pub returns-clause-steps : goal.returns-clause-steps
returns-clause-steps g c =
    let before = g.F.Folder.contents c.args.folder.now in
    let after = g.F.Folder.contents c.commit_files.new.folder in
    let old = g.F.Folder.moments c.args.folder.now in
    let new = g.F.Folder.moments c.commit_files.new.folder in
    subst (λ (entries : List EntryValue). IfSome before (λ held. GoesThrough (commit_steps (changed_in held entries) (Some held)) (Some held) after old new))
    c.in_ok-entries.ensures.entries
    c.commit_files.ensures.steps

pub returns-clause-all : goal.returns-clause-all
returns-clause-all g c =
    let before = g.F.Folder.contents c.args.folder.now in
    let old = g.F.Folder.moments c.args.folder.now in
    let new = g.F.Folder.moments c.commit_files.new.folder in
    subst (λ (entries : List EntryValue). IfSome before (λ held. GoesThroughAll (commit_steps (changed_in held entries) (Some held)) old new))
    c.in_ok-entries.ensures.entries
    c.in_ok-commit_files.ensures.all
