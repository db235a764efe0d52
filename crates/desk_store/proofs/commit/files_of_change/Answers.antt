-- The files of a change are those of its databases and then the information file.
use Rattle.std.proofs.Common.{◌∙◌, List, subst, sym}
use Rattle.std.specs.List.{AllByRecursion}
use Rattle.folder_files.specs.InfoFiles.{IsDesktopFile, desktop_text}
use Rattle.folder_files.specs.Slots.{AllRise, AreSlots}
use Rattle.desk_store.specs.Changes.{IsDbWritten}
use Rattle.desk_store.specs.Shelves.{SlotValue, infos_of, marks_of}
use Rattle.desk_store.proofs.CommitLaws.{entries_are, formed_after, parted_after}
use Rattle.desk_store.proofs.commit.files_of_change.Goals as goal

pub push_slots-requires-clause-formed : goal.push_slots-requires-clause-formed
push_slots-requires-clause-formed c =
    subst (λ (slots : List SlotValue). AreSlots (marks_of slots)) (sym (c.deref-2.ensures.value ∙ c.in_ok-after.ensures))
    (formed_after c.args.change c.requires.formed c.requires.place c.requires.marks)

pub push_slots-requires-clause-parted : goal.push_slots-requires-clause-parted
push_slots-requires-clause-parted c =
    subst (λ (slots : List SlotValue). AllRise (infos_of slots)) (sym (c.deref-2.ensures.value ∙ c.in_ok-after.ensures))
    (parted_after c.args.change c.requires.change c.requires.place c.requires.parted)

pub returns-clause-entries : goal.returns-clause-entries
returns-clause-entries c =
    entries_are c.args.change c.args.place c.args.slots.items c.deref.ensures.value c.in_ok-entries.ensures.entries
    c.in_ok-push_slots.ensures.entries c.deref-2.ensures.value c.in_ok-after.ensures

pub returns-clause-written : goal.returns-clause-written
returns-clause-written c = subst (AllByRecursion IsDbWritten) c.deref.ensures.value c.in_ok-entries.ensures.written

pub returns-clause-text : goal.returns-clause-text
returns-clause-text c =
    subst (λ (slots : List SlotValue). IsDesktopFile (infos_of slots) (desktop_text (infos_of slots)))
    (c.deref-2.ensures.value ∙ c.in_ok-after.ensures) c.in_ok-push_slots.ensures.written
