-- The file is that of the slots.
use Rattle.std.proofs.Common.{◌∙◌, List, ap, subst, sym}
use Rattle.folder_files.specs.Slots.{AreSlots, SlotInfoValue, all_marks}
use Rattle.desk_store.proofs.SlotListLaws.{marks-infos}
use Rattle.folder_files.specs.InfoFiles.{IsDesktopFile, desktop_text}
use Rattle.desk_store.proofs.commit.push_slots.Goals as goal

pub slots_entry-requires-clause-formed : goal.slots_entry-requires-clause-formed
slots_entry-requires-clause-formed c =
    subst AreSlots (sym (ap all_marks (c.deref.ensures.value ∙ c.in_ok-infos.ensures) ∙ marks-infos c.args.slots.now)) c.requires.formed

pub returns-clause-written : goal.returns-clause-written
returns-clause-written c = subst (λ (infos : List SlotInfoValue). IsDesktopFile infos (desktop_text infos))
    (c.deref.ensures.value ∙ c.in_ok-infos.ensures) c.in_ok-entry.ensures.written
