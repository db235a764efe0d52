-- A folder whose files were all read.
use Rattle.std.proofs.Common.{◌≡◌, ◌≤◌, ℕ, zero, suc, List, [], ◌∷◌, map, get_or, Option, None, Some, refl, rules}
use Rattle.std.specs.Prelude.{IfSome}
use Rattle.std.specs.FinMap as finmap
use Rattle.std.specs.List.{AllByRecursion}
use Rattle.std.specs.Option.{option_map}
use Rattle.std.proofs.lemmas.List.{length-map}
use Rattle.hs_folders.specs.FileMaps.{FileMap}
use Rattle.folder_files.specs.FileNames.{desktop_info_file, journal_file}
use Rattle.folder_files.specs.InfoFiles.{desktop_in}
use Rattle.folder_files.specs.Partings.{PartedRise}
use Rattle.folder_files.specs.Slots.{AllRise, AreSlots, SlotInfoValue}
use Rattle.pdb_values.specs.NamedDatabases.{NamesRise}
use Rattle.desk_journal.specs.Overlays.{HasNoJournal, bad_of, finished}
use Rattle.desk_journal.specs.declared.bad_journal.BadJournal.{BadJournal}
use Rattle.desk_store.specs.Desks.{IsDesk}
use Rattle.desk_store.specs.Finds.{FindsAll, first_bad_in, rows_count}
use Rattle.desk_store.specs.Shelves.{AreInOrder, SlotValue, bare_slot, first_slots, infos_of, marks_of, new_slot, number_of, slot_at, slots_in, slots_or_first}
use Rattle.desk_store.proofs.FindLaws.{all_databases, found_none, good_all, no_bad_journal}
use Rattle.desk_store.proofs.SlotListLaws.{ordered_at, parted_at}

-- a bad journal stays as it is
bad_stays : (held : FileMap) {bad : BadJournal} → Some bad ≡ bad_of (finmap.get held journal_file) → finished held ≡ held
bad_stays held is = search (rules)

clear_of : (held : FileMap) (bad : Option BadJournal) → bad ≡ bad_of (finmap.get held journal_file) → (bad ≡ None → HasNoJournal (finished held))
    → first_bad_in (finished held) ≡ None → HasNoJournal (finished held)
clear_of held bad is clear good = search (rules, no_bad_journal, bad_stays)

-- where no file is bad, no journal is left
pub told_clear : {now : Option FileMap} (told : Option FileMap) (bad : Option BadJournal) → now ≡ option_map finished told
    → IfSome told (λ held. bad ≡ bad_of (finmap.get held journal_file)) → (bad ≡ None → IfSome now HasNoJournal) → IfSome now (λ held. first_bad_in held ≡ None)
    → IfSome now HasNoJournal
told_clear told bad is found clear good = search (rules, clear_of)

-- all files of a folder were read, and this is what they hold
abbrev pub HoldsAll : FileMap → List SlotValue → Type 0
HoldsAll held slots = FindsAll held (finmap.keys held) slots × (rows_count (finmap.keys held) ≤ 200)

good_in : (held : FileMap) (slots : List SlotValue) → HoldsAll held slots → first_bad_in held ≡ None
good_in held slots is = search (rules, length-map)

pub told_good : (told : Option FileMap) (slots : List SlotValue) → IfSome told (λ held. HoldsAll held slots) → IfSome told (λ held. first_bad_in held ≡ None)
told_good None slots is = tt
told_good (Some held) slots is = good_in held slots is

-- what was found is the desktop
pub told_desk : (told : Option FileMap) {slots : List SlotValue} → AreSlots (marks_of slots) → AllRise (infos_of slots) → AreInOrder slots
    → IfSome told (λ held. HoldsAll held slots) → IfSome told HasNoJournal → IsDesk told slots
told_desk told formed parted ordered is none = search (rules, all_databases, good_all)

-- ---- the slots of the information file

pub told_info : (told : Option FileMap) (bytes : List ℕ) {slots : List SlotInfoValue} → IfSome told (λ held. finmap.get held desktop_info_file ≡ Some bytes)
    → slots ≡ slots_or_first (Some (desktop_in bytes)) → IfSome told (λ held. slots ≡ slots_in held)
told_info told bytes there is = search (rules)

pub told_missing : (told : Option FileMap) {slots : List SlotInfoValue} → IfSome told (λ held. finmap.get held desktop_info_file ≡ None) → slots ≡ first_slots
    → IfSome told (λ held. slots ≡ slots_in held)
told_missing told there is = search (rules)

pub told_empty : (told : Option FileMap) (infos : List SlotInfoValue) {slots : List SlotValue} → IfSome told (λ held. infos ≡ slots_in held)
    → slots ≡ map bare_slot infos → IfSome told (λ held. FindsAll held [] slots)
told_empty None infos known is = tt
told_empty (Some held) infos known is = found_none known is

-- ---- the picked slot

pub picked_rise : (told : Option FileMap) (slots : List SlotValue) (place : ℕ) → IsDesk told slots → NamesRise (slot_at slots place).shelves.rows
picked_rise told slots place is = (ordered_at slots place is.ordered).rows

pub picked_parted : (told : Option FileMap) (slots : List SlotValue) (place : ℕ) → IsDesk told slots → PartedRise (slot_at slots place).parted
picked_parted told slots place is = parted_at slots place is.parted

pub picked_number : (told : Option FileMap) (slots : List SlotValue) (place : ℕ) → IsDesk told slots → (slot_at slots place).marks.pc ≡ number_of slots
picked_number told slots place is = by slots place (new_slot (number_of slots)) is.formed.one_desktop refl
  where
    by : (xs : List SlotValue) (k : ℕ) (d : SlotValue) → AllByRecursion (λ marks. marks.pc ≡ number_of slots) (marks_of xs) → d.marks.pc ≡ number_of slots
        → (get_or xs k d).marks.pc ≡ number_of slots
    by [] k d each here = here
    by (x ∷ xs) zero d each here = each.0
    by (x ∷ xs) (suc k) d each here = by xs k d each.1 here
