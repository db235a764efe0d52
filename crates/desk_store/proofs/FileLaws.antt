-- The files of a change: their names, and that what is written is read.
use Rattle.std.proofs.Common.{◌≡◌, ◌||◌, ◌<◌, ℕ, true, false, List, ◌++◌, ◌-◌, length, take, Option, Some, Ok, refl, sym, ap, ◌∙◌, arith}
use Rattle.std.specs.Prelude.{bytes_eq, codes}
use Rattle.std.proofs.lemmas.Bool.Decides.{Decides-eqb, nat_tests}
use Rattle.std.proofs.lemmas.Slice.Eq.{ends_is}
use Rattle.pdb_values.specs.Databases.{DatabaseValue}
use Rattle.pdb_values.specs.Heads.{holds_resources}
use Rattle.pdb_files.specs.Files.{IsFileText}
use Rattle.pdb_files.specs.Reading.{database_in}
use Rattle.pdb_files.proofs.FileLaws.{file-written}
use Rattle.folder_files.specs.FileNames.{desktop_info_file, has_ending, is_kept_file, journal_file}
use Rattle.folder_files.specs.InfoFiles.{IsDesktopFile}
use Rattle.folder_files.specs.Slots.{SlotInfoValue}
use Rattle.folder_files.proofs.InfoLaws.{desktop_only}
use Rattle.desk_store.specs.DeskFiles.{by_role, file_in, if_slot, if_slots, is_desk_file, is_own_file, own_slot, role_of, slot_file}
use Rattle.desk_store.specs.declared.file.DeskFile.TheVariants as files
use Rattle.desk_store.specs.declared.role.Role.{Role}
use Rattle.desk_store.specs.declared.role.Role.TheVariants.{Rows, Base, Archive}
use Rattle.desk_store.proofs.OwnLaws.{ending_of, last_byte, last_byte-append, own_file, own_slot-some, slot_file-ends, slot_stem}
use Rattle.pdb_values.proofs.NamedLaws.{bytes_eq-own}
use Rattle.std.proofs.lemmas.Bool.{false_from_ne_true, or_parts}
use Rattle.std.proofs.lemmas.Grind.{common_steps}

-- ---- endings

pub ends : (front ending : List ℕ) → has_ending ending (front ++ ending) ≡ true
ends front ending = (ends_is Decides-eqb (front ++ ending) ending _ refl).1 front refl

-- a text that ends otherwise
other_ending : (ending text : List ℕ) {last : ℕ} → last_byte text ≡ last → ((front : List ℕ) → last_byte (front ++ ending) ≡ last → ⊥)
    → has_ending ending text ≡ false
other_ending ending text is other = false_from_ne_true _
    (λ e. other (take (length text - length ending) text) (ap last_byte (sym ((ends_is Decides-eqb text ending _ refl).0 e)) ∙ is))

other_role : (role : Role) (text : List ℕ) {last : ℕ} → last_byte text ≡ last → (last_byte (ending_of role) ≡ last → ⊥)
    → has_ending (ending_of role) text ≡ false
other_role role text is other = other_ending (ending_of role) text is (λ front e. other (sym (last_byte-append front role) ∙ e))

role_of-stem : (role : Role) (front : List ℕ) → role_of (front ++ ending_of role) ≡ Some role
role_of-stem Rows front = rw (ends front (codes ".pdb")) refl
role_of-stem Base front = rw (other_role Rows (front ++ codes ".base") (last_byte-append front Base) (λ e. omega (arith, e)), ends front (codes ".base")) refl
role_of-stem Archive front =
    rw (
      other_role Rows (front ++ codes ".arc") (last_byte-append front Archive) (λ e. omega (arith, e)),
      other_role Base (front ++ codes ".arc")
          (last_byte-append front Archive) (λ e. omega (arith, e)),
      ends front (codes ".arc"),
    ) refl

pub role_of_file : (slot : ℕ) (role : Role) (name : List ℕ) → role_of (slot_file slot role name) ≡ Some role
role_of_file slot role name = ap role_of (slot_file-ends slot role name) ∙ role_of-stem role (slot_stem slot name)

kept_by : (name : List ℕ) {role : Role} → role_of name ≡ Some role → is_kept_file name ≡ true
kept_by name is = grind (arith, common_steps, nat_tests)

pub file_kept : (slot : ℕ) (role : Role) (name : List ℕ) → is_kept_file (slot_file slot role name) ≡ true
file_kept slot role name = kept_by (slot_file slot role name) (role_of_file slot role name)

-- the file of another name holds nothing to a desktop
pub file_in_other : (slots : ℕ) (name bytes : List ℕ) → is_desk_file name ≡ false → file_in slots name bytes ≡ Ok files.Other
unfolding file_in
file_in_other slots name bytes other =
    let kept = or_parts (is_kept_file name) (bytes_eq name journal_file) other in
    let rows = or_parts (has_ending (codes ".pdb") name) (has_ending (codes ".base") name || (has_ending (codes ".arc") name || bytes_eq name desktop_info_file))
    kept.0 in
    let base = or_parts (has_ending (codes ".base") name) (has_ending (codes ".arc") name || bytes_eq name desktop_info_file) rows.1 in
    let archive = or_parts (has_ending (codes ".arc") name) (bytes_eq name desktop_info_file) base.1 in
    rw (rows.0, base.0, archive.0, archive.1, kept.1) refl

-- the file of a database is not the information file
pub not_info : (slot : ℕ) (role : Role) (name : List ℕ) → slot_file slot role name ≡ desktop_info_file → ⊥
not_info slot role name e = let is : role_of desktop_info_file ≡ Some role = ap role_of (sym e) ∙ role_of_file slot role name in cc

-- ---- what is read

pub database_read : (slots slot : ℕ) (role : Role) (database : DatabaseValue) (bytes : List ℕ) → slot < slots → holds_resources database.head.attributes ≡ false
    → IsFileText database bytes
    → (found : ℕ) × (file_in slots (slot_file slot role database.head.name) bytes ≡ Ok (files.Database found role database))
unfolding file_in
database_read slots slot role database bytes less records text =
    let name : List ℕ = slot_file slot role database.head.name in
    let own : is_own_file slot role name database ≡ true = rw (records, bytes_eq-own name) refl in
    let reads = (file-written database bytes text).reads in
    let found = own_slot-some slots slot role name database less own in
    let here : own_slot slots role name (database_in bytes) ≡ Some found.0 = ap (own_slot slots role name) reads ∙ found.1 in (
      found.0,
      ap (λ (o : Option Role). by_role slots o name bytes) (role_of_file slot role database.head.name)
          ∙ (own_file (own_slot slots role name (database_in bytes)) role text ∙ ap (if_slot role database) here),
    )

pub slots_read : (slots : ℕ) {infos : List SlotInfoValue} {bytes : List ℕ} → IsDesktopFile infos bytes → file_in slots desktop_info_file bytes ≡ Ok files.Other
unfolding file_in
slots_read slots {infos} {bytes} is = ap if_slots (desktop_only bytes infos is)
