-- The files of a change: they form a journal, and the last of each name is what the change makes of it.
use Rattle.std.proofs.Common.{◌≡◌, ℕ, ◌*◌, ◌^◌, ◌<◌, ◌≤◌, Bool, true, false, cond, List, [], ◌∷◌, ◌++◌, length, Option, None, Some, refl, sym, ap, subst, ◌∙◌}
use Rattle.std.proofs.Common.{arith, rules}
use Rattle.std.specs.Prelude.{bytes_eq, string_bytes}
use Rattle.std.specs.List.{AllByRecursion, flat_map, list_all}
use Rattle.std.specs.Option.{option_map, option_or}
use Rattle.std.specs.Str.{is_utf8}
use Rattle.std.proofs.Math.Nat.{mul-suc}
use Rattle.std.proofs.lemmas.List.{append_assoc, length-append}
use Rattle.std.proofs.lemmas.Str.{IsUtf8-had, is_utf8-from_IsUtf8}
use Rattle.pdb_values.specs.Databases.{DatabaseValue}
use Rattle.pdb_files.specs.Files.{canonical}
use Rattle.folder_files.specs.Slots.{SlotInfoValue}
use Rattle.folder_files.specs.InfoFiles.{IsDesktopFile, desktop_text}
use Rattle.folder_files.specs.FileNames.{desktop_info_file, is_kept_file}
use Rattle.desk_journal.specs.Entries.{AreEntries, EntryValue, IsJournal, entry_values, is_named}
use Rattle.desk_journal.specs.declared.entry.Entry.{Entry}
use Rattle.desk_journal.proofs.OverlayLaws.{last_of, same_name, same_name-is, same_name-other}
use Rattle.desk_journal.proofs.StepLaws.{all-append}
use Rattle.desk_store.specs.DeskFiles.{file_in, slot_file}
use Rattle.desk_store.specs.declared.role.Role.{Role}
use Rattle.desk_store.specs.declared.role.Role.TheVariants.{Rows, Base, Archive}
use Rattle.desk_store.proofs.OwnLaws.{same_file}
use Rattle.desk_store.specs.Changes.{IsDbChange, IsDbWritten, IsDeskChange, archive_entries, changed, changed_to, database_entry, db_entries, slot_entries}
use Rattle.desk_store.specs.Changes.{slots_entry}
use Rattle.desk_store.specs.Shelves.{if_bad}
use Rattle.desk_store.specs.declared.change.DbChange.{DbChange}
use Rattle.desk_store.specs.declared.change.DeskChange.{DeskChange}
use Rattle.desk_store.proofs.ChangedLaws.{IsChanged, changed_none, changed_to_is, rows_of}
use Rattle.desk_store.proofs.FileLaws.{database_read, file_kept, not_info, slots_read}
use Rattle.desk_store.proofs.SizeLaws.{canonical-short, file-short, slots-short}
use Rattle.pdb_values.specs.NamedDatabases.{NamesRise, comes_before}
use Rattle.pdb_values.proofs.NamedLaws.{bytes_eq-is, bytes_eq-own}
use Rattle.std.proofs.lemmas.Grind.{common_steps}
use Rattle.std.proofs.lemmas.Bool.Decides.{nat_tests}

-- ---- each file

-- a file that a journal can hold, and that is read on a desktop with so many slots
pub record IsFile (slots : ℕ) (entry : EntryValue) : Type 0 where
  pub short_name : length entry.name < 2 ^ 8
  pub kept : is_kept_file entry.name ≡ true
  pub short_bytes : length entry.bytes < 2 ^ 32
  pub good : if_bad (file_in slots entry.name entry.bytes) ≡ None

-- a slot of so many
pub record IsSlot (slots slot : ℕ) : Type 0 where
  pub there : slot < slots
  pub few : slots ≤ 16

database_file : {slots slot : ℕ} (role : Role) {name : List ℕ} {database : DatabaseValue} → IsSlot slots slot → IsChanged name database
    → IsFile slots (database_entry slot role database)
database_file {slots} {slot} role {database} at is = record {
  short_name = file-short slot role (omega (arith, at.there, at.few)) is.text.head.name;
  kept = file_kept slot role database.head.name;
  short_bytes = canonical-short is.records is.text;
  good = ap if_bad (database_read slots slot role database (canonical database) at.there is.records is.text).1;
}

archive_file : {slots slot : ℕ} (name : List ℕ) (archive : Option DatabaseValue) → IsSlot slots slot
    → ((database : DatabaseValue) → archive ≡ Some database → IsChanged name database) → AllByRecursion (IsFile slots) (archive_entries slot archive)
archive_file name None at is = tt
archive_file name (Some archive) at is = (database_file Archive at (is archive refl), tt)

db_files : {slots slot : ℕ} {change : DbChange} → IsSlot slots slot → IsDbChange change → IsDbWritten change
    → AllByRecursion (IsFile slots) (db_entries slot change)
db_files {change} at is written =
    let name = change.rows.head.name in (
      database_file Rows at (changed_to_is Rows {database = change.rows} is written refl),
      (
        database_file Base at (changed_to_is Base {database = change.base} is written refl),
        archive_file name change.archive at
            (λ database here. changed_to_is Archive is written here),
      ),
    )

databases_files : {slots slot : ℕ} (changes : List DbChange) → IsSlot slots slot → AllByRecursion IsDbChange changes → AllByRecursion IsDbWritten changes
    → AllByRecursion (IsFile slots) (flat_map (db_entries slot) changes)
databases_files [] at each written = tt
databases_files {slots} {slot} (change ∷ changes) at each written =
    all-append (IsFile slots) (db_entries slot change) (flat_map (db_entries slot) changes) (db_files at each.0 written.0)
    (databases_files changes at each.1 written.1)

pub change_files : {slots slot : ℕ} (changes : List DbChange) {infos : List SlotInfoValue} → IsSlot slots slot → AllByRecursion IsDbChange changes
    → AllByRecursion IsDbWritten changes → IsDesktopFile infos (desktop_text infos) → AllByRecursion (IsFile slots) (slot_entries slot changes infos)
change_files {slots} {slot} changes at each written text =
    all-append (IsFile slots) (flat_map (db_entries slot) changes) _ (databases_files changes at each written)
    (record { short_name = omega arith; kept = refl; short_bytes = slots-short text; good = ap if_bad (slots_read slots text) }, tt)

-- ---- the last file of a name

none_behind : (o : Option (List ℕ)) → option_or o None ≡ o
none_behind (Some x) = refl
none_behind None = refl

pub last_of-append : (q : List ℕ) (xs ys : List EntryValue) → last_of q (xs ++ ys) ≡ option_or (last_of q ys) (last_of q xs)
last_of-append q [] ys = sym (none_behind (last_of q ys))
last_of-append q (x ∷ xs) ys = grind (arith, common_steps, nat_tests, same_name, last_of-append q xs ys, last_of)

-- the file of a database, by its slot, its role and its name
same_role : (slot : ℕ) (role : Role) (name named : List ℕ) → slot < 16 → same_name (slot_file slot role name) (slot_file slot role named) ≡ bytes_eq named name
same_role slot role name named few = search (rules, same_name, same_name-is, bytes_eq-is, bytes_eq-own, same_name-other, same_file)

other_role : (slot : ℕ) (role other : Role) (name named : List ℕ) → slot < 16 → (role ≡ other → ⊥)
    → same_name (slot_file slot role name) (slot_file slot other named) ≡ false
other_role slot role other name named few apart = search (rules, same_name-other, same_file)

-- the file of an archive that is given, by its name
last_archive : (slot : ℕ) (name named : List ℕ) (archive : Option DatabaseValue) → slot < 16
    → ((database : DatabaseValue) → archive ≡ Some database → database.head.name ≡ named)
    → last_of (slot_file slot Archive name) (archive_entries slot archive) ≡ cond (bytes_eq named name) (option_map canonical archive) None
last_archive slot name named None few is = same (bytes_eq named name)
  where
    same : (b : Bool) → (let o : Option (List ℕ) = None in o) ≡ cond b None None
    same true = refl
    same false = refl
last_archive slot name named (Some archive) few is = ap (λ (b : Bool). cond b (Some (canonical archive)) None)
    (same_role slot Archive name archive.head.name few ∙ ap (λ (n : List ℕ). bytes_eq n name) (is archive refl))

no_archive : (slot : ℕ) (role : Role) (name : List ℕ) (archive : Option DatabaseValue) → slot < 16 → (role ≡ Archive → ⊥)
    → last_of (slot_file slot role name) (archive_entries slot archive) ≡ None
no_archive slot role name None few other = refl
no_archive slot role name (Some archive) few other = ap (λ (b : Bool). cond b (Some (canonical archive)) None)
    (other_role slot role Archive name archive.head.name few other)

-- what a change of a database writes
last_here : (slot : ℕ) (role : Role) (name : List ℕ) {change : DbChange} → slot < 16 → IsDbChange change → IsDbWritten change
    → last_of (slot_file slot role name) (db_entries slot change) ≡ cond (bytes_eq change.rows.head.name name)
    (option_map canonical (changed_to role change)) None
last_here slot Rows name {change} few is written =
    let base = other_role slot Rows Base name change.base.head.name few (λ e. cc) in
    let rows = same_role slot Rows name change.rows.head.name few in
    rw (no_archive slot Rows name change.archive few (λ e. cc), base, rows) refl
last_here slot Base name {change} few is written =
    let base = same_role slot Base name change.base.head.name few ∙ ap (λ (n : List ℕ). bytes_eq n name) is.base.named in
    let rows = other_role slot Base Rows name change.rows.head.name few (λ e. cc) in
    rw (no_archive slot Base name change.archive few (λ e. cc), base, rows)
    (none_behind (cond (bytes_eq change.rows.head.name name) (Some (canonical change.base)) None))
last_here slot Archive name {change} few is written =
    let archive = last_archive slot name change.rows.head.name change.archive few (λ database here. (changed_to_is Archive is written here).named) in
    let base = other_role slot Archive Base name change.base.head.name few (λ e. cc) in
    let rows = other_role slot Archive Rows name change.rows.head.name few (λ e. cc) in
    rw (archive, base, rows) (let here = cond (bytes_eq change.rows.head.name name) (option_map canonical change.archive) None in
    none_behind (option_or here None) ∙ none_behind here)

-- what a change writes of the database of a role and a name
last_databases : (slot : ℕ) (role : Role) (name : List ℕ) (changes : List DbChange) → slot < 16 → NamesRise (rows_of changes)
    → AllByRecursion IsDbChange changes → AllByRecursion IsDbWritten changes
    → last_of (slot_file slot role name) (flat_map (db_entries slot) changes) ≡ option_map canonical (changed role name changes)
last_databases slot role name [] few rise each written = refl
last_databases slot role name (change ∷ changes) few rise each written =
    last_of-append (slot_file slot role name) (db_entries slot change) (flat_map (db_entries slot) changes)
    ∙ (ap (λ (o : Option (List ℕ)). option_or o (last_of (slot_file slot role name) (db_entries slot change)))
    (last_databases slot role name changes few rise.1 each.1 written.1)
    ∙ (ap (option_or (option_map canonical (changed role name changes))) (last_here slot role name few each.0 written.0)
    ∙ by (bytes_eq change.rows.head.name name) refl))
  where
    by : (here : Bool) → bytes_eq change.rows.head.name name ≡ here
        → option_or (option_map canonical (changed role name changes)) (cond here (option_map canonical (changed_to role change)) None) ≡ option_map canonical
        (cond here (changed_to role change) (changed role name changes))
    by true is =
        let none : changed role name changes ≡ None = changed_none role name changes
        (subst (λ (n : List ℕ). list_all (λ later. comes_before n later.head.name) (rows_of changes) ≡ true) (bytes_eq-is _ _ is) rise.0) in
        ap (λ (o : Option DatabaseValue). option_or (option_map canonical o) (option_map canonical (changed_to role change))) none
    by false is = none_behind (option_map canonical (changed role name changes))

-- the information file comes behind them and is none of theirs
last_behind_all : (slot slot' : ℕ) (role : Role) (name : List ℕ) (changes : List DbChange) (infos : List SlotInfoValue)
    → last_of (slot_file slot role name) (slot_entries slot' changes infos) ≡ last_of (slot_file slot role name) (flat_map (db_entries slot') changes)
last_behind_all slot slot' role name changes infos = grind (arith, common_steps, nat_tests, last_of-append, last_of, same_name-other, not_info)

pub last_database : (slot : ℕ) (role : Role) (name : List ℕ) (changes : List DbChange) (infos : List SlotInfoValue) → slot < 16 → NamesRise (rows_of changes)
    → AllByRecursion IsDbChange changes → AllByRecursion IsDbWritten changes
    → last_of (slot_file slot role name) (slot_entries slot changes infos) ≡ option_map canonical (changed role name changes)
last_database slot role name changes infos few rise each written = search (rules, last_behind_all, last_databases)

-- no file of another slot is written
other_slot : {slot other : ℕ} (role own : Role) (name named bytes : List ℕ) (rest : List EntryValue) → slot < 16 → other < 16 → (slot ≡ other → ⊥)
    → last_of (slot_file slot role name) rest ≡ None
    → last_of (slot_file slot role name) (record { name = slot_file other own named; bytes = bytes } ∷ rest) ≡ None
other_slot role own name named bytes rest few less apart none = grind (arith, common_steps, nat_tests, same_name-other, same_file)

other_databases : {slot other : ℕ} (role : Role) (name : List ℕ) (changes : List DbChange) → slot < 16 → other < 16 → (slot ≡ other → ⊥)
    → last_of (slot_file slot role name) (flat_map (db_entries other) changes) ≡ None
other_databases role name [] few less apart = refl
other_databases {slot} {other} role name (change ∷ changes) few less apart =
    let rest = flat_map (db_entries other) changes in
    let later = other_databases role name changes few less apart in
    other_slot role Rows name change.rows.head.name (canonical change.rows)
    (database_entry other Base change.base ∷ archive_entries other change.archive ++ rest) few less apart
    (other_slot role Base name change.base.head.name (canonical change.base) (archive_entries other change.archive ++ rest) few less apart
    (by change.archive later))
  where
    by : (archive : Option DatabaseValue) → last_of (slot_file slot role name) (flat_map (db_entries other) changes) ≡ None
        → last_of (slot_file slot role name) (archive_entries other archive ++ flat_map (db_entries other) changes) ≡ None
    by None later = later
    by (Some archive) later = other_slot role Archive name archive.head.name (canonical archive) (flat_map (db_entries other) changes) few less apart later

pub last_other : {slot other : ℕ} (role : Role) (name : List ℕ) (changes : List DbChange) (infos : List SlotInfoValue) → slot < 16 → other < 16 → (slot ≡ other → ⊥)
    → last_of (slot_file slot role name) (slot_entries other changes infos) ≡ None
last_other role name changes infos few less apart = search (rules, last_behind_all, other_databases)

pub last_info : (slot : ℕ) (changes : List DbChange) (infos : List SlotInfoValue)
    → last_of desktop_info_file (slot_entries slot changes infos) ≡ Some (desktop_text infos)
last_info slot changes infos = grind (arith, common_steps, nat_tests, last_of-append, last_of, same_name-is, bytes_eq-own)

-- ---- no name twice

-- no name stands among those behind it
abbrev pub AreApart : List EntryValue → Type 0
AreApart [] = Unit {0}
AreApart (entry ∷ entries) = (last_of entry.name entries ≡ None) × AreApart entries

named-append : (before : List EntryValue) (entry : EntryValue) (q : List ℕ) → is_named before q ≡ false → bytes_eq entry.name q ≡ false
    → is_named (before ++ entry ∷ []) q ≡ false
named-append [] entry q none other = rw other refl
named-append (first ∷ before) entry q none other = grind (arith, common_steps, nat_tests, named-append before entry q)

-- each name is new behind one more
new_behind : (before : List EntryValue) (entry : EntryValue) (entries : List EntryValue) → last_of entry.name entries ≡ None
    → AllByRecursion (λ e. is_named before e.name ≡ false) entries → AllByRecursion (λ e. is_named (before ++ entry ∷ []) e.name ≡ false) entries
new_behind before entry [] none new = tt
new_behind before entry (first ∷ entries) none new = by (last_of entry.name entries) (same_name entry.name first.name) refl none
    (λ later. new_behind before entry entries later new.1)
  where
    by : (later : Option (List ℕ)) (this : Bool) → same_name entry.name first.name ≡ this → option_or later (cond this (Some first.bytes) None) ≡ None
        → (later ≡ None → AllByRecursion (λ e. is_named (before ++ entry ∷ []) e.name ≡ false) entries)
        → (is_named (before ++ entry ∷ []) first.name ≡ false) × AllByRecursion (λ e. is_named (before ++ entry ∷ []) e.name ≡ false) entries
    by (Some x) this is none rest = absurd cc
    by None true is none rest = absurd cc
    by None false is none rest = (named-append before entry first.name new.0 (sym (same_name-is entry.name first.name) ∙ is), rest refl)

are_entries : (slots : ℕ) (before entries : List EntryValue) → AllByRecursion (IsFile slots) entries → AllByRecursion (λ e. is_utf8 e.name ≡ true) entries
    → AllByRecursion (λ e. is_named before e.name ≡ false) entries → AreApart entries → AreEntries before entries
are_entries slots before [] files texts new apart = tt
are_entries slots before (entry ∷ entries) files texts new apart = (
  record { short_name = files.0.short_name; utf8 = texts.0; kept = files.0.kept; short_bytes = files.0.short_bytes },
  new.0,
  are_entries slots (before ++ entry ∷ []) entries files.1 texts.1 (new_behind before entry entries apart.0 new.1) apart.1,
)

new_in_none : (entries : List EntryValue) → AllByRecursion (λ e. is_named [] e.name ≡ false) entries
new_in_none [] = tt
new_in_none (entry ∷ entries) = (refl, new_in_none entries)

over_one : (slot : ℕ) (role other : Role) (name named bytes : List ℕ) (rest : List EntryValue) → slot < 16 → (role ≡ other → ⊥)
    → last_of (slot_file slot role name) rest ≡ None
    → last_of (slot_file slot role name) (record { name = slot_file slot other named; bytes = bytes } ∷ rest) ≡ None
over_one slot role other name named bytes rest few apart none = rw (none, other_role slot role other name named few apart) refl

apart_db : (slot : ℕ) (rows base : DatabaseValue) (archive : Option DatabaseValue) (rest : List EntryValue) → slot < 16 → base.head.name ≡ rows.head.name
    → ((database : DatabaseValue) → archive ≡ Some database → database.head.name ≡ rows.head.name)
    → ((role : Role) → last_of (slot_file slot role rows.head.name) rest ≡ None) → AreApart rest
    → AreApart (database_entry slot Rows rows ∷ database_entry slot Base base ∷ archive_entries slot archive ++ rest)
apart_db slot rows base None rest few named given none apart = (
  over_one slot Rows Base rows.head.name base.head.name (canonical base) rest few (λ e. cc) (none Rows),
  (ap (λ (n : List ℕ). last_of (slot_file slot Base n) rest) named ∙ none Base, apart),
)
apart_db slot rows base (Some archive) rest few named given none apart = (
  over_one slot Rows Base rows.head.name base.head.name (canonical base) (database_entry slot Archive archive ∷ rest) few (λ e. cc)
      (over_one slot Rows Archive rows.head.name archive.head.name (canonical archive) rest few (λ e. cc) (none Rows)),
  (
    over_one slot Base Archive base.head.name archive.head.name (canonical archive) rest few (λ e. cc)
        (ap (λ (n : List ℕ). last_of (slot_file slot Base n) rest) named ∙ none Base),
    (ap (λ (n : List ℕ). last_of (slot_file slot Archive n) rest) (given archive refl) ∙ none Archive, apart),
  ),
)

last_behind : (slot : ℕ) (role : Role) (name : List ℕ) (changes : List DbChange) (infos : List SlotInfoValue) → slot < 16
    → list_all (λ later. comes_before name later.head.name) (rows_of changes) ≡ true → NamesRise (rows_of changes) → AllByRecursion IsDbChange changes
    → AllByRecursion IsDbWritten changes
    → last_of (slot_file slot role name) (slot_entries slot changes infos) ≡ None
last_behind slot role name changes infos few behind rise each written = search (rules, last_database, changed_none)

apart_databases : (slot : ℕ) (changes : List DbChange) (infos : List SlotInfoValue) → slot < 16 → NamesRise (rows_of changes) → AllByRecursion IsDbChange changes
    → AllByRecursion IsDbWritten changes → AreApart (slot_entries slot changes infos)
apart_databases slot [] infos few rise each written = (refl, tt)
apart_databases slot (change ∷ changes) infos few rise each written =
    subst AreApart (sym (append_assoc (db_entries slot change) (flat_map (db_entries slot) changes) (slots_entry infos ∷ [])))
    (apart_db slot change.rows change.base change.archive (slot_entries slot changes infos) few each.0.base.named
    (λ database here. (changed_to_is Archive each.0 written.0 here).named)
    (λ role. last_behind slot role change.rows.head.name changes infos few rise.0 rise.1 each.1 written.1)
    (apart_databases slot changes infos few rise.1 each.1 written.1))

-- ---- texts

texts_of : (entries : List Entry) → AllByRecursion (λ e. is_utf8 e.name ≡ true) (entry_values entries)
texts_of [] = tt
texts_of (entry ∷ entries) = (is_utf8-from_IsUtf8 (string_bytes entry.name) (IsUtf8-had (string_bytes entry.name) entry.name.ok), texts_of entries)

db-length : (slot : ℕ) (change : DbChange) → length (db_entries slot change) ≤ 3
db-length slot change = grind (arith, common_steps, nat_tests)

databases-length : (slot : ℕ) (changes : List DbChange) → length (flat_map (db_entries slot) changes) ≤ 3 * length changes
databases-length slot [] = omega arith
databases-length slot (change ∷ changes) = grind (arith, common_steps, nat_tests, length-append, db-length, databases-length slot changes, mul-suc)

-- ---- the change

pub change_is_journal : {slots slot : ℕ} {change : DeskChange} {infos : List SlotInfoValue} (entries : List Entry) → IsSlot slots slot → IsDeskChange change
    → AllByRecursion IsDbWritten change.databases.items → IsDesktopFile infos (desktop_text infos)
    → entry_values entries ≡ slot_entries slot change.databases.items infos → IsJournal (entry_values entries)
change_is_journal {slots} {slot} {change} {infos} entries at is written text are =
    let changes = change.databases.items in
    let few : slot < 16 = omega (arith, at.there, at.few) in
    subst IsJournal (sym are) (
      omega (arith, is.few, databases-length slot changes, length-append (flat_map (db_entries slot) changes) (slots_entry infos ∷ [])),
      are_entries slots [] (slot_entries slot changes infos) (change_files changes at is.each written text)
          (subst (AllByRecursion (λ e. is_utf8 e.name ≡ true)) are (texts_of entries)) (new_in_none (slot_entries slot changes infos))
          (apart_databases slot changes infos few is.rise is.each written),
    )
