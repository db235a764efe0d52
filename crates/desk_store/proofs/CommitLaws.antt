-- The desktop of a folder once a change of a slot was carried out.
use Rattle.std.proofs.Common.{◌≡◌, ◌<◌, ◌≤◌, ℕ, suc, Bool, true, false, eqb, List, [], ◌∷◌, ◌++◌, length, set, Option, None, Some, Result, refl, sym, ap}
use Rattle.std.proofs.Common.{subst, ◌∙◌, arith, rules}
use Rattle.std.specs.Prelude.{IfSome, option_and_then}
use Rattle.std.specs.FinMap as finmap
use Rattle.std.specs.List.{AllByRecursion, flat_map}
use Rattle.std.specs.Option.{option_map, option_or}
use Rattle.std.proofs.lemmas.Bool.{eqb-false, eqb-true}
use Rattle.std.proofs.lemmas.List.{get_or_past, length-append, length-map, length-set}
use Rattle.hs_folders.specs.FileMaps.{FileMap}
use Rattle.pdb_values.specs.Databases.{DatabaseValue}
use Rattle.pdb_values.specs.NamedDatabases.{database_of}
use Rattle.pdb_values.proofs.NamedLaws.{bytes_eq-is}
use Rattle.pdb_files.specs.Files.{canonical}
use Rattle.pdb_files.specs.Reading.{database_in}
use Rattle.folder_files.specs.FileNames.{desktop_info_file, is_kept_file, journal_file}
use Rattle.folder_files.specs.InfoFiles.{IsDesktopFile, desktop_in, desktop_text}
use Rattle.folder_files.specs.Slots.{AllRise, AreSlots, SlotInfoValue}
use Rattle.folder_files.specs.declared.bad_line.BadLine.{BadLine}
use Rattle.folder_files.proofs.InfoLaws.{desktop_only}
use Rattle.desk_journal.specs.Entries.{EntryValue}
use Rattle.desk_journal.specs.Overlays.{put_all}
use Rattle.desk_journal.proofs.OverlayLaws.{get-put_all, last_of, same_name, same_name-is, same_name-other}
use Rattle.desk_store.specs.Changes.{IsDbWritten, IsDeskChange, MayBear, change_entries, changed, changed_slot, db_entries, slot_entries, slots_entry}
use Rattle.desk_store.specs.Changes.{with_commit}
use Rattle.desk_store.specs.Views.{DeskValue}
use Rattle.desk_store.specs.DeskFiles.{file_in, slot_file}
use Rattle.desk_store.specs.Desks.{IsDesk, IsDeskOf, IsPlace}
use Rattle.desk_store.specs.Shelves.{AreInOrder, AreOrdered, SlotValue, bad_at, database_at, if_bad, if_database, infos_of, marks_of, new_slot, number_of, shelf_at}
use Rattle.desk_store.specs.Shelves.{shelf_of, slot_at, slots_or_first, with_place}
use Rattle.desk_store.specs.declared.change.DbChange.{DbChange}
use Rattle.desk_store.specs.declared.change.DeskChange.{DeskChange}
use Rattle.desk_store.specs.declared.role.Role.{Role}
use Rattle.desk_store.specs.declared.role.Role.TheVariants.{Rows}
use Rattle.desk_store.proofs.BearLaws.{bears}
use Rattle.desk_store.proofs.ChangedLaws.{changed_is, found_changed, ordered_changes}
use Rattle.desk_store.proofs.FileLaws.{database_read, role_of_file}
use Rattle.desk_store.proofs.JournalLaws.{IsFile, IsSlot, change_files, last_database, last_info, last_other}
use Rattle.desk_store.proofs.OwnLaws.{database_is_own, good_database, good_grows, same_file}
use Rattle.desk_store.proofs.SlotListLaws.{each-set, few_places, ordered_at, place_there, rise-commit, slot_at-place, slot_at-push, slot_at-set_other, slot_at-set_same}
use Rattle.desk_store.proofs.SlotListLaws.{with_place-cases}
use Rattle.std.proofs.lemmas.Grind.{common_steps}
use Rattle.std.proofs.lemmas.Bool.Decides.{nat_tests}

-- ---- what files hold

-- no file is bad, and the slots have the databases of the files
pub record IsFilled (held : FileMap) (slots : List SlotValue) : Type 0 where
  pub shelved : (slot : ℕ) (role : Role) (name : List ℕ) → slot < length slots
      → database_of name (shelf_at slots slot role) ≡ database_at held (length slots) slot role name
  pub good : (q : List ℕ) → bad_at held (length slots) q ≡ None

pub good_file : (held : FileMap) (slots : ℕ) {bytes : List ℕ} (q : List ℕ) → finmap.get held q ≡ Some bytes → bad_at held slots q ≡ None
    → if_bad (file_in slots q bytes) ≡ None
good_file held slots q there good = grind (arith, common_steps, nat_tests)

-- ---- one slot more

good_more : (held : FileMap) (slots : ℕ) (q : List ℕ) → bad_at held slots q ≡ None → bad_at held (suc slots) q ≡ None
good_more held slots q good = grind (arith, common_steps, nat_tests, good_file, good_grows)

same_more : (held : FileMap) (slots slot : ℕ) (role : Role) (name : List ℕ) → bad_at held slots (slot_file slot role name) ≡ None
    → database_at held (suc slots) slot role name ≡ database_at held slots slot role name
same_more held slots slot role name good = grind (arith, common_steps, nat_tests, good_grows, good_file)

-- a slot that is not there has no good file
no_file : (held : FileMap) (slots : ℕ) (role : Role) (name : List ℕ) → slots < 16 → bad_at held slots (slot_file slots role name) ≡ None
    → database_at held slots slots role name ≡ None
no_file held slots role name room good = by (finmap.get held (slot_file slots role name)) refl
  where
    by : (o : Option (List ℕ)) → finmap.get held (slot_file slots role name) ≡ o
        → option_and_then (λ b. if_database (file_in slots (slot_file slots role name) b)) o ≡ None
    by None there = refl
    by (Some bytes) there =
        let file = slot_file slots role name in
        let found = good_database slots file bytes (role_of_file slots role name) (good_file held slots file there good) in
        let own = database_is_own slots file bytes found.1 in
        let same : slots ≡ found.0 = (same_file slots found.0 role role name (database_in bytes).head.name room (omega (arith, own.within, room)) own.named).0
        in
        absurd (omega (arith, same, own.within))

new_shelf : (pc : ℕ) (role : Role) (name : List ℕ) → database_of name (shelf_of (new_slot pc).shelves role) ≡ None
new_shelf pc Rows name = refl
new_shelf pc role name = refl

filled_more : {held : FileMap} {slots : List SlotValue} → 0 < length slots → length slots < 16 → IsFilled held slots
    → IsFilled held (slots ++ new_slot (number_of slots) ∷ [])
filled_more {held} {slots} some room is = record {
  shelved = λ slot role name less. ap (λ (s : SlotValue). database_of name (shelf_of s.shelves role))
      (slot_at-push slots slot some (omega (arith, less, count)))
      ∙ (by slot role name (eqb slot (length slots)) refl (omega (arith, less, count))
      ∙ (sym (same_more held (length slots) slot role name (is.good (slot_file slot role name)))
      ∙ ap (λ (n : ℕ). database_at held n slot role name) (sym count)));
  good = λ q. ap (λ (n : ℕ). bad_at held n q) count ∙ good_more held (length slots) q (is.good q);
}
  where
    count : length (slots ++ new_slot (number_of slots) ∷ []) ≡ suc (length slots)
    count = omega (arith, length-append slots (new_slot (number_of slots) ∷ []))

    by : (slot : ℕ) (role : Role) (name : List ℕ) (b : Bool) → eqb slot (length slots) ≡ b → slot ≤ length slots
        → database_of name (shelf_at slots slot role) ≡ database_at held (length slots) slot role name
    by slot role name false other near = let apart = eqb-false slot (length slots) other in is.shelved slot role name (omega (arith, apart, near))
    by slot role name true same near =
        let here : slot ≡ length slots = eqb-true slot (length slots) same in
        ap (λ (s : SlotValue). database_of name (shelf_of s.shelves role)) (get_or_past slots slot (new_slot (number_of slots)) (omega (arith, here)))
        ∙ (new_shelf (number_of slots) role name ∙ (sym (no_file held (length slots) role name room (is.good (slot_file (length slots) role name)))
        ∙ ap (λ (k : ℕ). database_at held (length slots) k role name) (sym here)))

filled_place : (held : FileMap) {slots : List SlotValue} {place : ℕ} → 0 < length slots → IsPlace slots place → IsFilled held slots
    → IsFilled held (with_place slots place)
filled_place held some at is = search (rules, with_place-cases, filled_more)

-- ---- a change

-- no file of a change is the journal
last_journal : (slots : ℕ) (entries : List EntryValue) → AllByRecursion (IsFile slots) entries → last_of journal_file entries ≡ None
last_journal slots [] files = refl
last_journal slots (entry ∷ entries) files =
    let other : same_name journal_file entry.name ≡ false = same_name-other journal_file entry.name
    (λ e. let kept : is_kept_file journal_file ≡ true = ap is_kept_file e ∙ files.0.kept in cc) in
    rw (last_journal slots entries files.1, other) refl

-- each file of a change is good
last_good : (slots : ℕ) (q bytes : List ℕ) (entries : List EntryValue) → AllByRecursion (IsFile slots) entries → last_of q entries ≡ Some bytes
    → if_bad (file_in slots q bytes) ≡ None
last_good slots q bytes [] files there = absurd cc
last_good slots q bytes (entry ∷ entries) files there =
    grind (arith, common_steps, nat_tests, last_of, same_name, last_good slots q bytes entries files.1, bytes_eq-is, same_name-is)

-- the slot that changed has the databases of the change, each other one those of before
filled_changed : {held : FileMap} {slots : List SlotValue} {place : ℕ} {change : DeskChange} {infos : List SlotInfoValue} → IsFilled held slots
    → IsSlot (length slots) place → IsDeskChange change → AllByRecursion IsDbWritten change.databases.items → IsDesktopFile infos (desktop_text infos)
    → IsFilled (put_all (slot_entries place change.databases.items infos) held) (set slots place (changed_slot change (slot_at slots place)))
filled_changed {held} {slots} {place} {change} {infos} was at is written text = record {
  shelved = λ slot role name less. by_slot slot role name (eqb slot place) refl (omega (arith, less, count))
      ∙ ap (λ (n : ℕ). database_at now n slot role name) (sym count);
  good = λ q. ap (λ (n : ℕ). bad_at now n q) count
      ∙ (ap (λ (o : Option (List ℕ)). option_and_then if_bad (option_map (file_in (length slots) q) o)) (got q) ∙ by_file q (last_of q entries) refl);
}
  where
    changes : List DbChange
    changes = change.databases.items

    entries : List EntryValue
    entries = slot_entries place changes infos

    now : FileMap
    now = put_all entries held

    count : length (set slots place (changed_slot change (slot_at slots place))) ≡ length slots
    count = length-set slots place (changed_slot change (slot_at slots place))

    got : (q : List ℕ) → finmap.get now q ≡ option_or (last_of q entries) (finmap.get held q)
    got q = get-put_all entries held q

    by_file : (q : List ℕ) (last : Option (List ℕ)) → last_of q entries ≡ last
        → option_and_then if_bad (option_map (file_in (length slots) q) (option_or last (finmap.get held q))) ≡ None
    by_file q None here = was.good q
    by_file q (Some bytes) here = last_good (length slots) q bytes entries (change_files changes at is.each written text) here

    at_file : (slot : ℕ) (role : Role) (name : List ℕ) (last : Option (List ℕ)) → last_of (slot_file slot role name) entries ≡ last
        → option_and_then (λ b. if_database (file_in (length slots) (slot_file slot role name) b))
        (option_or last (finmap.get held (slot_file slot role name))) ≡ database_at now (length slots) slot role name
    at_file slot role name last here =
        ap (option_and_then (λ b. if_database (file_in (length slots) (slot_file slot role name) b)))
        (ap (λ (o : Option (List ℕ)). option_or o (finmap.get held (slot_file slot role name))) (sym here) ∙ sym (got (slot_file slot role name)))

    by_change : (role : Role) (name : List ℕ) (new : Option DatabaseValue) → changed role name changes ≡ new
        → option_or new (database_at held (length slots) place role name) ≡ option_and_then
        (λ b. if_database (file_in (length slots) (slot_file place role name) b))
        (option_or (option_map canonical new) (finmap.get held (slot_file place role name)))
    by_change role name None here = refl
    by_change role name (Some database) here =
        let it = changed_is role name changes database is.each written here in
        sym (ap (λ (n : List ℕ). if_database (file_in (length slots) (slot_file place role n) (canonical database))) (sym it.named)
        ∙ ap if_database (database_read (length slots) place role database (canonical database) at.there it.records it.text).1)

    by_slot : (slot : ℕ) (role : Role) (name : List ℕ) (b : Bool) → eqb slot place ≡ b → slot < length slots
        → database_of name (shelf_at (set slots place (changed_slot change (slot_at slots place))) slot role) ≡ database_at now (length slots) slot role name
    by_slot slot role name false other less =
        let apart = eqb-false slot place other in
        ap (λ (s : SlotValue). database_of name (shelf_of s.shelves role)) (slot_at-set_other slots (changed_slot change (slot_at slots place)) less apart)
        ∙ (was.shelved slot role name less ∙ at_file slot role name None
        (last_other role name changes infos (omega (arith, less, at.few)) (omega (arith, at.there, at.few)) apart))
    by_slot slot role name true same less =
        let here : slot ≡ place = eqb-true slot place same in
        subst (λ (k : ℕ). database_of name (shelf_at (set slots place (changed_slot change (slot_at slots place))) k role) ≡ database_at now
        (length slots) k role name) (sym here)
        (ap (λ (s : SlotValue). database_of name (shelf_of s.shelves role)) (slot_at-set_same slots place (changed_slot change (slot_at slots place)) at.there)
        ∙ (found_changed role name changes (slot_at slots place).shelves is.rise is.each
        ∙ (ap (option_or (changed role name changes)) (was.shelved place role name at.there)
        ∙ (by_change role name (changed role name changes) refl
        ∙ at_file place role name (option_map canonical (changed role name changes))
        (last_database place role name changes infos (omega (arith, at.there, at.few)) is.rise is.each written)))))

-- ---- the desktop

pub slot_of : {slots : List SlotValue} {place : ℕ} → AreSlots (marks_of slots) → IsPlace slots place → IsSlot (length (with_place slots place)) place
slot_of formed at = search (rules, place_there, few_places, length-map)

some_slot : (slots : List SlotValue) → AreSlots (marks_of slots) → 0 < length slots
some_slot slots formed = omega (arith, formed.some, length-map slots (λ slot. slot.marks))

commit_is : (change : DeskChange) {place : ℕ} {slots : List SlotValue} → AreSlots (marks_of slots) → IsPlace slots place
    → with_commit change place slots ≡ set (with_place slots place) place (changed_slot change (slot_at (with_place slots place) place))
commit_is change formed at = grind (arith, common_steps, nat_tests, slot_at-place, some_slot, place_there)

pub formed_after : (change : DeskChange) {place : ℕ} {slots : List SlotValue} → AreSlots (marks_of slots) → IsPlace slots place
    → MayBear slots place change.marks → AreSlots (marks_of (with_commit change place slots))
formed_after change {place} {slots} formed at may = bears (changed_slot change (slot_at slots place)) at formed may

pub parted_after : (change : DeskChange) {place : ℕ} {slots : List SlotValue} → IsDeskChange change → IsPlace slots place → AllRise (infos_of slots)
    → AllRise (infos_of (with_commit change place slots))
parted_after change {place} {slots} is at parted = rise-commit slots place (changed_slot change (slot_at slots place)) at.near is.parted parted

-- what is to be shown of a change that was carried out
pub record IsDone (made : DeskChange) (place : ℕ) (slots : List SlotValue) : Type 0 where
  pub at : IsPlace slots place
  pub is : IsDeskChange made
  pub may : MayBear slots place made.marks
  pub written : AllByRecursion IsDbWritten made.databases.items
  pub text : IsDesktopFile (infos_of (with_commit made place slots)) (desktop_text (infos_of (with_commit made place slots)))

changed_desk : {held : FileMap} {slots : List SlotValue} {change : DeskChange} {place : ℕ} → AreSlots (marks_of slots) → IsDeskOf held slots
    → IsDone change place slots → IsDeskOf (put_all (change_entries change place slots) held) (with_commit change place slots)
changed_desk {held} {slots} {change} {place} formed was done =
    let there = with_place slots place in
    let infos = infos_of (with_commit change place slots) in
    let entries = change_entries change place slots in
    let slot = slot_of formed done.at in
    let before : IsFilled held there = filled_place held (some_slot slots formed) done.at (record { shelved = was.shelved; good = was.good }) in
    let after : IsFilled (put_all entries held) (with_commit change place slots) = subst (IsFilled (put_all entries held))
    (sym (commit_is change formed done.at)) (filled_changed before slot done.is done.written done.text) in
    let got : (q : List ℕ) → finmap.get (put_all entries held) q ≡ option_or (last_of q entries) (finmap.get held q) = λ q. get-put_all entries held q in
    let info : finmap.get (put_all entries held) desktop_info_file ≡ Some (desktop_text infos) = got desktop_info_file
    ∙ ap (λ (o : Option (List ℕ)). option_or o (finmap.get held desktop_info_file)) (last_info place change.databases.items infos) in
    record {
      no_journal = got journal_file ∙ (ap (λ (o : Option (List ℕ)). option_or o (finmap.get held journal_file))
          (last_journal (length there) entries (change_files change.databases.items slot done.is.each done.written done.text)) ∙ was.no_journal);
      marked = sym (ap (λ (o : Option (List ℕ)). slots_or_first (option_map desktop_in o)) info
          ∙ ap (λ (r : Result (List SlotInfoValue) BadLine). slots_or_first (Some r)) (desktop_only (desktop_text infos) infos done.text));
      shelved = after.shelved;
      good = after.good;
    }

place_in_order : (slots : List SlotValue) (place : ℕ) → place ≤ length slots → AreInOrder slots → AreInOrder (with_place slots place)
place_in_order slots place near ordered = with_place-cases AreInOrder slots place near (λ _. ordered)
    (λ _. push slots (new_slot (number_of slots)) ordered (record { rows = tt; bases = tt; archives = tt }))
  where
    push : (xs : List SlotValue) (slot : SlotValue) → AreInOrder xs → AreOrdered slot.shelves → AreInOrder (xs ++ slot ∷ [])
    push [] slot each here = (here, tt)
    push (x ∷ xs) slot each here = (each.0, push xs slot each.1 here)

in_order_after : (change : DeskChange) (place : ℕ) (slots : List SlotValue) → place ≤ length slots → AreInOrder slots
    → AreInOrder (with_commit change place slots)
in_order_after change place slots near ordered = search (rules, each-set, place_in_order, ordered_changes, ordered_at)

told_after : {now : Option FileMap} (told : Option FileMap) {slots : List SlotValue} {change : DeskChange} {place : ℕ} → IsDesk told slots
    → IsDone change place slots → now ≡ option_map (put_all (change_entries change place slots)) told
    → IfSome now (λ held. IsDeskOf held (with_commit change place slots))
told_after None {slots} {change} {place} was done here = subst (λ (o : Option FileMap). IfSome o (λ held. IsDeskOf held (with_commit change place slots)))
    (sym here) tt
told_after (Some held) {slots} {change} {place} was done here =
    subst (λ (o : Option FileMap). IfSome o (λ held. IsDeskOf held (with_commit change place slots))) (sym here) (changed_desk was.formed was.stands done)

pub desk_after : {told : Option FileMap} (now : Option FileMap) {slots after : List SlotValue} {change : DeskChange} {place : ℕ} → IsDesk told slots
    → IsDone change place slots → now ≡ option_map (put_all (change_entries change place slots)) told → after ≡ with_commit change place slots
    → IsDesk now after
desk_after {told} now {slots} {change} {place} was done here is = subst (IsDesk now) (sym is) (record {
  formed = formed_after change was.formed done.at done.may;
  parted = parted_after change done.is done.at was.parted;
  ordered = in_order_after change place slots done.at.near was.ordered;
  stands = told_after told was done here;
})

pub picked_after : (change : DeskChange) {place : ℕ} {slots : List SlotValue} → AreSlots (marks_of slots) → IsPlace slots place
    → slot_at (with_commit change place slots) place ≡ changed_slot change (slot_at slots place)
picked_after change formed at = grind (arith, common_steps, nat_tests, slot_at-set_same, place_there)

pub picked_as : (change : DeskChange) {place : ℕ} {slots : List SlotValue} (after : List SlotValue) → AreSlots (marks_of slots) → IsPlace slots place
    → after ≡ with_commit change place slots → slot_at after place ≡ changed_slot change (slot_at slots place)
picked_as change {place} after formed at is = ap (λ (slots : List SlotValue). slot_at slots place) is ∙ picked_after change formed at

pub databases_after : {change : DeskChange} {place : ℕ} {slots after : List SlotValue} → AreSlots (marks_of slots) → IsPlace slots place → IsDeskChange change
    → after ≡ with_commit change place slots → (role : Role) (name : List ℕ)
    → database_of name (shelf_at after place role) ≡ option_or (changed role name change.databases.items) (database_of name (shelf_at slots place role))
databases_after formed at is here role name = grind (arith, common_steps, nat_tests, picked_after, found_changed)

-- the entries of a change are those of its databases and then the information file
pub entries_are : (change : DeskChange) (place : ℕ) {after lent : List SlotValue} (slots : List SlotValue) {given : List DbChange}
    {before now : List EntryValue}
    → given ≡ change.databases.items → before ≡ flat_map (db_entries place) given → now ≡ before ++ slots_entry (infos_of lent) ∷ [] → lent ≡ after
    → after ≡ with_commit change place slots → now ≡ change_entries change place slots
entries_are change place slots is_given is_before is_now is_lent is_after = grind (arith, common_steps, nat_tests)

pub done_when : {change : DeskChange} {place : ℕ} {slots : List SlotValue} → IsPlace slots place → IsDeskChange change
    → MayBear slots place change.marks → AllByRecursion IsDbWritten change.databases.items
    → IsDesktopFile (infos_of (with_commit change place slots)) (desktop_text (infos_of (with_commit change place slots))) → IsDone change place slots
done_when at is may written text = record { at = at; is = is; may = may; written = written; text = text }

-- what holds of what a desktop is seen as
pub seen : {F : Type 0} (P : DeskValue F → Type 0) {inside outside : DeskValue F} → inside ≡ outside → P inside → P outside
seen P same is = subst P same is
