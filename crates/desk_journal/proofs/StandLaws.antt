-- What is the same once its journal is finished stands for the same.
use Rattle.std.proofs.lemmas.Bool.Decides.{nat_tests}
use Rattle.std.proofs.lemmas.Grind.{common_steps}
use Rattle.std.proofs.Common.{◌≡◌, ◌&&◌, ℕ, zero, suc, Bool, true, false, cond, List, [], ◌∷◌, ◌++◌, take, drop, Option, None, Some, Result, Ok, Err, refl, sym, ap}
use Rattle.std.proofs.Common.{subst, ◌∙◌, arith}
use Rattle.std.specs.FinMap as finmap
use Rattle.std.specs.Int.{w16, from_be_bytes}
use Rattle.std.specs.Option.{option_map, option_or}
use Rattle.std.specs.Str.{is_utf8}
use Rattle.hs_folders.specs.FileMaps.{FileMap}
use Rattle.folder_files.specs.FileNames.{is_kept_file, journal_file}
use Rattle.desk_journal.specs.declared.bad_journal.BadJournal.{BadJournal}
use Rattle.desk_journal.specs.Entries.{EntryValue, is_named}
use Rattle.desk_journal.specs.Reading.{data_at, entries_at, entry_at, journal_in, kept_in, name_at, or_left, some_at}
use Rattle.desk_journal.specs.Overlays.{FinishesAs, HasNoJournal, StandsAs, bad_of, entries_of, finished, overlay}
use Rattle.desk_journal.proofs.OverlayLaws.{get-put_all, get_without, last_of, plain_overlay, same_name, same_name-is, same_name-other, not_kept}
use Rattle.desk_journal.proofs.ReadLaws.{bind_some, both_true, front_is, guard_some, map_some, placed_is, some_is, test_some}
use Rattle.desk_journal.proofs.ChangeLaws.{or_none}

-- ---- no entry that is read is the journal

pub kept_name : (bytes : List ℕ) {parts : List ℕ × List ℕ} → name_at bytes ≡ Some parts → is_kept_file parts.0 ≡ true
unfolding name_at
kept_name [] e = absurd cc
kept_name (count ∷ bytes) e =
    let some = bind_some (some_at count bytes) _ e in
    let name = map_some (kept_in some.0.0) _ some.2 in
    let test = test_some (is_utf8 some.0.0 && is_kept_file some.0.0) (Some some.0.0) name.1 in
    let is = both_true _ _ test.0 in
    subst (λ (p : List ℕ × List ℕ). is_kept_file p.0 ≡ true) (ap (λ (n : List ℕ). (n, some.0.1)) (some_is some.0.0 test.1) ∙ name.2) is.1

pub kept_entry : (before : List EntryValue) (bytes : List ℕ) {found : EntryValue × List ℕ} → entry_at before bytes ≡ Some found
    → is_kept_file found.0.name ≡ true
unfolding entry_at
kept_entry before bytes e =
    let name = bind_some (name_at bytes) _ e in
    let held = bind_some (data_at name.0.1) _ name.2 in
    let other = guard_some (is_named before name.0.0) _ held.2 in
    let entry : EntryValue = record { name = name.0.0; bytes = held.0.0 } in
    subst (λ (f : EntryValue × List ℕ). is_kept_file f.0.name ≡ true) (some_is (entry, held.0.1) other.1) (kept_name bytes name.1)

-- the entries name no journal
abbrev NameNoJournal : List EntryValue → Type 0
NameNoJournal entries = last_of journal_file entries ≡ None

other_name : (name : List ℕ) → is_kept_file name ≡ true → same_name journal_file name ≡ false
other_name name kept = same_name-other journal_file name (λ e. let is : is_kept_file journal_file ≡ true = ap is_kept_file e ∙ kept in cc not_kept)

one_more : (before : List EntryValue) (entry : EntryValue) → NameNoJournal before → is_kept_file entry.name ≡ true → NameNoJournal (before ++ entry ∷ [])
one_more [] entry none kept = rw (other_name entry.name kept) refl
one_more (first ∷ before) entry none kept =
    let parts = or_none (last_of journal_file before) (cond (same_name journal_file first.name) (Some first.bytes) None) none in
    rw (one_more before entry parts.0 kept, parts.1) refl

none_next : (count : ℕ) (before : List EntryValue) (bytes : List ℕ) {all : List EntryValue} → NameNoJournal before → (o : Option (EntryValue × List ℕ))
    → entry_at before bytes ≡ o → or_left bytes (λ f. entries_at count (before ++ f.0 ∷ []) f.1) o ≡ Ok all
    → ((f : EntryValue × List ℕ) → NameNoJournal (before ++ f.0 ∷ []) → entries_at count (before ++ f.0 ∷ []) f.1 ≡ Ok all → NameNoJournal all)
    → NameNoJournal all
none_next count before bytes none None is got later = absurd cc
none_next count before bytes none (Some f) is got later = later f (one_more before f.0 none (kept_entry before bytes is)) got

none_read : (count : ℕ) (before : List EntryValue) (bytes : List ℕ) {all : List EntryValue} → NameNoJournal before → entries_at count before bytes ≡ Ok all
    → NameNoJournal all
unfolding entries_at
none_read zero before bytes {all} none e = grind (arith, nat_tests, common_steps)
none_read (suc count) before bytes none e =
    none_next count before bytes none (entry_at before bytes) refl e (λ f more got. none_read count (before ++ f.0 ∷ []) f.1 more got)

none_in : (bytes : List ℕ) {entries : List EntryValue} → journal_in bytes ≡ Ok entries → NameNoJournal entries
unfolding journal_in
none_in bytes e =
    let front = front_is _ _ _ e in
    none_read (from_be_bytes w16 (take 2 (drop 4 bytes))) [] (drop 6 bytes) refl (placed_is bytes _ front.1)

-- ---- once the journal is finished

own_name : same_name journal_file journal_file ≡ true
own_name = same_name-is journal_file journal_file ∙ refl

overlay_none : (held : FileMap) → NameNoJournal (entries_of (finmap.get held journal_file)) → HasNoJournal (overlay held)
overlay_none held none =
    get-put_all (entries_of (finmap.get held journal_file)) (finmap.remove held journal_file) journal_file
    ∙ (ap (λ (o : Option (List ℕ)). option_or o (finmap.get (finmap.remove held journal_file) journal_file)) none
    ∙ (get_without held journal_file journal_file ∙ ap (λ (b : Bool). cond b None (finmap.get held journal_file)) own_name))

overlay-finished : (held : FileMap) → overlay (finished held) ≡ overlay held
overlay-finished held = by (finmap.get held journal_file) refl
  where
    good : (entries : List EntryValue) → NameNoJournal entries → entries_of (finmap.get held journal_file) ≡ entries
        → bad_of (finmap.get held journal_file) ≡ None → overlay (finished held) ≡ overlay held
    good entries none are fine =
        let files : finished held ≡ overlay held = rw fine refl in
        ap overlay files ∙ plain_overlay (overlay held) (overlay_none held (ap (last_of journal_file) are ∙ none))

    by_form : (bytes : List ℕ) (r : Result (List EntryValue) BadJournal) → finmap.get held journal_file ≡ Some bytes → journal_in bytes ≡ r
        → overlay (finished held) ≡ overlay held
    by_form bytes (Ok entries) there is = good entries (none_in bytes is) (rw (there, is) refl) (rw (there, is) refl)
    by_form bytes (Err bad) there is = let files : finished held ≡ held = rw (there, is) refl in ap overlay files

    by : (o : Option (List ℕ)) → finmap.get held journal_file ≡ o → overlay (finished held) ≡ overlay held
    by None there = good [] refl (rw there refl) (rw there refl)
    by (Some bytes) there = by_form bytes (journal_in bytes) there refl

pub finishes_stands : (before told : Option FileMap) → FinishesAs before told → StandsAs before told
finishes_stands before told same = once told ∙ (ap (option_map overlay) same ∙ sym (once before))
  where
    once : (t : Option FileMap) → option_map overlay t ≡ option_map overlay (option_map finished t)
    once None = refl
    once (Some held) = ap Some (sym (overlay-finished held))
