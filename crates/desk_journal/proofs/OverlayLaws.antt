-- What a folder stands for while its journal is carried out.
use Rattle.std.proofs.lemmas.Bool.Decides.{nat_tests}
use Rattle.std.proofs.lemmas.Grind.{common_steps}
use Rattle.std.proofs.Common.{◌≡◌, ◌+◌, ◌<◌, ◌≤◌, ℕ, zero, suc, Bool, true, false, cond, List, [], ◌∷◌, ◌++◌, length, take, get_or, Option, Some, None, Result, Ok}
use Rattle.std.proofs.Common.{Err, refl, sym, ap, ◌∙◌, arith}
use Rattle.std.specs.Prelude.{IfSome, IsSome, OnErr, bytes_eq}
use Rattle.std.specs.FinMap as finmap
use Rattle.std.specs.FinMap.{get-insert, get-remove}
use Rattle.std.specs.Ordering.{nat_cmp, eq_by_cmp}
use Rattle.std.specs.Cmp.Lexicographic.{slice_cmp, nat_list_cmp_total}
use Rattle.std.specs.Option.{option_map, option_or}
use Rattle.std.proofs.lemmas.Map.Text.{is_eq-slice_cmp}
use Rattle.std.proofs.lemmas.Slice.Eq.{bytes_eq-Decides}
use Rattle.std.proofs.lemmas.List.{length-map, map_push, take-map, take_all, take_more}
use Rattle.hs_folders.specs.FileMaps.{FileMap}
use Rattle.folder_files.specs.FileNames.{is_kept_file, journal_file}
use Rattle.desk_journal.specs.declared.bad_journal.BadJournal.{BadJournal}
use Rattle.desk_journal.specs.declared.entry.Entry.{Entry}
use Rattle.desk_journal.specs.Entries.{AreEntries, EntryValue, IsJournal, entry_value, entry_values, journal_text}
use Rattle.desk_journal.specs.Reading.{journal_in}
use Rattle.desk_journal.specs.Overlays.{HasNoJournal, bad_of, finished, if_bad, overlay, put_all}
use Rattle.desk_journal.proofs.ReadLaws.{journal_only}
use Rattle.hs_folders.proofs.FileTrees.{same_files}

-- ---- names

-- two names are the same
abbrev pub same_name : List ℕ → List ℕ → Bool
same_name = eq_by_cmp (slice_cmp nat_cmp)

pub same_name-is : (a b : List ℕ) → same_name a b ≡ bytes_eq a b
same_name-is a b = is_eq-slice_cmp a b

pub same_name-refl : (a : List ℕ) → same_name a a ≡ true
same_name-refl a = same_name-is a a ∙ grind (arith, bytes_eq-Decides a a)

pub same_name-true : (a b : List ℕ) → same_name a b ≡ true → a ≡ b
same_name-true a b e = grind (arith, same_name-is, bytes_eq-Decides)

pub same_name-other : (a b : List ℕ) → (a ≡ b → ⊥) → same_name a b ≡ false
same_name-other a b other = grind (arith, same_name, same_name-true)

-- ---- files

pub get_put : (held : FileMap) (name bytes q : List ℕ) → finmap.get (finmap.insert held name bytes) q ≡ cond (same_name q name) (Some bytes) (finmap.get held q)
get_put held name bytes q = get-insert nat_list_cmp_total held name bytes q

pub get_without : (held : FileMap) (name q : List ℕ) → finmap.get (finmap.remove held name) q ≡ cond (same_name q name) None (finmap.get held q)
get_without held name q = get-remove nat_list_cmp_total held name q

-- the bytes of the last entry of this name
abbrev pub last_of : List ℕ → List EntryValue → Option (List ℕ)
last_of q [] = None
last_of q (entry ∷ entries) = option_or (last_of q entries) (cond (same_name q entry.name) (Some entry.bytes) None)

or_assoc : (o : Option (List ℕ)) (test : Bool) (x : List ℕ) (rest : Option (List ℕ))
    → option_or o (cond test (Some x) rest) ≡ option_or (option_or o (cond test (Some x) None)) rest
or_assoc o test x rest = grind arith

pub get-put_all : (entries : List EntryValue) (held : FileMap) (q : List ℕ)
    → finmap.get (put_all entries held) q ≡ option_or (last_of q entries) (finmap.get held q)
get-put_all [] held q = refl
get-put_all (entry ∷ entries) held q =
    grind (arith, nat_tests, common_steps, get-put_all entries (finmap.insert held entry.name entry.bytes) q, last_of, get_put, or_assoc, same_name)

-- ---- no entry is the journal

pub not_kept : is_kept_file journal_file ≡ false
not_kept = refl

no_entry : (before entries : List EntryValue) → AreEntries before entries → last_of journal_file entries ≡ None
no_entry before [] form = refl
no_entry before (entry ∷ entries) form =
    grind (
      arith,
      nat_tests,
      common_steps,
      same_name journal_file entry.name,
      same_name-other journal_file entry.name,
      entry.name,
      form.0.kept,
      no_entry (before ++ entry ∷ []) entries form.2,
    )

none_in_front : (q : List ℕ) (count : ℕ) (entries : List EntryValue) → last_of q entries ≡ None → last_of q (take count entries) ≡ None
none_in_front q zero entries none = refl
none_in_front q (suc count) [] none = refl
none_in_front q (suc count) (entry ∷ entries) none = grind (arith, none_in_front q count entries)

over_front : (q : List ℕ) (count : ℕ) (entries : List EntryValue) (rest : Option (List ℕ))
    → option_or (last_of q entries) (option_or (last_of q (take count entries)) rest) ≡ option_or (last_of q entries) rest
over_front q count entries rest = grind (arith, last_of, none_in_front)

-- ---- overlays

-- the journal of a folder is this one
pub record IsPending (entries : List EntryValue) (held : FileMap) : Type 0 where
  pub form : IsJournal entries
  pub written : finmap.get held journal_file ≡ Some (journal_text entries)

pub pending_overlay : {entries : List EntryValue} {held : FileMap} → IsPending entries held → overlay held ≡ put_all entries (finmap.remove held journal_file)
pending_overlay {entries} is = rw (is.written, journal_only entries is.form) refl

journal_stays : {entries : List EntryValue} (count : ℕ) {held : FileMap} → IsPending entries held
    → finmap.get (put_all (take count entries) held) journal_file ≡ finmap.get held journal_file
journal_stays count is = grind (arith, get-put_all, none_in_front, no_entry)

-- while the first so many files are replaced, the journal is there and the folder stands for the same
pub pending_stays : {entries : List EntryValue} (count : ℕ) {held : FileMap} → IsPending entries held → IsPending entries (put_all (take count entries) held)
pending_stays count is = grind (arith, journal_stays)

pub overlay_stays : {entries : List EntryValue} (count : ℕ) {held : FileMap} → IsPending entries held
    → overlay (put_all (take count entries) held) ≡ overlay held
overlay_stays {entries} count {held} is =
    pending_overlay (pending_stays count is)
    ∙ (same_files _ _ (λ q.
    get-put_all entries (finmap.remove (put_all (take count entries) held) journal_file) q
    ∙ (ap (option_or (last_of q entries)) (get_without (put_all (take count entries) held) journal_file q ∙ ap (cond (same_name q journal_file) None)
    (get-put_all (take count entries) held q))
    ∙ (by_name q (same_name q journal_file)
    ∙ sym (get-put_all entries (finmap.remove held journal_file) q ∙ ap (option_or (last_of q entries)) (get_without held journal_file q)))))
    ∙ sym (pending_overlay is))
  where
    by_name : (q : List ℕ) (test : Bool)
        → option_or (last_of q entries) (cond test None (option_or (last_of q (take count entries)) (finmap.get held q)))
        ≡ option_or (last_of q entries) (cond test None (finmap.get held q))
    by_name q true = refl
    by_name q false = over_front q count entries (finmap.get held q)

-- a folder without a journal stands for its files
pub plain_overlay : (held : FileMap) → HasNoJournal held → overlay held ≡ held
plain_overlay held none = rw none (without held none)
  where
    without : (held : FileMap) → HasNoJournal held → finmap.remove held journal_file ≡ held
    without held none = same_files _ _ (λ q. get_without held journal_file q ∙ cases q (same_name q journal_file) refl)
      where
        cases : (q : List ℕ) (test : Bool) → same_name q journal_file ≡ test → cond test None (finmap.get held q) ≡ finmap.get held q
        cases q true e = sym (ap (finmap.get held) (same_name-true q journal_file e) ∙ none)
        cases q false e = refl

-- once each file is replaced and the journal removed, the folder holds what it stood for
pub removed : {entries : List EntryValue} {held : FileMap} → IsPending entries held → finmap.remove (put_all entries held) journal_file ≡ overlay held
removed {entries} {held} is =
    same_files _ _ (λ q.
    get_without (put_all entries held) journal_file q
    ∙ (ap (cond (same_name q journal_file) None) (get-put_all entries held q)
    ∙ (cases q (same_name q journal_file) refl ∙ sym (get-put_all entries (finmap.remove held journal_file) q ∙ ap (option_or (last_of q entries))
    (get_without held journal_file q)))))
    ∙ sym (pending_overlay is)
  where
    cases : (q : List ℕ) (test : Bool) → same_name q journal_file ≡ test
        → cond test None (option_or (last_of q entries) (finmap.get held q)) ≡ option_or (last_of q entries) (cond test None (finmap.get held q))
    cases q true e = let none : last_of q entries ≡ None = ap (λ (n : List ℕ). last_of n entries) (same_name-true q journal_file e)
        ∙ no_entry [] entries is.form.1 in rw none refl
    cases q false e = refl

pub overlay_has_none : {held : FileMap} {entries : List EntryValue} → IsPending entries held → HasNoJournal (overlay held)
overlay_has_none {held} {entries} is =
    grind (arith, nat_tests, common_steps, removed is, get_without (put_all entries held) journal_file journal_file, same_name-refl journal_file)

-- ---- where contents are told or not

-- where they are told, the journal is this one
abbrev pub ArePending : List EntryValue → Option FileMap → Type 0
ArePending entries told = IfSome told (λ held. finmap.get held journal_file ≡ Some (journal_text entries))

pub told_there : (entries : List EntryValue) (told : Option FileMap) → IsJournal entries → ArePending entries told
    → IfSome (option_map (put_all entries) told) (λ held. IsSome (finmap.get held journal_file))
told_there entries None form written = tt
told_there entries (Some held) form written =
    grind (
      arith,
      nat_tests,
      common_steps,
      take_all (length entries) entries (omega arith),
      pending_stays (length entries) (record { form = form; written = written }),
    )

pub told_removed : (entries : List EntryValue) (told : Option FileMap) → IsJournal entries → ArePending entries told
    → option_map (λ held. finmap.remove held journal_file) (option_map (put_all entries) told) ≡ option_map overlay told
told_removed entries told form written = grind (arith, removed)

pub told_no_journal : (entries : List EntryValue) (told : Option FileMap) → IsJournal entries → ArePending entries told
    → IfSome (option_map overlay told) HasNoJournal
told_no_journal entries told form written = grind (arith, overlay_has_none)

-- ---- counts

-- ---- one entry more

put_after : (entries : List EntryValue) (entry : EntryValue) (held : FileMap)
    → put_all (entries ++ entry ∷ []) held ≡ finmap.insert (put_all entries held) entry.name entry.bytes
put_after [] entry held = refl
put_after (first ∷ entries) entry held = put_after entries entry (finmap.insert held first.name first.bytes)

pub put_one_more : (entries : List EntryValue) (entry : EntryValue) (told : Option FileMap)
    → option_map (put_all (entries ++ entry ∷ [])) told ≡ option_map (λ held. finmap.insert held entry.name entry.bytes) (option_map (put_all entries) told)
put_one_more entries entry told = grind (arith, put_after)

pub values_more : (entries : List Entry) (place : ℕ) {item : Entry} → place < length entries → item ≡ get_or entries place item
    → take (place + 1) (entry_values entries) ≡ take place (entry_values entries) ++ entry_value item ∷ []
values_more entries place less is = grind (arith, nat_tests, common_steps, take-map, take_more, map_push)

pub values_taken : (entries : List Entry) (place : ℕ) → length entries ≤ place → take place (entry_values entries) ≡ entry_values entries
values_taken entries place past = grind (arith, nat_tests, common_steps, take_all, length-map)

-- ---- finishing

abbrev pub Journals : Option FileMap → List ℕ → Type 0
Journals told bytes = IfSome told (λ held. finmap.get held journal_file ≡ Some bytes)

pub finished_none : (told : Option FileMap) → IfSome told HasNoJournal → told ≡ option_map finished told
finished_none told none = grind (arith, plain_overlay)

pub bad_none : (told : Option FileMap) → IfSome told HasNoJournal → IfSome told (λ held. None ≡ bad_of (finmap.get held journal_file))
bad_none told none = grind arith

pub bad_is : (held : FileMap) {bytes : List ℕ} {r : Result (List EntryValue) BadJournal} → finmap.get held journal_file ≡ Some bytes → journal_in bytes ≡ r
    → bad_of (finmap.get held journal_file) ≡ if_bad r
bad_is held there is = ap bad_of there ∙ ap if_bad is

pub bad_told : (told : Option FileMap) (bytes : List ℕ) {bad : BadJournal} → Journals told bytes → journal_in bytes ≡ Err bad
    → IfSome told (λ held. Some bad ≡ bad_of (finmap.get held journal_file))
bad_told told bytes there is = grind arith

pub good_told : (told : Option FileMap) (bytes : List ℕ) {entries : List EntryValue} → Journals told bytes → journal_in bytes ≡ Ok entries
    → IfSome told (λ held. None ≡ bad_of (finmap.get held journal_file))
good_told told bytes there is = grind arith

pub finished_bad : (told : Option FileMap) (bytes : List ℕ) {bad : BadJournal} → Journals told bytes → journal_in bytes ≡ Err bad
    → told ≡ option_map finished told
finished_bad told bytes there is = grind arith

pub finished_good : (told : Option FileMap) (bytes : List ℕ) {entries : List EntryValue} → Journals told bytes → journal_in bytes ≡ Ok entries
    → option_map overlay told ≡ option_map finished told
finished_good told bytes there is = grind arith

-- ---- committing

pub written_there : (told : Option FileMap) (bytes : List ℕ) → Journals (option_map (λ held. finmap.insert held journal_file bytes) told) bytes
written_there told bytes = grind (arith, get_put, same_name-refl)

taken_back : (held : FileMap) (bytes : List ℕ) → HasNoJournal held → finmap.remove (finmap.insert held journal_file bytes) journal_file ≡ held
taken_back held bytes none =
    same_files _ _ (λ q.
    get_without (finmap.insert held journal_file bytes) journal_file q
    ∙ (ap (cond (same_name q journal_file) None) (get_put held journal_file bytes q) ∙ cases q (same_name q journal_file) refl))
  where
    cases : (q : List ℕ) (test : Bool) → same_name q journal_file ≡ test → cond test None (cond test (Some bytes) (finmap.get held q)) ≡ finmap.get held q
    cases q true e = sym (ap (finmap.get held) (same_name-true q journal_file e) ∙ none)
    cases q false e = refl

pub overlaid_after : (entries : List EntryValue) (held : FileMap) → IsJournal entries → HasNoJournal held
    → overlay (finmap.insert held journal_file (journal_text entries)) ≡ put_all entries held
overlaid_after entries held form none =
    cc (
      pending_overlay {entries = entries} {held = finmap.insert held journal_file (journal_text entries)}
          (record { form = form; written = written_there (Some held) (journal_text entries) }),
      taken_back held (journal_text entries) none,
    )

pub none_after : (entries : List EntryValue) (held : FileMap) → IsJournal entries → HasNoJournal held → HasNoJournal (put_all entries held)
none_after entries held form none = grind (arith, get-put_all, no_entry)

pub commit_done : (entries : List EntryValue) (told : Option FileMap) → IsJournal entries → IfSome told HasNoJournal
    → option_map overlay (option_map (λ held. finmap.insert held journal_file (journal_text entries)) told) ≡ option_map (put_all entries) told
commit_done entries told form none = grind (arith, overlaid_after)

-- ---- of an answer

pub on_err_of : {A E P : Type 0} (answer : Result A E) → P → OnErr answer P
on_err_of answer is = grind arith
