-- Finishing a journal changes no file of a name that a desktop doesn't keep.
use Rattle.std.proofs.lemmas.Bool.Decides.{nat_tests}
use Rattle.std.proofs.lemmas.Grind.{common_steps}
use Rattle.std.proofs.Common.{◌≡◌, ℕ, zero, suc, Bool, true, false, cond, List, [], ◌∷◌, ◌++◌, take, drop, Option, None, Some, Result, Ok, Err, refl, ap}
use Rattle.std.proofs.Common.{◌∙◌, arith}
use Rattle.std.specs.FinMap as finmap
use Rattle.std.specs.Int.{w16, from_be_bytes}
use Rattle.std.specs.Option.{option_or}
use Rattle.hs_folders.specs.FileMaps.{FileMap}
use Rattle.folder_files.specs.FileNames.{is_kept_file, journal_file}
use Rattle.desk_journal.specs.Entries.{EntryValue}
use Rattle.desk_journal.specs.Reading.{entries_at, entry_at, journal_in, or_left}
use Rattle.desk_journal.specs.Overlays.{bad_of, entries_of, finished, if_form, overlay}
use Rattle.desk_journal.specs.declared.bad_journal.BadJournal.{BadJournal}
use Rattle.desk_journal.proofs.OverlayLaws.{get-put_all, get_without, last_of, same_name, same_name-other}
use Rattle.desk_journal.proofs.ReadLaws.{front_is, placed_is}
use Rattle.desk_journal.proofs.StandLaws.{kept_entry}
use Rattle.front_laws.proofs.RowCountLaws.{no_both}

-- ---- an entry that is read is of a name that a desktop keeps

-- ---- so none is of another name

module _ (q : List ℕ) (unkept : is_kept_file q ≡ false) where
  abbrev NotAmong : List EntryValue → Type 0
  NotAmong entries = last_of q entries ≡ None

  other_name : (name : List ℕ) → is_kept_file name ≡ true → same_name q name ≡ false
  other_name name kept = same_name-other q name (λ e. no_both (is_kept_file q) unkept (ap is_kept_file e ∙ kept))

  or_none : (a b : Option (List ℕ)) → option_or a b ≡ None → (a ≡ None) × (b ≡ None)
  or_none None b e = (refl, e)
  or_none (Some x) b e = absurd cc

  one_more : (before : List EntryValue) (entry : EntryValue) → NotAmong before → is_kept_file entry.name ≡ true → NotAmong (before ++ entry ∷ [])
  one_more [] entry none kept = rw (other_name entry.name kept) refl
  one_more (first ∷ before) entry none kept =
      let parts = or_none (last_of q before) (cond (same_name q first.name) (Some first.bytes) None) none in
      rw (one_more before entry parts.0 kept, parts.1) refl

  none_next : (count : ℕ) (before : List EntryValue) (bytes : List ℕ) {all : List EntryValue} → NotAmong before → (o : Option (EntryValue × List ℕ))
      → entry_at before bytes ≡ o → or_left bytes (λ f. entries_at count (before ++ f.0 ∷ []) f.1) o ≡ Ok all
      → ((f : EntryValue × List ℕ) → NotAmong (before ++ f.0 ∷ []) → entries_at count (before ++ f.0 ∷ []) f.1 ≡ Ok all → NotAmong all)
      → NotAmong all
  none_next count before bytes none None is got later = absurd cc
  none_next count before bytes none (Some f) is got later = later f (one_more before f.0 none (kept_entry before bytes is)) got

  none_read : (count : ℕ) (before : List EntryValue) (bytes : List ℕ) {all : List EntryValue} → NotAmong before → entries_at count before bytes ≡ Ok all
      → NotAmong all
  unfolding entries_at
  none_read zero before bytes {all} none e = grind (arith, nat_tests, common_steps)
  none_read (suc count) before bytes none e =
      none_next count before bytes none (entry_at before bytes) refl e (λ f more got. none_read count (before ++ f.0 ∷ []) f.1 more got)

  none_in : (bytes : List ℕ) {entries : List EntryValue} → journal_in bytes ≡ Ok entries → NotAmong entries
  unfolding journal_in
  none_in bytes e =
      let front = front_is _ _ _ e in
      none_read (from_be_bytes w16 (take 2 (drop 4 bytes))) [] (drop 6 bytes) refl (placed_is bytes _ front.1)

  none_formed : (r : Result (List EntryValue) BadJournal) → ((entries : List EntryValue) → r ≡ Ok entries → NotAmong entries) → NotAmong (if_form r)
  none_formed (Ok entries) all = all entries refl
  none_formed (Err bad) all = refl

  none_of : (o : Option (List ℕ)) → NotAmong (entries_of o)
  none_of None = refl
  none_of (Some bytes) = none_formed (journal_in bytes) (λ entries is. none_in bytes is)

  -- ---- a folder

  overlay_stays : (held : FileMap) → (q ≡ journal_file → ⊥) → finmap.get (overlay held) q ≡ finmap.get held q
  overlay_stays held other =
      get-put_all (entries_of (finmap.get held journal_file)) (finmap.remove held journal_file) q
      ∙ ap (λ (o : Option (List ℕ)). option_or o (finmap.get (finmap.remove held journal_file) q)) (none_of (finmap.get held journal_file))
      ∙ get_without held journal_file q ∙ ap (λ (b : Bool). cond b None (finmap.get held q)) (same_name-other q journal_file other)

  pub finished-get : (held : FileMap) → (q ≡ journal_file → ⊥) → finmap.get (finished held) q ≡ finmap.get held q
  finished-get held other = by (bad_of (finmap.get held journal_file)) refl
    where
      by : (o : Option BadJournal) → bad_of (finmap.get held journal_file) ≡ o → finmap.get (finished held) q ≡ finmap.get held q
      by None is =
          let files : finished held ≡ overlay held = rw is refl in
          ap (λ (files : FileMap). finmap.get files q) files ∙ overlay_stays held other
      by (Some bad) is = let files : finished held ≡ held = rw is refl in ap (λ (files : FileMap). finmap.get files q) files
