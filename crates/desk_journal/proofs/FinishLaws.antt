-- What a folder is once its journal is finished, at each step of carrying the journal out.
use Rattle.std.proofs.Common.{◌≡◌, ◌⊎◌, inl, inr, ℕ, List, [], ◌∷◌, ◌++◌, length, take, Option, None, Some, refl, sym, ap, subst, ◌∙◌, arith}
use Rattle.std.specs.Prelude.{IfSome}
use Rattle.std.specs.FinMap as finmap
use Rattle.std.specs.List.{AllByRecursion}
use Rattle.std.specs.Option.{option_map}
use Rattle.std.proofs.lemmas.Grind.{common_steps}
use Rattle.std.proofs.lemmas.Bool.Decides.{nat_tests}
use Rattle.hs_folders.specs.FileMaps.{FileMap}
use Rattle.hs_folders.specs.Moments.{EachMomentSince, Moments}
use Rattle.hs_folders.proofs.MomentLaws.{moments_weaken}
use Rattle.folder_files.specs.FileNames.{journal_file}
use Rattle.desk_journal.specs.Entries.{EntryValue, IsJournal, journal_text}
use Rattle.desk_journal.specs.Overlays.{FinishesAs, HasNoJournal, StandsAs, bad_of, finished, overlay, put_all}
use Rattle.desk_journal.specs.Steps.{GoesThrough, commit_steps, journal_steps, replacements, with_journal, without_journal}
use Rattle.desk_journal.proofs.OverlayLaws.{ArePending, IsPending, bad_is, none_after, overlaid_after, overlay_has_none, overlay_stays}
use Rattle.desk_journal.proofs.OverlayLaws.{pending_stays, plain_overlay, told_removed, written_there}
use Rattle.desk_journal.proofs.ReadLaws.{journal_only}
use Rattle.desk_journal.proofs.StandLaws.{finishes_stands}
use Rattle.desk_journal.proofs.StepLaws.{all_weaken, each_replacement, none_put, through_each, through_either, through_last, all-append}

-- ---- one folder

pub plain_finished : (held : FileMap) → HasNoJournal held → finished held ≡ held
plain_finished held none = grind (arith, common_steps, nat_tests, plain_overlay)

pending_finished : {entries : List EntryValue} {held : FileMap} → IsPending entries held → finished held ≡ overlay held
pending_finished {entries} {held} is =
    let good : bad_of (finmap.get held journal_file) ≡ None = bad_is held is.written (journal_only entries is.form) in rw good refl

finished_stays : {entries : List EntryValue} (count : ℕ) {held : FileMap} → IsPending entries held → finished (put_all (take count entries) held) ≡ finished held
finished_stays count is = pending_finished (pending_stays count is) ∙ (overlay_stays count is ∙ sym (pending_finished is))

finished_overlaid : {entries : List EntryValue} {held : FileMap} → IsPending entries held → finished (overlay held) ≡ finished held
finished_overlaid {entries} {held} is = plain_finished (overlay held) (overlay_has_none is) ∙ sym (pending_finished is)

finished_journal : (entries : List EntryValue) (held : FileMap) → IsJournal entries → HasNoJournal held
    → finished (finmap.insert held journal_file (journal_text entries)) ≡ finished (put_all entries held)
finished_journal entries held form none =
    pending_finished {entries = entries} {held = finmap.insert held journal_file (journal_text entries)}
    (record { form = form; written = written_there (Some held) (journal_text entries) })
    ∙ (overlaid_after entries held form none ∙ sym (plain_finished (put_all entries held) (none_after entries held form none)))

-- ---- where contents are told or not

told_finishes : (entries : List EntryValue) (count : ℕ) (told : Option FileMap) → IsJournal entries → ArePending entries told
    → FinishesAs told (option_map (put_all (take count entries)) told)
told_finishes entries count None form written = refl
told_finishes entries count (Some held) form written = ap Some (finished_stays count (record { form = form; written = written }))

told_finished : (entries : List EntryValue) (told : Option FileMap) → IsJournal entries → ArePending entries told → FinishesAs told (option_map overlay told)
told_finished entries None form written = refl
told_finished entries (Some held) form written = ap Some (finished_overlaid {entries = entries} (record { form = form; written = written }))

take_front : {X : Type 0} (a b : List X) → take (length a) (a ++ b) ≡ a
take_front [] b = refl
take_front (x ∷ a) b = ap (λ (s : List _). x ∷ s) (take_front a b)

-- each step of carrying a journal out
pub journal_same : (entries : List EntryValue) (told : Option FileMap) → IsJournal entries → ArePending entries told
    → AllByRecursion (FinishesAs told) (journal_steps entries told)
journal_same entries told form written =
    all-append (FinishesAs told) (replacements entries told) (without_journal (option_map (put_all entries) told) ∷ [])
    (subst (λ (t : Option FileMap). AllByRecursion (FinishesAs told) (replacements entries t)) (sym (none_put told))
    (each_replacement (FinishesAs told) [] entries told (λ a b is. front a b is)))
    (subst (FinishesAs told) (sym (told_removed entries told form written)) (told_finished entries told form written), tt)
  where
    front : (a b : List EntryValue) → entries ≡ a ++ b → FinishesAs told (option_map (put_all a) told)
    front a b is =
        let part : take (length a) entries ≡ a = ap (take (length a)) is ∙ take_front a b in
        subst (λ (e : List EntryValue). FinishesAs told (option_map (put_all e) told)) part (told_finishes entries (length a) told form written)

journal_finishes : (entries : List EntryValue) (told : Option FileMap) → IsJournal entries → IfSome told HasNoJournal
    → FinishesAs (option_map (put_all entries) told) (with_journal entries told)
journal_finishes entries None form none = refl
journal_finishes entries (Some held) form none = ap Some (finished_journal entries held form none)

-- each step of a commit
pub commit_same : (entries : List EntryValue) (told : Option FileMap) → IsJournal entries → IfSome told HasNoJournal
    → AllByRecursion (FinishesAs (option_map (put_all entries) told)) (commit_steps entries told)
commit_same [] told form none = tt
commit_same (entry ∷ []) told form none = (refl, tt)
commit_same (entry ∷ other ∷ entries) told form none =
    let all : List EntryValue = entry ∷ other ∷ entries in
    let here : FinishesAs (option_map (put_all all) told) (with_journal all told) = journal_finishes all told form none in (
      here,
      all_weaken (FinishesAs (with_journal all told)) (FinishesAs (option_map (put_all all) told)) (journal_steps all (with_journal all told))
          (λ t is. is ∙ here)
          (journal_same all (with_journal all told) form (written_there told (journal_text all))),
    )

-- ---- going through such steps

pub each_finishes : (same : Option FileMap) (steps : List (Option FileMap)) {before after : Option FileMap} {old new : Moments}
    → AllByRecursion (FinishesAs same) steps → GoesThrough steps before after old new → EachMomentSince (FinishesAs same) old new
each_finishes same steps all it = through_each (FinishesAs same) all it

pub each_stands : (same : Option FileMap) (steps : List (Option FileMap)) {before after : Option FileMap} (old new : Moments)
    → AllByRecursion (FinishesAs same) steps → GoesThrough steps before after old new → EachMomentSince (StandsAs same) old new
each_stands same steps old new all it =
    moments_weaken (FinishesAs same) (StandsAs same) old new (each_finishes same steps all it) (λ told is. finishes_stands same told is)

pub last_finishes : (steps : List (Option FileMap)) {before after : Option FileMap} {old new : Moments} → AllByRecursion (FinishesAs before) steps
    → GoesThrough steps before after old new → FinishesAs before after
last_finishes steps {before} all it = through_last (FinishesAs before) refl all it

pub either_finishes : (same : Option FileMap) (steps : List (Option FileMap)) {before after : Option FileMap} {old new : Moments}
    → AllByRecursion (FinishesAs same) steps → GoesThrough steps before after old new → FinishesAs before after ⊎ FinishesAs same after
either_finishes same steps all it = elim (through_either (FinishesAs same) all it) [ inl is ↦ inl (ap (option_map finished) is) | inr is ↦ inr is ]

pub either_stands : (same : Option FileMap) (steps : List (Option FileMap)) {before : Option FileMap} (after : Option FileMap) {old new : Moments}
    → AllByRecursion (FinishesAs same) steps → GoesThrough steps before after old new → StandsAs before after ⊎ StandsAs same after
either_stands same steps {before} after all it =
    elim (either_finishes same steps all it) [ inl is ↦ inl (finishes_stands before after is) | inr is ↦ inr (finishes_stands same after is) ]
