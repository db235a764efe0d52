-- An import in the categories of another file.
use Rattle.std.proofs.Common.{◌≡◌, ◌∙◌, refl, subst, sym, ◌⊎◌, inl, inr, ℕ, List, Option, Some, None}
use Rattle.pdb_values.specs.Databases.{DatabaseValue}
use Rattle.pdb_files.specs.Files.{IsFileText}
use Rattle.memo_texts.specs.declared.fault.ImportFault.{ImportFault}
use Rattle.memo_texts.specs.declared.fault.ImportFault.TheVariants as imports
use Rattle.category_tables.specs.Likes.{RefusesLike}
use Rattle.category_tables.specs.declared.like_fault.LikeFault.{LikeFault}
use Rattle.category_tables.specs.declared.like_fault.LikeFault.TheVariants as likes
use Rattle.cmd_status.specs.declared.status.Status.{Status}
use Rattle.cmd_status.specs.declared.status.Status.TheVariants.{Done, NoMemory, OutWrite, SourceRead}
use Rattle.hotsync_looks.specs.LookTexts.{RefusesImport, SaysMisfit}
use Rattle.cmd_status.specs.Printed.{IsPrinted}
use Rattle.cmd_status.specs.Told.{SinkTold, SourceTold}
use Rattle.run_words.specs.Likes.{Like}
use Rattle.hotsync_looks.specs.Likings.{IsLikedIn, IsLikingCall, RefusesLiking, SaysUnlike, like_status}

-- ---- the other file

one_block : {block other : List ℕ} → Some block ≡ Some other → block ≡ other
one_block same = cc

-- the status says why it gives no categories
pub unlike : (path : List ℕ) (database other : DatabaseValue) (block bytes : List ℕ) (fault : LikeFault) → IsFileText other bytes → other.app ≡ Some block
    → RefusesLike database block fault → SaysUnlike path database bytes (like_status other.head.name fault)
unlike path database other block bytes likes.BadTable file app refuses = record {
  other = other;
  file = file;
  named = refl;
  none = λ has. has.2 (subst (λ (b : List ℕ). RefusesLike database b likes.BadTable) (one_block (sym app ∙ has.1)) refuses);
}
unlike path database other block bytes likes.TooMany file app refuses =
    (refl, record { other = other; block = block; has = record { file = file; app = app }; many = refuses })
unlike path database other block bytes likes.NoMemory file app refuses = tt

-- ---- the call

-- a refusal stands once it is printed, unless memory runs out
pub refused_status : (path : List ℕ) (source like : Option (List ℕ)) (refusal status : Status) → (status ≡ refusal) ⊎ (status ≡ NoMemory)
    → RefusesLiking path source like refusal → RefusesLiking path source like status
refused_status path source like refusal status (inl same) refuses = subst (RefusesLiking path source like) (sym same) refuses
refused_status path source like refusal status (inr none) refuses = inl none

misfit_not_done : (fault : ImportFault) → SaysMisfit fault Done → ⊥
misfit_not_done (imports.BadText line flaw) says = says
misfit_not_done imports.TooManyCategories says = says
misfit_not_done imports.TooManyRecords says = says
misfit_not_done imports.NoMemory says = says

import_not_done : (text : List ℕ) → RefusesImport text Done → ⊥
import_not_done text (inl is) = misfit_not_done is.0 is.2
import_not_done text (inr none) = cc

pub refused_not_done : (path : List ℕ) (source like : Option (List ℕ)) (status : Status) → RefusesLiking path source like status → status ≡ Done → ⊥
refused_not_done path source like status (inl none) done = let no = sym done ∙ none in cc
refused_not_done path source like status (inr (inl read)) done = let no = sym done ∙ read in cc
refused_not_done path source like status (inr (inr (inl long))) done = let no = sym done ∙ long.0 in cc
refused_not_done path source like status (inr (inr (inr (inl text)))) done =
    import_not_done text.text (subst (RefusesImport text.text) done text.is)
refused_not_done path source like status (inr (inr (inr (inr other)))) done =
    subst (SaysUnlike path other.database other.bytes) done other.is

pub refused_failed : {A : Type 0} (refusal status : Status) → (status ≡ refusal) ⊎ (status ≡ NoMemory) → (refusal ≡ SourceRead → A) → status ≡ SourceRead → A
refused_failed refusal status (inl same) failed read = failed (sym same ∙ read)
refused_failed refusal status (inr none) failed read = let no = sym none ∙ read in absurd cc

-- what was made is printed, unless standard output fails or memory runs out
pub printed_ended : (path : List ℕ) (source like : Option (List ℕ)) (status : Status) → (status ≡ Done) ⊎ (status ≡ OutWrite) ⊎ (status ≡ NoMemory)
    → RefusesLiking path source like status ⊎ (status ≡ Done) ⊎ (status ≡ OutWrite)
printed_ended path source like status (inl done) = inr (inl done)
printed_ended path source like status (inr (inl failed)) = inr (inr failed)
printed_ended path source like status (inr (inr none)) = inl (inl none)

pub printed_not_failed : {A : Type 0} (status : Status) → (status ≡ Done) ⊎ (status ≡ OutWrite) ⊎ (status ≡ NoMemory) → status ≡ SourceRead → A
printed_not_failed status (inl done) read = let no = sym done ∙ read in absurd cc
printed_not_failed status (inr (inl failed)) read = let no = sym failed ∙ read in absurd cc
printed_not_failed status (inr (inr none)) read = let no = sym none ∙ read in absurd cc

-- words that were not read for want of memory
unread : (words : Option Like) (source like : SourceTold) (out : SinkTold) {err err_after : SinkTold} → IsPrinted (λ text. ⊥) err err_after NoMemory
    → IsLikingCall words source source like like out out err err_after NoMemory
unread None source like out printed = (inr refl, printed, refl)
unread (Some words) source like out printed = record {
  ended = inl (inl refl);
  failed = λ e. cc;
  source_path = inl refl;
  like_path = inl refl;
  source_opened = λ e. cc;
  like_opened = λ e. cc;
  printed = inr (record { printed = printed; apart = refl });
}

pub unread_liking : (words : Option Like) (source like : SourceTold) (out : SinkTold) {err err_after : SinkTold} {status : Status}
    → (status ≡ NoMemory) ⊎ (status ≡ NoMemory) → IsPrinted (λ text. ⊥) err err_after status
    → IsLikingCall words source source like like out out err err_after status
unread_liking words source like out {err} {err_after} {status} refused printed =
    let is : status ≡ NoMemory = elim refused [ inl e ↦ e | inr e ↦ e ] in
    subst (IsLikingCall words source source like like out out err err_after) (sym is)
    (unread words source like out (subst (IsPrinted (λ text. ⊥) err err_after) is printed))
