-- What is known while the files of a folder of backups are read one after the other.
use Rattle.std.proofs.Common.{◌≡◌, ◌∙◌, ◌≤◌, ℕ, List, [], ◌∷◌, ◌++◌, inl, inr, sym, subst}
use Rattle.std.specs.Prelude.{Option, Some, None, IfSome, count_by, string_bytes}
use Rattle.std.specs.FinMap as finmap
use Rattle.std.specs.List.{AllByRecursion}
use Rattle.std.specs.declared.alloc.Global.{Global}
use Rattle.hs_folders.specs.FileMaps.{FileMap}
use Rattle.palm_device.specs.Bounds.{IsBoundedDatabase}
use Rattle.pdb_values.specs.Databases.{DatabaseValue}
use Rattle.pdb_values.proofs.NamedLaws.{AllByRecursion-with_new, bytes_eq-is}
use Rattle.handheld_files.specs.Openings.{among}
use Rattle.backup_files.specs.BackupFolders.{AreBackups, HoldsBackups, HoldsDatabase, IsFirstBadFile, IsFirstSame, ShowsBackupFault, backup_count}
use Rattle.backup_files.specs.BackupNames.{is_backup}
use Rattle.backup_files.specs.FoundFiles.{IsPassedOver, ReadsOn, RefusesFile, RefusesOne}
use Rattle.backup_files.specs.declared.fault.BackupFault.{BackupFault}
use Rattle.backup_files.specs.declared.fault.BackupFault.TheVariants.{BadFile, SameDatabase, TooMany}
use Rattle.backup_files.specs.declared.found.Origin.{Origin}
use Rattle.backup_files.proofs.BackupLaws.{AreNoted, IsOriginIn, backups_added, backups_all, backups_missing, backups_none, backups_unread, noted_added, noted_none, origin-found}
use Rattle.backup_files.proofs.BackupLaws.{origins_added, origins_past}

-- the files of these names hold these databases, which were found there
pub record FoundSoFar (names : List (List ℕ)) (held : FileMap) (databases : List DatabaseValue) (found : List Origin) : Type 0 where
  pub backups : AreBackups (among names held) databases
  pub origins : AllByRecursion (IsOriginIn (among names held)) found

pub found_begin : (told : Option FileMap) (databases : List DatabaseValue) (origins : List Origin) → databases ≡ [] → origins ≡ []
    → IfSome told (λ held. FoundSoFar [] held databases origins)
found_begin None databases origins none nowhere = tt
found_begin (Some held) databases origins none nowhere =
    subst (FoundSoFar [] held databases) (sym nowhere)
    (subst (λ ds. FoundSoFar [] held ds []) (sym none) (record { backups = backups_none held; origins = tt }))

past_on : (held : FileMap) (names : List (List ℕ)) (name : List ℕ) (databases : List DatabaseValue)
    → AreBackups (among names held) databases → IsPassedOver (Some held) name → AreBackups (among (names ++ name ∷ []) held) databases
past_on held names name databases are (inl unread) = backups_unread held names name databases unread are
past_on held names name databases are (inr missing) = backups_missing held names name databases missing are

-- one more file
pub found_on : (told : Option FileMap) (names : List (List ℕ)) (name : List ℕ) (old new : List DatabaseValue) (origins origins' : List Origin)
    → AreNoted old origins → IfSome told (λ held. FoundSoFar names held old origins) → ReadsOn told name old origins new origins'
    → IfSome told (λ held. FoundSoFar (names ++ name ∷ []) held new origins')
found_on None names name old new origins origins' noted found reads = tt
found_on (Some held) names name old new origins origins' noted found (inl past) =
    subst (FoundSoFar (names ++ name ∷ []) held new) (sym past.1.found)
    (subst (λ ds. FoundSoFar (names ++ name ∷ []) held ds origins) (sym past.1.databases) (record {
      backups = past_on held names name old found.backups past.0;
      origins = origins_past held names name origins found.origins;
    }))
found_on (Some held) names name old new origins origins' noted found (inr did) =
    let adds = did.2 in
    record {
      backups = subst (AreBackups (among (names ++ name ∷ []) held)) (sym adds.made)
          (backups_added held names name did.0 old adds.stored did.1.there did.1.is_named adds.text
          (noted.all adds.stored.head.name adds.is_new) found.backups);
      origins = origins_added held names name did.0 old new origins origins' did.1.there did.1.is_named adds found.origins;
    }

pub backups_found : (told : Option FileMap) (names : List (List ℕ)) (databases : List DatabaseValue) (origins : List Origin)
    → IfSome told (λ held. FoundSoFar names held databases origins) → IfSome told (λ held. AreBackups (among names held) databases)
backups_found None names databases origins found = tt
backups_found (Some held) names databases origins found = found.backups

-- databases in their order
pub noted_begin : (databases : List DatabaseValue) (origins : List Origin) → databases ≡ [] → origins ≡ [] → AreNoted databases origins
noted_begin databases origins none nowhere = subst (AreNoted databases) (sym nowhere) (subst (λ ds. AreNoted ds []) (sym none) noted_none)

pub noted_on : (told : Option FileMap) (name : List ℕ) (old new : List DatabaseValue) (origins origins' : List Origin) → AreNoted old origins
    → ReadsOn told name old origins new origins' → AreNoted new origins'
noted_on told name old new origins origins' noted (inl past) =
    subst (AreNoted new) (sym past.1.found) (subst (λ ds. AreNoted ds origins) (sym past.1.databases) noted)
noted_on told name old new origins origins' noted (inr did) = noted_added old new origins origins' name did.0 did.2 noted

-- databases keep their bounds
pub bounded_begin : (databases : List DatabaseValue) → databases ≡ [] → AllByRecursion IsBoundedDatabase databases
bounded_begin databases none = subst (AllByRecursion IsBoundedDatabase) (sym none) tt

pub bounded_on : (told : Option FileMap) (name : List ℕ) (old new : List DatabaseValue) (origins origins' : List Origin)
    → AllByRecursion IsBoundedDatabase old → ReadsOn told name old origins new origins' → AllByRecursion IsBoundedDatabase new
bounded_on told name old new origins origins' bounded (inl past) = subst (AllByRecursion IsBoundedDatabase) (sym past.1.databases) bounded
bounded_on told name old new origins origins' bounded (inr did) =
    let adds = did.2 in
    subst (AllByRecursion IsBoundedDatabase) (sym adds.made) (AllByRecursion-with_new IsBoundedDatabase adds.stored old adds.bounded bounded)

-- a file that is refused is the first one
pub refused_on : (told : Option FileMap) (names before after : List (List ℕ)) (name : List ℕ) (databases : List DatabaseValue) (origins : List Origin)
    (fault : BackupFault) → IfSome told (λ held. FoundSoFar before held databases origins)
    → RefusesFile told name origins fault → names ≡ before ++ name ∷ after → IfSome told (RefusesOne names fault)
refused_on (Some held) names before after name databases origins TooMany found refuses order = refuses
refused_on (Some held) names before after name databases origins (BadFile file kind place) found refuses order =
    subst (λ n. IsFirstBadFile names held n kind place) (sym refuses.0) (record {
      behind = record { before = before; after = after; order = order; databases = databases; good = found.backups };
      is_named = refuses.1.1.is_named;
      bytes = refuses.1.0;
      there = refuses.1.1.there;
      breaks = refuses.1.2;
    })
refused_on (Some held) names before after name databases origins (SameDatabase first second) found refuses order =
    let was = refuses.1.2 in
    let known = origin-found (IsOriginIn (among before held)) was.stored.head.name origins was.origin found.origins was.found in
    subst (IsFirstSame names held (string_bytes {Z = Global} first)) (sym refuses.0) (record {
      behind = record { before = before; after = after; order = order; databases = databases; good = found.backups };
      earlier = known.0.0;
      first_holds = subst (λ n. HoldsDatabase (among before held) n known.0.0) was.file known.0.1;
      later = was.stored;
      second_holds = record { is_named = refuses.1.1.is_named; bytes = refuses.1.0; there = refuses.1.1.there; text = was.text };
      same = known.0.2 ∙ bytes_eq-is was.origin.name was.stored.head.name known.1;
    })
refused_on told names before after name databases origins fault found refuses order = tt

few_are_held : (held : FileMap) (names : List (List ℕ)) → names ≡ finmap.keys held → count_by is_backup names ≤ 200 → backup_count held ≤ 200
few_are_held held names listed few = subst (λ ns. count_by is_backup ns ≤ 200) listed few

-- what was read of all files is what the folder holds
pub holds_all : (told : Option FileMap) (names : List (List ℕ)) (databases : List DatabaseValue) → IfSome told (λ held. names ≡ finmap.keys held)
    → count_by is_backup names ≤ 200 → IfSome told (λ held. AreBackups (among names held) databases) → IfSome told (λ held. HoldsBackups held databases)
holds_all None names databases listed few are = tt
holds_all (Some held) names databases listed few are =
    record { few = few_are_held held names listed few; backups = backups_all held names databases listed are }

-- why one of all files was refused is why the folder was
pub shows_all : (told : Option FileMap) (names : List (List ℕ)) (fault : BackupFault) → IfSome told (λ held. names ≡ finmap.keys held)
    → count_by is_backup names ≤ 200 → IfSome told (RefusesOne names fault) → IfSome told (ShowsBackupFault fault)
shows_all (Some held) names TooMany listed few refuses = absurd refuses
shows_all (Some held) names (BadFile file kind place) listed few refuses =
    (few_are_held held names listed few, subst (λ ns. IsFirstBadFile ns held (string_bytes {Z = Global} file) kind place) listed refuses)
shows_all (Some held) names (SameDatabase first second) listed few refuses = (
  few_are_held held names listed few,
  subst (λ ns. IsFirstSame ns held (string_bytes {Z = Global} first) (string_bytes {Z = Global} second)) listed refuses,
)
shows_all told names fault listed few refuses = tt
