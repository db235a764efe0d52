-- What the files of a folder of backups hold, one file after the other.
use Rattle.std.proofs.Common.{◌≡◌, ℕ, Bool, true, false, cond, List, [], ◌∷◌, ◌++◌, refl, ap, sym, ◌∙◌, subst}
use Rattle.std.specs.Prelude.{Option, Some, None, bytes_eq, find, string_bytes}
use Rattle.std.specs.FinMap as finmap
use Rattle.std.specs.List.{AllByRecursion, list_any}
use Rattle.std.specs.declared.alloc.Global.{Global}
use Rattle.std.proofs.lemmas.List.Folds.{find-append}
use Rattle.hs_folders.specs.FileMaps.{FileMap}
use Rattle.pdb_values.specs.Databases.{DatabaseValue}
use Rattle.pdb_values.specs.NamedDatabases.{NamesRise, database_of, with_new}
use Rattle.pdb_values.proofs.NamedLaws.{NamesRise-with_new, bytes_eq-is, bytes_eq-own, database_of-with_new}
use Rattle.pdb_files.specs.Files.{IsFileText}
use Rattle.pdb_files.proofs.FileLaws.{one_database, or_none}
use Rattle.handheld_files.specs.Handhelds.{Files}
use Rattle.handheld_files.specs.Openings.{among}
use Rattle.handheld_files.proofs.StandLaws.{among-keys, differs, true_no_false, among-next, among-more, among-other, among-this, none_stays, held_still}
use Rattle.backup_files.specs.BackupFolders.{AreBackups, HasBackup, HoldsDatabase, IsOneOf}
use Rattle.backup_files.specs.BackupNames.{is_backup}
use Rattle.backup_files.specs.FoundFiles.{Adds, is_origin}
use Rattle.backup_files.specs.declared.found.Origin.{Origin}
use Rattle.pdb_files.proofs.WriteLaws.{all_behind}

-- ---- one more name

-- ---- what was found

pub backups_same : (files files' : Files) (databases : List DatabaseValue) → ((name : List ℕ) → files name ≡ files' name) → AreBackups files databases
    → AreBackups files' databases
backups_same files files' databases same are = subst (λ f. AreBackups f databases) (λ i name. same name i) are

-- no file holds no database
pub backups_none : (held : FileMap) → AreBackups (among [] held) []
backups_none held = record {
  order = tt;
  each_file = λ name bytes is there. absurd (let no : ◌≡◌ {A = Option (List ℕ)} None (Some bytes) = there in cc);
  each_database = λ name database found. absurd (let no : ◌≡◌ {A = Option DatabaseValue} None (Some database) = found in cc);
  apart = λ name other database same one two alike. absurd (let no : ◌≡◌ {A = Option (List ℕ)} None (Some one.bytes) = one.there in cc);
}

-- a file that is not there is passed over
pub backups_missing : (held : FileMap) (before : List (List ℕ)) (name : List ℕ) (databases : List DatabaseValue) → finmap.get held name ≡ None
    → AreBackups (among before held) databases → AreBackups (among (before ++ name ∷ []) held) databases
backups_missing held before name databases none are =
    backups_same (among before held) (among (before ++ name ∷ []) held) databases
    (λ q. none_stays (list_any (bytes_eq q) before) (bytes_eq q name) (finmap.get held q) (λ e. ap (finmap.get held) (bytes_eq-is q name e) ∙ none)
    ∙ sym (among-next before name held q)) are

-- a file keeps its database where names are added
pub holds_more : (before : List (List ℕ)) (name : List ℕ) (held : FileMap) (file : List ℕ) (database : DatabaseValue)
    → HoldsDatabase (among before held) file database → HoldsDatabase (among (before ++ name ∷ []) held) file database
holds_more before name held file database holds = record {
  is_named = holds.is_named;
  bytes = holds.bytes;
  there = among-more before name held file holds.bytes holds.there;
  text = holds.text;
}

-- and it had it before, if it is another one
holds_less : (before : List (List ℕ)) (name : List ℕ) (held : FileMap) (file : List ℕ) (database : DatabaseValue) → bytes_eq file name ≡ false
    → HoldsDatabase (among (before ++ name ∷ []) held) file database → HoldsDatabase (among before held) file database
holds_less before name held file database other holds = record {
  is_named = holds.is_named;
  bytes = holds.bytes;
  there = sym (among-other before name held file other) ∙ holds.there;
  text = holds.text;
}

-- a file that is none of a database is passed over
pub backups_unread : (held : FileMap) (before : List (List ℕ)) (name : List ℕ) (databases : List DatabaseValue) → is_backup name ≡ false
    → AreBackups (among before held) databases → AreBackups (among (before ++ name ∷ []) held) databases
backups_unread held before name databases unread are =
    let other : (q : List ℕ) → is_backup q ≡ true → bytes_eq q name ≡ false = λ q is. differs q name is_backup true false is unread true_no_false in
    record {
      order = are.order;
      each_file = λ q bytes is there. are.each_file q bytes is (sym (among-other before name held q (other q is)) ∙ there);
      each_database = λ q database found. (let has = are.each_database q database found in
          record { name = has.name; holds = holds_more before name held has.name database has.holds });
      apart = λ q q' database same one two alike. are.apart q q' database same
          (holds_less before name held q database (other q one.is_named) one) (holds_less before name held q' same (other q' two.is_named) two) alike;
    }

-- ---- one more database

module _ (held : FileMap) (before : List (List ℕ)) (name bytes : List ℕ) (old : List DatabaseValue) (stored : DatabaseValue)
    (there : finmap.get held name ≡ Some bytes) (is : is_backup name ≡ true) (text : IsFileText stored bytes)
    (none : database_of stored.head.name old ≡ None) (are : AreBackups (among before held) old) where
  abbrev now : Files
  now = among (before ++ name ∷ []) held

  here : now name ≡ Some bytes
  here = among-this before name held ∙ there

  own : database_of stored.head.name (with_new stored old) ≡ Some stored
  own = database_of-with_new stored.head.name stored old none ∙ rw (bytes_eq-own stored.head.name) refl

  -- what the new file holds is the new database
  is_stored : (file : List ℕ) (database : DatabaseValue) → bytes_eq file name ≡ true → HoldsDatabase now file database → database ≡ stored
  is_stored file database e holds =
      let both : ◌≡◌ {A = Option (List ℕ)} (Some holds.bytes) (Some bytes) = sym holds.there ∙ ap now (bytes_eq-is file name e) ∙ here in
      let same : holds.bytes ≡ bytes = cc in
      one_database bytes database stored (subst (IsFileText database) same holds.text) text

  -- no file before it holds one of its name
  no_earlier : (file : List ℕ) (database : DatabaseValue) → HoldsDatabase (among before held) file database → database.head.name ≡ stored.head.name → ⊥
  no_earlier file database holds alike =
      let one = are.each_file file holds.bytes holds.is_named holds.there in
      let same = one_database holds.bytes one.database database one.text holds.text in
      let no : ◌≡◌ {A = Option DatabaseValue} None (Some one.database) = sym none ∙ ap (λ n. database_of n old) (sym alike)
      ∙ ap (λ (d : DatabaseValue). database_of d.head.name old) (sym same) ∙ one.found in cc

  stay_apart : (file other : List ℕ) (database same : DatabaseValue) (a b : Bool) → bytes_eq file name ≡ a → bytes_eq other name ≡ b
      → HoldsDatabase now file database → HoldsDatabase now other same → database.head.name ≡ same.head.name → file ≡ other
  stay_apart file other database same true true ea eb one two alike = bytes_eq-is file name ea ∙ sym (bytes_eq-is other name eb)
  stay_apart file other database same true false ea eb one two alike =
      absurd (no_earlier other same (holds_less before name held other same eb two)
      (sym alike ∙ ap (λ (d : DatabaseValue). d.head.name) (is_stored file database ea one)))
  stay_apart file other database same false true ea eb one two alike =
      absurd (no_earlier file database (holds_less before name held file database ea one)
      (alike ∙ ap (λ (d : DatabaseValue). d.head.name) (is_stored other same eb two)))
  stay_apart file other database same false false ea eb one two alike =
      are.apart file other database same (holds_less before name held file database ea one) (holds_less before name held other same eb two) alike

  new_file : (q found : List ℕ) (b : Bool) → bytes_eq q name ≡ b → is_backup q ≡ true → now q ≡ Some found → IsOneOf (with_new stored old) found
  new_file q found true e q_is there' =
      let both : ◌≡◌ {A = Option (List ℕ)} (Some found) (Some bytes) = sym there' ∙ ap now (bytes_eq-is q name e) ∙ here in
      let same : found ≡ bytes = cc in
      subst (IsOneOf (with_new stored old)) (sym same) (record { database = stored; text = text; found = own })
  new_file q found false e q_is there' =
      let was = are.each_file q found q_is (sym (among-other before name held q e) ∙ there') in
      record { database = was.database; text = was.text; found = held_still was.database.head.name stored was.database old none was.found }

  new_database : (q : List ℕ) (database : DatabaseValue) (b : Bool) → bytes_eq stored.head.name q ≡ b
      → cond b (Some stored) (database_of q old) ≡ Some database → HasBackup now database
  new_database q database true e found =
      let same : stored ≡ database = cc in
      subst (HasBackup now) same (record { name = name; holds = record { is_named = is; bytes = bytes; there = here; text = text } })
  new_database q database false e found =
      let has = are.each_database q database found in
      record { name = has.name; holds = holds_more before name held has.name database has.holds }

  pub backups_added : AreBackups now (with_new stored old)
  backups_added = record {
    order = NamesRise-with_new stored old none are.order;
    each_file = λ q found q_is there'. new_file q found (bytes_eq q name) refl q_is there';
    each_database = λ q database found. new_database q database (bytes_eq stored.head.name q) refl
        (sym (database_of-with_new q stored old none) ∙ found);
    apart = λ file other database same one two alike. stay_apart file other database same (bytes_eq file name) (bytes_eq other name) refl refl one two alike;
  }

-- ---- where they were found

-- it has a file with a database of its name
abbrev pub IsOriginIn : Files → Origin → Type 0
IsOriginIn files origin = (database : DatabaseValue) × HoldsDatabase files (string_bytes {Z = Global} origin.file) database
    × (database.head.name ≡ origin.name)

each_more : (before : List (List ℕ)) (name : List ℕ) (held : FileMap) (origins : List Origin) → AllByRecursion (IsOriginIn (among before held)) origins
    → AllByRecursion (IsOriginIn (among (before ++ name ∷ []) held)) origins
each_more before name held [] each = tt
each_more before name held (origin ∷ origins) each =
    ((each.0.0, holds_more before name held (string_bytes origin.file) each.0.0 each.0.1, each.0.2), each_more before name held origins each.1)

pub origins_past : (held : FileMap) (before : List (List ℕ)) (name : List ℕ) (origins : List Origin)
    → AllByRecursion (IsOriginIn (among before held)) origins → AllByRecursion (IsOriginIn (among (before ++ name ∷ []) held)) origins
origins_past held before name origins each = each_more before name held origins each

pub origins_added : (held : FileMap) (before : List (List ℕ)) (name bytes : List ℕ) (old new : List DatabaseValue) (origins origins' : List Origin)
    → finmap.get held name ≡ Some bytes → is_backup name ≡ true → Adds old origins name bytes new origins'
    → AllByRecursion (IsOriginIn (among before held)) origins → AllByRecursion (IsOriginIn (among (before ++ name ∷ []) held)) origins'
origins_added held before name bytes old new origins origins' there is adds each =
    let stored = adds.stored in
    let here : among (before ++ name ∷ []) held name ≡ Some bytes = among-this before name held ∙ there in
    let holds : HoldsDatabase (among (before ++ name ∷ []) held) name stored = record { is_named = is; bytes = bytes; there = here; text = adds.text } in
    let origin_holds = subst (λ n. HoldsDatabase (among (before ++ name ∷ []) held) n stored) (sym adds.file) holds in
    subst (AllByRecursion (IsOriginIn (among (before ++ name ∷ []) held))) (sym adds.noted)
    (all_behind (IsOriginIn (among (before ++ name ∷ []) held)) origins adds.origin (each_more before name held origins each)
    (stored, origin_holds, sym adds.database))

-- ---- whatever the folder tells

-- databases in byte order of their names, each of which was found somewhere
pub record AreNoted (databases : List DatabaseValue) (origins : List Origin) : Type 0 where
  pub order : NamesRise databases
  pub all : (name : List ℕ) → find (is_origin name) origins ≡ None → database_of name databases ≡ None

pub noted_none : AreNoted [] []
noted_none = record { order = tt; all = λ name none. refl }

last_none : (b : Bool) (origin : Origin) → cond b (Some origin) None ≡ None → b ≡ false
last_none true origin is = absurd cc
last_none false origin is = refl

pub noted_added : (old new : List DatabaseValue) (origins origins' : List Origin) (name bytes : List ℕ) → Adds old origins name bytes new origins'
    → AreNoted old origins → AreNoted new origins'
noted_added old new origins origins' name bytes adds are =
    let stored = adds.stored in
    let none = are.all stored.head.name adds.is_new in
    subst (AreNoted new) (sym adds.noted) (subst (λ ds. AreNoted ds (origins ++ adds.origin ∷ [])) (sym adds.made) (record {
      order = NamesRise-with_new stored old none are.order;
      all = λ q missing. (let parts = or_none (find (is_origin q) origins) (find (is_origin q) (adds.origin ∷ []))
          (sym (find-append (is_origin q) origins (adds.origin ∷ [])) ∙ missing) in
          let other = last_none (is_origin q adds.origin) adds.origin parts.1 in
          database_of-with_new q stored old none ∙ rw (sym (ap (λ n. bytes_eq n q) adds.database) ∙ other) (are.all q parts.0));
    }))

-- one that is found is one of them
pub origin-found : (P : Origin → Type 0) (name : List ℕ) (origins : List Origin) (found : Origin) → AllByRecursion P origins
    → find (is_origin name) origins ≡ Some found → P found × (bytes_eq found.name name ≡ true)
origin-found P name [] found each is = absurd cc
origin-found P name (x ∷ xs) found each is = by (is_origin name x) refl is (origin-found P name xs found each.1)
  where
    by : (b : Bool) → is_origin name x ≡ b → cond b (Some x) (find (is_origin name) xs) ≡ Some found
        → (find (is_origin name) xs ≡ Some found → P found × (bytes_eq found.name name ≡ true)) → P found × (bytes_eq found.name name ≡ true)
    by true e found_is later = let same : x ≡ found = cc in (subst P same each.0, subst (λ (o : Origin). bytes_eq o.name name ≡ true) same e)
    by false e found_is later = later found_is

-- ---- all files of the folder

pub backups_all : (held : FileMap) (names : List (List ℕ)) (databases : List DatabaseValue) → names ≡ finmap.keys held
    → AreBackups (among names held) databases → AreBackups (finmap.get held) databases
backups_all held names databases listed are = backups_same (among names held) (finmap.get held) databases
    (λ q. ap (λ ns. among ns held q) listed ∙ among-keys held q) are
