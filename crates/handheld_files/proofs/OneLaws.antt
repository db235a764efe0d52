-- Files stand for one handheld only.
use Rattle.std.proofs.Common.{◌≡◌, ◌∙◌, ap, sym, arith, ℕ, List}
use Rattle.std.specs.Prelude.{Option, Some, None}
use Rattle.pdb_values.specs.Databases.{DatabaseValue}
use Rattle.pdb_values.specs.NamedDatabases.{database_of}
use Rattle.pdb_values.specs.declared.head.DbHead.{DbHead}
use Rattle.pdb_values.specs.declared.user.UserInfo.{UserInfo}
use Rattle.pdb_values.proofs.NamedLaws.{database_of-name, database_of-same}
use Rattle.pdb_files.proofs.FileLaws.{one_database}
use Rattle.folder_files.specs.FileNames.{database_file, device_info_file}
use Rattle.folder_files.specs.InfoFiles.{IsDeviceFile}
use Rattle.folder_files.proofs.InfoLaws.{device_only}
use Rattle.handheld_files.specs.Handhelds.{Files, IsUserOf, StandFor}
use Rattle.handheld_files.specs.Settled.{as_opened}
use Rattle.handheld_files.proofs.ChangeLaws.{database_file_is}
use Rattle.handheld_files.proofs.StandLaws.{as_opened-head}

same_info : (bytes : List ℕ) (one other : UserInfo) → IsDeviceFile one bytes → IsDeviceFile other bytes → one ≡ other
same_info bytes one other first second = grind (arith, device_only bytes one first, device_only bytes other second)

same_user : (file : Option (List ℕ)) (one other : UserInfo) → IsUserOf file one → IsUserOf file other → one ≡ other
same_user None one other first second = first ∙ sym second
same_user (Some bytes) one other first second = same_info bytes one other first second

-- a database of the one list is one of the other
found_there : {files : Files} {one other : List DatabaseValue} {user user' : UserInfo} → StandFor files one user → StandFor files other user'
    → (name : List ℕ) (database : DatabaseValue) → database_of name one ≡ Some database → database_of name other ≡ Some database
found_there {one} {other} first second name database found =
    let has = first.each_database name database found in
    let held = second.each_file (database_file has.stored.head) has.bytes (database_file_is has.stored.head) has.there in
    let same = one_database has.bytes held.stored has.stored held.file.text has.text in
    let opened : as_opened held.stored ≡ database = ap as_opened same ∙ sym has.is in
    let named : held.stored.head.name ≡ name =
    ap (λ (d : DatabaseValue). d.head.name) same ∙ sym (ap (λ (h : DbHead). h.name) (as_opened-head has.stored))
    ∙ sym (ap (λ (d : DatabaseValue). d.head.name) has.is)
    ∙ database_of-name name one database found in
    sym (ap (λ n. database_of n other) named) ∙ held.held ∙ ap (λ (d : DatabaseValue). Some d) opened

-- what files stand for is one
pub record IsOne (one other : List DatabaseValue) (user user' : UserInfo) : Type 0 where
  pub databases : one ≡ other
  pub user_is : user ≡ user'

pub one-handheld : {files : Files} {one other : List DatabaseValue} {user user' : UserInfo} → StandFor files one user → StandFor files other user'
    → IsOne one other user user'
one-handheld {files} {one} {other} {user} {user'} first second =
    grind (
      arith,
      database_of-same one other first.order second.order,
      found_there first second,
      found_there second first,
      same_user (files device_info_file) user user' first.owner second.owner,
    )
