-- Databases that a store keeps, and what its folder stands for, once one is new, gone or another one.
use Rattle.std.proofs.Common.{◌≡◌, ℕ, ◌<◌, ◌≤◌, Bool, List, length, ap, sym, ◌∙◌, true, false, arith, get_or, slice_set}
use Rattle.std.specs.Prelude.{Option, Some, None}
use Rattle.std.specs.FinMap as finmap
use Rattle.std.specs.Option.{option_map}
use Rattle.std.proofs.lemmas.Bool.{both_ways}
use Rattle.hs_folders.specs.FileMaps.{FileMap}
use Rattle.pdb_values.specs.Databases.{DatabaseValue}
use Rattle.pdb_values.specs.NamedDatabases.{NamesRise, database_of, place_of, replaced, set_at, with_new, without_named}
use Rattle.pdb_values.specs.declared.user.UserInfo.{UserInfo}
use Rattle.pdb_values.proofs.NamedLaws.{AllByRecursion-database_of, AllByRecursion-replaced, AllByRecursion-with_new, AllByRecursion-without_named}
use Rattle.pdb_values.proofs.NamedLaws.{NamesRise-replaced, NamesRise-with_new, NamesRise-without_named, bytes_eq-is, bytes_eq-own, database_of-replaced}
use Rattle.pdb_values.proofs.NamedLaws.{database_of-same, database_of-with_new, database_of-without_named, length-replaced, length-with_new}
use Rattle.pdb_values.proofs.NamedLaws.{length-without_named}
use Rattle.pdb_values.proofs.PlaceLaws.{find-position}
use Rattle.pdb_files.specs.Files.{IsFileText, canonical}
use Rattle.folder_files.specs.FileNames.{database_file, device_info_file}
use Rattle.folder_files.specs.InfoFiles.{IsDeviceFile, device_text}
use Rattle.handheld_files.specs.Openings.{AreKept, Stands}
use Rattle.handheld_files.specs.Settled.{are_settled}
use Rattle.handheld_files.proofs.ChangeLaws as change
use Rattle.handheld_files.proofs.ChangeLaws.{stands_put}
use Rattle.handheld_store.specs.Files.{Follows}
use Rattle.handheld_files.proofs.FreshLaws.{get_some}

-- the database's records are settled
abbrev pub is_settled : DatabaseValue → Type 0
is_settled database = are_settled database.records ≡ true

-- ---- with a new one

pub AreKept-with_new : (new : DatabaseValue) (databases : List DatabaseValue) → AreKept databases
    → database_of new.head.name databases ≡ None → length databases ≤ 199 → are_settled new.records ≡ true → AreKept (with_new new databases)
AreKept-with_new new databases kept none room settled = grind (arith, NamesRise-with_new, length-with_new, AllByRecursion-with_new)

-- the folder stands for them once the new one's file is written
pub Stands-with_new : (told told' : Option FileMap) (databases : List DatabaseValue) (new : DatabaseValue) (user : UserInfo)
    → told' ≡ option_map (λ (held : FileMap). finmap.insert held (database_file new.head) (canonical new)) told
    → IsFileText new (canonical new) → are_settled new.records ≡ true
    → AreKept databases → database_of new.head.name databases ≡ None → Stands told databases user → Stands told' (with_new new databases) user
Stands-with_new told told' databases new user is text settled kept none stands =
    stands_put told told' databases (with_new new databases) new (canonical new) user is text settled (NamesRise-with_new new databases none kept.order)
    (λ q. database_of-with_new q new databases none)
    (λ was here. absurd (let no : ◌≡◌ {A = Option DatabaseValue} None (Some was) = sym none ∙ here in cc))
    stands

-- a new one that is taken out again
pub without_named-with_new : (new : DatabaseValue) (databases : List DatabaseValue)
    → AreKept databases → database_of new.head.name databases ≡ None → without_named new.head.name (with_new new databases) ≡ databases
without_named-with_new new databases kept none =
    grind (arith, NamesRise-with_new, database_of-same, NamesRise-without_named, database_of-without_named, database_of-with_new, bytes_eq-is)

-- ---- without one

pub AreKept-without_named : (name : List ℕ) (databases : List DatabaseValue) → AreKept databases → AreKept (without_named name databases)
AreKept-without_named name databases kept = grind (arith, NamesRise-without_named, length-without_named, AllByRecursion-without_named)

-- ---- with another one

pub AreKept-replaced : (new : DatabaseValue) (databases : List DatabaseValue)
    → AreKept databases → are_settled new.records ≡ true → AreKept (replaced new databases)
AreKept-replaced new databases kept settled = grind (arith, NamesRise-replaced, length-replaced, AllByRecursion-replaced)

-- the folder stands for them once its file is written
pub Stands-replaced : (told told' : Option FileMap) (databases : List DatabaseValue) (was new : DatabaseValue) (user : UserInfo)
    → told' ≡ option_map (λ (held : FileMap). finmap.insert held (database_file new.head) (canonical new)) told
    → IsFileText new (canonical new) → are_settled new.records ≡ true → AreKept databases
    → database_of new.head.name databases ≡ Some was → was.head ≡ new.head → Stands told databases user → Stands told' (replaced new databases) user
Stands-replaced told told' databases was new user is text settled kept here head stands =
    stands_put told told' databases (replaced new databases) new (canonical new) user is text settled (NamesRise-replaced new databases kept.order)
    (λ q. database_of-replaced q new was databases here)
    (λ other found. let both : ◌≡◌ {A = Option DatabaseValue} (Some other) (Some was) = sym found
    ∙ here in let same : other ≡ was = cc in ap (λ (d : DatabaseValue). d.head) same ∙ head)
    stands

-- it is found by its name
pub database_of-own : (new was : DatabaseValue) (databases : List DatabaseValue)
    → database_of new.head.name databases ≡ Some was → database_of new.head.name (replaced new databases) ≡ Some new
database_of-own new was databases here = grind (arith, database_of-replaced, bytes_eq-own)

-- ---- one of them

pub settled_database : (name : List ℕ) (databases : List DatabaseValue) (found : DatabaseValue)
    → AreKept databases → database_of name databases ≡ Some found → are_settled found.records ≡ true
settled_database name databases found kept here = grind (arith, AllByRecursion-database_of)

-- the one at the place of its name
pub database_of-place : (name : List ℕ) (databases : List DatabaseValue) (place : ℕ) (found : DatabaseValue)
    → place_of name databases ≡ Some place → place < length databases → found ≡ get_or databases place found → database_of name databases ≡ Some found
database_of-place name databases place found at within there = grind (arith, find-position, get_some)

replaced-place : (new : DatabaseValue) (databases : List DatabaseValue) (place : ℕ)
    → place_of new.head.name databases ≡ Some place → slice_set databases place new ≡ replaced new databases
replaced-place new databases place at = sym (ap (λ o. set_at o new databases) at)

-- what is known where a database takes the place of another one of its name
pub record IsOther (databases databases' : List DatabaseValue) (was new : DatabaseValue) : Type 0 where
  pub here : database_of new.head.name databases ≡ Some was
  pub differs : was ≡ new → ⊥
  pub is : databases' ≡ replaced new databases

pub other_at : (databases : List DatabaseValue) (place : ℕ) (was new : DatabaseValue) (same : Bool)
    → place_of new.head.name databases ≡ Some place → place < length databases → was ≡ get_or databases place was → (was ≡ new → same ≡ true) → same ≡ false
    → IsOther databases (slice_set databases place new) was new
other_at databases place was new same at within there told not = grind (arith, database_of-place, both_ways, replaced-place)

pub Follows-other : (told told' : Option FileMap) (databases databases' : List DatabaseValue) (was new : DatabaseValue)
    → IsOther databases databases' was new → told' ≡ option_map (λ (held : FileMap). finmap.insert held (database_file new.head) (canonical new)) told
    → Follows (database_of new.head.name databases) (database_of new.head.name databases') told told'
Follows-other told told' databases databases' was new other written = grind (arith, database_of-own)

pub not_other : (databases databases' : List DatabaseValue) (was new : DatabaseValue)
    → IsOther databases databases' was new → database_of new.head.name databases ≡ Some new → ⊥
not_other databases databases' was new other own = other.differs (let both : ◌≡◌ {A = Option DatabaseValue} (Some was) (Some new) = sym other.here ∙ own in cc)

-- ---- another user

pub stands_user : (told told' : Option FileMap) (databases : List DatabaseValue) (user user' : UserInfo)
    → told' ≡ option_map (λ (held : FileMap). finmap.insert held device_info_file (device_text user')) told → IsDeviceFile user' (device_text user')
    → Stands told databases user → Stands told' databases user'
stands_user told told' databases user user' is file stands = change.stands_user told told' databases user user' (device_text user') is file stands

-- ---- files that go with a database

pub Follows-with_new : (told told' : Option FileMap) (databases databases' : List DatabaseValue) (new : DatabaseValue)
    → database_of new.head.name databases ≡ None → databases' ≡ with_new new databases
    → told' ≡ option_map (λ (held : FileMap). finmap.insert held (database_file new.head) (canonical new)) told
    → Follows (database_of new.head.name databases) (database_of new.head.name databases') told told'
Follows-with_new told told' databases databases' new none is written = grind (arith, database_of-with_new, bytes_eq-own)

pub Follows-without_named : (told told' : Option FileMap) (databases databases' : List DatabaseValue) (name : List ℕ) (gone : DatabaseValue)
    → NamesRise databases → database_of name databases ≡ Some gone → databases' ≡ without_named name databases
    → told' ≡ option_map (λ (held : FileMap). finmap.remove held (database_file gone.head)) told
    → Follows (database_of name databases) (database_of name databases') told told'
Follows-without_named told told' databases databases' name gone rise here is removed = grind (arith, database_of-without_named, bytes_eq-own)
