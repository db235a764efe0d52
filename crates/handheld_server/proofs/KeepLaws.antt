-- Which files a command touched.
use Rattle.std.proofs.Common.{◌≡◌, ℕ, Bool, true, false, cond, List, [], Option, Some, None, Result, Ok, Err, refl, inl, arith}
use Rattle.std.specs.Prelude.{IfSome, IsErrOf}
use Rattle.hs_folders.proofs.MomentLaws.{no_moment}
use Rattle.hs_folders.specs.FileMaps.{FileMap}
use Rattle.hs_folders.specs.Moments.{Moments, OneChange}
use Rattle.pdb_values.specs.Databases.{DatabaseValue}
use Rattle.pdb_values.specs.NamedDatabases.{NamesRise, database_of, replaced, with_new, without_named}
use Rattle.pdb_values.proofs.NamedLaws.{database_of-name, database_of-replaced, database_of-with_new, database_of-without_named}
use Rattle.handheld_files.specs.Openings.{Stands}
use Rattle.handheld_store.specs.Files.{FollowsName}
use Rattle.handheld_store.specs.Stores.{StoreValue}
use Rattle.handheld_store.specs.declared.fault.StoreFault.{StoreFault}
use Rattle.handheld_store.specs.declared.fault.StoreFault.TheVariants.{KeeperFault}
use Rattle.handheld_server.specs.Keeping.{Keeps, TouchesOne}
use Rattle.handheld_server.specs.declared.fault.ServeFault.TheVariants.{NoMemory}

-- ---- nothing changed

module _ {F : Type 0} (contents : F → Option FileMap) (moments : F → Moments) (paths : F → Option (List (List ℕ))) (faults : F → ℕ) where
  same_change : {A E : Type 0} (folder : F) (answer : Result A E) (Faulted : Type 0) → (Faulted → ⊥)
      → OneChange contents moments paths faults folder folder answer Faulted
  same_change folder answer Faulted not = grind (arith, no_moment)

  -- there was no memory, and nothing changed
  pub keeps_same : {A : Type 0} (old new : StoreValue F) → new ≡ old → Keeps {A = A} contents moments paths faults old new (Err NoMemory)
  keeps_same {A = A} old new same =
      rw same (record {
        stands = λ stands. tt;
        sound = tt;
        stays = λ sound. refl;
        held = refl;
        change = same_change old.folder (let answer = Err NoMemory in answer) _ (λ is. absurd cc);
      })

  -- it was done, and nothing changed
  pub keeps_done : {A : Type 0} (old new : StoreValue F) (done : A) → new ≡ old → old.sound ≡ true → Keeps contents moments paths faults old new (Ok done)
  keeps_done {A = A} old new done same sound =
      rw same (record {
        stands = λ stands. stands;
        sound = sound;
        stays = tt;
        held = tt;
        change = same_change old.folder (let answer = Ok done in answer) _ (λ is. absurd cc);
      })

-- ---- one database changed

others_by : {b : Bool} (this : Option DatabaseValue) {rest : Option DatabaseValue} → b ≡ false → cond b this rest ≡ rest
others_by this differs = rw differs refl

module _ {F : Type 0} (contents : F → Option FileMap) (old : StoreValue F) where
  -- no database and not the user changed, and no file
  pub touches_none : (new : StoreValue F) → new ≡ old → TouchesOne contents old new
  touches_none new same = rw same (record { name = []; file = inl (refl, refl); others = λ other differs. refl; user = refl })

  pub touches_new : (new : StoreValue F) (made : DatabaseValue) → database_of made.head.name old.databases ≡ None
      → new.databases ≡ with_new made old.databases → new.user ≡ old.user → FollowsName contents made.head.name old new → TouchesOne contents old new
  touches_new new made none is user follows = record {
    name = made.head.name;
    file = follows;
    others = λ other differs. rw (is, database_of-with_new other made old.databases none) (others_by _ differs);
    user = user;
  }

  pub touches_gone : (new : StoreValue F) (name : List ℕ) → NamesRise old.databases
      → new.databases ≡ without_named name old.databases → new.user ≡ old.user → FollowsName contents name old new → TouchesOne contents old new
  touches_gone new name rise is user follows = record {
    name = name;
    file = follows;
    others = λ other differs. rw (is, database_of-without_named other name old.databases rise) (others_by _ differs);
    user = user;
  }

  pub touches_replaced : (new : StoreValue F) (was made : DatabaseValue) → database_of made.head.name old.databases ≡ Some was
      → new.databases ≡ replaced made old.databases → new.user ≡ old.user → FollowsName contents made.head.name old new → TouchesOne contents old new
  touches_replaced new was made here is user follows = record {
    name = made.head.name;
    file = follows;
    others = λ other differs. rw (is, database_of-replaced other made was old.databases here) (others_by _ differs);
    user = user;
  }

-- ---- a lent database that was kept

-- the store that lent a database, the database as it was and as it became
pub record Lent {F : Type 0} (old store : StoreValue F) (name : List ℕ) (was made database : DatabaseValue) : Type 0 where
  pub lender : store ≡ old
  pub became : database ≡ made
  pub there : database_of name old.databases ≡ Some was
  pub head : made.head ≡ was.head

found_in : {F : Type 0} (old store : StoreValue F) (name : List ℕ) (was made database : DatabaseValue)
    → Lent old store name was made database → database_of made.head.name old.databases ≡ Some was
found_in old store name was made database lent = grind (arith, database_of-name)

pub kept_touches : {F : Type 0} (contents : F → Option FileMap) (old store last : StoreValue F) (name : List ℕ) (was made database : DatabaseValue)
    → Lent old store name was made database
    → last ≡ record store { folder = last.folder; databases = replaced database store.databases }
    → FollowsName contents database.head.name store last → TouchesOne contents old last
kept_touches {F = F} contents old store last name was made database lent kept follows = grind (arith, touches_replaced, found_in)

module _ {F : Type 0} (contents : F → Option FileMap) (moments : F → Moments) (paths : F → Option (List (List ℕ))) (faults : F → ℕ) where
  change_ok : {A B E G : Type 0} (old new : F) (x : A) (y : B) (e : E) (f : G)
      → OneChange contents moments paths faults old new (let first : Result A E = Ok x in first) (IsErrOf (let first : Result A E = Ok x in first) e)
      → OneChange contents moments paths faults old new (let last : Result B G = Ok y in last) (IsErrOf (let last : Result B G = Ok y in last) f)
  change_ok old new x y e f change = grind arith

  pub kept_keeps : {A B : Type 0} (old store last : StoreValue F) (name : List ℕ) (was made database : DatabaseValue) (done : B) (given : A)
      → Lent old store name was made database → old.sound ≡ true
      → last ≡ record store { folder = last.folder; databases = replaced database store.databases }
      → (IfSome (database_of database.head.name store.databases) (λ (w : DatabaseValue). w.head ≡ database.head)
      → Stands (contents store.folder) store.databases store.user → Stands (contents last.folder) last.databases last.user)
      → OneChange contents moments paths faults store.folder last.folder
      (let answer : Result B StoreFault = Ok done in answer) (IsErrOf (let answer : Result B StoreFault = Ok done in answer) KeeperFault)
      → Keeps contents moments paths faults old last (Ok given)
  kept_keeps old store last name was made database done given lent sound kept stands change = grind (arith, change_ok, found_in)
