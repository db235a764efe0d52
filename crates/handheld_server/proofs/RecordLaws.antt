-- What a record comes to that is written in its place.
use Rattle.std.proofs.Common.{◌≡◌, ◌∙◌, ℕ, List, Option, Some, None, ap, refl, sym, subst}
use Rattle.std.specs.Prelude.{IfSome, IsSome}
use Rattle.hs_folders.specs.FileMaps.{FileMap}
use Rattle.pdb_values.specs.Contents.{ContentValue}
use Rattle.pdb_values.specs.Databases.{DatabaseValue}
use Rattle.pdb_values.specs.NamedDatabases.{database_of, replaced}
use Rattle.pdb_values.proofs.NamedLaws.{database_of-name}
use Rattle.handheld_store.specs.Files.{FollowsName}
use Rattle.handheld_store.specs.Placed.{with_record}
use Rattle.handheld_store.specs.Stores.{StoreValue}
use Rattle.handheld_server.specs.Keeping.{TouchesOne}
use Rattle.handheld_server.proofs.KeepLaws.{touches_replaced}

-- the database of the name became the one with the record
abbrev pub IsWritten : {F : Type 0} → List ℕ → ℕ → ContentValue → StoreValue F → StoreValue F → Type 0
IsWritten name given content old new = IfSome (database_of name old.databases)
    (λ database. new ≡ record old { folder = new.folder; databases = replaced (with_record given content database) old.databases })

pub record_touches : {F : Type 0} (contents : F → Option FileMap) (name : List ℕ) (given : ℕ) (content : ContentValue) (old new : StoreValue F)
    → IsSome (database_of name old.databases) → IsWritten name given content old new → FollowsName contents name old new → TouchesOne contents old new
record_touches {F} contents name given content old new some written follows = by (database_of name old.databases) refl some written
  where
    by : (o : Option DatabaseValue) → database_of name old.databases ≡ o → IsSome o → IfSome o (λ database.
        new ≡ record old { folder = new.folder; databases = replaced (with_record given content database) old.databases }) → TouchesOne contents old new
    by None is some made = absurd cc
    by (Some was) is some made =
        let named = database_of-name name old.databases was is in
        touches_replaced contents old new was (with_record given content was) (ap (λ n. database_of n old.databases) named
        ∙ is) (ap (λ (s : StoreValue F). s.databases) made) (ap (λ (s : StoreValue F). s.user) made)
        (subst (λ n. FollowsName contents n old new) (sym named) follows)
