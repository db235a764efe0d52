-- A database that is lent for one command, and the store that lent it.
use Rattle.std.specs.Prelude.{◌≡◌}
use Rattle.pdb_values.specs.Databases.{DatabaseValue}
use Rattle.handheld_store.specs.Lents.{LentValue, with_database}
use Rattle.handheld_store.specs.declared.loan.Loan.{Loan}

-- the database that is lent
abbrev pub database_in : {F : Type 0} → Loan F LentValue → DatabaseValue
database_in base = base.lent.database

-- the same loan of the same store, whose database became this one
pub record Becomes {F : Type 0} (old new : Loan F LentValue)
    (database : DatabaseValue) : Type 0 where
  pub reference : new.store.ghost_name ≡ old.store.ghost_name
  pub store : new.store.now ≡ old.store.now
  pub lent : new.lent ≡ with_database database old.lent
