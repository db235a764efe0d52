-- An entry that a file's database doesn't have.
use Rattle.std.proofs.Common.{◌≡◌, ℕ, List, None}
use Rattle.pdb_values.specs.Databases.{DatabaseValue}
use Rattle.pdb_files.specs.Files.{IsFileText}
use Rattle.hotsync_c.specs.Parts.{RefusesEntry, entry_at}
use Rattle.hotsync_c.specs.declared.refusal.Refusal.{Refusal}
use Rattle.hotsync_c.specs.declared.refusal.Refusal.TheVariants.{Absent}

-- it is refused as absent
pub lacks_entry : (bytes : List ℕ) (index : ℕ) (database : DatabaseValue) (refusal : Refusal) → refusal ≡ Absent
    → IsFileText database bytes → entry_at database index ≡ None → RefusesEntry bytes index refusal
lacks_entry bytes index database refusal is file none =
    rw is (record { database = database; file = file; none = none })
