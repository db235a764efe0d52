-- What a command writes into the database of a name.
use Rattle.std.specs.Prelude.{◌≡◌, ◌≤◌, ℕ, Bool, true, List, length, IfSome, Option, Some, Result, Ok, Err, ◌&&◌, not}
use Rattle.pdb_values.specs.Bounds.{most_entries}
use Rattle.pdb_values.specs.Databases.{DatabaseValue}
use Rattle.pdb_values.specs.NamedDatabases.{database_of, replaced}
use Rattle.dlp_replies.specs.ReplyValues.{ReplyValue}
use Rattle.palm_device.specs.Heads.{has_bit, is_read_only}
use Rattle.palm_device.specs.Records.{IsFree}
use Rattle.dlp_commands.specs.Errors.{none_open, read_only, ◌>>=◌, check, need}
use Rattle.dlp_commands.specs.Refusals.{code_of}
use Rattle.dlp_commands.specs.Writings.{WritingValue, asks_free, write_reply, written_in}
use Rattle.dlp_commands.specs.declared.refusal.Refusal.{Refusal}

-- it may be written where it is open in this mode
abbrev pub may_write : ℕ → DatabaseValue → Bool
may_write mode database = has_bit 0x40 mode && not (is_read_only database.head.attributes)

-- what is written into it
abbrev pub written_by : ℕ → ℕ → WritingValue → Option DatabaseValue
    → Result (DatabaseValue × ReplyValue) ℕ
written_by free mode asked found = need none_open found >>= λ database.
    (check read_only (may_write mode database) >>= λ allowed. written_in free asked database)

-- it was written: another one takes its place, and a new record of id 0 got a free id
pub record Wrote (mode : ℕ) (asked : WritingValue) (name : List ℕ) (old : List DatabaseValue)
    (given : ℕ) (new : List DatabaseValue) : Type 0 where
  pub database : DatabaseValue
  pub there : database_of name old ≡ Some database
  pub allowed : may_write mode database ≡ true
  pub changed : DatabaseValue
  pub written : written_in given asked database ≡ Ok (changed, write_reply given asked)
  pub free : asks_free asked ≡ true → IsFree given database.records
  pub is : new ≡ replaced changed old

-- it was refused, whatever id is free; there are at most 65,535 records
pub record Refuses (mode : ℕ) (asked : WritingValue) (found : Option DatabaseValue)
    (code : ℕ) : Type 0 where
  pub refused : (free : ℕ) → written_by free mode asked found ≡ Err code
  pub few : IfSome found (λ database. length database.records ≤ most_entries)

-- it was written, or the refusal is the table's and nothing changed
abbrev pub Writes : ℕ → WritingValue → List ℕ → List DatabaseValue → Result ℕ Refusal
    → List DatabaseValue → Type 0
Writes mode asked name old (Ok given) new = Wrote mode asked name old given new
Writes mode asked name old (Err refusal) new =
    Refuses mode asked (database_of name old) (code_of refusal) × (new ≡ old)
