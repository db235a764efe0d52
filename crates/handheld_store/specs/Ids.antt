-- The id of a record that is written.
use Rattle.std.specs.Prelude.{List}
use Rattle.std.specs.Prelude.{◌≡◌, ℕ, None}
use Rattle.pdb_values.specs.Databases.{DatabaseValue}
use Rattle.pdb_values.specs.declared.record.Record.{Record}
use Rattle.palm_device.specs.Records.{IsFree, given_id, place_of_id}
use Rattle.palm_device.specs.declared.edit.Edit.{Edit}
use Rattle.palm_device.specs.declared.edit.Edit.TheVariants as edit

-- a record has the id, or it is free
abbrev pub IsTakenOrFree : ℕ → List Record → Type 0
IsTakenOrFree id records = place_of_id id records ≡ None → IsFree id records

-- an edit that is given this id writes a record that is there, or one under a free id
abbrev pub GivesGoodId : ℕ → Edit → DatabaseValue → Type 0
GivesGoodId free (edit.Record id category secret bytes) database =
    IsTakenOrFree (given_id free id) database.records
GivesGoodId free other database = Unit {0}
