-- Which databases have a text, and whether a record that is out of its form refuses it.
use Rattle.std.specs.Prelude.{ℕ, ◌&&◌, Bool, not, List, codes, Option, None, Some, Result, Ok, Err, if◌then◌else◌}
use Rattle.std.specs.Result.{result_err}
use Rattle.std.specs.Str.{bytes_eq}
use Rattle.pdb_values.specs.Heads.{holds_resources}
use Rattle.pdb_values.specs.declared.head.DbHead.{DbHead}
use Rattle.pdb_values.specs.declared.record.Record.{Record}
use Rattle.palm_records.specs.Addresses.{address_in}
use Rattle.palm_records.specs.Tasks.{task_in}
use Rattle.palm_records.specs.declared.choice.BrokenRecords.{BrokenRecords}
use Rattle.palm_records.specs.declared.choice.BrokenRecords.TheVariants.{Kept, Refused}
use Rattle.palm_records.specs.declared.choice.Privacy.{Privacy}
use Rattle.palm_records.specs.declared.fault.ExportFault.{ExportFault}
use Rattle.palm_records.specs.declared.fault.ExportFault.TheVariants.{BadRecord}
use Rattle.palm_records.specs.Choices.{BadItem, is_exported}

-- records of type `DATA` and of this creator
abbrev pub holds : List ℕ → DbHead → Bool
holds creator head =
    not (holds_resources head.attributes)
    && (bytes_eq head.kind.0 (codes "DATA") && bytes_eq head.creator.0 creator)

-- the place where bytes are no address
abbrev pub address_place : List ℕ → Option ℕ
address_place bytes = result_err (address_in bytes)

-- the place where they are no task
abbrev pub task_place : List ℕ → Option ℕ
task_place bytes = result_err (task_in bytes)

-- the place where a record is out of a form
abbrev pub fault_by : (List ℕ → Option ℕ) → Record → Option ℕ
fault_by fault item = fault item.content.bytes

-- that place, where the record is exported
abbrev pub fault_seen : (Record → Option ℕ) → Privacy → Record → Option ℕ
fault_seen fault wanted item = if is_exported wanted item then fault item else None

-- what an answer says of a record with this number
abbrev pub refusal_at : ℕ → Option ℕ → Result Unit ExportFault
refusal_at index None = Ok tt
refusal_at index (Some place) = Err (BadRecord index place)

-- what an answer says of the first record that is out of its form
abbrev pub refusal : BrokenRecords → Option BadItem → Result Unit ExportFault
refusal Refused (Some bad) = Err (BadRecord bad.index bad.place)
refusal Refused None = Ok tt
refusal Kept bad = Ok tt
