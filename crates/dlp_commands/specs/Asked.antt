-- What a request asks of the database that its handle leads to, in the terms of a program.
use Rattle.std.specs.Prelude.{◌≡◌, ℕ, List, [], ◌∷◌, IfSome}
use Rattle.dlp_requests.specs.Forms as form
use Rattle.dlp_requests.specs.Forms.{Form}
use Rattle.dlp_requests.specs.RequestValues.{RequestValue}
use Rattle.palm_device.specs.Devices.{Device}
use Rattle.palm_device.specs.Handles.{base_at}
use Rattle.palm_device.specs.Records.{IsFree}
use Rattle.dlp_commands.specs.DeviceSteps.{FormMayGive, RequestFits, tried}
use Rattle.dlp_commands.specs.Reached.{reads, writes}
use Rattle.dlp_commands.specs.Writings.{IsShortWriting, WriteRecord, WritingValue}
use Rattle.dlp_commands.specs.declared.reading.Reading.{Reading}

-- the functions that read resources of the database of a handle
abbrev pub resource_forms : List Form
resource_forms = form.ReadResourceByType ∷ form.ReadResourceByIndex ∷ []

-- those that read records or resources of it
abbrev pub entry_forms : List Form
entry_forms =
    form.ReadRecordIdList ∷ form.ReadRecordById ∷ form.ReadRecordByIndex ∷ resource_forms

-- those that read anything of it
abbrev pub reading_forms : List Form
reading_forms =
    form.ReadAppBlock ∷ form.ReadSortBlock ∷ form.ReadOpenDbInfo ∷ entry_forms

-- a request does what this reading of the database of a handle does
abbrev pub AsksToRead : RequestValue → ℕ → Reading → Type 0
AsksToRead asked handle reading =
    (free : ℕ) (device : Device) → tried free device asked ≡ reads device handle reading

-- a writing may give a new record this id
abbrev pub MayGiveFor : Device → ℕ → ℕ → WritingValue → Type 0
MayGiveFor device free handle (WriteRecord id attributes category bytes) =
    IfSome (base_at device handle) (λ base. id ≡ 0 → IsFree free base.database.records)
MayGiveFor device free handle other = Unit {0}

-- a request does what this writing into the database of a handle does, with the same ids for a new
-- record; its data is as short as its layout says
pub record AsksToWrite (asked : RequestValue) (handle : ℕ) (writing : WritingValue) : Type 0 where
  pub same : (free : ℕ) (device : Device)
      → tried free device asked ≡ writes free device handle writing
  pub may : (free : ℕ) (device : Device) → MayGiveFor device free handle writing
      → FormMayGive device free asked.form asked.fields
  pub short : RequestFits asked → IsShortWriting writing
