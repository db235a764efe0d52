-- What a request makes of a device, under the byte of its function.
use Rattle.std.specs.Prelude.{◌≡◌, ℕ, List}
use Rattle.std.specs.Option.{option_map}
use Rattle.dlp_requests.specs.RequestValues.{RequestValue}
use Rattle.palm_device.specs.Devices.{Device}
use Rattle.dlp_commands.specs.Asked.{MayGiveFor}
use Rattle.dlp_commands.specs.DeviceSteps.{FormMayGive, outcome, tried}
use Rattle.dlp_commands.specs.Reached.{Trial, writes}
use Rattle.dlp_commands.specs.UserFunctions.{write_user_info}
use Rattle.dlp_commands.specs.Writings.{WritingValue}
use Rattle.dlp_commands.specs.declared.user.UserMarks.{UserMarks}

-- what WriteUserInfo does
abbrev pub marks_tried : Device → UserMarks → Trial
marks_tried device marks =
    write_user_info device
    marks.user marks.viewer marks.pc marks.date marks.bits marks.name_len
    (option_map (λ name. name.now) marks.name)

-- a request was done, or refused: its reply, and the device after, where a new record got some free
-- id
pub record Acts (old : Device) (number : ℕ) (asked : RequestValue) (reply : List ℕ)
    (new : Device) : Type 0 where
  pub free : ℕ
  pub may : FormMayGive old free asked.form asked.fields
  pub is : outcome old number (tried free old asked) ≡ (reply, new)

-- the same of a writing into the database of a handle
pub record ActsAt (old : Device) (number handle : ℕ) (asked : WritingValue) (reply : List ℕ)
    (new : Device) : Type 0 where
  pub free : ℕ
  pub may : MayGiveFor old free handle asked
  pub is : outcome old number (writes free old handle asked) ≡ (reply, new)

-- the same of a request that gives no id: it is done alike whatever id is free
abbrev pub Answers : Device → ℕ → RequestValue → List ℕ → Device → Type 0
Answers old number asked reply new =
    (free : ℕ) → outcome old number (tried free old asked) ≡ (reply, new)
