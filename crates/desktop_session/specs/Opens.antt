-- What stays open while a session has an open database.
use Rattle.std.specs.Prelude.{◌≡◌, ℕ, List, Some}
use Rattle.std.specs.Option.{option_map}
use Rattle.dlp_requests.specs.Forms as form
use Rattle.dlp_requests.specs.Forms.{Form}
use Rattle.dlp_commands.specs.Reached.{with_next}
use Rattle.palm_device.specs.Devices.{Device}
use Rattle.palm_device.specs.Handles.{just_opened, opened_at}

-- the handle stands for the database of this name, opened in this mode, whatever its record index
-- is
abbrev pub IsOpenAs : ℕ → List ℕ → ℕ → Device → Type 0
IsOpenAs handle name mode device =
    option_map (with_next 0) (opened_at handle device.handles) ≡ Some (just_opened name mode)

-- a request that neither opens nor closes
abbrev pub LeavesOpen : Form → Type 0
LeavesOpen form.OpenDb = ⊥
LeavesOpen form.CreateDb = ⊥
LeavesOpen form.CloseDb = ⊥
LeavesOpen form.EndOfSync = ⊥
LeavesOpen other = Unit {0}
