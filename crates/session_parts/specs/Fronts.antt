-- Where a handheld stands after some of a session's writes.
use Rattle.std.specs.Prelude.{◌≡◌, ℕ, List, filter, length, take}
use Rattle.std.specs.List.{flat_map}
use Rattle.palm_device.specs.Devices.{Device}
use Rattle.dlp_commands.specs.Changes.{changes, given_in}
use Rattle.dlp_commands.specs.DeviceRuns.{DeviceRun, Exchange, exchanged}

-- the handheld has the databases and the user of a device that a beginning of the requests that are
-- asked for leads to, which holds exactly the first so many writes, and whose new records got these
-- ids
pub record Front (device : Device) (asked : List (List ℕ)) (writes : ℕ) (given : List ℕ)
    (after : Device) : Type 0 where
  pub count : ℕ
  pub replies : List (List ℕ)
  pub reached : Device
  pub run : DeviceRun device (take count asked) replies reached
  pub holds : length (filter changes (take count asked)) ≡ writes
  pub ids : flat_map (λ (exchange : Exchange). given_in exchange.request exchange.reply)
      (exchanged (take count asked) replies) ≡ given
  pub databases : after.databases ≡ reached.databases
  pub user : after.user ≡ reached.user
