-- The ids that new records get: each is one that no record has at its turn.
use Rattle.std.specs.Prelude.{List, [], ◌∷◌}
use Rattle.palm_device.specs.Devices.{Device}
use Rattle.dlp_commands.specs.DeviceSteps.{FormMayGive}
use Rattle.desktop_session.specs.Acts.{Act, acted}

-- each act gives a new record an id that no record of its database has then
abbrev pub GetFreeIds : List Act → Device → Type 0
GetFreeIds [] device = Unit {0}
GetFreeIds (act ∷ acts) device =
    FormMayGive device act.given act.asks.form act.asks.fields
    × GetFreeIds acts (acted act device).1
