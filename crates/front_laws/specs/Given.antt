-- New records that get ids which no record has at their turn.
use Rattle.std.specs.Prelude.{◌≡◌, ℕ, List, [], ◌∷◌, ◌++◌, if◌then◌else◌}
use Rattle.std.specs.List.{flat_map}
use Rattle.palm_device.specs.Devices.{Device}
use Rattle.dlp_commands.specs.Changes.{asks_by, given_in}
use Rattle.dlp_commands.specs.DeviceRuns.{Exchange}
use Rattle.dlp_commands.specs.DeviceSteps.{FormMayGive}
use Rattle.desktop_session.specs.Acts.{Act, acted}
use Rattle.desktop_session.specs.Tellings.{exchanges}

-- each act gives a new record an id that no record of its database has then
abbrev pub GetFreeIds : List Act → Device → Type 0
GetFreeIds [] device = Unit {0}
GetFreeIds (act ∷ acts) device =
    FormMayGive device act.given act.asks.form act.asks.fields
    × GetFreeIds acts (acted act device).1

-- the id that an act gives, if it asks for one
abbrev pub id_in : Act → List ℕ
id_in act = if asks_by act.asks.form act.asks.fields then act.given ∷ [] else []

-- those that acts give, in order
abbrev pub ids_in : List Act → List ℕ
ids_in [] = []
ids_in (act ∷ acts) = id_in act ++ ids_in acts

-- the replies to acts tell these, in order
abbrev pub TellIds : List Act → Device → Type 0
TellIds acts device =
    flat_map (λ (exchange : Exchange). given_in exchange.request exchange.reply)
    (exchanges acts device) ≡ ids_in acts
