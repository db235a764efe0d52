-- What a device tells in reply to acts, and the steps that it takes by them.
use Rattle.std.specs.Prelude.{ℕ, List, [], ◌∷◌, Ok, Err}
use Rattle.dlp_requests.specs.RequestTexts.{IsRequest}
use Rattle.dlp_replies.specs.ReplyValues.{ReplyValue, Refused}
use Rattle.palm_device.specs.Bounds.{IsBounded}
use Rattle.palm_device.specs.Devices.{Device}
use Rattle.palm_device.specs.Soundness.{IsDevice}
use Rattle.dlp_commands.specs.DeviceRuns.{Exchange}
use Rattle.dlp_commands.specs.DeviceSteps.{FormMayGive, function_number, tried}
use Rattle.dlp_commands.specs.Reached.{Trial}
use Rattle.desktop_session.specs.Acts.{Act, acted, text}

-- the function of an act
abbrev pub number_of : Act → ℕ
number_of act = function_number act.asks

-- the reply to what was done, or its error
abbrev pub tells : ℕ → Trial → ReplyValue
tells number (Ok done) = done.1
tells number (Err code) = Refused number code

-- what the device's reply to an act says
unfoldable pub told : Act → Device → ReplyValue
told act device = tells (number_of act) (tried act.given device act.asks)

-- an act is a request that fits into a message, and the id that it says was given is free
pub record IsSayable (act : Act) (device : Device) : Type 0 where
  pub request : IsRequest act.asks
  pub free : FormMayGive device act.given act.asks.form act.asks.fields

-- a device whose values keep the bounds of their types
pub record IsTellable (device : Device) : Type 0 where
  pub sound : IsDevice device
  pub bounded : IsBounded device

-- each act at its turn
abbrev pub AreSayable : List Act → Device → Type 0
AreSayable [] device = Unit {0}
AreSayable (act ∷ acts) device = IsSayable act device × AreSayable acts (acted act device).1

-- the exchanges of acts
abbrev pub exchanges : List Act → Device → List Exchange
exchanges [] device = []
exchanges (act ∷ acts) device =
    record { request = text act; reply = (acted act device).0 }
    ∷ exchanges acts (acted act device).1

-- the device after acts
abbrev pub device_after : List Act → Device → Device
device_after [] device = device
device_after (act ∷ acts) device = device_after acts (acted act device).1
