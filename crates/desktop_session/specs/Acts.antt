-- What a session says: requests, each with the id that its new record got.
use Rattle.std.specs.Prelude.{◌≡◌, ℕ, false, List}
use Rattle.dlp_requests.specs.RequestValues.{RequestValue}
use Rattle.dlp_requests.specs.RequestTexts.{request_text}
use Rattle.palm_device.specs.Devices.{Device}
use Rattle.dlp_commands.specs.Changes.{asks_by}
use Rattle.dlp_commands.specs.DeviceSteps.{function_number, outcome, tried}

-- a request, and the id that its new record got (0 where it makes none)
pub record Act : Type 0 where
  pub asks : RequestValue
  pub given : ℕ

-- a request that asks for no id
abbrev pub act : RequestValue → Act
act asks = record { asks = asks; given = 0 }

-- a request for a new record of id 0, which got this one
abbrev pub act_given : ℕ → RequestValue → Act
act_given given asks = record { asks = asks; given = given }

-- its text
unfoldable pub text : Act → List ℕ
text act = request_text act.asks

-- the device's reply and the device after it
unfoldable pub acted : Act → Device → List ℕ × Device
acted act device = outcome device (function_number act.asks) (tried act.given device act.asks)

-- a request that asks for no id
abbrev pub AsksNoId : RequestValue → Type 0
AsksNoId value = asks_by value.form value.fields ≡ false
