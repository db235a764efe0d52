-- What a link to a server tells: its device, the exchanges that were answered, and the request that
-- was left.
use Rattle.std.specs.Prelude.{ℕ, Bool, None, Some, ◌||◌, ◌&&◌, is_none, is_some, List, map, Option}
use Rattle.std.specs.Option.{option_map}
use Rattle.dlp_args.specs.Messages.{MessageTextValue}
use Rattle.palm_device.specs.Devices.{Device}
use Rattle.dlp_commands.specs.declared.link.LinkFault.{LinkFault}
use Rattle.dlp_commands.specs.declared.link.LinkFault.TheVariants.{Down, NoMemory}
use Rattle.dlp_commands.specs.DeviceRuns.{Exchange}
use Rattle.dlp_commands.specs.Talks.{Talk}
use Rattle.handheld_server.specs.declared.exchanged.Exchanged.{Exchanged}

-- an exchange as its bytes
abbrev pub exchange_of : Exchanged → Exchange
exchange_of exchanged = record { request = exchanged.request.bytes; reply = exchanged.reply.bytes }

-- all that was said to a device
abbrev pub talk_of : Device → List Exchanged → Option MessageTextValue → Talk
talk_of device exchanges left = record {
  device = device;
  exchanges = map exchange_of exchanges;
  left = option_map (λ (text : MessageTextValue). text.bytes) left;
}

-- only where a fault was answered was a request left, or is the server no more sound
abbrev pub is_settled : Option LinkFault → Option MessageTextValue → Bool → Bool
is_settled fault left sound = is_some fault || (is_none left && sound)

-- how often it went down: once, where that was its fault
abbrev pub downs_of : Option LinkFault → ℕ
downs_of None = 0
downs_of (Some Down) = 1
downs_of (Some NoMemory) = 0
