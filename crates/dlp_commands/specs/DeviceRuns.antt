-- Runs of a device: steps by one request after the other.
use Rattle.std.specs.Prelude.{◌≡◌, ℕ, List, [], ◌∷◌, length}
use Rattle.palm_device.specs.Devices.{Device}
use Rattle.dlp_commands.specs.DeviceSteps.{DeviceStep}

-- a request and its reply
pub record Exchange : Type 0 where
  pub request : List ℕ
  pub reply : List ℕ

-- the device goes from the one state to the other by these exchanges, in order
abbrev pub Ran : Device → List Exchange → Device → Type 0
Ran old [] new = new ≡ old
Ran old (exchange ∷ exchanges) new =
    (between : Device) × DeviceStep old exchange.request exchange.reply between
    × Ran between exchanges new

-- each request with the reply at its place
abbrev pub exchanged : List (List ℕ) → List (List ℕ) → List Exchange
exchanged [] replies = []
exchanged (request ∷ requests) [] = []
exchanged (request ∷ requests) (reply ∷ replies) =
    record { request = request; reply = reply } ∷ exchanged requests replies

-- as many replies as requests, and the device goes from the one state to the other by them
pub record DeviceRun (old : Device) (requests replies : List (List ℕ)) (new : Device) : Type 0 where
  pub same : length replies ≡ length requests
  pub ran : Ran old (exchanged requests replies) new
