-- What a handheld behind a link performed, by what the link tells of its talk.
use Rattle.std.specs.Prelude.{◌≡◌, ◌⊎◌, ℕ, List, [], ◌∷◌, ◌++◌, Some}
use Rattle.palm_device.specs.Devices.{Device}
use Rattle.dlp_commands.specs.DeviceRuns.{DeviceRun}
use Rattle.dlp_commands.specs.Talks.{Talk}
use Rattle.device_stream.specs.Hands.{Hand}
use Rattle.port_link.specs.Standing.{exchanges_of}

-- one request was performed whose reply was not taken: the one that was left without an answer
pub record HasOneMore (talk : Talk) (hand : Hand) : Type 0 where
  pub request : List ℕ
  pub reply : List ℕ
  pub left : talk.left ≡ Some request
  pub more : exchanges_of hand
      ≡ talk.exchanges ++ record { request = request; reply = reply } ∷ []

-- Each request that the handheld performed is one step of its device, with its reply. Those that
-- the desktop's talk tells as answered were performed, each once and in order, with the replies
-- that were taken; and no other, but for one at most that was left without an answer.
pub record HandRan (device : Device) (talk : Talk) (hand : Hand) : Type 0 where
  pub run : DeviceRun device hand.performed hand.replies hand.device
  pub device_is : talk.device ≡ hand.device
  pub once : (exchanges_of hand ≡ talk.exchanges) ⊎ HasOneMore talk hand
