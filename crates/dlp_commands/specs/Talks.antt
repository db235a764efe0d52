-- What a link tells: the device behind it, the exchanges that were answered, and the request that
-- was not.
use Rattle.std.specs.Prelude.{◌≡◌, ◌⊎◌, ℕ, List, [], ◌∷◌, ◌++◌, map, Option, Some, None}
use Rattle.std.specs.Option.{option_to_list}
use Rattle.std.specs.List.{flat_map}
use Rattle.palm_device.specs.Devices.{Device}
use Rattle.dlp_commands.specs.DeviceSteps.{DeviceStep}
use Rattle.dlp_commands.specs.DeviceRuns.{Exchange}
use Rattle.dlp_commands.specs.Changes.{given_in}

-- the device now, the exchanges that were answered, the oldest first, and the request that got no
-- answer
pub record Talk : Type 0 where
  pub device : Device
  pub exchanges : List Exchange
  pub left : Option (List ℕ)

-- nothing was said yet
abbrev pub fresh : Device → Talk
fresh device = record { device = device; exchanges = []; left = None }

-- the requests that were answered
abbrev pub asked : Talk → List (List ℕ)
asked talk = map (λ (exchange : Exchange). exchange.request) talk.exchanges

-- the requests that went out
abbrev pub issued : Talk → List (List ℕ)
issued talk = asked talk ++ option_to_list talk.left

-- the ids that exchanges gave to new records, in order
abbrev pub ids_given : List Exchange → List ℕ
ids_given exchanges =
    flat_map (λ (exchange : Exchange). given_in exchange.request exchange.reply) exchanges

-- the ids that new records were given, in order
abbrev pub given : Talk → List ℕ
given talk = ids_given talk.exchanges

-- the device took one step by the request, this was its reply, and no earlier request was left
-- without one
pub record WasAnswered (old : Talk) (request reply : List ℕ) (new : Option Talk) : Type 0 where
  pub device : Device
  pub step : DeviceStep old.device request reply device
  pub none_left : old.left ≡ None
  pub is : new ≡ Some (record {
    device = device;
    exchanges = old.exchanges ++ record { request = request; reply = reply } ∷ [];
    left = None;
  })

-- the same where the talk is told; where it isn't, it stays so
abbrev pub HasAnswer : Option Talk → List ℕ → List ℕ → Option Talk → Type 0
HasAnswer None request reply new = new ≡ None
HasAnswer (Some old) request reply new = WasAnswered old request reply new

-- the device is as before, or it took one step by the request
abbrev pub OneOrNone : Device → List ℕ → Device → Type 0
OneOrNone old request new = (new ≡ old) ⊎ ((reply : List ℕ) × DeviceStep old request reply new)

-- the request went out and got no answer, and the device took its step or not
pub record WasLeft (old : Talk) (request : List ℕ) (new : Option Talk) : Type 0 where
  pub device : Device
  pub step : OneOrNone old.device request device
  pub none_left : old.left ≡ None
  pub is : new ≡ Some (record { device = device; exchanges = old.exchanges; left = Some request })

-- the request didn't go out, or it was left without an answer
abbrev pub LacksAnswer : Option Talk → List ℕ → Option Talk → Type 0
LacksAnswer None request new = new ≡ None
LacksAnswer (Some old) request new = (new ≡ Some old) ⊎ WasLeft old request new
