-- What a packet makes of what a hand performed.
use Rattle.std.specs.Prelude.{◌≡◌, ◌⊎◌, List, ℕ, [], ◌∷◌, ◌++◌}
use Rattle.dlp_commands.specs.DeviceSteps.{DeviceStep}
use Rattle.padp_end.specs.Arrivals.{Data, arrival_of}
use Rattle.padp_end.specs.Outgoings.{OutgoingFragment, acknowledgement}
use Rattle.padp_link.specs.FragmentText.{FragmentValue}
use Rattle.padp_link.specs.Pieces.{key_of}
use Rattle.slp_frames.specs.PacketText.{PacketValue}
use Rattle.device_stream.specs.Hands.{Hand, taken_by}

-- nothing
pub record DidNothing (old new : Hand) : Type 0 where
  pub device_is : new.device ≡ old.device
  pub performed_is : new.performed ≡ old.performed
  pub replies_are : new.replies ≡ old.replies

-- one request, by one step of its device, whose reply was the step's
pub record DidOne (old new : Hand) : Type 0 where
  pub request : List ℕ
  pub reply : List ℕ
  pub step : DeviceStep old.device request reply new.device
  pub performed_is : new.performed ≡ old.performed ++ request ∷ []
  pub replies_are : new.replies ≡ old.replies ++ reply ∷ []

abbrev pub DidOnce : Hand → Hand → Type 0
DidOnce old new = DidNothing old new ⊎ DidOne old new

-- data to which this was said, if anything was, comes once more: it is acknowledged, and nothing
-- else
abbrev pub DoesNothingAgain : PacketValue → List OutgoingFragment → Hand → Type 0
DoesNothingAgain packet said new =
    (id : ℕ) (fragment : FragmentValue) (free : ℕ) → arrival_of packet ≡ Data id fragment
    → ¬ (said ≡ [])
    → taken_by new free packet ≡ (acknowledgement (key_of id fragment) ∷ [], new)
