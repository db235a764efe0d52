-- A handheld on which nothing is open: what is opened then has handle 1.
use Rattle.std.specs.Prelude.{◌≡◌, ℕ, Option, Some, IfSome}
use Rattle.palm_device.specs.Devices.{Device}
use Rattle.palm_device.specs.Handles.{no_handles}
use Rattle.dlp_commands.specs.Talks.{Talk}
use Rattle.desktop_session.specs.Tellings.{IsTellable}

-- nothing is open on it, and its values keep their bounds
pub record IsAtRest (device : Device) : Type 0 where
  pub proper : IsTellable device
  pub closed : device.handles ≡ no_handles

-- over a link that tells a handheld on which nothing is open this holds of the handheld, where that
-- holds before
abbrev pub WhereAtRest : {L : Type 0} → (L → Option Talk) → L → Type 0 → (Device → Type 0) → Type 0
WhereAtRest talk link before holds =
    (told : Talk) → before → talk link ≡ Some told → IsAtRest told.device → holds told.device

-- the handle is the first, where a device is told on which nothing was open
abbrev pub IsFirst : Option Talk → ℕ → Type 0
IsFirst told handle = IfSome told (λ talk. talk.device.handles ≡ no_handles → handle ≡ 1)
