-- An inquiry over a handheld of another make, and one over our own device.
use Rattle.std.specs.Prelude.{ℕ}
use Rattle.dlp_commands.specs.DeviceSteps.{DeviceStep}
use Rattle.desktop_session.specs.Inquiries.{Inquiry, ◌>>=◌}
use Rattle.foreign_laws.specs.Endings.{EndsOver}
use Rattle.foreign_laws.specs.Foreign.{Foreign, ForeignStep, IsForeign}

-- wherever the one ends over a handheld of another make, the other ends with the same answer over
-- the device that this keeps, and leaves it as this one's device is then
pub record HasTwin {A : Type 0} (asked own : Inquiry A) : Type 0 where
  pub ends : (old new : Foreign) (x : A) → IsForeign old → EndsOver ForeignStep asked old x new
      → EndsOver DeviceStep own old.device x new.device

-- one behind another they have twins as well
abbrev pub TwinsJoin : {A B : Type 0} → Inquiry A → Inquiry A → (A → Inquiry B) → (A → Inquiry B)
    → Type 0
TwinsJoin {A} part own next later =
    HasTwin part own → ((x : A) → HasTwin (next x) (later x))
    → HasTwin (part >>= next) (own >>= later)

-- the same inquiry ends so over both
abbrev pub EndsAlike : {A : Type 0} → Inquiry A → Type 0
EndsAlike asked = HasTwin asked asked

-- an opening: the handheld of another make tells its handle, and ours tells handle 1
pub record OpensAlike (opening : Inquiry ℕ) : Type 0 where
  pub opens : (old new : Foreign) (handle : ℕ) → IsForeign old
      → EndsOver ForeignStep opening old handle new
      → EndsOver DeviceStep opening old.device 1 new.device
