use Rattle.std.proofs.Common.{◌≡◌, ◌∙◌, ℕ, List, ap, sym}
use Rattle.palm_device.specs.Devices.{Device}
use Rattle.dlp_commands.specs.DeviceSteps.{served}
use Rattle.dlp_commands.proofs.laws.step_is_determined.Goals as goal

pub returns : goal.returns
returns c old one other bytes reply answer first second same =
    let both : (reply, one) ≡ (answer, other) = sym first.is ∙ ap (λ (free : ℕ). served old free bytes) same ∙ second.is in
    (ap (λ (r : List ℕ × Device). r.0) both, ap (λ (r : List ℕ × Device). r.1) both)
