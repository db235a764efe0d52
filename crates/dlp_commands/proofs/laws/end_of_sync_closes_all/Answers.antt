use Rattle.std.proofs.Common.{◌∙◌, ℕ, List, ap, sym, Result}
use Rattle.dlp_requests.specs.declared.fault.RequestFault.{RequestFault}
use Rattle.dlp_requests.specs.RequestValues.{RequestValue}
use Rattle.palm_device.specs.Devices.{Device}
use Rattle.dlp_commands.specs.DeviceSteps.{served, served_by, tried}
use Rattle.dlp_commands.proofs.laws.end_of_sync_closes_all.Goals as goal

pub returns : goal.returns
unfolding served tried
returns c old new bytes reply status read step =
    ap (λ (r : List ℕ × Device). r.1.handles) (sym step.is ∙ ap (λ (r : Result RequestValue RequestFault). served_by old step.free bytes r) read)
