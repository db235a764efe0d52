use Rattle.run_promises.proofs.DryPromises.{dry_asked}
use Rattle.run_promises.proofs.promises.a_dry_run_changes_nothing.Goals as goal

pub returns : goal.returns
returns c call run is asked =
    let dry = dry_asked call run is asked in
    (dry.handheld.stays, dry.desktop.stays)
