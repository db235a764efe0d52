use Rattle.std.proofs.Common.{refl}
use Rattle.cmd_session.specs.DryRuns.{over}
use Rattle.run_promises.proofs.DryPromises.{dry_asked, dry_holds}
use Rattle.run_promises.proofs.promises.a_dry_run_is_a_run_over_the_same.Goals as goal

pub returns : goal.returns
returns c call run is asked =
    let dry = dry_asked call run is asked in
    (over dry.copies call.before, over dry.left call.after, dry_holds dry, refl, dry.ran)
