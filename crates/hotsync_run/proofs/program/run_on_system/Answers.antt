use Rattle.std.proofs.Common.{◌∙◌}
use Rattle.hotsync_run.proofs.SystemLaws.{ends-program}
use Rattle.hotsync_run.proofs.program.run_on_system.Goals as goal

pub returns : goal.returns
returns g c =
    let ended = c.run_handed-ended.ensures in
    ends-program c.seconds_now.result c.arguments.result ended.words ended.none (c.from.ensures ∙ ended.code)
