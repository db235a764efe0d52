use Rattle.std.proofs.Common.{inl, rules}
use Rattle.hotsync_c.specs.Handhelds.{phase_of}
use Rattle.hotsync_c.proofs.handheld.hs_device_take.Goals as goal

pub returns-in-Ok : goal.returns-in-Ok
returns-in-Ok c =
    let step = c.in-Ok.step in
    inl (step.state.items, step.said.items, phase_of step.over step.spent, c.in-Ok.ensures, search rules)
