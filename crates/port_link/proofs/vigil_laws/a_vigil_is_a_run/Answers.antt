use Rattle.port_link.proofs.RunLaws.{waking-run}
use Rattle.port_link.proofs.vigil_laws.a_vigil_is_a_run.Goals as goal

pub returns : goal.returns
returns c device events kept vigil steps = waking-run device events kept vigil steps
