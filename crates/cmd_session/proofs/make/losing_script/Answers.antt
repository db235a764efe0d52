use Rattle.std.proofs.Common.{◌∙◌}
use Rattle.cmd_session.proofs.MakeScripts.{made_script_is}
use Rattle.cmd_session.proofs.make.losing_script.Goals as goal

pub returns-in-Ok : goal.returns-in-Ok
returns-in-Ok c = made_script_is c.in-Ok.script (c.as_bytes.ensures.value ∙ c.in_ok-text.ensures) c.in-Ok.ensures.read
