use Rattle.std.proofs.Common.{arith}
use Rattle.std.proofs.lemmas.Grind.{common_steps}
use Rattle.device_state.specs.Strings.{string_text}
use Rattle.device_state.proofs.strings.push_string.Goals as goal

pub returns : goal.returns
unfolding string_text
returns c = grind (arith, common_steps)
