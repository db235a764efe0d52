use Rattle.device_state.proofs.StringLaws.{string_text-injective}
use Rattle.device_state.proofs.list_laws.a_string_determines_its_end.Goals as goal

pub returns : goal.returns
returns c = string_text-injective
