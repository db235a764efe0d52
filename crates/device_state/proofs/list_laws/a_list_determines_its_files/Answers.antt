use Rattle.device_state.proofs.FileLaws.{list_text-injective}
use Rattle.device_state.proofs.list_laws.a_list_determines_its_files.Goals as goal

pub returns : goal.returns
returns c = list_text-injective
