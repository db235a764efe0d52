use Rattle.device_state.proofs.HeldLaws.{IsFileList-files_of, held_of-files_of}
use Rattle.device_state.proofs.list_laws.a_list_is_read_again.Goals as goal

pub returns-clause-form : goal.returns-clause-form
returns-clause-form c = IsFileList-files_of

pub returns-clause-held : goal.returns-clause-held
returns-clause-held c = held_of-files_of
