use Rattle.hs_folders.specs.FileTrees.{file_map}
use Rattle.device_state.proofs.HeldLaws.{IsFileList-files_of, utf8_of-file_map}
use Rattle.device_state.proofs.list_laws.a_folder_in_memory_is_a_list.Goals as goal

pub returns : goal.returns
returns c = λ folder. IsFileList-files_of (file_map folder.files) (utf8_of-file_map folder.files)
