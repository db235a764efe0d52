-- What is written is a file of the slots.
use Rattle.std.proofs.Common.{rules}
use Rattle.folder_files.proofs.InfoLaws.{desktop_file}
use Rattle.folder_files.proofs.desktop_text.write_desktop_info.Goals as goal

pub returns-clause-file : goal.returns-clause-file
returns-clause-file c = search (rules, desktop_file)
