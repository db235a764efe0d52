-- What is read is a file, and each file is read, by the laws of information files.
use Rattle.std.proofs.Common.{◌∙◌, rules}
use Rattle.folder_files.proofs.InfoLaws.{device_only, device_read}
use Rattle.folder_files.proofs.device.read_device_info.Goals as goal

pub returns-clause-only : goal.returns-clause-only
returns-clause-only c = λ value is. c.read.ensures ∙ device_only c.args.bytes.now value is

pub returns-clause-found : goal.returns-clause-found
returns-clause-found c = search (rules, device_read)
