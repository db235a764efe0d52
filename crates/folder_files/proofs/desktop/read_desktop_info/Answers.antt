-- What is read is a file, and each file is read, by the laws of information files.
use Rattle.std.proofs.Common.{rules}
use Rattle.folder_files.proofs.InfoLaws.{desktop_read, desktop_read_only, desktop_rise}
use Rattle.folder_files.proofs.desktop.read_desktop_info.Goals as goal

pub returns-clause-found : goal.returns-clause-found
returns-clause-found c = search (rules, desktop_read)

pub returns-clause-only : goal.returns-clause-only
returns-clause-only c = search (rules, desktop_read_only)

pub returns-clause-rise : goal.returns-clause-rise
returns-clause-rise c = search (rules, desktop_rise)
