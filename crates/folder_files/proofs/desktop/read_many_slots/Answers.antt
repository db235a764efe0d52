-- Each line by itself, and then the slots.
use Rattle.std.proofs.Common.{rules}
use Rattle.folder_files.specs.InfoFiles.{many_slots_at}
use Rattle.folder_files.proofs.desktop.read_many_slots.Goals as goal

pub returns-in_err-title : goal.returns-in_err-title
unfolding many_slots_at
returns-in_err-title c = search rules

pub returns-in_err-pc : goal.returns-in_err-pc
unfolding many_slots_at
returns-in_err-pc c = search rules

pub returns-in_err-count : goal.returns-in_err-count
unfolding many_slots_at
returns-in_err-count c = search rules

pub returns-in_err-infos : goal.returns-in_err-infos
unfolding many_slots_at
returns-in_err-infos c = search rules

pub returns : goal.returns
unfolding many_slots_at
returns c = search rules
