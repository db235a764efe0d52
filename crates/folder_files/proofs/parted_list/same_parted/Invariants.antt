use Rattle.std.proofs.Common.{◌≡◌, take}
use Rattle.folder_files.proofs.parted_list.same_parted.Given as goal

abbrev pub invariant-loop-one : goal.invariant-loop-one
invariant-loop-one l = l.same.items ≡ take l.one-index l.parted
