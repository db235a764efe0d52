use Rattle.std.proofs.Common.{◌≡◌, ◌-◌, [], length}
use Rattle.folder_files.specs.InfoFiles.{parted_at}
use Rattle.folder_files.proofs.desktop.read_parted.Given as goal

abbrev pub invariant-databases : goal.invariant-databases
invariant-databases l = parted_at l.room [] l.initial.lines.rest.now ≡ parted_at (l.room - length l.parted.items) l.parted.items l.lines.rest.now

abbrev pub decreases-databases : goal.decreases-databases
decreases-databases l = l.room - length l.parted.items
