use Rattle.std.proofs.Common.{◌≡◌, ◌+◌, drop}
use Rattle.folder_files.specs.Partings.{place_among}
use Rattle.folder_files.proofs.parted_list.place_among.Given as goal

abbrev pub invariant-loop-place : goal.invariant-loop-place
invariant-loop-place l = place_among l.name l.parted ≡ l.place + place_among l.name (drop l.place l.parted)
