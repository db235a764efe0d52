use Rattle.std.proofs.Common.{◌≡◌, ◌-◌, [], length}
use Rattle.folder_files.specs.InfoFiles.{slots_at}
use Rattle.folder_files.proofs.desktop.read_slots.Given as goal

abbrev pub invariant-loop-number : goal.invariant-loop-number
invariant-loop-number l = record {
  number : length l.infos.items ≡ l.number-counter;
  rest : slots_at l.room l.pc l.count [] l.initial.lines.rest.now ≡ slots_at l.room l.pc (l.count - l.number-counter) l.infos.items l.lines.rest.now;
}
