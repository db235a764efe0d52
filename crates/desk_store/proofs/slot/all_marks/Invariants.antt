use Rattle.std.proofs.Common.{◌≡◌, take, vec_len}
use Rattle.desk_store.specs.Shelves.{marks_of}
use Rattle.desk_store.proofs.slot.all_marks.Given as goal

abbrev pub invariant-loop-slot : goal.invariant-loop-slot
invariant-loop-slot l = record {
  marks : l.marks.items ≡ marks_of (take l.slot-index l.slots);
  count : vec_len l.marks ≡ l.slot-index;
}
