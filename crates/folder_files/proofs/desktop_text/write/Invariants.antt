use Rattle.std.proofs.Common.{◌≡◌, ◌++◌, take}
use Rattle.std.specs.Prelude.{string_bytes}
use Rattle.std.specs.List.{AllByRecursion}
use Rattle.folder_files.specs.InfoFiles.{IsSlotSaid}
use Rattle.folder_files.proofs.SlotLaws.{lines_of}
use Rattle.folder_files.proofs.desktop_text.write.Given as goal

abbrev pub invariant-loop-number : goal.invariant-loop-number
invariant-loop-number l = record {
  text : string_bytes l.text ≡ string_bytes l.initial.text ++ lines_of (take l.number l.slots);
  said : AllByRecursion IsSlotSaid (take l.number l.slots);
}
