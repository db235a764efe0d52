use Rattle.std.proofs.Common.{◌≡◌, ◌++◌, take}
use Rattle.std.specs.Prelude.{string_bytes}
use Rattle.std.specs.List.{AllByRecursion, flat_map}
use Rattle.folder_files.specs.InfoFiles.{IsPartedSaid, parted_line}
use Rattle.folder_files.proofs.desktop_text.slot_lines.Given as goal

abbrev pub invariant-loop-one : goal.invariant-loop-one
invariant-loop-one l = record {
  text : string_bytes l.lines ≡ string_bytes l.initial.lines ++ flat_map parted_line (take l.one-index l.one-items);
  said : AllByRecursion IsPartedSaid (take l.one-index l.one-items);
}
