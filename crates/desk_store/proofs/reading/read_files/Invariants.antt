use Rattle.std.proofs.Common.{◌≡◌, take}
use Rattle.std.specs.Prelude.{map, string_bytes}
use Rattle.hs_folders.specs.Moments.{OnlyRead}
use Rattle.desk_store.specs.Bounds.{KeepsBounds}
use Rattle.desk_store.specs.Finds.{KeepsForm}
use Rattle.desk_store.proofs.LoopLaws.{FindsTold}
use Rattle.desk_store.proofs.reading.read_files.Given as goal

abbrev pub invariant-loop-name : goal.invariant-loop-name
invariant-loop-name g l = record {
  found : FindsTold (g.F.Folder.contents l.initial.folder) (take l.name-index (map string_bytes l.names)) l.found.items;
  form : KeepsForm l.initial.found.items l.found.items;
  bounded : KeepsBounds l.initial.found.items l.found.items;
  read : OnlyRead g.F.Folder.contents g.F.Folder.moments g.F.Folder.paths g.F.Folder.faults l.initial.folder l.folder;
  count : g.F.Folder.faults l.folder ≡ g.F.Folder.faults l.initial.folder;
}
