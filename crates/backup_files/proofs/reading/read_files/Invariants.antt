use Rattle.std.proofs.Common.{◌≡◌, map, take}
use Rattle.std.specs.Prelude.{IfSome, string_bytes}
use Rattle.std.specs.List.{AllByRecursion}
use Rattle.hs_folders.specs.Moments.{OnlyRead}
use Rattle.palm_device.specs.Bounds.{IsBoundedDatabase}
use Rattle.backup_files.proofs.BackupLaws.{AreNoted}
use Rattle.backup_files.proofs.ReadLaws.{FoundSoFar}
use Rattle.backup_files.proofs.reading.read_files.Given as goal

abbrev pub invariant-loop-name : goal.invariant-loop-name
invariant-loop-name g l = record {
  bounded : AllByRecursion IsBoundedDatabase l.found.databases.items;
  noted : AreNoted l.found.databases.items l.found.origins.items;
  found : IfSome (g.F.Folder.contents l.fn.folder)
      (λ held. FoundSoFar (map string_bytes (take l.name-index l.names)) held l.found.databases.items l.found.origins.items);
  only_read : OnlyRead g.F.Folder.contents g.F.Folder.moments g.F.Folder.paths g.F.Folder.faults l.fn.folder l.folder;
  faults : g.F.Folder.faults l.folder ≡ g.F.Folder.faults l.fn.folder;
}
