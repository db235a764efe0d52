use Rattle.std.proofs.Common.{◌≡◌, map, take}
use Rattle.std.specs.Prelude.{IfSome, string_bytes}
use Rattle.hs_folders.specs.Moments.{OnlyRead}
use Rattle.handheld_files.specs.Handhelds.{StandFor}
use Rattle.handheld_files.specs.Openings.{among, opened_device}
use Rattle.palm_device.specs.Bounds.{IsBounded}
use Rattle.handheld_files.proofs.KeptLaws.{KeptSoFar}
use Rattle.handheld_files.proofs.reading.read_files.Given as goal

abbrev pub invariant-loop-name : goal.invariant-loop-name
invariant-loop-name g l = record {
  bounded : IsBounded (opened_device l.handheld.databases.items l.handheld.user);
  kept : KeptSoFar (map string_bytes (take l.name-index l.names)) l.handheld.databases.items;
  stands : IfSome (g.F.Folder.contents l.fn.folder)
      (λ held. StandFor (among (map string_bytes (take l.name-index l.names)) held) l.handheld.databases.items l.handheld.user);
  only_read : OnlyRead g.F.Folder.contents g.F.Folder.moments g.F.Folder.paths g.F.Folder.faults l.fn.folder l.folder;
  faults : g.F.Folder.faults l.folder ≡ g.F.Folder.faults l.fn.folder;
}
