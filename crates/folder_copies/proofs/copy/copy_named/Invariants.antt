use Rattle.std.proofs.Common.{◌≡◌, [], false, map, take, true}
use Rattle.std.specs.Prelude.{IfSome, Some, string_bytes}
use Rattle.hs_folders.specs.Causes.{Rose}
use Rattle.hs_folders.specs.FileTrees.{file_map}
use Rattle.hs_folders.specs.Moments.{OnlyRead}
use Rattle.folder_copies.specs.Copies.{HoldsNamed}
use Rattle.folder_copies.proofs.copy.copy_named.Given as goal

abbrev pub invariant-loop-name : goal.invariant-loop-name
invariant-loop-name g l = record {
  copied : l.copy.failed ≡ false → IfSome (g.F.Folder.contents l.fn.folder)
      (λ held. HoldsNamed (map string_bytes (take l.name-index l.names)) held (Some (file_map l.copy.held.files)));
  unopened : l.copy.failed ≡ false → Some (map string_bytes l.copy.held.opened.items) ≡ Some [];
  failed : l.copy.failed ≡ true → Rose (g.F.Folder.faults l.fn.folder) (g.F.Folder.faults l.folder);
  faults_of_copy : l.copy.faults ≡ 0;
  only_read : OnlyRead g.F.Folder.contents g.F.Folder.moments g.F.Folder.paths g.F.Folder.faults l.fn.folder l.folder;
}
