use Rattle.std.proofs.Common.{◌≡◌, take}
use Rattle.install_backup.proofs.KeepLaws.{KeptSoFar}
use Rattle.install_backup.proofs.keeping.backup_all.Given as goal

abbrev pub invariant-loop-head : goal.invariant-loop-head
invariant-loop-head g l = record {
  kept : KeptSoFar g.L.Link.talk g.L.Link.since g.L.Link.fault g.L.Link.downs g.D.Folder.contents g.D.Folder.moments (take l.head-index l.heads) l.moved.items l.initial.linked
      l.linked l.initial.folder l.folder;
  faults : g.D.Folder.faults l.folder ≡ g.D.Folder.faults l.initial.folder;
  paths : g.D.Folder.paths l.folder ≡ g.D.Folder.paths l.initial.folder;
  open_still : l.linked.abandoned ≡ l.initial.linked.abandoned;
}
