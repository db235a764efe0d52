use Rattle.std.proofs.Common.{◌≡◌, map, take}
use Rattle.mirrors.proofs.AskLaws.{SoFar}
use Rattle.install_backup.specs.InstallActs.{put_resource}
use Rattle.install_backup.proofs.entries.write_resources.Given as goal

abbrev pub invariant-loop-resource : goal.invariant-loop-resource
invariant-loop-resource g l = record {
  reference : l.db.linked.ghost_name ≡ l.initial.db.linked.ghost_name;
  handle : l.db.handle ≡ l.initial.db.handle;
  said : SoFar g.L.Link.talk g.L.Link.since g.L.Link.fault g.L.Link.downs (map (put_resource l.initial.db.handle) (take l.resource-index l.resources))
      l.initial.db.linked.now l.db.linked.now;
}
