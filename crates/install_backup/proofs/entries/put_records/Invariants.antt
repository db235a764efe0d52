use Rattle.std.proofs.Common.{◌≡◌, map, take}
use Rattle.mirrors.proofs.AskLaws.{SoFar}
use Rattle.install_backup.specs.InstallActs.{put_record}
use Rattle.install_backup.proofs.entries.put_records.Given as goal

abbrev pub invariant-loop-item : goal.invariant-loop-item
invariant-loop-item g l = record {
  reference : l.db.linked.ghost_name ≡ l.initial.db.linked.ghost_name;
  handle : l.db.handle ≡ l.initial.db.handle;
  said : SoFar g.L.Link.talk g.L.Link.since g.L.Link.fault g.L.Link.downs (map (put_record l.initial.db.handle) (take l.item-index l.records))
      l.initial.db.linked.now l.db.linked.now;
}
