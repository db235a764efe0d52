use Rattle.std.proofs.Common.{◌≡◌, IfSome}
use Rattle.desktop_session.specs.Requests.{reading_at}
use Rattle.mirrors.proofs.AskLaws.{SoFar}
use Rattle.install_backup.specs.BackupActs.{each_read}
use Rattle.install_backup.specs.Copies.{records_told}
use Rattle.install_backup.proofs.copying.read_records.Given as goal

abbrev pub invariant-loop-index : goal.invariant-loop-index
invariant-loop-index g l = record {
  reference : l.db.linked.ghost_name ≡ l.initial.db.linked.ghost_name;
  handle : l.db.handle ≡ l.initial.db.handle;
  said : SoFar g.L.Link.talk g.L.Link.since g.L.Link.fault g.L.Link.downs (each_read (reading_at l.initial.db.handle) l.index) l.initial.db.linked.now
      l.db.linked.now;
  rest : l.made ≡ record l.initial.made { records = l.made.records };
  told : IfSome (g.L.Link.talk l.initial.db.linked.now.link) (λ talk. l.made.records ≡ records_told talk.device l.initial.db.handle l.index);
}
