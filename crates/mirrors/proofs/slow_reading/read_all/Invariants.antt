use Rattle.std.proofs.Common.{◌≡◌, ◌-◌, [], IfSome}
use Rattle.mirrors.specs.Entries.{AreBounded}
use Rattle.mirrors.specs.Reads.{reads, seen_below}
use Rattle.mirrors.proofs.AskLaws.{SoFar}
use Rattle.desktop_session.proofs.FollowLaws.{Reaches}
use Rattle.mirrors.specs.ReadInquiries.{reads_from}
use Rattle.mirrors.proofs.slow_reading.read_all.Given as goal

abbrev pub invariant-loop-index : goal.invariant-loop-index
invariant-loop-index g l = record {
  reference : l.db.linked.ghost_name ≡ l.initial.db.linked.ghost_name;
  handle : l.db.handle ≡ l.initial.db.handle;
  said : SoFar g.L.Link.talk g.L.Link.since g.L.Link.fault g.L.Link.downs (reads l.initial.db.handle l.index) l.initial.db.linked.now l.db.linked.now;
  seen : IfSome (g.L.Link.talk l.initial.db.linked.now.link) (λ talk. l.seen.items ≡ seen_below talk.device l.initial.db.handle l.index);
  bounded : AreBounded l.seen.items;
  follows : Reaches g.L.Link (reads_from l.initial.db.handle 0 l.fn.count []) (reads_from l.initial.db.handle l.index (l.fn.count - l.index) l.seen.items)
      l.initial.db.linked.now.link l.db.linked.now.link;
}
