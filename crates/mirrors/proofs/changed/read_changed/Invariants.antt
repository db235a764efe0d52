use Rattle.std.proofs.Common.{◌≡◌, ◌<◌, ◌-◌, [], None}
use Rattle.mirrors.specs.Entries.{AreBounded}
use Rattle.mirrors.specs.Shells.{AreRead}
use Rattle.mirrors.proofs.ChangedLaws.{ChangedSoFar}
use Rattle.desktop_session.proofs.FollowLaws.{Reaches}
use Rattle.mirrors.specs.ReadInquiries.{reads_changed}
use Rattle.mirrors.proofs.changed.read_changed.Given as goal

abbrev pub invariant-loop-request : goal.invariant-loop-request
invariant-loop-request g l = record {
  reference : l.db.linked.ghost_name ≡ l.initial.db.linked.ghost_name;
  handle : l.db.handle ≡ l.initial.db.handle;
  said : ChangedSoFar g.L.Link.talk g.L.Link.since g.L.Link.fault g.L.Link.downs l.initial.db.handle l.fn.most l._request l.seen.items
      l.initial.db.linked.now l.db.linked.now;
  bounded : AreBounded l.seen.items;
  read : AreRead l.seen.items;
  follows : Reaches g.L.Link (reads_changed l.initial.db.handle l.fn.most []) (reads_changed l.initial.db.handle (l.fn.most - l._request) l.seen.items)
      l.initial.db.linked.now.link l.db.linked.now.link;
  none : 0 < l._request → g.L.Link.fault l.db.linked.now.link ≡ None;
}
