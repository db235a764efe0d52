use Rattle.std.proofs.Common.{◌≡◌, drop, take}
use Rattle.mirrors.proofs.NewsLaws.{PutsSome}
use Rattle.desktop_session.proofs.FollowLaws.{Reaches}
use Rattle.mirrors.specs.WriteInquiries.{replaces_each}
use Rattle.mirrors.proofs.writing.replace_all.Given as goal

abbrev pub invariant-loop-entry : goal.invariant-loop-entry
invariant-loop-entry g l = record {
  reference : l.db.linked.ghost_name ≡ l.initial.db.linked.ghost_name;
  handle : l.db.handle ≡ l.initial.db.handle;
  puts : PutsSome g.L.Link.talk g.L.Link.since g.L.Link.fault g.L.Link.downs l.initial.db.handle
      (take l.entry-index l.entries) l.initial.db.linked.now l.db.linked.now;
  follows : Reaches g.L.Link (replaces_each l.initial.db.handle l.entries) (replaces_each l.initial.db.handle (drop l.entry-index l.entries))
      l.initial.db.linked.now.link l.db.linked.now.link;
}
