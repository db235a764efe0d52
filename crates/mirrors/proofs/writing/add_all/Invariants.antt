use Rattle.std.proofs.Common.{◌≡◌, [], drop, take}
use Rattle.mirrors.specs.News.{as_new}
use Rattle.mirrors.proofs.NewsLaws.{PutsSoFar}
use Rattle.desktop_session.proofs.FollowLaws.{Reaches}
use Rattle.mirrors.specs.WriteInquiries.{adds_each}
use Rattle.mirrors.proofs.writing.add_all.Given as goal

abbrev pub invariant-loop-content : goal.invariant-loop-content
invariant-loop-content g l = record {
  reference : l.db.linked.ghost_name ≡ l.initial.db.linked.ghost_name;
  handle : l.db.handle ≡ l.initial.db.handle;
  puts : PutsSoFar g.L.Link.talk g.L.Link.since g.L.Link.fault g.L.Link.downs l.initial.db.handle
      (as_new (take l.content-index l.contents)) l.ids.items l.initial.db.linked.now l.db.linked.now;
  follows : Reaches g.L.Link (adds_each l.initial.db.handle l.contents [])
      (adds_each l.initial.db.handle (drop l.content-index l.contents) l.ids.items) l.initial.db.linked.now.link l.db.linked.now.link;
}
