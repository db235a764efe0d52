use Rattle.std.proofs.Common.{◌≡◌, ◌++◌, [], length}
use Rattle.mirrors.specs.Shells.{Fills}
use Rattle.mirrors.proofs.FillLaws.{FilledSoFar}
use Rattle.desktop_session.proofs.FollowLaws.{Reaches}
use Rattle.mirrors.specs.ReadInquiries.{fills as filling}
use Rattle.mirrors.proofs.others.fill_all.Given as goal

abbrev pub invariant-loop-entry : goal.invariant-loop-entry
invariant-loop-entry g l = record {
  reference : l.db.linked.ghost_name ≡ l.initial.db.linked.ghost_name;
  handle : l.db.handle ≡ l.initial.db.handle;
  count : l.entry-iterator.rest.len ≡ length l.entry-iterator.rest.items;
  all : l.yielded ++ l.entry-iterator.rest.items ≡ l.fn.entries.items;
  fills : Fills l.yielded l.seen.items;
  follows : Reaches g.L.Link (filling l.base l.initial.db.handle l.fn.entries.items [])
      (filling l.base l.initial.db.handle l.entry-iterator.rest.items l.seen.items) l.initial.db.linked.now.link l.db.linked.now.link;
  said : FilledSoFar g.L.Link.talk g.L.Link.since g.L.Link.fault g.L.Link.downs l.base l.initial.db.handle l.yielded l.seen.items l.initial.db.linked.now
      l.db.linked.now;
}
