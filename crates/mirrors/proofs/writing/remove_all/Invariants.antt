use Rattle.std.proofs.Common.{◌≡◌, drop, map, take}
use Rattle.desktop_session.specs.Requests.{removing}
use Rattle.mirrors.proofs.AskLaws.{SoFar}
use Rattle.desktop_session.proofs.FollowLaws.{Reaches}
use Rattle.mirrors.specs.WriteInquiries.{removes_each}
use Rattle.mirrors.proofs.writing.remove_all.Given as goal

abbrev pub invariant-loop-id : goal.invariant-loop-id
invariant-loop-id g l = record {
  reference : l.db.linked.ghost_name ≡ l.initial.db.linked.ghost_name;
  handle : l.db.handle ≡ l.initial.db.handle;
  said : SoFar g.L.Link.talk g.L.Link.since g.L.Link.fault g.L.Link.downs (map (removing l.initial.db.handle) (take l.id-index l.ids)) l.initial.db.linked.now
      l.db.linked.now;
  follows : Reaches g.L.Link (removes_each l.initial.db.handle l.ids) (removes_each l.initial.db.handle (drop l.id-index l.ids))
      l.initial.db.linked.now.link l.db.linked.now.link;
}
