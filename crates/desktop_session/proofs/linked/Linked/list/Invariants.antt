use Rattle.std.proofs.Common.{◌-◌, ◌<◌}
use Rattle.desktop_session.specs.Greeted.{lists_all}
use Rattle.desktop_session.specs.Starts.{ListedTo}
use Rattle.desktop_session.proofs.HeadLaws.{ListsOn}
use Rattle.desktop_session.proofs.ListLaws.{ListsSoFar}
use Rattle.desktop_session.proofs.linked.Linked.list.Given as goal

abbrev pub invariant-start : goal.invariant-start
invariant-start g l =
    ListsSoFar g.L.Link.talk g.L.Link.since g.L.Link.fault g.L.Link.downs l.start l.heads.items l.initial.self l.self
    × ListedTo l.start l.heads.items × (l.start < 65536)
    × ListsOn g.L.Link lists_all l.start l.heads.items l.initial.self.link l.self.link

abbrev pub decreases-start : goal.decreases-start
decreases-start g l = 65536 - l.start
