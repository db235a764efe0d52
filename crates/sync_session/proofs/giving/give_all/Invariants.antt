use Rattle.std.proofs.Common.{take}
use Rattle.desk_store.specs.Views.{shelves_in}
use Rattle.sync_session.specs.Phases.{gained, news_under}
use Rattle.session_plan.specs.Takes.{each_of}
use Rattle.sync_session.specs.Inquiries.{gives_one}
use Rattle.session_parts.proofs.EachFollows.{EachAsked}
use Rattle.session_parts.proofs.EachLaws.{EachSoFar}
use Rattle.sync_session.proofs.giving.give_all.Given as goal

abbrev pub invariant-loop-one : goal.invariant-loop-one
invariant-loop-one g l = EachSoFar g.L.Link.talk g.L.Link.since g.L.Link.fault g.L.Link.downs (news_under (shelves_in l.desk))
    (λ told one handle given ids. gained (shelves_in l.desk) told one handle given ids.items) (take l.one-index l.planned) l.ids.items l.initial.linked l.linked
    × EachAsked g.L.Link (gives_one (shelves_in l.desk)) l.planned l.one-index (each_of l.ids.items) l.initial.linked.link l.linked.link
