use Rattle.std.proofs.Common.{take}
use Rattle.sync_session.proofs.MeetingWords.{purges_under, done_each, says_nothing}
use Rattle.sync_session.specs.Inquiries.{purges_one}
use Rattle.session_parts.proofs.EachFollows.{EachAsked}
use Rattle.session_parts.proofs.EachLaws.{EachSoFar}
use Rattle.sync_session.proofs.purging.purge_all.Given as goal

abbrev pub invariant-loop-one : goal.invariant-loop-one
invariant-loop-one g l = EachSoFar g.L.Link.talk g.L.Link.since g.L.Link.fault g.L.Link.downs purges_under says_nothing (take l.one-index l.planned)
    (done_each (take l.one-index l.planned) tt) l.initial.linked l.linked
    × EachAsked g.L.Link purges_one l.planned l.one-index (done_each (take l.one-index l.planned) tt) l.initial.linked.link l.linked.link
