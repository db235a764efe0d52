use Rattle.std.proofs.Common.{take}
use Rattle.desk_store.specs.Views.{shelves_in}
use Rattle.sync_session.specs.Readings.{reads_under, shown_under}
use Rattle.sync_session.specs.Inquiries.{each_seen, reads_job}
use Rattle.session_parts.proofs.EachFollows.{EachAsked}
use Rattle.session_parts.proofs.EachLaws.{EachSoFar}
use Rattle.sync_session.proofs.reading.read_all.Given as goal

abbrev pub invariant-loop-job : goal.invariant-loop-job
invariant-loop-job g l = EachSoFar g.L.Link.talk g.L.Link.since g.L.Link.fault g.L.Link.downs (reads_under (shelves_in l.desk))
    (λ told job handle given view. shown_under (shelves_in l.desk) told job handle given view.seen.items) (take l.job-index l.jobs) l.views.items
    l.initial.linked l.linked
    × EachAsked g.L.Link (reads_job (shelves_in l.desk)) l.jobs l.job-index (each_seen l.views.items) l.initial.linked.link l.linked.link
