use Rattle.std.proofs.Common.{take}
use Rattle.desk_store.specs.Views.{shelves_in}
use Rattle.session_parts.proofs.EachLaws.{EachSoFar}
use Rattle.category_mirror.specs.FilingActs.{SaysFiled, files_under}
use Rattle.category_mirror.proofs.filing.file_all.Given as goal

abbrev pub invariant-loop-job : goal.invariant-loop-job
invariant-loop-job g l = EachSoFar g.L.Link.talk g.L.Link.since g.L.Link.fault g.L.Link.downs (files_under (shelves_in l.desk)) (SaysFiled (shelves_in l.desk))
    (take l.job-index l.jobs) l.merges.items l.initial.linked l.linked
