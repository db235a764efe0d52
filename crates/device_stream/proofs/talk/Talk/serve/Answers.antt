use Rattle.std.proofs.Common.{ap}
use Rattle.device_stream.proofs.TakingLaws.{performs-from, performs-none, performs-once}
use Rattle.device_stream.proofs.talk.Talk.serve.Goals as goal

pub returns-in_err-perform-clause-performs : goal.returns-in_err-perform-clause-performs
returns-in_err-perform-clause-performs g c =
    let did = c.in_err-perform.ensures in
    performs-from g.F.Folder.contents g.F.Folder.moments g.F.Folder.paths g.F.Folder.faults c.self.view_is
    (performs-none g.F.Folder.contents g.F.Folder.moments g.F.Folder.paths g.F.Folder.faults _ _ did.device did.change.contents_stay did.change.moments_stay
    did.change.same_paths did.change.cause.later (ap (λ r. r.performed) did.stays) (ap (λ r. r.replies) did.stays))

pub returns-clause-performs : goal.returns-clause-performs
returns-clause-performs g c =
    let did = c.in_ok-perform.ensures in
    performs-from g.F.Folder.contents g.F.Folder.moments g.F.Folder.paths g.F.Folder.faults c.self.view_is
    (performs-once g.F.Folder.contents g.F.Folder.moments g.F.Folder.paths g.F.Folder.faults _ _ c.take_whole.new.message c.perform.new.reply did.step did.stands
    did.change.each_moment did.change.same_paths did.change.cause.later did.files (ap (λ r. r.performed) did.report) (ap (λ r. r.replies) did.report))
