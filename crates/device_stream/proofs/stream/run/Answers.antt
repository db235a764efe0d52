use Rattle.std.proofs.Common.{◌++◌, ap, subst, ◌∙◌}
use Rattle.std.specs.Option.{option_map}
use Rattle.hs_folders.specs.Appends.{AppendsPrefix}
use Rattle.device_stream.proofs.CourseLaws.{any-itself}
use Rattle.device_stream.proofs.ListenLaws.{listens-behind, listens-unwritten}
use Rattle.device_stream.proofs.stream.run.Goals as goal

pub returns-in-Ok-clause-listens : goal.returns-in-Ok-clause-listens
returns-in-Ok-clause-listens g c =
    listens-behind
    (c.in-Ok.ensures.written ∙ ap (λ s. option_map (λ taken. taken ++ s) (g.T.Sink.taken c.args.sink.now)) c.deref.ensures.0)
    c.listen.ensures.listens

pub returns-in-Err-clause-listens : goal.returns-in-Err-clause-listens
returns-in-Err-clause-listens g c =
    listens-unwritten c.in-Err.end c.args.talk.now.hand c.in-Err.ensures.kind
    (subst (λ s. AppendsPrefix (g.T.Sink.taken c.args.sink.now) (g.T.Sink.taken c.write.new.sink) s) c.deref.ensures.0 c.in-Err.ensures.prefix)

pub returns-in-Err-clause-performs : goal.returns-in-Err-clause-performs
returns-in-Err-clause-performs g c = any-itself g.F.Folder.contents g.F.Folder.moments g.F.Folder.paths g.F.Folder.faults c.args.talk.now
