use Rattle.std.proofs.Common.{[], sym, ap, subst, ◌∙◌}
use Rattle.device_stream.specs.Courses.{PerformsAny}
use Rattle.device_stream.specs.Hands.{woken}
use Rattle.device_stream.specs.Runs.{KeptFor, Listens}
use Rattle.device_stream.proofs.CourseLaws.{any-itself, same-hand}
use Rattle.device_stream.proofs.ListenLaws.{kept-for, run-listens, run-unbegun}
use Rattle.device_stream.proofs.stream.run_device.Goals as goal

pub returns-in-Err-clause-run : goal.returns-in-Err-clause-run
returns-in-Err-clause-run g c =
    let server = c.args.server in
    let hand = woken server.device in
    let kept = kept-for g.F.Folder.contents g.F.Folder.moments g.F.Folder.paths g.F.Folder.faults server
    (record { folder = server.folder; hand = hand; sound = server.sound }) hand
    (any-itself g.F.Folder.contents g.F.Folder.moments g.F.Folder.paths g.F.Folder.faults (record { folder = server.folder; hand = hand; sound = server.sound }))
    (same-hand hand) in (
      record { bytes = []; packets = []; said = []; hand = hand },
      run-unbegun server.device (g.S.Source.left c.args.source.now) (g.T.Sink.taken c.args.sink.now),
      record { performed_is = c.new-in-Err.ensures.performed; replies_are = c.new-in-Err.ensures.replies },
      subst (λ f. KeptFor g.F.Folder.contents g.F.Folder.moments g.F.Folder.paths g.F.Folder.faults server f hand)
          (sym (c.into_folder.ensures ∙ ap (λ s. s.folder) c.in-Err.ensures.server)) kept,
    )

pub returns-clause-run : goal.returns-clause-run
returns-clause-run g c =
    let server = c.args.server in
    let did = c.run-end.ensures in
    let listens = subst (λ t. Listens (g.S.Source.left c.args.source.now) (g.S.Source.left c.run-end.new.source) t.hand c.run-end.new.talk.hand (g.T.Sink.taken c.args.sink.now)
    (g.T.Sink.taken c.run-end.new.sink) c.new.new.out.items c.run-end.result) c.in-Ok.ensures.talk did.listens in
    let performs = subst (λ t. PerformsAny g.F.Folder.contents g.F.Folder.moments g.F.Folder.paths g.F.Folder.faults t c.run-end.new.talk)
    c.in-Ok.ensures.talk did.performs in
    let kept = kept-for g.F.Folder.contents g.F.Folder.moments g.F.Folder.paths g.F.Folder.faults server c.run-end.new.talk listens.course.hand performs
    listens.same in
    let parts = c.into_parts-report.ensures in (
      listens.course,
      run-listens server.device c.in-Ok.ensures.said listens,
      record {
        performed_is = parts.performed ∙ listens.same.performed_is;
        replies_are = parts.replies ∙ listens.same.replies_are;
      },
      subst (λ f. KeptFor g.F.Folder.contents g.F.Folder.moments g.F.Folder.paths g.F.Folder.faults server f listens.course.hand) (sym parts.folder) kept,
    )
