use Rattle.std.proofs.Common.{[], map, sym, ap, subst, ◌∙◌}
use Rattle.device_stream.proofs.CourseLaws.{any-itself, same-hand}
use Rattle.device_stream.proofs.ListenLaws.{kept-for}
use Rattle.device_stream.specs.Courses.{PerformsAny}
use Rattle.device_stream.specs.Hands.{wake_said, woken}
use Rattle.device_stream.specs.Runs.{KeptFor}
use Rattle.line_world.specs.Logs.{texts}
use Rattle.padp_end.specs.Outgoings.{said_text}
use Rattle.port_link.specs.Logs.{entry_value, log_entries}
use Rattle.port_link.specs.VigilCourses.{Course, GoesOut, scene}
use Rattle.port_link.specs.Runs.{IsPortRun}
use Rattle.port_link.specs.Vigils.{vigil, waking}
use Rattle.port_link.specs.declared.port_end.PortEnd.TheVariants.{NoMemory}
use Rattle.port_link.proofs.VigilCourseLaws.{run-of, run-unbegun}
use Rattle.port_link.proofs.serving.serve_at_port.Goals as goal

pub returns-in-Err-clause-run : goal.returns-in-Err-clause-run
returns-in-Err-clause-run g c =
    let server = c.args.server in
    let hand = woken server.device in
    let given = g.P.Port.given c.args.port in
    let taken = g.P.Port.taken c.args.port in
    let course : Course = record { came = []; events = []; kept = []; vigil = waking server.device } in
    let kept = kept-for g.F.Folder.contents g.F.Folder.moments g.F.Folder.paths g.F.Folder.faults server
    (record { folder = server.folder; hand = hand; sound = server.sound }) hand
    (any-itself g.F.Folder.contents g.F.Folder.moments g.F.Folder.paths g.F.Folder.faults (record { folder = server.folder; hand = hand; sound = server.sound }))
    (same-hand hand) in (
      course,
      subst (λ l. IsPortRun server.device given given taken taken l NoMemory course)
          (sym (ap (λ items. map entry_value items) c.new-in-Err-3.ensures.items)) (run-unbegun server.device given taken),
      record { performed_is = ap texts c.new-in-Err.ensures.items; replies_are = ap texts c.new-in-Err-2.ensures.items },
      subst (λ f. KeptFor g.F.Folder.contents g.F.Folder.moments g.F.Folder.paths g.F.Folder.faults server f hand)
          (sym (c.into_folder.ensures ∙ ap (λ s. s.folder) c.in-Err.ensures.server)) kept,
    )

pub returns-clause-run : goal.returns-clause-run
returns-clause-run g c =
    let server = c.args.server in
    let given = g.P.Port.given c.args.port in
    let taken = g.P.Port.taken c.args.port in
    let waits = c.wake-end.new.waits in
    let end = c.wake-end.result in
    let new = scene (g.P.Port.given waits.port) (g.P.Port.taken waits.port) c.wake-end.new.reader.held (vigil waits.talk.hand waits.patience)
    (log_entries waits.log.entries) in
    let said = subst
    (λ t. GoesOut t end (scene given taken c.new-3.result.held (vigil c.in-Ok.talk.hand 30) (log_entries c.new-2.result.entries)) new)
    (c.deref.ensures.0 ∙ c.in-Ok.ensures.said) c.wake-end.ensures.goes in
    let empty = subst
    (λ h. GoesOut (said_text wake_said) end (scene given taken h (vigil c.in-Ok.talk.hand 30) (log_entries c.new-2.result.entries)) new)
    c.new-3.ensures.held said in
    let woken-first = subst
    (λ t. GoesOut (said_text wake_said) end (scene given taken [] (vigil t.hand 30) (log_entries c.new-2.result.entries)) new)
    c.in-Ok.ensures.talk empty in
    let out = subst (λ l. GoesOut (said_text wake_said) end (scene given taken [] (waking server.device) l) new) c.new-2.ensures woken-first in
    let performs = subst (λ t. PerformsAny g.F.Folder.contents g.F.Folder.moments g.F.Folder.paths g.F.Folder.faults t waits.talk) c.in-Ok.ensures.talk
    c.wake-end.ensures.performs in
    let kept = kept-for g.F.Folder.contents g.F.Folder.moments g.F.Folder.paths g.F.Folder.faults server waits.talk out.course.vigil.hand performs
    out.same in
    let parts = c.into_parts-report.ensures in (
      out.course,
      run-of out,
      record { performed_is = parts.performed ∙ out.same.performed_is; replies_are = parts.replies ∙ out.same.replies_are },
      subst (λ f. KeptFor g.F.Folder.contents g.F.Folder.moments g.F.Folder.paths g.F.Folder.faults server f out.course.vigil.hand) (sym parts.folder)
          kept,
    )
