use Rattle.port_run.specs.Told.{sync_told}
use Rattle.port_run.proofs.SyncLaws.{by_session}
use Rattle.port_run.proofs.syncing.judged.Goals as goal

pub returns-in-Ok-open_trace-clause-ran : goal.returns-in-Ok-open_trace-clause-ran
returns-in-Ok-open_trace-clause-ran g c =
    let before = sync_told g.P.Port g.D.Folder g.T.Sink c.args.port c.args.desk c.args.trace.now in
    let after = sync_told g.P.Port g.D.Folder g.T.Sink c.traced_talk.result.port c.traced_talk.result.desk c.traced_talk.new.trace in
    by_session before after (record {
      unsaid = record { given = c.in-Ok.ensures.given; taken = c.in-Ok.ensures.taken; palm = c.in-Ok.ensures.palm };
      port_opened = c.in-Ok.ensures.opened;
      port_later = c.in-Ok.ensures.later;
      desktop = c.in-Ok-open_desktop.ensures.desktop;
      finished_is = c.in-Ok-open_desktop.ensures.finished;
      slots_are = c.in-Ok-open_desktop.ensures.slots;
      stands = record { stands = c.in-Ok-open_desktop.ensures.stands; each_moment = c.in-Ok-open_desktop.ensures.each_moment };
      desk_opened = c.in-Ok-open_desktop.ensures.opened;
      desk_later = c.in-Ok-open_desktop.ensures.later;
      trace_opened = c.in-Ok-open_trace.ensures.opened;
      trace_at_most = c.in-Ok-open_trace.ensures.path;
      trace_taken = c.in-Ok-open_trace.ensures.taken;
      trace_later = c.in-Ok-open_trace.ensures.later;
    }) c.traced_talk.ensures.talked
