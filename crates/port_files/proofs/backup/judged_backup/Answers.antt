use Rattle.run_words.specs.Views.{ported_view}
use Rattle.port_run.specs.Told.{sync_told}
use Rattle.port_files.proofs.CallLaws.{by_talk}
use Rattle.port_files.proofs.TalkLaws.{backup_carried}
use Rattle.port_files.proofs.backup.judged_backup.Goals as goal

pub returns-in-Ok-open_trace-clause-ran : goal.returns-in-Ok-open_trace-clause-ran
returns-in-Ok-open_trace-clause-ran g c =
    let before = sync_told g.P.Port g.D.Folder g.T.Sink c.args.port c.args.folder c.args.trace.now in
    let after = sync_told g.P.Port g.D.Folder g.T.Sink c.traced_backup.result.port c.traced_backup.result.desk c.traced_backup.new.trace in
    by_talk (backup_carried (ported_view c.args.words.now)) before after (record {
      unsaid = record { given = c.in-Ok.ensures.given; taken = c.in-Ok.ensures.taken; palm = c.in-Ok.ensures.palm };
      port_opened = c.in-Ok.ensures.opened;
      port_later = c.in-Ok.ensures.later;
      has = c.in-Ok-open_files.ensures.apart;
      stays = record { contents = c.in-Ok-open_files.ensures.contents; moments = c.in-Ok-open_files.ensures.moments };
      folder_opened = c.in-Ok-open_files.ensures.opened;
      folder_later = c.in-Ok-open_files.ensures.later;
      trace_opened = c.in-Ok-open_trace.ensures.opened;
      trace_at_most = c.in-Ok-open_trace.ensures.path;
      trace_taken = c.in-Ok-open_trace.ensures.taken;
      trace_later = c.in-Ok-open_trace.ensures.later;
    }) c.traced_backup.ensures.talked
