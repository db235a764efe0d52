use Rattle.std.proofs.Common.{ap, refl, Err}
use Rattle.run_words.specs.Views.{between_view}
use Rattle.call_parts.specs.Told.{call_told, folder_told}
use Rattle.call_parts.proofs.JudgedCalls.{by_folder, by_handheld, by_source, by_trace}
use Rattle.cmd_files.proofs.RestoreRuns.{by_restore, restore_judged}
use Rattle.call_parts.proofs.TraceLaws.{talk_not_handheld, talk_not_source}
use Rattle.cmd_files.proofs.restore.judged_restore.Goals as goal

pub returns-in-Err-open_backups-clause-ran : goal.returns-in-Err-open_backups-clause-ran
returns-in-Err-open_backups-clause-ran g c =
    let words = between_view c.args.words.now in
    let before = call_told g.H.Folder g.D.Folder g.S.Source g.T.Sink c.args.device c.args.desk c.args.source.now c.args.trace.now in
    let after =
    call_told g.H.Folder g.D.Folder g.S.Source g.T.Sink c.in-Ok-open_handheld.store.folder c.in-Err-open_backups.desk c.script_of.new.source c.args.trace.now in
    let end = c.not_started-in-Err-open_backups.ensures in
    rw (end.status, end.device, end.desk, c.into_folder.ensures)
    (by_folder (restore_judged words) before after end.report (record { rules = c.in-Ok.script; scripted = c.in-Ok.ensures.script })
    c.in-Ok-open_handheld.ensures.has
    c.in-Err-open_backups.ensures.refused c.in-Err-open_backups.ensures.failed c.in-Err-open_backups.ensures.in_use
    c.in-Ok.ensures.path
    (record { contents = c.in-Ok-open_handheld.ensures.contents; moments = c.in-Ok-open_handheld.ensures.moments }) c.in-Ok-open_handheld.ensures.path
    (record { contents = c.in-Err-open_backups.ensures.contents; moments = c.in-Err-open_backups.ensures.moments })
    c.in-Err-open_backups.ensures.path refl)

pub returns-in-Ok-open_trace-clause-ran : goal.returns-in-Ok-open_trace-clause-ran
returns-in-Ok-open_trace-clause-ran g c =
    let words = between_view c.args.words.now in
    let before = call_told g.H.Folder g.D.Folder g.S.Source g.T.Sink c.args.device c.args.desk c.args.source.now c.args.trace.now in
    let after =
    call_told g.H.Folder g.D.Folder g.S.Source g.T.Sink c.traced_restore.result.device c.traced_restore.result.desk c.script_of.new.source
    c.traced_restore.new.trace in
    by_restore {words = words} before after (record {
      source_opened = c.in-Ok.ensures.opened;
      handheld = c.in-Ok-open_handheld.ensures.held;
      closed = refl;
      palm_stays = record { contents = c.in-Ok-open_handheld.ensures.contents; moments = c.in-Ok-open_handheld.ensures.moments };
      palm_opened = c.in-Ok-open_handheld.ensures.opened;
      palm_later = c.in-Ok-open_handheld.ensures.later;
      desk_opened = c.in-Ok-open_backups.ensures.opened;
      desk_later = c.in-Ok-open_backups.ensures.later;
      trace_opened = c.in-Ok-open_trace.ensures.opened;
      trace_taken = c.in-Ok-open_trace.ensures.taken;
      trace_later = c.in-Ok-open_trace.ensures.later;
    }) c.in-Ok.ensures.script c.in-Ok-open_backups.ensures.held
    (record { contents = c.in-Ok-open_backups.ensures.contents; moments = c.in-Ok-open_backups.ensures.moments })
    (ap (λ f. folder_told g.D.Folder.contents g.D.Folder.moments g.D.Folder.paths g.D.Folder.faults f) c.traced_restore.ensures.desk)
    c.traced_restore.ensures.talk c.traced_restore.ensures.traced

pub returns-in-Err-open_trace-clause-ran : goal.returns-in-Err-open_trace-clause-ran
returns-in-Err-open_trace-clause-ran g c =
    let words = between_view c.args.words.now in
    let before = call_told g.H.Folder g.D.Folder g.S.Source g.T.Sink c.args.device c.args.desk c.args.source.now c.args.trace.now in
    let after =
    call_told g.H.Folder g.D.Folder g.S.Source g.T.Sink c.in-Ok-open_handheld.store.folder c.in-Ok-open_backups.backups.folder c.script_of.new.source
    c.open_trace.new.trace in
    let end = c.not_started-in-Err-open_trace.ensures in
    rw (end.status, end.device, end.desk, c.into_folder-in-Err-open_trace.ensures)
    (by_trace (restore_judged words) before after end.report (record { rules = c.in-Ok.script; scripted = c.in-Ok.ensures.script })
    c.in-Ok-open_handheld.ensures.has
    (record { databases = c.in-Ok-open_backups.backups.databases.items; holds = c.in-Ok-open_backups.ensures.held }) c.in-Err-open_trace.ensures.refused (λ e. c.in-Err-open_trace.ensures.failed (ap Err e)) c.in-Ok.ensures.path
    (record { contents = c.in-Ok-open_handheld.ensures.contents; moments = c.in-Ok-open_handheld.ensures.moments }) c.in-Ok-open_handheld.ensures.path
    (record { contents = c.in-Ok-open_backups.ensures.contents; moments = c.in-Ok-open_backups.ensures.moments }) c.in-Ok-open_backups.ensures.path
    c.in-Err-open_trace.ensures.path c.in-Err-open_trace.ensures.taken)

pub returns-in-Err-clause-ran : goal.returns-in-Err-clause-ran
returns-in-Err-clause-ran g c =
    let words = between_view c.args.words.now in
    let before = call_told g.H.Folder g.D.Folder g.S.Source g.T.Sink c.args.device c.args.desk c.args.source.now c.args.trace.now in
    let after = call_told g.H.Folder g.D.Folder g.S.Source g.T.Sink c.args.device c.args.desk c.script_of.new.source c.args.trace.now in
    let end = c.not_started.ensures in
    rw (end.status, end.device, end.desk)
    (by_source (restore_judged words) before after end.report c.in-Err.ensures.refused (λ e. c.in-Err.ensures.failed (ap Err e)) c.in-Err.ensures.path refl
    refl refl)

pub returns-in-Err-open_handheld-clause-ran : goal.returns-in-Err-open_handheld-clause-ran
returns-in-Err-open_handheld-clause-ran g c =
    let words = between_view c.args.words.now in
    let before = call_told g.H.Folder g.D.Folder g.S.Source g.T.Sink c.args.device c.args.desk c.args.source.now c.args.trace.now in
    let after = call_told g.H.Folder g.D.Folder g.S.Source g.T.Sink c.in-Err-open_handheld.device c.args.desk c.script_of.new.source c.args.trace.now in
    let end = c.not_started-in-Err-open_handheld.ensures in
    rw (end.status, end.device, end.desk)
    (by_handheld (restore_judged words) before after end.report (record { rules = c.in-Ok.script; scripted = c.in-Ok.ensures.script })
    c.in-Err-open_handheld.ensures.refused
    c.in-Err-open_handheld.ensures.failed c.in-Err-open_handheld.ensures.in_use c.in-Ok.ensures.path
    (record { contents = c.in-Err-open_handheld.ensures.contents; moments = c.in-Err-open_handheld.ensures.moments })
    c.in-Err-open_handheld.ensures.path refl refl)

pub returns-in-Ok-open_trace-clause-source_first : goal.returns-in-Ok-open_trace-clause-source_first
returns-in-Ok-open_trace-clause-source_first g c = λ blames. absurd (talk_not_source c.traced_restore.ensures.talk (λ had. had.spoke.why.ends) blames)

pub returns-in-Ok-open_trace-clause-handheld_first : goal.returns-in-Ok-open_trace-clause-handheld_first
returns-in-Ok-open_trace-clause-handheld_first g c = λ is blames. absurd (talk_not_handheld c.traced_restore.ensures.talk (λ had. had.spoke.why.ends) is blames)
