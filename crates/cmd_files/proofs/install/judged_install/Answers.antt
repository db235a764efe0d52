use Rattle.std.proofs.Common.{ap, arith, inl, refl, Err}
use Rattle.run_words.specs.Views.{between_view}
use Rattle.call_parts.specs.Told.{call_told, folder_told}
use Rattle.cmd_files.proofs.InstallRuns.{by_install, install_judged}
use Rattle.call_parts.proofs.JudgedCalls.{by_handheld, by_source, by_trace}
use Rattle.call_parts.proofs.TraceLaws.{talk_not_source}
use Rattle.cmd_files.proofs.install.judged_install.Goals as goal

pub returns-in-Err-clause-ran : goal.returns-in-Err-clause-ran
returns-in-Err-clause-ran g c =
    let words = between_view c.args.words.now in
    let before = call_told g.H.Folder g.D.Folder g.S.Source g.T.Sink c.args.device c.args.desk c.args.source.now c.args.trace.now in
    let after = call_told g.H.Folder g.D.Folder g.S.Source g.T.Sink c.args.device c.args.desk c.read_install_file.new.source c.args.trace.now in
    let end = c.not_started.ensures in
    rw (end.status, end.device, end.desk)
    (by_source (install_judged words) before after end.report (record { is = c.in-Err.ensures.refusal; shown = c.in-Err.ensures.shown })
    (λ e. c.in-Err.ensures.failed (ap Err e))
    c.in-Err.ensures.path refl refl refl)

pub returns-in-Err-open_handheld-clause-ran : goal.returns-in-Err-open_handheld-clause-ran
returns-in-Err-open_handheld-clause-ran g c =
    let words = between_view c.args.words.now in
    let before = call_told g.H.Folder g.D.Folder g.S.Source g.T.Sink c.args.device c.args.desk c.args.source.now c.args.trace.now in
    let after = call_told g.H.Folder g.D.Folder g.S.Source g.T.Sink c.in-Err-open_handheld.device c.args.desk c.read_install_file.new.source c.args.trace.now in
    let end = c.not_started-in-Err-open_handheld.ensures in
    rw (end.status, end.device, end.desk)
    (by_handheld (install_judged words) before after end.report (record { database = c.in-Ok.database; file = c.in-Ok.ensures.file })
    c.in-Err-open_handheld.ensures.refused
    c.in-Err-open_handheld.ensures.failed c.in-Err-open_handheld.ensures.in_use c.in-Ok.ensures.path
    (record { contents = c.in-Err-open_handheld.ensures.contents; moments = c.in-Err-open_handheld.ensures.moments })
    c.in-Err-open_handheld.ensures.path refl refl)

pub returns-in-Err-open_trace-clause-ran : goal.returns-in-Err-open_trace-clause-ran
returns-in-Err-open_trace-clause-ran g c =
    let words = between_view c.args.words.now in
    let before = call_told g.H.Folder g.D.Folder g.S.Source g.T.Sink c.args.device c.args.desk c.args.source.now c.args.trace.now in
    let after =
    call_told g.H.Folder g.D.Folder g.S.Source g.T.Sink c.in-Ok-open_handheld.store.folder c.args.desk c.read_install_file.new.source c.open_trace.new.trace in
    let end = c.not_started-in-Err-open_trace.ensures in
    rw (end.status, end.device, end.desk, c.into_folder.ensures)
    (by_trace (install_judged words) before after end.report (record { database = c.in-Ok.database; file = c.in-Ok.ensures.file })
    c.in-Ok-open_handheld.ensures.has
    tt c.in-Err-open_trace.ensures.refused (λ e. c.in-Err-open_trace.ensures.failed (ap Err e)) c.in-Ok.ensures.path
    (record { contents = c.in-Ok-open_handheld.ensures.contents; moments = c.in-Ok-open_handheld.ensures.moments }) c.in-Ok-open_handheld.ensures.path refl
    (inl refl) c.in-Err-open_trace.ensures.path c.in-Err-open_trace.ensures.taken)

pub returns-in-Ok-open_trace-clause-ran : goal.returns-in-Ok-open_trace-clause-ran
returns-in-Ok-open_trace-clause-ran g c =
    let words = between_view c.args.words.now in
    let before = call_told g.H.Folder g.D.Folder g.S.Source g.T.Sink c.args.device c.args.desk c.args.source.now c.args.trace.now in
    let after =
    call_told g.H.Folder g.D.Folder g.S.Source g.T.Sink c.traced_install.result.device c.traced_install.result.desk c.read_install_file.new.source
    c.traced_install.new.trace in
    by_install {words = words} before after (record {
      source_opened = c.in-Ok.ensures.opened;
      handheld = c.in-Ok-open_handheld.ensures.held;
      closed = refl;
      palm_stays = record { contents = c.in-Ok-open_handheld.ensures.contents; moments = c.in-Ok-open_handheld.ensures.moments };
      palm_opened = c.in-Ok-open_handheld.ensures.opened;
      palm_later = c.in-Ok-open_handheld.ensures.later;
      desk_opened = refl;
      desk_later = omega arith;
      trace_opened = c.in-Ok-open_trace.ensures.opened;
      trace_taken = c.in-Ok-open_trace.ensures.taken;
      trace_later = c.in-Ok-open_trace.ensures.later;
    }) c.in-Ok.ensures.file c.in-Ok.ensures.writable
    (ap (λ f. folder_told g.D.Folder.contents g.D.Folder.moments g.D.Folder.paths g.D.Folder.faults f) c.traced_install.ensures.desk)
    c.traced_install.ensures.talk c.traced_install.ensures.traced

pub returns-in-Ok-open_trace-clause-source_first : goal.returns-in-Ok-open_trace-clause-source_first
returns-in-Ok-open_trace-clause-source_first g c = λ blames. absurd (talk_not_source c.traced_install.ensures.talk (λ had. had.spoke.why.ends) blames)
