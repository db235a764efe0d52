use Rattle.std.proofs.Common.{ap, refl, Err}
use Rattle.run_words.specs.Views.{capture_view}
use Rattle.call_parts.specs.Told.{call_told, folder_told}
use Rattle.cmd_files.proofs.EmulationLaws.{by_handheld, by_sink, by_source, by_talk}
use Rattle.cmd_files.proofs.emulation.judged_emulation.Goals as goal

pub returns-in-Err-clause-ran : goal.returns-in-Err-clause-ran
returns-in-Err-clause-ran g c =
    let capture = capture_view c.args.words.now in
    let before = call_told g.H.Folder g.D.Folder g.S.Source g.T.Sink c.args.device c.args.desk c.args.source.now c.args.sink.now in
    let after = call_told g.H.Folder g.D.Folder g.S.Source g.T.Sink c.in-Err.device c.args.desk c.args.source.now c.args.sink.now in
    let end = c.not_started.ensures in
    rw (end.status, end.device, end.desk)
    (by_handheld capture before after end.report c.in-Err.ensures.refused c.in-Err.ensures.failed c.in-Err.ensures.in_use
    (record { contents = c.in-Err.ensures.contents; moments = c.in-Err.ensures.moments }) c.in-Err.ensures.path refl refl refl)

pub returns-in-Err-open_source-clause-ran : goal.returns-in-Err-open_source-clause-ran
returns-in-Err-open_source-clause-ran g c =
    let capture = capture_view c.args.words.now in
    let before = call_told g.H.Folder g.D.Folder g.S.Source g.T.Sink c.args.device c.args.desk c.args.source.now c.args.sink.now in
    let after = call_told g.H.Folder g.D.Folder g.S.Source g.T.Sink c.in-Ok.store.folder c.args.desk c.open_source.new.source c.args.sink.now in
    let end = c.not_started-in-Err-open_source.ensures in
    rw (end.status, end.device, end.desk, c.into_folder.ensures)
    (by_source capture before after end.report
    c.in-Ok.ensures.has
    c.in-Err-open_source.ensures.refused (λ e. c.in-Err-open_source.ensures.failed (ap Err e))
    (record {
      stays = record { contents = c.in-Ok.ensures.contents; moments = c.in-Ok.ensures.moments };
      palm_opened = c.in-Ok.ensures.opened;
      palm_later = c.in-Ok.ensures.later;
      desk = refl;
    })
    c.in-Err-open_source.ensures.path c.in-Err-open_source.ensures.left refl)

pub returns-in-Err-open_named-clause-ran : goal.returns-in-Err-open_named-clause-ran
returns-in-Err-open_named-clause-ran g c =
    let capture = capture_view c.args.words.now in
    let before = call_told g.H.Folder g.D.Folder g.S.Source g.T.Sink c.args.device c.args.desk c.args.source.now c.args.sink.now in
    let after = call_told g.H.Folder g.D.Folder g.S.Source g.T.Sink c.in-Ok.store.folder c.args.desk c.open_source.new.source c.open_named.new.trace in
    let end = c.not_started-in-Err-open_named.ensures in
    rw (end.status, end.device, end.desk, c.into_folder-in-Err-open_named.ensures)
    (by_sink capture before after end.report
    c.in-Ok.ensures.has
    c.in-Err-open_named.ensures.refused (λ e. c.in-Err-open_named.ensures.failed (ap Err e))
    (record {
      stays = record { contents = c.in-Ok.ensures.contents; moments = c.in-Ok.ensures.moments };
      palm_opened = c.in-Ok.ensures.opened;
      palm_later = c.in-Ok.ensures.later;
      desk = refl;
    })
    c.in-Ok-open_source.ensures.opened c.in-Ok-open_source.ensures.left c.in-Err-open_named.ensures.path c.in-Err-open_named.ensures.taken)

pub returns-in-Ok-open_named-clause-ran : goal.returns-in-Ok-open_named-clause-ran
returns-in-Ok-open_named-clause-ran g c =
    let before = call_told g.H.Folder g.D.Folder g.S.Source g.T.Sink c.args.device c.args.desk c.args.source.now c.args.sink.now in
    let opened = call_told g.H.Folder g.D.Folder g.S.Source g.T.Sink c.in-Ok.store.folder c.args.desk c.open_source.new.source c.open_named.new.trace in
    let after = call_told g.H.Folder g.D.Folder g.S.Source g.T.Sink c.talk_over.result.device c.talk_over.result.desk c.talk_over.new.source
    c.talk_over.new.sink in
    by_talk (capture_view c.args.words.now) before opened after (record {
      stays = record { contents = c.in-Ok.ensures.contents; moments = c.in-Ok.ensures.moments };
      palm_opened = c.in-Ok.ensures.opened;
      palm_later = c.in-Ok.ensures.later;
      left = c.in-Ok-open_source.ensures.left;
      source_opened = c.in-Ok-open_source.ensures.opened;
      source_later = c.in-Ok-open_source.ensures.later;
      taken = c.in-Ok-open_named.ensures.taken;
      sink_opened = c.in-Ok-open_named.ensures.opened;
      sink_later = c.in-Ok-open_named.ensures.later;
    }) c.in-Ok.ensures.held refl
    (record { palm = c.talk_over.ensures.folder_path; source = c.talk_over.ensures.source_path; sink = c.talk_over.ensures.sink_path })
    (ap (λ f. folder_told g.D.Folder.contents g.D.Folder.moments g.D.Folder.paths g.D.Folder.faults f) c.talk_over.ensures.desk)
    c.talk_over.ensures.talk c.talk_over.ensures.keeper c.talk_over.ensures.source c.talk_over.ensures.sink
