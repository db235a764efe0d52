use Rattle.std.proofs.Common.{ap, inl, refl, Err}
use Rattle.run_words.specs.Views.{run_view}
use Rattle.call_parts.specs.Stays.{StaysAsItWas}
use Rattle.call_parts.specs.Told.{SidesTold, call_told}
use Rattle.cmd_session.proofs.DryLaws.{copy_blamed, copy_stands, copy_told, dry_by_copies, dry_of_run, not_begun, stands_still, uncopied}
use Rattle.call_parts.proofs.JudgedCalls.{by_folder, by_handheld, by_source, by_trace}
use Rattle.cmd_session.proofs.SessionRuns.{by_run, keeps_traced, run_judged}
use Rattle.call_parts.proofs.TraceLaws.{talk_not_handheld, talk_not_source}
use Rattle.cmd_session.specs.DryRuns.{over}
use Rattle.cmd_session.proofs.dry_run.judged_dry_run.Goals as goal

pub returns-in-Err-clause-ran : goal.returns-in-Err-clause-ran
returns-in-Err-clause-ran g c =
    let run = run_view c.args.words.now in
    let before = call_told g.H.Folder g.D.Folder g.S.Source g.T.Sink c.args.device c.args.desk c.args.source.now c.args.trace.now in
    let after = call_told g.H.Folder g.D.Folder g.S.Source g.T.Sink c.args.device c.args.desk c.script_of.new.source c.args.trace.now in
    let end = c.not_started.ensures in
    let still : StaysAsItWas before.palm after.palm = record { contents = refl; moments = refl } in
    let desk_still : StaysAsItWas before.desk after.desk = record { contents = refl; moments = refl } in
    rw (end.status, end.device, end.desk)
    (dry_of_run (by_source (run_judged run) before after end.report c.in-Err.ensures.refused (λ e. c.in-Err.ensures.failed (ap Err e)) c.in-Err.ensures.path
    refl refl refl) still desk_still)

pub returns-in-Err-copy_handheld-clause-ran : goal.returns-in-Err-copy_handheld-clause-ran
returns-in-Err-copy_handheld-clause-ran g c =
    let run = run_view c.args.words.now in
    let before = call_told g.H.Folder g.D.Folder g.S.Source g.T.Sink c.args.device c.args.desk c.args.source.now c.args.trace.now in
    let after = call_told g.H.Folder g.D.Folder g.S.Source g.T.Sink c.copy_handheld.new.device c.args.desk c.script_of.new.source c.args.trace.now in
    let end = c.not_started-in-Err-copy_handheld.ensures in
    let copied = c.in-Err-copy_handheld.ensures in
    let stays : StaysAsItWas before.palm after.palm = record { contents = copied.contents; moments = copied.moments } in
    rw (end.status, end.device, end.desk)
    (dry_of_run (by_handheld (run_judged run) before after end.report (record { rules = c.in-Ok.script; scripted = c.in-Ok.ensures.script })
    (inl copied.refused)
    copied.failed copied.in_use c.in-Ok.ensures.path stays copied.path refl refl) stays (record { contents = refl; moments = refl }))

pub returns-in-Err-open_handheld-clause-ran : goal.returns-in-Err-open_handheld-clause-ran
returns-in-Err-open_handheld-clause-ran g c =
    let run = run_view c.args.words.now in
    let before = call_told g.H.Folder g.D.Folder g.S.Source g.T.Sink c.args.device c.args.desk c.args.source.now c.args.trace.now in
    let after = call_told g.H.Folder g.D.Folder g.S.Source g.T.Sink c.copy_handheld.new.device c.args.desk c.script_of.new.source c.args.trace.now in
    let palm = copy_told c.in-Ok-copy_handheld.palm in
    let copied = c.in-Ok-copy_handheld.ensures in
    let stays : StaysAsItWas before.palm after.palm = record { contents = copied.contents; moments = copied.moments } in
    let opened = c.in-Err-open_handheld.ensures in
    let copies : SidesTold = record { palm = palm; desk = before.desk } in
    let left : SidesTold = record { palm = copy_told c.in-Err-open_handheld.refused; desk = before.desk } in
    let end = c.not_started-in-Err-open_handheld.ensures in
    rw (end.status, end.device, end.desk)
    (dry_by_copies copies left
    (by_handheld (run_judged run) (over copies before) (over left after) end.report (record { rules = c.in-Ok.script; scripted = c.in-Ok.ensures.script })
    opened.refused opened.failed opened.in_use c.in-Ok.ensures.path
    (record { contents = opened.contents; moments = opened.moments }) opened.path refl refl)
    (record { stays = stays; copied_is = copied.copied }) (uncopied (record { contents = refl; moments = refl }))
    (copy_blamed _ _ _ _ run.handheld _ _ copied.paths_of_copy opened.path (copied.steady c.in-Err-open_handheld.refused)) (λ rose. rose)
    copied.path (inl refl) (not_begun end.report))

pub returns-in-Err-copy_desktop-clause-ran : goal.returns-in-Err-copy_desktop-clause-ran
returns-in-Err-copy_desktop-clause-ran g c =
    let run = run_view c.args.words.now in
    let before = call_told g.H.Folder g.D.Folder g.S.Source g.T.Sink c.args.device c.args.desk c.args.source.now c.args.trace.now in
    let after =
    call_told g.H.Folder g.D.Folder g.S.Source g.T.Sink c.copy_handheld.new.device c.copy_desktop.new.desk c.script_of.new.source c.args.trace.now in
    let palm = copy_told c.in-Ok-copy_handheld.palm in
    let copied = c.in-Ok-copy_handheld.ensures in
    let stays : StaysAsItWas before.palm after.palm = record { contents = copied.contents; moments = copied.moments } in
    let store = c.in-Ok-open_handheld in
    let palm_left = copy_told store.store.folder in
    let blamed = copy_blamed _ _ _ _ run.handheld _ _ copied.paths_of_copy store.ensures.path (copied.steady store.store.folder) in
    let seen : StaysAsItWas palm palm_left = record { contents = store.ensures.contents; moments = store.ensures.moments } in
    let kept = c.in-Err-copy_desktop.ensures in
    let desk_stays : StaysAsItWas before.desk after.desk = record { contents = kept.contents; moments = kept.moments } in
    let copies : SidesTold = record { palm = palm; desk = before.desk } in
    let left : SidesTold = record { palm = palm_left; desk = after.desk } in
    let end = c.not_started-in-Err-copy_desktop.ensures in
    rw (end.status, end.device, end.desk)
    (dry_by_copies copies left
    (by_folder (run_judged run) (over copies before) (over left after) end.report (record { rules = c.in-Ok.script; scripted = c.in-Ok.ensures.script })
    c.in-Ok-open_handheld.ensures.has
    (inl kept.refused) kept.failed kept.in_use c.in-Ok.ensures.path seen store.ensures.path
    (record { stands = stands_still desk_stays; unread = λ unread. desk_stays }) kept.path refl)
    (record { stays = stays; copied_is = copied.copied }) (uncopied desk_stays) blamed (λ rose. rose) copied.path kept.path (not_begun end.report))

pub returns-in-Err-open_desktop-clause-ran : goal.returns-in-Err-open_desktop-clause-ran
returns-in-Err-open_desktop-clause-ran g c =
    let run = run_view c.args.words.now in
    let before = call_told g.H.Folder g.D.Folder g.S.Source g.T.Sink c.args.device c.args.desk c.args.source.now c.args.trace.now in
    let after =
    call_told g.H.Folder g.D.Folder g.S.Source g.T.Sink c.copy_handheld.new.device c.copy_desktop.new.desk c.script_of.new.source c.args.trace.now in
    let palm = copy_told c.in-Ok-copy_handheld.palm in
    let copied = c.in-Ok-copy_handheld.ensures in
    let stays : StaysAsItWas before.palm after.palm = record { contents = copied.contents; moments = copied.moments } in
    let store = c.in-Ok-open_handheld in
    let palm_left = copy_told store.store.folder in
    let blamed = copy_blamed _ _ _ _ run.handheld _ _ copied.paths_of_copy store.ensures.path (copied.steady store.store.folder) in
    let seen : StaysAsItWas palm palm_left = record { contents = store.ensures.contents; moments = store.ensures.moments } in
    let kept = c.in-Ok-copy_desktop.ensures in
    let desk_stays : StaysAsItWas before.desk after.desk = record { contents = kept.contents; moments = kept.moments } in
    let copies : SidesTold = record { palm = palm; desk = copy_told c.in-Ok-copy_desktop.files } in
    let opened = c.in-Err-open_desktop.ensures in
    let left : SidesTold = record { palm = palm_left; desk = copy_told c.in-Err-open_desktop.refused } in
    let end = c.not_started-in-Err-open_desktop.ensures in
    rw (end.status, end.device, end.desk)
    (dry_by_copies copies left
    (by_folder (run_judged run) (over copies before) (over left after) end.report (record { rules = c.in-Ok.script; scripted = c.in-Ok.ensures.script })
    c.in-Ok-open_handheld.ensures.has
    opened.refused opened.failed opened.in_use c.in-Ok.ensures.path seen store.ensures.path
    (record {
      stands = record { stands = opened.stands; each_moment = opened.each_moment };
      unread = λ unread. let same = opened.unread unread in record { contents = same.0; moments = same.1 };
    }) opened.path refl)
    (record { stays = stays; copied_is = copied.copied }) (record { stays = desk_stays; copied_is = kept.copied }) blamed
    (copy_blamed _ _ _ _ run.desktop _ _ kept.paths_of_copy opened.path (kept.steady c.in-Err-open_desktop.refused)) copied.path kept.path (not_begun end.report))

pub returns-in-Err-open_trace-clause-ran : goal.returns-in-Err-open_trace-clause-ran
returns-in-Err-open_trace-clause-ran g c =
    let run = run_view c.args.words.now in
    let before = call_told g.H.Folder g.D.Folder g.S.Source g.T.Sink c.args.device c.args.desk c.args.source.now c.args.trace.now in
    let after =
    call_told g.H.Folder g.D.Folder g.S.Source g.T.Sink c.copy_handheld.new.device c.copy_desktop.new.desk c.script_of.new.source c.open_trace.new.trace in
    let palm = copy_told c.in-Ok-copy_handheld.palm in
    let copied = c.in-Ok-copy_handheld.ensures in
    let stays : StaysAsItWas before.palm after.palm = record { contents = copied.contents; moments = copied.moments } in
    let store = c.in-Ok-open_handheld in
    let palm_left = copy_told store.store.folder in
    let blamed = copy_blamed _ _ _ _ run.handheld _ _ copied.paths_of_copy store.ensures.path (copied.steady store.store.folder) in
    let seen : StaysAsItWas palm palm_left = record { contents = store.ensures.contents; moments = store.ensures.moments } in
    let kept = c.in-Ok-copy_desktop.ensures in
    let desk_stays : StaysAsItWas before.desk after.desk = record { contents = kept.contents; moments = kept.moments } in
    let copies : SidesTold = record { palm = palm; desk = copy_told c.in-Ok-copy_desktop.files } in
    let desk = c.in-Ok-open_desktop in
    let desk_blamed = copy_blamed _ _ _ _ run.desktop _ _ kept.paths_of_copy desk.ensures.path (kept.steady desk.kept.folder) in
    let left : SidesTold = record { palm = palm_left; desk = copy_told desk.kept.folder } in
    let end = c.not_started-in-Err-open_trace.ensures in
    rw (end.status, end.device, end.desk)
    (dry_by_copies copies left
    (by_trace (run_judged run) (over copies before) (over left after) end.report (record { rules = c.in-Ok.script; scripted = c.in-Ok.ensures.script })
    c.in-Ok-open_handheld.ensures.has
    desk.ensures.desktop c.in-Err-open_trace.ensures.refused (λ e. c.in-Err-open_trace.ensures.failed (ap Err e)) c.in-Ok.ensures.path
    seen store.ensures.path
    (keeps_traced c.in-Err-open_trace.ensures.refused (record { stands = desk.ensures.stands; each_moment = desk.ensures.each_moment })) desk.ensures.path
    c.in-Err-open_trace.ensures.path c.in-Err-open_trace.ensures.taken)
    (record { stays = stays; copied_is = copied.copied }) (record { stays = desk_stays; copied_is = kept.copied }) blamed desk_blamed
    copied.path kept.path (not_begun end.report))

pub returns-in-Ok-open_trace-clause-ran : goal.returns-in-Ok-open_trace-clause-ran
returns-in-Ok-open_trace-clause-ran g c =
    let run = run_view c.args.words.now in
    let before = call_told g.H.Folder g.D.Folder g.S.Source g.T.Sink c.args.device c.args.desk c.args.source.now c.args.trace.now in
    let after =
    call_told g.H.Folder g.D.Folder g.S.Source g.T.Sink c.copy_handheld.new.device c.copy_desktop.new.desk c.script_of.new.source
    c.traced_talk-answer.new.trace in
    let palm = copy_told c.in-Ok-copy_handheld.palm in
    let copied = c.in-Ok-copy_handheld.ensures in
    let stays : StaysAsItWas before.palm after.palm = record { contents = copied.contents; moments = copied.moments } in
    let store = c.in-Ok-open_handheld in
    let palm_left = copy_told store.store.folder in
    let seen : StaysAsItWas palm palm_left = record { contents = store.ensures.contents; moments = store.ensures.moments } in
    let kept = c.in-Ok-copy_desktop.ensures in
    let desk_stays : StaysAsItWas before.desk after.desk = record { contents = kept.contents; moments = kept.moments } in
    let copies : SidesTold = record { palm = palm; desk = copy_told c.in-Ok-copy_desktop.files } in
    let desk = c.in-Ok-open_desktop in
    let answer = c.traced_talk-answer.result in
    let left : SidesTold = record { palm = copy_told answer.device; desk = copy_told answer.desk } in
    let ran = by_run {run = run} (over copies before) (over left after) (record {
      source_opened = c.in-Ok.ensures.opened;
      handheld = store.ensures.held;
      closed = refl;
      palm_stays = seen;
      palm_opened = store.ensures.opened;
      palm_later = store.ensures.later;
      desk_opened = desk.ensures.opened;
      desk_later = desk.ensures.later;
      trace_opened = c.in-Ok-open_trace.ensures.opened;
      trace_taken = c.in-Ok-open_trace.ensures.taken;
      trace_later = c.in-Ok-open_trace.ensures.later;
    }) (record {
      scripted = c.in-Ok.ensures.script;
      slots_are = desk.ensures.slots;
      finished_is = desk.ensures.finished;
      stands = record { stands = desk.ensures.stands; each_moment = desk.ensures.each_moment };
    }) c.traced_talk-answer.ensures.talk c.traced_talk-answer.ensures.traced in
    dry_by_copies copies left ran (record { stays = stays; copied_is = copied.copied }) (record { stays = desk_stays; copied_is = kept.copied })
    (copy_blamed _ _ _ _ run.handheld _ _ copied.paths_of_copy ran.opened.handheld (copied.steady answer.device))
    (copy_blamed _ _ _ _ run.desktop _ _ kept.paths_of_copy ran.opened.desktop (kept.steady answer.desk)) copied.path kept.path
    (λ begun. (copied.opened, kept.opened))

pub traced_talk-answer-requires-clause-stands : goal.traced_talk-answer-requires-clause-stands
traced_talk-answer-requires-clause-stands g c = copy_stands _ _ _ _ c.in-Ok-open_handheld.ensures.contents c.in-Ok-open_handheld.ensures.held

pub returns-in-Ok-open_trace-clause-source_first : goal.returns-in-Ok-open_trace-clause-source_first
returns-in-Ok-open_trace-clause-source_first g c = λ blames. absurd (talk_not_source c.traced_talk-answer.ensures.talk (λ had. had.talked.spoke.why.ends) blames)

pub returns-in-Ok-open_trace-clause-handheld_first : goal.returns-in-Ok-open_trace-clause-handheld_first
returns-in-Ok-open_trace-clause-handheld_first g c = λ is blames. absurd (talk_not_handheld c.traced_talk-answer.ensures.talk (λ had. had.talked.spoke.why.ends) is blames)
