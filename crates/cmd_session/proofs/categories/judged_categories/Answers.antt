use Rattle.std.proofs.Common.{ap, refl, Err}
use Rattle.run_words.specs.Views.{between_view}
use Rattle.call_parts.specs.Told.{call_told}
use Rattle.call_parts.proofs.JudgedCalls.{by_folder, by_handheld, by_source, by_trace}
use Rattle.cmd_session.proofs.FilingRuns.{by_filing, filing_judged}
use Rattle.cmd_session.proofs.SessionRuns.{keeps_traced}
use Rattle.call_parts.proofs.TraceLaws.{talk_not_handheld, talk_not_source}
use Rattle.cmd_session.proofs.categories.judged_categories.Goals as goal

pub returns-in-Err-open_desktop-clause-ran : goal.returns-in-Err-open_desktop-clause-ran
returns-in-Err-open_desktop-clause-ran g c =
    let words = between_view c.args.words.now in
    let before = call_told g.H.Folder g.D.Folder g.S.Source g.T.Sink c.args.device c.args.desk c.args.source.now c.args.trace.now in
    let after =
    call_told g.H.Folder g.D.Folder g.S.Source g.T.Sink c.in-Ok-open_handheld.store.folder c.in-Err-open_desktop.desk c.script_of.new.source c.args.trace.now in
    let end = c.not_started-in-Err-open_desktop.ensures in
    rw (end.status, end.device, end.desk, c.into_folder.ensures)
    (by_folder (filing_judged words) before after end.report (record { rules = c.in-Ok.script; scripted = c.in-Ok.ensures.script })
    c.in-Ok-open_handheld.ensures.has
    c.in-Err-open_desktop.ensures.refused c.in-Err-open_desktop.ensures.failed c.in-Err-open_desktop.ensures.in_use
    c.in-Ok.ensures.path
    (record { contents = c.in-Ok-open_handheld.ensures.contents; moments = c.in-Ok-open_handheld.ensures.moments }) c.in-Ok-open_handheld.ensures.path
    (record {
      stands = record { stands = c.in-Err-open_desktop.ensures.stands; each_moment = c.in-Err-open_desktop.ensures.each_moment };
      unread = λ unread. let same = c.in-Err-open_desktop.ensures.unread unread in record { contents = same.0; moments = same.1 };
    })
    c.in-Err-open_desktop.ensures.path refl)

pub returns-in-Ok-open_trace-clause-ran : goal.returns-in-Ok-open_trace-clause-ran
returns-in-Ok-open_trace-clause-ran g c =
    let words = between_view c.args.words.now in
    let before = call_told g.H.Folder g.D.Folder g.S.Source g.T.Sink c.args.device c.args.desk c.args.source.now c.args.trace.now in
    let after =
    call_told g.H.Folder g.D.Folder g.S.Source g.T.Sink c.traced_categories.result.device c.traced_categories.result.desk c.script_of.new.source
    c.traced_categories.new.trace in
    by_filing {words = words} before after (record {
      source_opened = c.in-Ok.ensures.opened;
      handheld = c.in-Ok-open_handheld.ensures.held;
      closed = refl;
      palm_stays = record { contents = c.in-Ok-open_handheld.ensures.contents; moments = c.in-Ok-open_handheld.ensures.moments };
      palm_opened = c.in-Ok-open_handheld.ensures.opened;
      palm_later = c.in-Ok-open_handheld.ensures.later;
      desk_opened = c.in-Ok-open_desktop.ensures.opened;
      desk_later = c.in-Ok-open_desktop.ensures.later;
      trace_opened = c.in-Ok-open_trace.ensures.opened;
      trace_taken = c.in-Ok-open_trace.ensures.taken;
      trace_later = c.in-Ok-open_trace.ensures.later;
    }) (record {
      scripted = c.in-Ok.ensures.script;
      slots_are = c.in-Ok-open_desktop.ensures.slots;
      finished_is = c.in-Ok-open_desktop.ensures.finished;
      stands = record { stands = c.in-Ok-open_desktop.ensures.stands; each_moment = c.in-Ok-open_desktop.ensures.each_moment };
    }) c.traced_categories.ensures.talk c.traced_categories.ensures.traced

pub returns-in-Err-open_trace-clause-ran : goal.returns-in-Err-open_trace-clause-ran
returns-in-Err-open_trace-clause-ran g c =
    let words = between_view c.args.words.now in
    let before = call_told g.H.Folder g.D.Folder g.S.Source g.T.Sink c.args.device c.args.desk c.args.source.now c.args.trace.now in
    let after =
    call_told g.H.Folder g.D.Folder g.S.Source g.T.Sink c.in-Ok-open_handheld.store.folder c.in-Ok-open_desktop.desk.folder c.script_of.new.source
    c.open_trace.new.trace in
    let end = c.not_started-in-Err-open_trace.ensures in
    rw (end.status, end.device, end.desk, c.into_folder-in-Err-open_trace.ensures, c.into_folder-in-Err-open_trace-2.ensures)
    (by_trace (filing_judged words) before after end.report (record { rules = c.in-Ok.script; scripted = c.in-Ok.ensures.script })
    c.in-Ok-open_handheld.ensures.has
    c.in-Ok-open_desktop.ensures.desktop c.in-Err-open_trace.ensures.refused (λ e. c.in-Err-open_trace.ensures.failed (ap Err e)) c.in-Ok.ensures.path
    (record { contents = c.in-Ok-open_handheld.ensures.contents; moments = c.in-Ok-open_handheld.ensures.moments }) c.in-Ok-open_handheld.ensures.path
    (keeps_traced c.in-Err-open_trace.ensures.refused (record {
      stands = c.in-Ok-open_desktop.ensures.stands;
      each_moment = c.in-Ok-open_desktop.ensures.each_moment;
    })) c.in-Ok-open_desktop.ensures.path
    c.in-Err-open_trace.ensures.path c.in-Err-open_trace.ensures.taken)

pub returns-in-Err-clause-ran : goal.returns-in-Err-clause-ran
returns-in-Err-clause-ran g c =
    let words = between_view c.args.words.now in
    let before = call_told g.H.Folder g.D.Folder g.S.Source g.T.Sink c.args.device c.args.desk c.args.source.now c.args.trace.now in
    let after = call_told g.H.Folder g.D.Folder g.S.Source g.T.Sink c.args.device c.args.desk c.script_of.new.source c.args.trace.now in
    let end = c.not_started.ensures in
    rw (end.status, end.device, end.desk)
    (by_source (filing_judged words) before after end.report c.in-Err.ensures.refused (λ e. c.in-Err.ensures.failed (ap Err e)) c.in-Err.ensures.path refl
    refl refl)

pub returns-in-Err-open_handheld-clause-ran : goal.returns-in-Err-open_handheld-clause-ran
returns-in-Err-open_handheld-clause-ran g c =
    let words = between_view c.args.words.now in
    let before = call_told g.H.Folder g.D.Folder g.S.Source g.T.Sink c.args.device c.args.desk c.args.source.now c.args.trace.now in
    let after = call_told g.H.Folder g.D.Folder g.S.Source g.T.Sink c.in-Err-open_handheld.device c.args.desk c.script_of.new.source c.args.trace.now in
    let end = c.not_started-in-Err-open_handheld.ensures in
    rw (end.status, end.device, end.desk)
    (by_handheld (filing_judged words) before after end.report (record { rules = c.in-Ok.script; scripted = c.in-Ok.ensures.script })
    c.in-Err-open_handheld.ensures.refused
    c.in-Err-open_handheld.ensures.failed c.in-Err-open_handheld.ensures.in_use c.in-Ok.ensures.path
    (record { contents = c.in-Err-open_handheld.ensures.contents; moments = c.in-Err-open_handheld.ensures.moments })
    c.in-Err-open_handheld.ensures.path refl refl)

pub returns-in-Ok-open_trace-clause-source_first : goal.returns-in-Ok-open_trace-clause-source_first
returns-in-Ok-open_trace-clause-source_first g c = λ blames. absurd (talk_not_source c.traced_categories.ensures.talk (λ had. had.spoke.why.ends) blames)

pub returns-in-Ok-open_trace-clause-handheld_first : goal.returns-in-Ok-open_trace-clause-handheld_first
returns-in-Ok-open_trace-clause-handheld_first g c = λ is blames. absurd (talk_not_handheld c.traced_categories.ensures.talk (λ had. had.spoke.why.ends) is blames)
