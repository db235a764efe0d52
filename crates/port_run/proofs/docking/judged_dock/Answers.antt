use Rattle.std.proofs.Common.{Err, ap, inl, inr, refl, ◌∙◌}
use Rattle.call_parts.specs.Told.{folder_told}
use Rattle.run_words.specs.Views.{dock_view}
use Rattle.port_run.specs.Told.{dock_told, port_told}
use Rattle.port_run.proofs.DockLaws.{by_talk, port_not_trace, trace_not_port, undocked}
use Rattle.port_run.proofs.docking.judged_dock.Goals as goal

pub returns-in-Ok-open_trace-clause-ran : goal.returns-in-Ok-open_trace-clause-ran
returns-in-Ok-open_trace-clause-ran g c =
    let before = dock_told g.H.Folder g.P.Port g.T.Sink c.args.device c.args.port c.args.trace.now in
    let opened = dock_told g.H.Folder g.P.Port g.T.Sink c.in-Ok.store.folder c.in-Ok-open_port.port c.open_trace.new.trace in
    let after = dock_told g.H.Folder g.P.Port g.T.Sink c.traced_dock.result.device c.traced_dock.result.port c.traced_dock.new.trace in
    by_talk (dock_view c.args.dock.now) before opened after (record {
      stays = record { contents = c.in-Ok.ensures.contents; moments = c.in-Ok.ensures.moments };
      palm_opened = c.in-Ok.ensures.opened;
      palm_later = c.in-Ok.ensures.later;
      unsaid = record { given = c.in-Ok-open_port.ensures.given; taken = c.in-Ok-open_port.ensures.taken; palm = c.in-Ok-open_port.ensures.palm };
      port_opened = c.in-Ok-open_port.ensures.opened;
      port_later = c.in-Ok-open_port.ensures.later;
      trace_at_most = c.in-Ok-open_trace.ensures.path;
      trace_taken = c.in-Ok-open_trace.ensures.taken;
      trace_later = c.in-Ok-open_trace.ensures.later;
    }) c.in-Ok.ensures.held refl c.traced_dock.ensures.talked

pub returns-in-Err-open_port-clause-ran : goal.returns-in-Err-open_port-clause-ran
returns-in-Err-open_port-clause-ran g c =
    let end = c.not_started-in-Err-open_port in
    let store = c.in-Ok.store in
    let refused = c.in-Err-open_port.ensures in
    let before = dock_told g.H.Folder g.P.Port g.T.Sink c.args.device c.args.port c.args.trace.now in
    let after = dock_told g.H.Folder g.P.Port g.T.Sink end.result.device end.result.port c.args.trace.now in
    undocked (dock_view c.args.dock.now) before after
    (ap (λ f. folder_told g.H.Folder.contents g.H.Folder.moments g.H.Folder.paths g.H.Folder.faults f) (end.ensures.device ∙ c.into_folder.ensures))
    (ap (λ p. port_told g.P.Port p) end.ensures.port) end.ensures.report
    c.in-Ok.ensures.has
    (record { contents = c.in-Ok.ensures.contents; moments = c.in-Ok.ensures.moments }) c.in-Ok.ensures.opened c.in-Err-open_port.refusal
    end.ensures.status (inl refused.refused) (record { given = refused.given; taken = refused.taken; palm = refused.palm }) refused.path refl (inl refl) refused.failed
    (λ e. absurd (port_not_trace c.in-Err-open_port.refusal refused.refused e))

pub returns-in-Err-open_trace-clause-ran : goal.returns-in-Err-open_trace-clause-ran
returns-in-Err-open_trace-clause-ran g c =
    let end = c.not_started-in-Err-open_trace in
    let store = c.in-Ok.store in
    let port = c.in-Ok-open_port.ensures in
    let refused = c.in-Err-open_trace.ensures in
    let before = dock_told g.H.Folder g.P.Port g.T.Sink c.args.device c.args.port c.args.trace.now in
    let after = dock_told g.H.Folder g.P.Port g.T.Sink end.result.device end.result.port c.open_trace.new.trace in
    undocked (dock_view c.args.dock.now) before after
    (ap (λ f. folder_told g.H.Folder.contents g.H.Folder.moments g.H.Folder.paths g.H.Folder.faults f)
    (end.ensures.device ∙ c.into_folder-in-Err-open_trace.ensures))
    (ap (λ p. port_told g.P.Port p) end.ensures.port) end.ensures.report
    c.in-Ok.ensures.has
    (record { contents = c.in-Ok.ensures.contents; moments = c.in-Ok.ensures.moments }) c.in-Ok.ensures.opened c.in-Err-open_trace.refusal
    end.ensures.status (inr refused.refused) (record { given = port.given; taken = port.taken; palm = port.palm }) (inr port.opened) refused.taken refused.path
    (λ e. absurd (trace_not_port c.in-Err-open_trace.refusal refused.refused e)) (λ e. refused.failed (ap (λ s. Err s) e))
