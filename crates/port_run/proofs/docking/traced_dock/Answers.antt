use Rattle.std.proofs.Common.{◌≡◌, ◌∙◌, refl, subst, sym}
use Rattle.hs_folders.specs.Causes.{Rose}
use Rattle.handheld_files.specs.Openings.{opened_device}
use Rattle.handheld_server.specs.Servers.{ServerValue}
use Rattle.call_parts.proofs.RetoldLaws.{unprinted_traced}
use Rattle.port_run.specs.Told.{dock_told}
use Rattle.port_run.proofs.DockLaws.{dock_had, dock_keeper, dock_port, dock_unsaid}
use Rattle.port_run.proofs.docking.traced_dock.Goals as goal

pub trace_log-status-requires : goal.trace_log-status-requires
trace_log-status-requires g c = rw c.status_of.ensures (dock_unsaid c.serve_at_port-left.result.end)

pub returns-clause-talked : goal.returns-clause-talked
returns-clause-talked g c =
    let ran = c.serve_at_port-left.ensures in
    let left = c.serve_at_port-left.result in
    let server : ServerValue _ = record {
      folder = c.args.store.folder;
      device = opened_device c.args.store.databases c.args.store.user;
      sound = c.args.store.sound;
    } in
    let before = dock_told g.H.Folder g.P.Port g.T.Sink c.args.store.folder c.args.port c.args.trace.now in
    let after = dock_told g.H.Folder g.P.Port g.T.Sink left.folder left.port c.trace_log-status.new.trace in
    record {
      said = c.status_of.result;
      had = dock_had g.H.Folder.contents g.H.Folder.moments g.H.Folder.paths g.H.Folder.faults server c.new.result left.folder before after left.end
          c.status_of.result _ c.new.ensures refl refl c.requires.stands c.status_of.ensures ran.run.1 ran.run.3
          (record { performed = ran.run.2.performed_is; replies = ran.run.2.replies_are });
      traces = rw (sym c.deref.ensures.value) c.trace_log-status.ensures.traces;
      keeper = λ e. subst (λ (s : ServerValue _). Rose (g.H.Folder.faults s.folder) (g.H.Folder.faults left.folder)) c.new.ensures
          (ran.keeper.rose (dock_keeper left.end (sym c.status_of.ensures ∙ e)));
      port = λ e. ran.port.rose (dock_port left.end (sym c.status_of.ensures ∙ e));
      palm_paths = subst (λ (s : ServerValue _). g.H.Folder.paths left.folder ≡ g.H.Folder.paths s.folder) c.new.ensures ran.run.3.1.same_paths;
      port_paths = ran.paths;
    }

pub returns-clause-unprinted : goal.returns-clause-unprinted
returns-clause-unprinted g c =
    unprinted_traced c.status_of.result c.trace_log-status.result (rw c.status_of.ensures (dock_unsaid c.serve_at_port-left.result.end))
    c.trace_log-status.ensures.traces.stands.status_is
