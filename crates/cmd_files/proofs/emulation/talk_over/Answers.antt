use Rattle.std.proofs.Common.{◌∙◌, refl, subst, sym}
use Rattle.hs_folders.specs.Causes.{Rose}
use Rattle.handheld_files.specs.Openings.{opened_device}
use Rattle.handheld_server.specs.Servers.{ServerValue}
use Rattle.call_parts.specs.Told.{call_told}
use Rattle.cmd_files.proofs.EmulationLaws.{had_talk, keeper_end, sink_end, source_end, talk_unprinted}
use Rattle.cmd_files.proofs.emulation.talk_over.Goals as goal

pub returns-clause-talk : goal.returns-clause-talk
returns-clause-talk g c =
    let ran = c.run_device-end.ensures in
    let before = call_told g.H.Folder g.D.Folder g.S.Source g.T.Sink c.args.store.folder c.args.desk c.args.source.now c.args.sink.now in
    let after = call_told g.H.Folder g.D.Folder g.S.Source g.T.Sink c.run_device-end.result.2 c.args.desk c.run_device-end.new.source
    c.run_device-end.new.sink in
    let server : ServerValue _ = record {
      folder = c.args.store.folder;
      device = opened_device c.args.store.databases c.args.store.user;
      sound = c.args.store.sound;
    } in
    had_talk g.H.Folder.contents g.H.Folder.moments g.H.Folder.paths g.H.Folder.faults server c.new.result c.run_device-end.result.2 before after
    c.run_device-end.result.0 c.status_of.result c.report_of.result c.new.ensures refl refl c.requires.stands c.status_of.ensures ran.run.1 ran.run.3
    (c.report_of.ensures ran.run.0.hand ran.run.2)

pub returns-clause-unprinted : goal.returns-clause-unprinted
returns-clause-unprinted g c = λ e. talk_unprinted c.run_device-end.result.0 (sym c.status_of.ensures ∙ e)

pub returns-clause-keeper : goal.returns-clause-keeper
returns-clause-keeper g c = λ e.
    subst (λ (s : ServerValue _). Rose (g.H.Folder.faults s.folder) (g.H.Folder.faults c.run_device-end.result.2)) c.new.ensures
    (c.run_device-end.ensures.keeper.rose (keeper_end c.run_device-end.result.0 (sym c.status_of.ensures ∙ e)))

pub returns-clause-source : goal.returns-clause-source
returns-clause-source g c = λ e. c.run_device-end.ensures.source.rose (source_end c.run_device-end.result.0 (sym c.status_of.ensures ∙ e))

pub returns-clause-sink : goal.returns-clause-sink
returns-clause-sink g c = λ e. c.run_device-end.ensures.sink.rose (sink_end c.run_device-end.result.0 (sym c.status_of.ensures ∙ e))
