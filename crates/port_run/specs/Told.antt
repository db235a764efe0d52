-- What the objects of a call over a cable tell at one moment.
use Rattle.std.specs.Prelude.{ℕ, List, Option}
use Rattle.hs_folders.specs.declared.folder.Folder.{Ghosts as FolderMembers}
use Rattle.hs_folders.specs.declared.sink.Sink.{Ghosts as SinkMembers}
use Rattle.port_laws.specs.Palms.{Palm}
use Rattle.port_line.specs.declared.port.Port.{Ghosts as PortMembers}
use Rattle.cmd_status.specs.Told.{SinkTold, sink_told}
use Rattle.cmd_status.specs.declared.status.Status.{Status}
use Rattle.call_parts.specs.Told.{FolderTold, folder_told}
use Rattle.port_run.specs.declared.dock_report.DockReport.{DockReport}
use Rattle.port_run.specs.declared.dock_report.Docked.{Docked}
use Rattle.port_run.specs.declared.synced.CableReport.{CableReport}
use Rattle.port_run.specs.declared.synced.Synced.{Synced}

-- what a port tells
pub record PortTold : Type 0 where
  pub given : Option (List (List ℕ))
  pub taken : Option (List ℕ)
  pub palm : Option Palm
  pub paths : Option (List (List ℕ))
  pub faults : ℕ

-- what the objects of a call tell before it, or after it, beside standard output
pub record SyncTold : Type 0 where
  pub port : PortTold
  pub desk : FolderTold
  pub trace : SinkTold

-- what a port tells, by the members of its trait
abbrev pub port_told : {P : Type 0} → PortMembers P → P → PortTold
port_told ports port = record {
  given = ports.given port;
  taken = ports.taken port;
  palm = ports.palm port;
  paths = ports.paths port;
  faults = ports.faults port;
}

-- what a folder tells, by the members of its trait
abbrev pub desk_told : {D : Type 0} → FolderMembers D → D → FolderTold
desk_told desks desk =
    folder_told desks.contents desks.moments desks.paths desks.faults desk

-- what the objects of a call with a handheld at a port tell before it, or after it
pub record DockTold : Type 0 where
  pub palm : FolderTold
  pub port : PortTold
  pub trace : SinkTold

-- what the objects of a call tell, by the members of their traits
abbrev pub sync_told : {P D T : Type 0} → PortMembers P → FolderMembers D → SinkMembers T
    → P → D → T → SyncTold
sync_told ports desks traces port desk trace = record {
  port = port_told ports port;
  desk = desk_told desks desk;
  trace = sink_told traces trace;
}

-- likewise of a call with a handheld at a port
abbrev pub dock_told : {H P T : Type 0} → FolderMembers H → PortMembers P → SinkMembers T
    → H → P → T → DockTold
dock_told palms ports traces palm port trace = record {
  palm = folder_told palms.contents palms.moments palms.paths palms.faults palm;
  port = port_told ports port;
  trace = sink_told traces trace;
}

-- ---- facts of calls

-- What is known of a session over a cable holds of its objects before it and after it, as the
-- members of their traits tell them, and of what it answered.
abbrev pub OfSync : (SyncTold → SyncTold → Status → CableReport → Type 0)
    → {P D T : Type 0} → PortMembers P → FolderMembers D → SinkMembers T
    → P → D → T → Synced P D → T → Type 0
OfSync Fact ports desks traces port desk trace synced written =
    Fact (sync_told ports desks traces port desk trace)
    (sync_told ports desks traces synced.port synced.desk written) synced.status synced.report

-- likewise of a call for one, with standard output, which comes last among the objects
abbrev pub OfSyncCall : (SyncTold → SyncTold → SinkTold → SinkTold → Status → CableReport → Type 0)
    → {P D T O : Type 0} → PortMembers P → FolderMembers D → SinkMembers T → SinkMembers O
    → P → D → T → O → Synced P D → T → O → Type 0
OfSyncCall Fact ports desks traces outs port desk trace out synced written said =
    Fact (sync_told ports desks traces port desk trace)
    (sync_told ports desks traces synced.port synced.desk written)
    (sink_told outs out) (sink_told outs said) synced.status synced.report

-- likewise of a talk of a handheld at a port
abbrev pub OfDock : (DockTold → DockTold → Status → DockReport → Type 0)
    → {H P T : Type 0} → FolderMembers H → PortMembers P → SinkMembers T
    → H → P → T → Docked H P → T → Type 0
OfDock Fact palms ports traces palm port trace docked written =
    Fact (dock_told palms ports traces palm port trace)
    (dock_told palms ports traces docked.device docked.port written) docked.status docked.report

-- likewise of a call for one
abbrev pub OfDockCall : (DockTold → DockTold → SinkTold → SinkTold → Status → DockReport → Type 0)
    → {H P T O : Type 0} → FolderMembers H → PortMembers P → SinkMembers T → SinkMembers O
    → H → P → T → O → Docked H P → T → O → Type 0
OfDockCall Fact palms ports traces outs palm port trace out docked written said =
    Fact (dock_told palms ports traces palm port trace)
    (dock_told palms ports traces docked.device docked.port written)
    (sink_told outs out) (sink_told outs said) docked.status docked.report
