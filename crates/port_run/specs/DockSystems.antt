-- A call with a handheld at a port, over the folder, port, file and standard output of the system.
use Rattle.std.specs.Prelude.{◌&&◌, ◌≡◌, ℕ, Bool, List, Option, None, is_none}
use Rattle.run_words.specs.Docks.{Dock, begins_dock}
use Rattle.run_words.specs.Helps.{help_of}
use Rattle.cmd_status.specs.Codes.{code_of}
use Rattle.cmd_status.specs.Told.{SinkTold}
use Rattle.cmd_status.specs.declared.status.Status.{Status}
use Rattle.port_run.specs.Docks.{IsDockCall}
use Rattle.port_run.specs.Told.{DockTold}
use Rattle.port_run.specs.declared.dock_report.DockReport.{DockReport}

-- the words ask for a handheld at a port, and not for help
abbrev pub asks_dock : List (List ℕ) → Bool
asks_dock words = begins_dock words && is_none (help_of words)

-- objects that tell nothing of what they give, take or hold, as those of the system
pub record AreDockUntold (before : DockTold) (out : SinkTold) : Type 0 where
  pub palm : before.palm.contents ≡ None
  pub given : before.port.given ≡ None
  pub taken : before.port.taken ≡ None
  pub trace : before.trace.taken ≡ None
  pub printed : out.taken ≡ None

-- a call for this handheld, over such objects, ended with this exit status
pub record IsSystemDock (dock : Option Dock) (code : ℕ) : Type 0 where
  pub before : DockTold
  pub after : DockTold
  pub out : SinkTold
  pub out_after : SinkTold
  pub untold : AreDockUntold before out
  pub status : Status
  pub report : DockReport
  pub called : IsDockCall dock before after out out_after status report
  pub code_is : code ≡ code_of status
