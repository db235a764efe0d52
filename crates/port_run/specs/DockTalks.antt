-- A talk of a handheld at an opened port, and its trace.
use Rattle.std.specs.Prelude.{◌≡◌}
use Rattle.hs_folders.specs.Causes.{Rose}
use Rattle.palm_device.specs.Devices.{Device}
use Rattle.port_link.specs.Logs.{log_entries}
use Rattle.run_words.specs.Docks.{Dock}
use Rattle.cmd_status.specs.declared.status.Status.{Status}
use Rattle.cmd_status.specs.declared.status.Status.TheVariants.{HandheldFolder, PortFailed}
use Rattle.call_parts.specs.Traces.{TracesFrames}
use Rattle.port_run.specs.Docks.{HadDock}
use Rattle.port_run.specs.LogTexts.{dock_text}
use Rattle.port_run.specs.Told.{DockTold}
use Rattle.port_run.specs.declared.dock_report.DockReport.{DockReport}

-- a talk of this handheld, which was opened as its port and its trace were, whose trace was to be
-- written then
pub record HasDockTalk (dock : Dock) (device : Device) (before after : DockTold)
    (status : Status) (report : DockReport) : Type 0 where
  pub said : Status
  pub had : HadDock device before after said report
  pub traces : TracesFrames dock.trace (dock_text (log_entries report.log)) before.trace
      after.trace said status
  pub keeper : said ≡ HandheldFolder → Rose before.palm.faults after.palm.faults
  pub port : said ≡ PortFailed → Rose before.port.faults after.port.faults
  pub palm_paths : after.palm.paths ≡ before.palm.paths
  pub port_paths : after.port.paths ≡ before.port.paths
