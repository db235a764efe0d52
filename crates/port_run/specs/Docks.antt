-- What holds of every call with a handheld at a port, whatever stands at the other end.
use Rattle.std.specs.Prelude.{◌≡◌, ◌⊎◌, [], length, Option, None, Some, IfSome}
use Rattle.hs_folders.specs.Causes.{Rose}
use Rattle.hs_folders.specs.FileMaps.{FileMap}
use Rattle.palm_device.specs.Devices.{Device}
use Rattle.palm_device.specs.Handles.{no_handles}
use Rattle.handheld_files.specs.Openings.{HoldsAll}
use Rattle.line_world.specs.Logs.{texts}
use Rattle.device_stream.specs.Hands.{Hand}
use Rattle.port_link.specs.VigilCourses.{Course}
use Rattle.port_link.specs.Runs.{IsPortRun}
use Rattle.port_link.specs.declared.port_end.PortEnd.{PortEnd}
use Rattle.port_link.specs.declared.port_end.PortEnd.TheVariants as ends
use Rattle.port_link.specs.Logs.{log_entries}
use Rattle.run_words.specs.Docks.{Dock}
use Rattle.trace_text.specs.declared.frame.End.TheVariants as end
use Rattle.cmd_status.specs.Opening.{OpensAtMost, OpensGivenAtMost}
use Rattle.cmd_status.specs.Printed.{IsPrinted, IsPrintedStatus}
use Rattle.hotsync_looks.specs.Misuses.{IsMisuse}
use Rattle.hotsync_looks.specs.Served.{served_lines}
use Rattle.cmd_status.specs.Told.{SinkTold}
use Rattle.cmd_status.specs.declared.status.Status.{Status}
use Rattle.cmd_status.specs.declared.status.Status.TheVariants.{Done, PortFailed, HandheldFolder, InUse, LineDown, LineSilent, LineEndless, StreamAborted, BadHello, TraceWrite, NoMemory}
use Rattle.call_parts.specs.Causes.{IsTracedStatus}
use Rattle.call_parts.specs.Stays.{WentWith}
use Rattle.call_parts.specs.Refusals.{HandheldRefuses, HasHandheld, TraceRefuses}
use Rattle.call_parts.specs.Stays.{StaysAsItWas}
use Rattle.call_parts.specs.Traces.{TakesTrace}
use Rattle.port_run.specs.LogTexts.{dock_text}
use Rattle.port_run.specs.Refusals.{IsPortRefusal}
use Rattle.port_run.specs.Talks.{StaysUnsaid}
use Rattle.port_run.specs.Told.{DockTold}
use Rattle.port_run.specs.declared.dock_report.DockReport.{DockReport}

-- nothing was said over the port, and nothing was performed
pub record IsIdle (report : DockReport) : Type 0 where
  pub performed : report.performed.items ≡ []
  pub replies : report.replies.items ≡ []
  pub log : report.log.items ≡ []

-- ---- no talk was begun

-- the handheld's folder is judged first, then the port is opened, and last the trace
abbrev pub IsUndocked : Dock → Option FileMap → Status → Type 0
IsUndocked dock held refusal =
    HandheldRefuses held refusal
    ⊎ (HasHandheld held × (IsPortRefusal refusal ⊎ TraceRefuses dock.trace refusal))

-- One of them is refused, in this order: nothing was said or heard, the handheld's folder was only
-- read, and the trace took nothing.
pub record StoodIdle (dock : Dock) (before after : DockTold) (status : Status)
    (report : DockReport) : Type 0 where
  pub judged : IsUndocked dock before.palm.contents status
  pub idle : IsIdle report
  pub handheld : StaysAsItWas before.palm after.palm
  pub port : StaysUnsaid before.port after.port
  pub trace : after.trace.taken ≡ before.trace.taken

-- ---- a talk

-- the status of a talk that ended so
abbrev pub dock_status : PortEnd → Status
dock_status ends.Ended = Done
dock_status ends.PortFailed = PortFailed
dock_status ends.Keeper = HandheldFolder
dock_status ends.LineDown = LineDown end.Handheld
dock_status ends.LineSilent = LineSilent
dock_status ends.Aborted = StreamAborted
dock_status ends.BadHello = BadHello
dock_status ends.TooLong = LineEndless
dock_status ends.NoMemory = NoMemory

-- a report of what a hand performed and replied
pub record TellsDock (hand : Hand) (report : DockReport) : Type 0 where
  pub performed : texts report.performed.items ≡ hand.performed
  pub replies : texts report.replies.items ≡ hand.replies

-- A talk of this handheld at a port: how it ended, what came and was said until then, what is told
-- of it, and what became of the folder. The port took what the handheld says to what came.
pub record HadDock (device : Device) (before after : DockTold) (said : Status)
    (report : DockReport) : Type 0 where
  pub end : PortEnd
  pub said_is : said ≡ dock_status end
  pub course : Course
  pub run : IsPortRun device before.port.given after.port.given before.port.taken
      after.port.taken (log_entries report.log) end course
  pub tells : TellsDock course.vigil.hand report
  pub went : WentWith device course.vigil.hand before.palm after.palm

-- the handheld before it, and all that is known of its talk and of its trace
pub record HasServed (dock : Dock) (before after : DockTold) (status : Status)
    (report : DockReport) : Type 0 where
  pub device : Device
  pub handheld : IfSome before.palm.contents (λ held. HoldsAll held device.databases device.user)
  pub closed : device.handles ≡ no_handles
  pub said : Status
  pub had : HadDock device before after said report
  pub status_is : IsTracedStatus said status
  pub traced : TakesTrace dock.trace (dock_text (log_entries report.log)) before.trace after.trace
      status

-- ---- every call

-- a status that blames an object shows that object's count rise
pub record BlamesByCount (before after : DockTold) (status : Status) : Type 0 where
  pub handheld : status ≡ HandheldFolder → Rose before.palm.faults after.palm.faults
  pub in_use : status ≡ InUse end.Handheld → Rose before.palm.faults after.palm.faults
  pub port : status ≡ PortFailed → Rose before.port.faults after.port.faults
  pub trace : status ≡ TraceWrite → Rose before.trace.faults after.trace.faults

-- each object was opened at the path that the words give it, or not at all
pub record OpensDock (dock : Dock) (before after : DockTold) : Type 0 where
  pub handheld : OpensAtMost dock.handheld before.palm.paths after.palm.paths
  pub port : OpensAtMost dock.port before.port.paths after.port.paths
  pub trace : OpensGivenAtMost dock.trace before.trace.paths after.trace.paths

-- what is known of a call before its lines are printed: nothing was said, or it had its talk
pub record HasDocked (dock : Dock) (before after : DockTold) (status : Status)
    (report : DockReport) : Type 0 where
  pub shown : StoodIdle dock before after status report
      ⊎ HasServed dock before after status report
  pub opened : OpensDock dock before after
  pub blames : BlamesByCount before after status

-- What is known of a call: this of a status, and that standard output took exactly the lines of the
-- one that stands once they were to be printed.
pub record IsDock (dock : Dock) (before after : DockTold) (out out_after : SinkTold)
    (status : Status) (report : DockReport) : Type 0 where
  pub found : Status
  pub ran : HasDocked dock before after found report
  pub status_is : IsPrintedStatus found status
  pub printed : IsPrinted (λ text. text ≡ served_lines (length report.performed.items))
      out out_after status

-- words out of the form give the usage line, with the word at fault behind it where it is named,
-- and nothing is done
pub record IsNoDock (before after : DockTold) (out out_after : SinkTold) (status : Status)
    (report : DockReport) : Type 0 where
  pub ended : IsMisuse status ⊎ (status ≡ NoMemory)
  pub same : after ≡ before
  pub idle : IsIdle report
  pub printed : IsPrinted (λ text. ⊥) out out_after status

-- what is known of a call, by what its words ask for
abbrev pub IsDockCall : Option Dock → DockTold → DockTold → SinkTold → SinkTold → Status
    → DockReport → Type 0
IsDockCall None before after out out_after status report =
    IsNoDock before after out out_after status report
IsDockCall (Some dock) before after out out_after status report =
    IsDock dock before after out out_after status report
