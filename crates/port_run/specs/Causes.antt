-- The status of a session over a cable, by why it stopped.
use Rattle.std.specs.Prelude.{Option, None, Some}
use Rattle.desktop_session.specs.declared.fault.SessionFault.{SessionFault}
use Rattle.desktop_session.specs.declared.fault.SessionFault.TheVariants as session
use Rattle.port_link.specs.declared.port_cause.PortCause.{PortCause}
use Rattle.port_link.specs.declared.port_cause.PortCause.TheVariants as cause
use Rattle.session_parts.specs.declared.stop.Stop.{Stop}
use Rattle.session_parts.specs.declared.stop.Stop.TheVariants as stop
use Rattle.trace_text.specs.declared.frame.End.TheVariants.{Desktop}
use Rattle.cmd_status.specs.declared.status.Status.{Status}
use Rattle.cmd_status.specs.declared.status.Status.TheVariants.{PortFailed, NoHandheld, LineDown, LineSilent, PeerAborted, PeerBeganAnew, LineEndless, NoMemory}
use Rattle.cmd_status.specs.declared.status.Status.TheVariants.{OtherUser, TooManyUsers, Limit, NewHandheld, DesktopFolder, Refused, BadReply}

-- of one whose link answers no more
abbrev pub down_status : Option PortCause → Status
down_status None = NoMemory
down_status (Some cause.PortFailed) = PortFailed
down_status (Some cause.NoHandheld) = NoHandheld
down_status (Some cause.LineDown) = LineDown Desktop
down_status (Some cause.LineSilent) = LineSilent
down_status (Some cause.Aborted) = PeerAborted
down_status (Some cause.BeganAnew) = PeerBeganAnew
down_status (Some cause.TooLong) = LineEndless
down_status (Some cause.NoMemory) = NoMemory

-- of one that stopped for what a call of it answered; a refusal and a reply that can't be read are
-- told with the function of their request
abbrev pub fault_status : Option PortCause → SessionFault → Status
fault_status cause session.Down = down_status cause
fault_status cause (session.OtherUser handheld desktop) = OtherUser handheld desktop
fault_status cause session.TooManyUsers = TooManyUsers
fault_status cause (session.Refused function code) = Refused function code
fault_status cause (session.BadReply function broken) = BadReply function
fault_status cause session.NoMemory = NoMemory

-- of one that stopped
abbrev pub stop_status : Option PortCause → Stop → Status
stop_status cause (stop.Session fault) = fault_status cause fault
stop_status cause (stop.Limit name) = Limit name
stop_status cause (stop.NewHandheld name) = NewHandheld name
stop_status cause stop.DeskFault = DesktopFolder
