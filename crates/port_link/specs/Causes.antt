-- Why a link over a port answers no more.
use Rattle.std.specs.Prelude.{ℕ, Option, Some, None, Result, Ok, Err}
use Rattle.dlp_commands.specs.declared.link.LinkFault.{LinkFault}
use Rattle.dlp_commands.specs.declared.link.LinkFault.TheVariants as link
use Rattle.port_line.specs.declared.port_fault.PortFault.{PortFault}
use Rattle.port_line.specs.declared.port_fault.PortFault.TheVariants as port
use Rattle.port_link.specs.declared.port_cause.PortCause.{PortCause}
use Rattle.port_link.specs.declared.port_cause.PortCause.TheVariants.{PortFailed, NoHandheld, LineDown, LineSilent, Aborted, BeganAnew, TooLong, NoMemory}
use Rattle.port_link.specs.declared.turn.Turn.{Turn}
use Rattle.port_link.specs.declared.turn.Turn.TheVariants as then

-- why what was awaited didn't come, if it didn't
abbrev pub cause_of : Result Turn PortFault → Option PortCause
cause_of (Ok then.Delivered) = None
cause_of (Ok then.Whole) = None
cause_of (Ok then.GoesOn) = Some TooLong
cause_of (Ok then.Quiet) = Some TooLong
cause_of (Ok then.Spent) = Some LineDown
cause_of (Ok then.Silent) = Some LineSilent
cause_of (Ok then.Aborted) = Some Aborted
cause_of (Ok then.Greeted) = Some BeganAnew
cause_of (Err port.Failed) = Some PortFailed
cause_of (Err port.NoMemory) = Some NoMemory

-- the same of a wake: where none came, or something else without end, there is no handheld
abbrev pub waking_cause : Result Turn PortFault → Option PortCause
waking_cause (Ok then.Silent) = Some NoHandheld
waking_cause (Ok then.GoesOn) = Some NoHandheld
waking_cause answer = cause_of answer

-- what a link answers for it
abbrev pub link_fault : PortCause → LinkFault
link_fault NoMemory = link.NoMemory
link_fault PortFailed = link.Down
link_fault NoHandheld = link.Down
link_fault LineDown = link.Down
link_fault LineSilent = link.Down
link_fault Aborted = link.Down
link_fault BeganAnew = link.Down
link_fault TooLong = link.Down

-- how often a link went down that answers this
abbrev pub downs_of : Option LinkFault → ℕ
downs_of None = 0
downs_of (Some link.NoMemory) = 0
downs_of (Some link.Down) = 1
