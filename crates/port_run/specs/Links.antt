-- What was said and heard over the port of a session.
use Rattle.std.specs.Prelude.{◌≡◌, ◌≤◌, List, Option, Some, Result}
use Rattle.std.specs.Global.{Vec}
use Rattle.std.specs.Option.{option_map}
use Rattle.dlp_commands.specs.declared.link.LinkFault.{LinkFault}
use Rattle.hs_folders.specs.Causes.{Rose}
use Rattle.port_link.specs.Calls.{LeavesWith, LinkValue, Since, first_link}
use Rattle.port_link.specs.Logs.{EntryValue}
use Rattle.port_link.specs.declared.port_cause.PortCause.{PortCause}
use Rattle.port_link.specs.declared.port_cause.PortCause.TheVariants.{PortFailed}
use Rattle.port_link.specs.Causes.{link_fault}
use Rattle.session_parts.specs.declared.report.DbReport.{DbReport}
use Rattle.session_parts.specs.declared.stop.Stop.{Stop}
use Rattle.port_run.specs.Told.{PortTold}

-- a link over a port that tells this, before its first call
abbrev pub link_over : PortTold → LinkValue
link_over port = first_link port.given port.taken port.palm port.paths port.faults

-- what the port of a link tells
abbrev pub port_of : LinkValue → PortTold
port_of link = record {
  given = link.scene.given;
  taken = link.scene.taken;
  palm = link.scene.palm;
  paths = link.paths;
  faults = link.faults;
}

-- A link over a port made its calls, each with the events at it, up to this cause if there is one;
-- and where a handheld was greeted and nothing went wrong it lingered. All that was said and heard
-- is this. Where the port is the cause its count rose.
pub record LinkRan (before after : PortTold) (cause : Option PortCause) (log : List EntryValue)
    : Type 0 where
  pub last : LinkValue
  pub since : Since (link_over before) last
  pub leaves : LeavesWith last.begun last.cause last.scene after.given after.taken after.palm log
  pub cause_is : last.cause ≡ cause
  pub paths : after.paths ≡ before.paths
  pub later : before.faults ≤ after.faults
  pub failed : cause ≡ Some PortFailed → Rose before.faults after.faults

-- the fault of a link
abbrev pub fault_of_link : LinkValue → Option LinkFault
fault_of_link link = option_map link_fault link.cause

-- what a session's call answered, over a link that was this before it and is this behind it
pub record Answered : Type 0 where
  pub first : LinkValue
  pub last : LinkValue
  pub answer : Result (Vec DbReport) Stop

abbrev pub answered : LinkValue → LinkValue → Result (Vec DbReport) Stop → Answered
answered first last answer = record { first = first; last = last; answer = answer }
