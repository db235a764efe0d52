-- How a handheld's end at a port ends.
use Rattle.std.specs.Prelude.{◌≡◌, ⊤, ℕ, true, List, length, Option, Some, None}
use Rattle.device_stream.specs.declared.talk_end.TalkEnd.{TalkEnd}
use Rattle.device_stream.specs.declared.talk_end.TalkEnd.TheVariants as talk
use Rattle.handheld_server.specs.declared.fault.ServeFault.{ServeFault}
use Rattle.handheld_server.specs.declared.fault.ServeFault.TheVariants as serve
use Rattle.padp_end.specs.Ends.{is_spent}
use Rattle.port_line.specs.declared.port_fault.PortFault.{PortFault}
use Rattle.port_line.specs.declared.port_fault.PortFault.TheVariants as port
use Rattle.port_link.specs.Desks.{Event}
use Rattle.port_link.specs.declared.port_end.PortEnd.{PortEnd}
use Rattle.port_link.specs.declared.port_end.PortEnd.TheVariants.{Ended, PortFailed, Keeper, LineDown, LineSilent, Aborted, BadHello, TooLong, NoMemory}
use Rattle.port_link.specs.Vigils.{Vigil}

-- a request that wasn't served
abbrev pub end_of_fault : ServeFault → PortEnd
end_of_fault serve.Keeper = Keeper
end_of_fault serve.NoMemory = NoMemory

-- a port that refused
abbrev pub end_of_port : PortFault → PortEnd
end_of_port port.Failed = PortFailed
end_of_port port.NoMemory = NoMemory

-- a talk that is over
abbrev pub end_of_talk : TalkEnd → PortEnd
end_of_talk talk.Ended = Ended
end_of_talk talk.Aborted = Aborted
end_of_talk talk.BadHello = BadHello

-- what kept it from keeping or saying all, if anything did
abbrev pub fault_of : PortEnd → Option PortFault
fault_of PortFailed = Some port.Failed
fault_of NoMemory = Some port.NoMemory
fault_of Ended = None
fault_of Keeper = None
fault_of LineDown = None
fault_of LineSilent = None
fault_of Aborted = None
fault_of BadHello = None
fault_of TooLong = None

-- a talk goes on, and the piece that waits had its ten tries
pub record IsDown (vigil : Vigil) : Type 0 where
  pub going : vigil.hand.over ≡ None
  pub spent : is_spent vigil.hand.end ≡ true

-- a talk goes on, and it bears no tick more
pub record IsOut (vigil : Vigil) : Type 0 where
  pub going : vigil.hand.over ≡ None
  pub patience : vigil.patience ≡ 0

-- what it is where it ends so
abbrev pub IsOver : PortEnd → Vigil → Type 0
IsOver Ended vigil = vigil.hand.over ≡ Some talk.Ended
IsOver Aborted vigil = vigil.hand.over ≡ Some talk.Aborted
IsOver BadHello vigil = vigil.hand.over ≡ Some talk.BadHello
IsOver LineDown vigil = IsDown vigil
IsOver LineSilent vigil = IsOut vigil
IsOver Keeper vigil = vigil.hand.over ≡ None
IsOver TooLong vigil = vigil.hand.over ≡ None
IsOver PortFailed vigil = ⊤
IsOver NoMemory vigil = ⊤

-- how many events it waits for at most
abbrev pub most_events : ℕ
most_events = 67108865

-- it ends as one that waited too long only behind so many
abbrev pub IsLong : PortEnd → List Event → Type 0
IsLong TooLong came = length came ≡ most_events
IsLong Ended came = ⊤
IsLong PortFailed came = ⊤
IsLong Keeper came = ⊤
IsLong LineDown came = ⊤
IsLong LineSilent came = ⊤
IsLong Aborted came = ⊤
IsLong BadHello came = ⊤
IsLong NoMemory came = ⊤

-- what ends it at one event
abbrev pub IsSudden : PortEnd → Type 0
IsSudden TooLong = ⊥
IsSudden Ended = ⊤
IsSudden PortFailed = ⊤
IsSudden Keeper = ⊤
IsSudden LineDown = ⊤
IsSudden LineSilent = ⊤
IsSudden Aborted = ⊤
IsSudden BadHello = ⊤
IsSudden NoMemory = ⊤
