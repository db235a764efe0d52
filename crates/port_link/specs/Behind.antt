-- What stands behind a port, where it is told, as events go on.
use Rattle.std.specs.Prelude.{◌≡◌, List, [], ◌∷◌, Option, Some, None}
use Rattle.port_laws.specs.Cables.{packets_of}
use Rattle.port_laws.specs.Palms.{Gives, HearsOf, IsTold, MovesOn, Palm}
use Rattle.port_line.specs.declared.port_fault.PortFault.{PortFault}
use Rattle.port_link.specs.declared.desk.Desk.{Desk}
use Rattle.port_link.specs.Desks.{Event, Awaits, Begins, Came, Read, reacts}

-- bytes come where the port is read
abbrev pub Comes : Event → Option Palm → Option Palm → Type 0
Comes (Awaits id) old new = new ≡ old
Comes (Begins id message) old new = new ≡ old
Comes (Came packet) old new = new ≡ old
Comes (Read bytes) old new = IsTold (Gives bytes) old new

-- and what the desktop's end says is on its way then
pub record PalmAt (desk : Desk) (event : Event) (old new : Option Palm) : Type 0 where
  pub between : Option Palm
  pub comes : Comes event old between
  pub hears : IsTold (HearsOf (packets_of (reacts desk event).said)) between new

-- a fault comes maybe
abbrev pub PalmEnds : Option PortFault → Option Palm → Option Palm → Type 0
PalmEnds None old new = new ≡ old
PalmEnds (Some fault) old new = IsTold MovesOn old new

-- one event after the other
abbrev pub PalmsGo : Option PortFault → Desk → List Event → Option Palm → Option Palm → Type 0
PalmsGo fault desk [] old new = PalmEnds fault old new
PalmsGo fault desk (event ∷ events) old new =
    (between : Option Palm) × PalmAt desk event old between
    × PalmsGo fault (reacts desk event).desk events between new
