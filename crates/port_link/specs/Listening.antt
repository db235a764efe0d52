-- A desktop's end listens for a message, or for the acknowledgement of its own.
use Rattle.std.specs.Prelude.{◌≡◌, ◌⊎◌, ℕ, Bool, true, false, List, [], ◌∷◌, length, None, Result, Ok, Err}
use Rattle.port_line.specs.declared.port_fault.PortFault.{PortFault}
use Rattle.port_link.specs.declared.awaited.Awaited.{Awaited}
use Rattle.port_link.specs.declared.awaited.Awaited.TheVariants.{Wake, Message, Delivery, Tick}
use Rattle.port_link.specs.declared.desk.Desk.{Desk}
use Rattle.port_link.specs.declared.turn.Turn.{Turn}
use Rattle.port_link.specs.declared.turn.Turn.TheVariants as then
use Rattle.port_link.specs.Courses.{Course, Happens, IsHeard, Scene}
use Rattle.port_link.specs.Desks.{Event, reacts}

-- how many events are waited for at most; fewer for a wake, since a port that talks without end is
-- no handheld's
abbrev pub most_events : Awaited → ℕ
most_events Wake = 65536
most_events Message = 1048576
most_events Delivery = 1048576
most_events Tick = 1048576

abbrev pub is_message : Awaited → Bool
is_message Wake = true
is_message Message = true
is_message Delivery = false
is_message Tick = false

abbrev pub is_reply : Awaited → Bool
is_reply Wake = false
is_reply Message = true
is_reply Delivery = false
is_reply Tick = false

abbrev pub is_delivery : Awaited → Bool
is_delivery Wake = false
is_delivery Message = false
is_delivery Delivery = true
is_delivery Tick = false

abbrev pub is_tick : Awaited → Bool
is_tick Wake = false
is_tick Message = false
is_tick Delivery = false
is_tick Tick = true

-- whether the listening is over where this follows
abbrev pub is_over : Awaited → Turn → Bool
is_over awaited then.GoesOn = false
is_over awaited then.Delivered = is_delivery awaited
is_over awaited then.Whole = is_message awaited
is_over awaited then.Quiet = is_tick awaited
is_over awaited then.Spent = true
is_over awaited then.Silent = true
is_over awaited then.Aborted = true
is_over awaited then.Greeted = is_reply awaited

-- these events come from outside, and behind each of them the listening goes on
abbrev pub GoesThrough : Awaited → Desk → List Event → Type 0
GoesThrough awaited desk [] = Unit {0}
GoesThrough awaited desk (event ∷ events) =
    IsHeard event × (is_over awaited (reacts desk event).turn ≡ false)
    × GoesThrough awaited (reacts desk event).desk events

-- the last event: the listening was over with it, or a fault came, or there were too many events
abbrev pub EndsWith : Awaited → ℕ → Result Turn PortFault → Scene → Scene → Type 0
EndsWith awaited count (Ok turn) old new =
    (Happens (Ok turn) old new × (is_over awaited turn ≡ true))
    ⊎ ((count ≡ most_events awaited) × (turn ≡ then.GoesOn) × (new ≡ old))
EndsWith awaited count (Err fault) old new = Happens (Err fault) old new

-- it listened up to this answer
pub record Listens (awaited : Awaited) (old new : Scene) (answer : Result Turn PortFault)
    : Type 0 where
  pub events : List Event
  pub between : Scene
  pub course : Course events None old between
  pub through : GoesThrough awaited old.desk events
  pub ends : EndsWith awaited (length events) answer between new
