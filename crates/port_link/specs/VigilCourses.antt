-- How a handheld's end, its reader and its port go on over events.
use Rattle.std.specs.Prelude.{◌≡◌, ℕ, List, ◌++◌, Option, None}
use Rattle.std.specs.Option.{option_map}
use Rattle.device_stream.specs.Courses.{BeginsWith}
use Rattle.device_stream.specs.Laws.{DidNothing}
use Rattle.padp_end.specs.Outgoings.{OutgoingFragment}
use Rattle.port_link.specs.Courses.{Holds, Tells, reads_of}
use Rattle.port_link.specs.Desks.{Event}
use Rattle.port_link.specs.Logs.{EntryValue, heard_entries, said_entries, speech}
use Rattle.port_link.specs.declared.port_end.PortEnd.{PortEnd}
use Rattle.port_link.specs.Ends.{IsLong, IsOver, IsSudden, fault_of}
use Rattle.port_link.specs.Vigils.{GoesOnBehind, Step, StepsOn, StepsTo, Vigil}

-- what the port gave and took, where it tells it, the bytes that the reader holds, the hand, and
-- all that was said and heard
pub record Scene : Type 0 where
  pub given : Option (List (List ℕ))
  pub taken : Option (List ℕ)
  pub held : List ℕ
  pub vigil : Vigil
  pub log : List EntryValue

abbrev pub scene : Option (List (List ℕ)) → Option (List ℕ) → List ℕ → Vigil → List EntryValue
    → Scene
scene given taken held vigil log =
    record { given = given; taken = taken; held = held; vigil = vigil; log = log }

-- these events came and were taken, and it went on behind each
pub record GoesOn (events : List Event) (old new : Scene) : Type 0 where
  pub holds : Holds old.held events new.held
  pub given : new.given ≡ option_map (λ given. given ++ reads_of events) old.given
  pub kept : List EntryValue
  pub steps : StepsOn old.vigil events kept new.vigil
  pub tells : Tells None old.taken new.taken old.log new.log kept

-- one event was taken, and it goes on: what came and what was said to it was kept, and written
pub record HasStepped (event : Event) (old new : Vigil) (taken taken' : Option (List ℕ))
    (log log' : List EntryValue) : Type 0 where
  pub said : List OutgoingFragment
  pub step : Step old event said new
  pub on : GoesOnBehind old event new
  pub tells : Tells None taken taken' log log' (heard_entries event ++ said_entries said)

-- It ended so while these events came: the first of them were taken, and where one behind these was
-- begun, no request was performed by it.
pub record Stops (end : PortEnd) (came : List Event) (old new : Vigil)
    (taken taken' : Option (List ℕ)) (log log' : List EntryValue) : Type 0 where
  pub events : List Event
  pub first : BeginsWith came events
  pub kept : List EntryValue
  pub vigil : Vigil
  pub steps : StepsTo old events kept vigil
  pub tells : Tells (fault_of end) taken taken' log log' kept
  pub same : DidNothing vigil.hand new.hand
  pub over : IsOver end vigil
  pub sudden : IsSudden end

-- what came over the port: packets, bytes and ticks; the first of these, which were taken; what was
-- said and heard at them; and the hand then
pub record Course : Type 0 where
  pub came : List Event
  pub events : List Event
  pub kept : List EntryValue
  pub vigil : Vigil

-- it said this text first, then went on over events, behind each but the last, and ended so
pub record GoesOut (text : List ℕ) (end : PortEnd) (old new : Scene) : Type 0 where
  pub course : Course
  pub holds : Holds old.held course.came new.held
  pub gave : new.given ≡ option_map (λ given. given ++ reads_of course.came) old.given
  pub first : BeginsWith course.came course.events
  pub steps : StepsTo old.vigil course.events course.kept course.vigil
  pub tells : Tells (fault_of end) old.taken new.taken old.log new.log
      (speech text ++ course.kept)
  pub same : DidNothing course.vigil.hand new.vigil.hand
  pub over : IsOver end course.vigil
  pub long : IsLong end course.came
