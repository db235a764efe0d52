-- A desktop's end stands as it should over a handheld behind its port, from event to event.
use Rattle.std.proofs.Common.{◌≡◌, ℕ, List, [], ◌∷◌, inl, inr, sym, subst, ◌∙◌}
use Rattle.std.specs.Prelude.{Option, Some, None, is_some}
use Rattle.std.proofs.lemmas.Bool.{cases_Bool, cond-false, cond-true}
use Rattle.std.proofs.lemmas.List.{append-nil}
use Rattle.port_laws.specs.Cables.{packets_of}
use Rattle.padp_end.specs.Ends.{EndValue, end_takes}
use Rattle.padp_end.specs.Outgoings.{OutgoingFragment}
use Rattle.padp_link.specs.Senders.{waiting}
use Rattle.port_laws.proofs.DeskLaws.{desk_drops, desk_reads, desk_takes, desk_waits}
use Rattle.port_laws.proofs.MoveLaws.{moves_on}
use Rattle.port_laws.specs.Palms.{HearsOf, IsTold, Palm}
use Rattle.port_laws.specs.Talking.{Stage, Stands, with_said}
use Rattle.port_line.specs.declared.port_fault.PortFault.{PortFault}
use Rattle.slp_frames.specs.Histories.{Continues}
use Rattle.port_link.specs.declared.awaited.Awaited.{Awaited}
use Rattle.port_link.specs.declared.desk.Desk.{Desk}
use Rattle.port_link.specs.Answered.{AreHeard}
use Rattle.port_link.specs.Behind.{PalmAt, PalmEnds, PalmsGo}
use Rattle.port_link.specs.Courses.{Holds, HoldsNext, IsHeard}
use Rattle.port_link.specs.Desks.{Awaits, Begins, Came, Event, Reaction, Read, desk_after, idle_silence, reacts, silence, waiting_silence}
use Rattle.port_link.specs.Listening.{GoesThrough}

-- a palm is told, and all stands
pub record Stood (stage : Stage) (end : EndValue) (held : List ℕ) (told : Option Palm) : Type 0 where
  pub palm : Palm
  pub told_is : told ≡ Some palm
  pub stands : Stands stage end held palm

-- ---- what is said

-- nothing more is said
pub said_nothing : (stage : Stage) (end : EndValue) (held : List ℕ) (palm : Palm) → Stands stage end held palm → Stands stage end held (with_said palm [])
said_nothing stage end held palm stands = record {
  desk = stands.desk;
  hand = stands.hand;
  there = stands.there;
  back = stands.back;
  came = stands.came;
  cable = stands.cable;
  there_is = stands.there_is ∙ sym (append-nil palm.toward);
  back_is = stands.back_is;
  held_is = stands.held_is;
  part_open = stands.part_open;
  id_is = stands.id_is;
  at = stands.at;
}

-- it is on its way, and anything happens
pub hears_stood : (stage : Stage) (end : EndValue) (held : List ℕ) (palm : Palm) (said : List OutgoingFragment) (new : Option Palm)
    → Stands stage end held (with_said palm said) → IsTold (HearsOf (packets_of said)) (Some palm) new → Stood stage end held new
hears_stood stage end held palm said new stands hears = record {
  palm = hears.0;
  told_is = hears.2;
  stands = moves_on stage end held (with_said palm said) hears.0 stands hears.1;
}

pub told_as : (Goes : Palm → Palm → Type 0) {old new : Option Palm} (palm : Palm) → old ≡ Some palm → IsTold Goes old new → IsTold Goes (Some palm) new
told_as Goes {old} {new} palm is told = subst (λ (o : Option Palm). IsTold Goes o new) is told

-- ---- one event

-- what silence says stands
silence_stands : (stage : Stage) (desk : Desk) (held : List ℕ) (palm : Palm) → Stands stage desk.end held palm
    → Stands stage (silence desk).desk.end held (with_said palm (silence desk).said)
silence_stands stage desk held palm stands = elim (cases_Bool (is_some (waiting desk.end.sender))) [
  | inl waits ↦ subst (λ (r : Reaction). Stands stage r.desk.end held (with_said palm r.said))
      (sym (cond-true (is_some (waiting desk.end.sender)) (waiting_silence desk) (idle_silence desk) waits)) (desk_waits stage desk.end held palm stands)
  | inr idle ↦ subst (λ (r : Reaction). Stands stage r.desk.end held (with_said palm r.said))
      (sym (cond-false (is_some (waiting desk.end.sender)) (waiting_silence desk) (idle_silence desk) idle))
      (said_nothing stage desk.end held palm stands)
]

read_stands : (stage : Stage) (desk : Desk) (bytes held : List ℕ) (palm : Palm) → Stands stage desk.end held palm
    → Stands stage (reacts desk (Read bytes)).desk.end held (with_said palm (reacts desk (Read bytes)).said)
read_stands stage desk [] held palm stands = silence_stands stage desk held palm stands
read_stands stage desk (byte ∷ bytes) held palm stands = said_nothing stage desk.end held palm stands

pub event_stood : (stage : Stage) (desk : Desk) (event : Event) (held now : List ℕ) (old : Palm) (new : Option Palm) → IsHeard event
    → Stands stage desk.end held old → HoldsNext held event now → PalmAt desk event (Some old) new → Stood stage (reacts desk event).desk.end now new
event_stood stage desk (Awaits id) held now old new heard stands holds at = absurd heard
event_stood stage desk (Begins id message) held now old new heard stands holds at = absurd heard
event_stood stage desk (Came packet) held now old new heard stands holds at =
    hears_stood stage (end_takes desk.end packet).end now old (end_takes desk.end packet).said new (desk_takes stage desk.end held now old packet stands holds).stands
    (told_as _ old at.comes at.hears)
event_stood stage desk (Read bytes) held now old new heard stands holds at =
    let palm = at.comes.0 in
    let came = desk_reads stage desk.end held now bytes old palm stands holds.0 at.comes.1 holds.1 in
    hears_stood stage (reacts desk (Read bytes)).desk.end now palm (reacts desk (Read bytes)).said new (read_stands stage desk bytes now palm came)
    (told_as _ palm at.comes.2 at.hears)

-- ---- all events

pub ends_stood : (fault : Option PortFault) (stage : Stage) (end : EndValue) (held now : List ℕ) (old : Palm) (new : Option Palm) → Stands stage end held old
    → Continues held [] now → PalmEnds fault (Some old) new → Stood stage end now new
ends_stood None stage end held now old new stands goes ends =
    record { palm = old; told_is = ends; stands = desk_drops stage end held now old stands goes }
ends_stood (Some fault) stage end held now old new stands goes ends =
    record { palm = ends.0; told_is = ends.2; stands = moves_on stage end now old ends.0 (desk_drops stage end held now old stands goes) ends.1 }

pub events_stood : (fault : Option PortFault) (stage : Stage) (desk : Desk) (events : List Event) (held now : List ℕ) (old new : Option Palm)
    → AreHeard events → Stood stage desk.end held old → Holds held events now → PalmsGo fault desk events old new
    → Stood stage (desk_after desk events).end now new
events_stood fault stage desk [] held now old new heard stood holds go =
    ends_stood fault stage desk.end held now stood.palm new stood.stands holds
    (subst (λ (o : Option Palm). PalmEnds fault o new) stood.told_is go)
events_stood fault stage desk (event ∷ events) held now old new heard stood holds go =
    events_stood fault stage (reacts desk event).desk events holds.0 now go.0 new heard.1
    (event_stood stage desk event held holds.0 stood.palm go.0 heard.0 stood.stands holds.1
    (subst (λ (o : Option Palm). PalmAt desk event o go.0) stood.told_is go.1))
    holds.2 go.2

pub through_heard : (awaited : Awaited) (desk : Desk) (events : List Event) → GoesThrough awaited desk events → AreHeard events
through_heard awaited desk [] through = tt
through_heard awaited desk (event ∷ events) through = (through.0, through_heard awaited (reacts desk event).desk events through.2)
