-- A desktop's end: what it says at a message's beginning, to packets and to silence, and what it is
-- then (pilot-link's padp.c).
use Rattle.std.specs.Prelude.{ℕ, ◌-◌, Bool, true, false, List, [], ◌∷◌, nat_eq, is_some, if◌then◌else◌}
use Rattle.padp_end.specs.Arrivals.{Arrival, Drop, Tickle, Stop, Ack, Data, arrival_of}
use Rattle.padp_end.specs.Ends.{EndValue, end_begins, end_expects, end_takes, end_waits, first_end, is_spent}
use Rattle.padp_end.specs.Outgoings.{OutgoingFragment}
use Rattle.padp_end.specs.declared.heard.Heard.{Heard}
use Rattle.padp_end.specs.declared.heard.Heard.TheVariants as heard
use Rattle.padp_link.specs.Senders.{waiting}
use Rattle.slp_frames.specs.PacketText.{PacketValue}
use Rattle.port_link.specs.declared.desk.Desk.{Desk}
use Rattle.port_link.specs.declared.turn.Turn.{Turn}
use Rattle.port_link.specs.declared.turn.Turn.TheVariants as turn

-- A message of a transaction is awaited; one is begun; a packet came; the port was read, and gave
-- these bytes, or none for a tick of silence.
pub data Event : Type 0 where
  Awaits : ℕ → Event
  Begins : ℕ → List ℕ → Event
  Came : PacketValue → Event
  Read : List ℕ → Event

-- what a desktop's end says, what it is then, and what follows
pub record Reaction : Type 0 where
  pub said : List OutgoingFragment
  pub desk : Desk
  pub turn : Turn

-- a desktop's end before its first message: it bears thirty silent ticks
abbrev pub first_desk : Desk
first_desk = record { end = first_end; patience = 30; calm = 30 }

-- one that bears three
abbrev pub lingering : Desk → Desk
lingering desk = record { end = desk.end; patience = 3; calm = 3 }

abbrev pub with_end : Desk → EndValue → Desk
with_end desk end = record { end = end; patience = desk.patience; calm = desk.calm }

-- data under the transaction of greetings
abbrev pub is_greeting : Arrival → Bool
is_greeting Drop = false
is_greeting Tickle = false
is_greeting Stop = false
is_greeting (Ack key) = false
is_greeting (Data id fragment) = nat_eq id 255

-- what follows what an end heard of a packet
abbrev pub turn_of : Heard → PacketValue → Turn
turn_of heard.Nothing packet = if is_greeting (arrival_of packet) then turn.Greeted else turn.GoesOn
turn_of heard.Tickle packet = turn.GoesOn
turn_of heard.Delivered packet = turn.Delivered
turn_of heard.Message packet = turn.Whole
turn_of heard.Stop packet = turn.Aborted

-- to a packet: what the end says, and it has all its patience again
abbrev pub hearing : Desk → PacketValue → Reaction
hearing desk packet = record {
  said = (end_takes desk.end packet).said;
  desk = record {
    end = (end_takes desk.end packet).end;
    patience = desk.calm;
    calm = desk.calm;
  };
  turn = turn_of (end_takes desk.end packet).heard packet;
}

-- to silence while a piece of its own waits: that piece once more, until it had its ten tries
abbrev pub waiting_silence : Desk → Reaction
waiting_silence desk = record {
  said = (end_waits desk.end).0;
  desk = with_end desk (end_waits desk.end).1;
  turn = if is_spent desk.end then turn.Spent else turn.GoesOn;
}

-- to silence while none waits: nothing, and one tick off its patience
abbrev pub idle_silence : Desk → Reaction
idle_silence desk = record {
  said = [];
  desk = record { end = desk.end; patience = desk.patience - 1; calm = desk.calm };
  turn = if nat_eq (desk.patience - 1) 0 then turn.Silent else turn.Quiet;
}

abbrev pub silence : Desk → Reaction
silence desk =
    if is_some (waiting desk.end.sender) then waiting_silence desk else idle_silence desk

-- to what a read of the port gave
abbrev pub read_taken : Desk → List ℕ → Reaction
read_taken desk [] = silence desk
read_taken desk (byte ∷ bytes) = record { said = []; desk = desk; turn = turn.GoesOn }

abbrev pub reacts : Desk → Event → Reaction
reacts desk (Awaits id) =
    record { said = []; desk = with_end desk (end_expects desk.end id); turn = turn.GoesOn }
reacts desk (Begins id message) = record {
  said = (end_begins desk.end id message).0;
  desk = with_end desk (end_begins desk.end id message).1;
  turn = turn.GoesOn;
}
reacts desk (Came packet) = hearing desk packet
reacts desk (Read bytes) = read_taken desk bytes

-- what it is behind these events
abbrev pub desk_after : Desk → List Event → Desk
desk_after desk [] = desk
desk_after desk (event ∷ events) = desk_after (reacts desk event).desk events
