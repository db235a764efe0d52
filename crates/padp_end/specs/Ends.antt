-- An end that sends messages and takes them, and what it says to a packet, to silence, and at a
-- message's beginning (pilot-link's padp.c).
use Rattle.std.specs.Prelude.{ℕ, ◌+◌, Bool, true, false, ◌&&◌, nat_eq, List, [], ◌∷◌, ◌++◌, length, Option, Some, None, is_some, if◌then◌else◌}
use Rattle.slp_frames.specs.PacketText.{PacketValue}
use Rattle.padp_link.specs.declared.piece.Key.{Key}
use Rattle.padp_link.specs.declared.piece.Piece.{Piece}
use Rattle.padp_link.specs.FragmentText.{FragmentValue, has_flag}
use Rattle.padp_link.specs.Numbers.{first_flag, last_flag}
use Rattle.padp_link.specs.Pieces.{key_of, piece_count}
use Rattle.padp_link.specs.Receivers.{ReceiverValue, is_complete, is_next, with_piece}
use Rattle.padp_link.specs.Senders.{SenderValue, waiting, waiting_key}
use Rattle.trace_text.specs.Past.{same_key}
use Rattle.padp_end.specs.Arrivals.{Arrival, Drop, Tickle, Stop, Ack, Data, arrival_of}
use Rattle.padp_end.specs.Outgoings.{OutgoingFragment, acknowledgement, pieces_said}
use Rattle.padp_end.specs.declared.heard.Heard.{Heard}
use Rattle.padp_end.specs.declared.heard.Heard.TheVariants as heard

-- what it takes, what it sends, and the message that it sends
pub record EndValue : Type 0 where
  pub receiver : ReceiverValue
  pub sender : SenderValue
  pub message : List ℕ

-- what an end says, what it heard, and the end then
pub record Answer : Type 0 where
  pub said : List OutgoingFragment
  pub heard : Heard
  pub end : EndValue

-- it says nothing and stays
abbrev pub silent : EndValue → Heard → Answer
silent end hears = record { said = []; heard = hears; end = end }

-- ---- an acknowledgement

-- the key is this one, if there is one
abbrev pub is_key : Option Key → Key → Bool
is_key None key = false
is_key (Some expected) key = same_key expected key

-- the key of a piece that is first and last of its message
abbrev pub is_only : Key → Bool
is_only key = nat_eq key.flags (first_flag + last_flag)

-- An acknowledgement with this key is of the piece that waits. Where that piece is all of its
-- message its transaction tells, and of a piece of a longer one the whole key does.
abbrev pub is_acked : Option Key → Key → Bool
is_acked None key = false
is_acked (Some expected) key =
    if is_only expected then nat_eq expected.id key.id else same_key expected key

-- the end, one piece of whose message more is acknowledged
abbrev pub with_next : EndValue → EndValue
with_next end = record end {
  sender = record end.sender {
    acknowledged = end.sender.acknowledged + 1;
    tries = 1;
  };
}

-- its message is over where no piece waits
abbrev pub heard_behind : Option Piece → Heard
heard_behind None = heard.Delivered
heard_behind (Some piece) = heard.Nothing

-- the piece that waits goes, or the message is over
abbrev pub goes_on_with : EndValue → Answer
goes_on_with end = record {
  said = pieces_said end.message (waiting end.sender);
  heard = heard_behind (waiting end.sender);
  end = end;
}

-- an acknowledgement counts where it is of the piece that waits
abbrev pub ack_taken : EndValue → Key → Answer
ack_taken end key =
    if is_acked (waiting_key end.sender) key then goes_on_with (with_next end)
    else silent end heard.Nothing

-- ---- data

-- a fragment may be taken where nothing waits, or where a last piece waits and it is a first one:
-- it answers that piece's message
abbrev pub is_ready : Option Piece → FragmentValue → Bool
is_ready None fragment = true
is_ready (Some piece) fragment =
    has_flag last_flag piece.key.flags && has_flag first_flag fragment.flags

-- a sender whose message was answered
abbrev pub with_answer_at : SenderValue → Option Piece → SenderValue
with_answer_at sender None = sender
with_answer_at sender (Some piece) = record sender { acknowledged = piece_count sender.length }

abbrev pub with_answer : SenderValue → SenderValue
with_answer sender = with_answer_at sender (waiting sender)

-- the end that took a next piece
abbrev pub with_part : EndValue → ℕ → FragmentValue → EndValue
with_part end id fragment = record {
  receiver = with_piece end.receiver id fragment;
  sender = with_answer end.sender;
  message = end.message;
}

-- the message is whole with this piece, or it isn't yet
abbrev pub heard_with : ReceiverValue → FragmentValue → Heard
heard_with receiver fragment =
    if is_complete (receiver.pieces ++ fragment ∷ []) then heard.Message else heard.Nothing

-- a fragment that is no repeat: it is taken and acknowledged where it is the next one and may be
-- taken, and else nothing at all is said
abbrev pub new_taken : EndValue → ℕ → FragmentValue → Answer
new_taken end id fragment =
    if is_ready (waiting end.sender) fragment && is_next end.receiver id fragment
    then record {
      said = acknowledgement (key_of id fragment) ∷ [];
      heard = heard_with end.receiver fragment;
      end = with_part end id fragment;
    }
    else silent end heard.Nothing

-- a fragment with the key of the last one that was taken is acknowledged once more
abbrev pub data_taken : EndValue → ℕ → FragmentValue → Answer
data_taken end id fragment =
    if is_key end.receiver.last (key_of id fragment)
    then record {
      said = acknowledgement (key_of id fragment) ∷ [];
      heard = heard.Nothing;
      end = end;
    }
    else new_taken end id fragment

-- ---- a packet, silence, a message

abbrev pub arrival_taken : EndValue → Arrival → Answer
arrival_taken end Drop = silent end heard.Nothing
arrival_taken end Tickle = silent end heard.Tickle
arrival_taken end Stop = silent end heard.Stop
arrival_taken end (Ack key) = ack_taken end key
arrival_taken end (Data id fragment) = data_taken end id fragment

-- what it says to a packet
abbrev pub end_takes : EndValue → PacketValue → Answer
end_takes end packet = arrival_taken end (arrival_of packet)

-- a piece was sent as often as a piece is, and waits
abbrev pub is_spent : EndValue → Bool
is_spent end = is_some (waiting end.sender) && nat_eq end.sender.tries 10

-- the piece that waits goes once more
abbrev pub tried_again : EndValue → Option Piece → List OutgoingFragment × EndValue
tried_again end None = ([], end)
tried_again end (Some piece) =
    if nat_eq end.sender.tries 10 then ([], end)
    else (
      pieces_said end.message
          (Some piece),
      record end { sender = record end.sender { tries = end.sender.tries + 1 } },
    )

-- what it says to silence: the piece that waits, unless it had its ten tries
abbrev pub end_waits : EndValue → List OutgoingFragment × EndValue
end_waits end = tried_again end (waiting end.sender)

-- the end with a message of this transaction, whose first piece waits
abbrev pub with_message : EndValue → ℕ → List ℕ → EndValue
with_message end id message = record {
  receiver = end.receiver;
  sender = record { id = id; length = length message; acknowledged = 0; tries = 1 };
  message = message;
}

-- what it says at a message's beginning: its first piece
abbrev pub end_begins : EndValue → ℕ → List ℕ → List OutgoingFragment × EndValue
end_begins end id message = (
  pieces_said message
      (waiting (with_message end id message).sender),
  with_message end id message,
)

-- the end that awaits a message of this transaction
abbrev pub end_expects : EndValue → ℕ → EndValue
end_expects end id = record end {
  receiver = record {
    awaited = Some id;
    pieces = [];
    last = end.receiver.last;
  };
}

-- the end before its first message
abbrev pub first_end : EndValue
first_end = record {
  receiver = record { awaited = None; pieces = []; last = None };
  sender = record { id = 0; length = 0; acknowledged = 1; tries = 0 };
  message = [];
}
