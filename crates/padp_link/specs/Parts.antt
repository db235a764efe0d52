-- What a receiver and a sender hold, as plain parts, and what is made of such parts.
use Rattle.std.specs.Prelude.{◌≡◌, ◌*◌, min, Bool, not, ◌&&◌, ◌||◌, nat_eq, nat_le, length}
use Rattle.padp_link.specs.Collecting.{taken_pieces}
use Rattle.padp_link.specs.Numbers.{max_data}
use Rattle.padp_link.specs.Pieces.{piece_count}
use Rattle.padp_link.specs.Receivers.{ReceiverValue}
use Rattle.padp_link.specs.Senders.{SenderValue}
use Rattle.padp_link.specs.declared.parts.ReceiverParts.{ReceiverParts}
use Rattle.padp_link.specs.declared.parts.SenderParts.{SenderParts}

-- the receiver of these parts: it took the first pieces, so many, of a message of this length that
-- begins with these bytes
abbrev pub receiver_of : ReceiverParts → ReceiverValue
receiver_of parts = record {
  awaited = parts.awaited;
  pieces = taken_pieces parts.length parts.taken parts.received.items;
  last = parts.last;
}

-- these are the parts of a receiver: it took no more pieces than the message has, and has the bytes
-- of these; a message of which it took none has no length yet
abbrev pub are_receiver_parts : ReceiverParts → Bool
are_receiver_parts parts =
    nat_le parts.taken (piece_count parts.length)
    && nat_eq (length parts.received.items) (min (max_data * parts.taken) parts.length)
    && (not (nat_eq parts.taken 0) || nat_eq parts.length 0)

-- the sender of these parts
abbrev pub sender_of : SenderParts → SenderValue
sender_of parts = record {
  id = parts.id;
  length = parts.length;
  acknowledged = parts.acknowledged;
  tries = parts.tries;
}

-- these are the parts of a sender: no more pieces are acknowledged than the message has, and the
-- next one had at most ten tries
abbrev pub are_sender_parts : SenderParts → Bool
are_sender_parts parts =
    nat_le parts.acknowledged (piece_count parts.length) && nat_le parts.tries 10

-- the parts of two receivers are the same
pub record SameReceiverParts (x y : ReceiverParts) : Type 0 where
  pub awaited_is : y.awaited ≡ x.awaited
  pub length_is : y.length ≡ x.length
  pub taken_is : y.taken ≡ x.taken
  pub received_is : y.received.items ≡ x.received.items
  pub last_is : y.last ≡ x.last
