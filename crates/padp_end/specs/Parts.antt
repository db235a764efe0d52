-- What an end holds, as plain parts, and what is made of such parts.
use Rattle.std.specs.Prelude.{◌≡◌, Bool, ◌&&◌, nat_eq, length}
use Rattle.padp_link.specs.Parts.{SameReceiverParts, are_receiver_parts, are_sender_parts, receiver_of, sender_of}
use Rattle.padp_end.specs.Ends.{EndValue}
use Rattle.padp_end.specs.declared.parts.EndParts.{EndParts}

-- the end of these parts
abbrev pub end_of : EndParts → EndValue
end_of parts = record {
  receiver = receiver_of parts.receiver;
  sender = sender_of parts.sender;
  message = parts.message.items;
}

-- these are the parts of an end: those of a receiver, those of a sender, and a message of the
-- length that the sender has
abbrev pub are_end_parts : EndParts → Bool
are_end_parts parts =
    are_receiver_parts parts.receiver && are_sender_parts parts.sender
    && nat_eq (length parts.message.items) parts.sender.length

-- the parts of two ends are the same
pub record SameEndParts (x y : EndParts) : Type 0 where
  pub receiver_is : SameReceiverParts x.receiver y.receiver
  pub sender_is : y.sender ≡ x.sender
  pub message_is : y.message.items ≡ x.message.items
