-- An end is made of its parts, and has one form of them.
use Rattle.std.proofs.Common.{◌≡◌, ℕ, zero, suc, ◌≤◌, ◌&&◌, true, List, nat_eq, length, ap}
use Rattle.std.proofs.lemmas.Bool.{and_parts}
use Rattle.padp_link.proofs.PartLaws.{receiver_of-same}
use Rattle.padp_link.specs.Collecting.{taken_pieces}
use Rattle.padp_link.specs.Parts.{are_receiver_parts, are_sender_parts}
use Rattle.padp_end.specs.Ends.{EndValue}
use Rattle.padp_end.specs.Holding.{AnnouncesShort}
use Rattle.padp_end.specs.Parts.{SameEndParts, are_end_parts, end_of}
use Rattle.padp_end.specs.declared.parts.EndParts.{EndParts}

-- pieces of a message that isn't too long announce none that is
pub AnnouncesShort-taken : (size count : ℕ) (bytes : List ℕ) → size ≤ 65535 → AnnouncesShort (taken_pieces size count bytes)
AnnouncesShort-taken size zero bytes short = tt
AnnouncesShort-taken size (suc count) bytes short = short

receivers_part : (parts : EndParts) → are_end_parts parts ≡ true → are_receiver_parts parts.receiver ≡ true
receivers_part parts are =
    (and_parts (are_receiver_parts parts.receiver) (are_sender_parts parts.sender)
    (and_parts (are_receiver_parts parts.receiver && are_sender_parts parts.sender) (nat_eq (length parts.message.items) parts.sender.length) are).0).0

pub end_of-same : (x y : EndParts) → are_end_parts x ≡ true → are_end_parts y ≡ true → end_of y ≡ end_of x → SameEndParts x y
end_of-same x y x_are y_are same =
    let sender = ap (λ (e : EndValue). e.sender) same in
    record {
      receiver_is = receiver_of-same x.receiver y.receiver (receivers_part x x_are) (receivers_part y y_are) (ap (λ (e : EndValue). e.receiver) same);
      sender_is = (λ i. record {
        id = (sender i).id;
        length = (sender i).length;
        acknowledged = (sender i).acknowledged;
        tries = (sender i).tries;
      });
      message_is = ap (λ (e : EndValue). e.message) same;
    }
