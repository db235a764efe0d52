-- What an end says: fragments, each in a packet of a transaction.
use Rattle.std.specs.Prelude.{ℕ, ◌+◌, List, [], ◌∷◌, Option, Some, None}
use Rattle.std.specs.List.{flat_map}
use Rattle.padp_link.specs.declared.fragment.PadpKind.TheVariants as kind
use Rattle.padp_link.specs.declared.piece.Key.{Key}
use Rattle.padp_link.specs.declared.piece.Piece.{Piece}
use Rattle.padp_link.specs.FragmentText.{FragmentValue}
use Rattle.padp_link.specs.Numbers.{first_flag, last_flag}
use Rattle.padp_link.specs.Pieces.{fragment_of}
use Rattle.trace_text.specs.Frames.{padp_packet}

-- a fragment, and the transaction of its packet
pub record OutgoingFragment : Type 0 where
  pub id : ℕ
  pub fragment : FragmentValue

-- the bytes of packets, one after the other
abbrev pub said_text : List OutgoingFragment → List ℕ
said_text said = flat_map (λ outgoing. padp_packet outgoing.id outgoing.fragment) said

-- the acknowledgement of the data fragment with this key
abbrev pub acknowledgement : Key → OutgoingFragment
acknowledgement key = record {
  id = key.id;
  fragment = record { kind = kind.Ack; flags = key.flags; size = key.size; bytes = [] };
}

-- the end of the connection, under a transaction
abbrev pub abort : ℕ → OutgoingFragment
abort id = record {
  id = id;
  fragment = record { kind = kind.Abort; flags = first_flag + last_flag; size = 0; bytes = [] };
}

-- a piece of a message
abbrev pub piece_said : List ℕ → Piece → OutgoingFragment
piece_said message piece = record { id = piece.key.id; fragment = fragment_of message piece }

-- the piece that waits, if there is one
abbrev pub pieces_said : List ℕ → Option Piece → List OutgoingFragment
pieces_said message None = []
pieces_said message (Some piece) = piece_said message piece ∷ []
