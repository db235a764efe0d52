-- What holds of each element of a list and the next one.
use Rattle.std.specs.Prelude.{◌≡◌, ℕ, zero, suc, ◌+◌, ◌%◌, List, [], ◌∷◌, ⊤}
use Rattle.std.specs.List.{flat_map}
use Rattle.padp_link.specs.declared.piece.Piece.{Piece}
use Rattle.padp_link.specs.Pieces.{pieces}

-- the relation holds of x and the first of the list, and of each of the list and the next one
abbrev pub Chain : {X : Type 0} → (X → X → Type 0) → X → List X → Type 0
Chain R x [] = ⊤
Chain R x (y ∷ ys) = R x y × Chain R y ys

-- the relation holds of each element and the next one
abbrev pub Neighbours : {X : Type 0} → (X → X → Type 0) → List X → Type 0
Neighbours R [] = ⊤
Neighbours R (x ∷ xs) = Chain R x xs

-- a message that an end sends: its transaction and its length
pub record Outgoing : Type 0 where
  pub id : ℕ
  pub length : ℕ

-- two messages of different transactions
abbrev pub HaveDifferentIds : Outgoing → Outgoing → Type 0
HaveDifferentIds x y = ¬ (x.id ≡ y.id)

-- two pieces of different keys
abbrev pub HaveDifferentKeys : Piece → Piece → Type 0
HaveDifferentKeys x y = ¬ (x.key ≡ y.key)

-- the pieces of messages, one message after the other
abbrev pub all_pieces : List Outgoing → List Piece
all_pieces messages = flat_map (λ message. pieces message.id message.length) messages

-- The transaction of an end's message by its number: the greeting, number 0, has 255, and the
-- requests or replies behind it have 1 to 253, coming round. So 254 stays free, as pilot-link leaves
-- it.
abbrev pub session_id : ℕ → ℕ
session_id zero = 0xFF
session_id (suc number) = number % 253 + 1

-- an end's messages of these lengths, from this number on
abbrev pub session_from : ℕ → List ℕ → List Outgoing
session_from number [] = []
session_from number (length ∷ later) =
    record { id = session_id number; length = length } ∷ session_from (number + 1) later
