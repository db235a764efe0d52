-- The messages of both ends of a session, and which of them answers which.
use Rattle.std.specs.Prelude.{ℕ, zero, suc, ◌+◌, List, [], ◌∷◌, length, Option, Some, None}
use Rattle.padp_link.specs.Pieces.{piece_count}
use Rattle.trace_text.specs.declared.frame.End.{End}
use Rattle.trace_text.specs.declared.frame.End.TheVariants.{Handheld, Desktop}

-- the messages of both ends: the wake and then the replies, the init and then the requests
pub record Talk : Type 0 where
  pub handheld : List (List ℕ)
  pub desktop : List (List ℕ)

abbrev pub messages_of : End → Talk → List (List ℕ)
messages_of Handheld talk = talk.handheld
messages_of Desktop talk = talk.desktop

-- how many pieces the messages before this number have, from 0 on
abbrev pub pieces_before : List (List ℕ) → ℕ → ℕ
pieces_before messages zero = 0
pieces_before [] (suc number) = 0
pieces_before (message ∷ later) (suc number) =
    piece_count (length message) + pieces_before later number

-- a message by its end and its number among its end's messages
pub record Turn : Type 0 where
  pub end : End
  pub number : ℕ

-- The message that an end's message of this number answers: the init answers the wake, the first
-- request the init, each later one the reply before it,
-- a reply its request.
abbrev pub answered_by : End → ℕ → Option Turn
answered_by Handheld zero = None
answered_by Handheld (suc number) = Some (record { end = Desktop; number = suc number })
answered_by Desktop zero = Some (record { end = Handheld; number = 0 })
answered_by Desktop (suc zero) = Some (record { end = Desktop; number = 0 })
answered_by Desktop (suc (suc number)) = Some (record { end = Handheld; number = suc number })

-- the other end's message that answers it, if there is one
abbrev pub answer_to : End → ℕ → Option ℕ
answer_to Handheld zero = Some 0
answer_to Handheld (suc number) = Some (suc (suc number))
answer_to Desktop zero = None
answer_to Desktop (suc number) = Some (suc number)
