-- The parts of messages that an end said and that the other end took, the newest first, each once
-- where its key stands several times in a row.
use Rattle.std.specs.Prelude.{ℕ, ◌+◌, Bool, ◌&&◌, List, [], ◌∷◌, ◌++◌, length, map, if◌then◌else◌, Some}
use Rattle.padp_link.specs.declared.piece.Key.{Key}
use Rattle.padp_link.specs.Neighbours.{session_id}
use Rattle.padp_link.specs.Pieces.{pieces, fragment_of}
use Rattle.trace_text.specs.declared.frame.End.{End}
use Rattle.trace_text.specs.Past.{PastFrame, same_key, add, is_data_of}

pub record Part : Type 0 where
  pub key : Key
  pub bytes : List ℕ

abbrev pub key_of_part : Part → Key
key_of_part part = part.key

abbrev pub part_of : PastFrame → Part
part_of frame = record { key = frame.key; bytes = frame.bytes }

abbrev pub add_part : Part → List Part → List Part
add_part part [] = part ∷ []
add_part part (newest ∷ older) =
    if same_key part.key newest.key then newest ∷ older else part ∷ newest ∷ older

abbrev pub parts : (PastFrame → Bool) → List PastFrame → List Part
parts p [] = []
parts p (frame ∷ past) = if p frame then add_part (part_of frame) (parts p past) else parts p past

-- what X said
abbrev pub spoken : End → List PastFrame → List Part
spoken X past = parts (is_data_of X) past

-- what the other end took of it, by the numbers of the frames that came
abbrev pub taken : End → (ℕ → Bool) → List PastFrame → List Part
taken X came [] = []
taken X came (frame ∷ past) =
    if is_data_of X frame && came (length past + 1)
    then add_part (part_of frame) (taken X came past) else taken X came past

-- keys, each once where it stands several times in a row
abbrev pub each_once : List Key → List Key
each_once [] = []
each_once (key ∷ older) = add (Some key) (each_once older)

-- the parts of a message under this id, in order
abbrev pub message_parts : ℕ → List ℕ → List Part
message_parts id message =
    map (λ piece. record { key = piece.key; bytes = (fragment_of message piece).bytes })
    (pieces id (length message))

-- the parts of an end's messages, one message after the other, from the message of this number on:
-- the first one has number 0 and is a greeting
abbrev pub session_parts : ℕ → List (List ℕ) → List Part
session_parts number [] = []
session_parts number (message ∷ later) =
    message_parts (session_id number) message ++ session_parts (number + 1) later
