-- What an end took of the other one's messages.
use Rattle.std.specs.Prelude.{◌≡◌, ℕ, ◌+◌, ◌-◌, ◌≤◌, Bool, true, false, List, [], ◌∷◌, ◌++◌, length, reverse}
use Rattle.padp_link.specs.Neighbours.{session_id}
use Rattle.trace_text.specs.declared.frame.End.{End}
use Rattle.trace_text.specs.Parts.{Part, spoken, session_parts}
use Rattle.trace_text.specs.Past.{PastFrame, at}
use Rattle.trace_text.specs.Stories.{IdMessage}
use Rattle.trace_text.specs.Talks.{Talk, messages_of, pieces_before}
use Rattle.line_laws.specs.Core.{Side, key_now, part_now}
use Rattle.line_laws.specs.Hearing.{heard}
use Rattle.line_laws.specs.Talking.{count_messages}

-- the part that an end sends now
abbrev pub part_of_now : Side → Part
part_of_now side = record { key = key_now side; bytes = (part_now side).bytes }

-- what was taken of X up to this cursor is what X said, or all but the part that it sends now
abbrev pub HeardOf : End → List PastFrame → ℕ → Bool → Side → Type 0
HeardOf X past cx false side = heard X (at cx past) ≡ spoken X past
HeardOf X past cx true side = spoken X past ≡ part_of_now side ∷ heard X (at cx past)

-- it is all of its messages, but for a rest of the last one
pub record TookMessages (X : End) (talk : Talk) (past : List PastFrame) (cx : ℕ) : Type 0 where
  pub rest : List Part
  pub is : reverse (heard X (at cx past)) ++ rest ≡ session_parts 0 (messages_of X talk)
  pub most : pieces_before (messages_of X talk) (count_messages X talk - 1)
      ≤ length (heard X (at cx past))

-- messages under their ids, from the message of this number on
abbrev pub told_from : ℕ → List (List ℕ) → List IdMessage
told_from number [] = []
told_from number (message ∷ later) =
    record { id = session_id number; message = message } ∷ told_from (number + 1) later
