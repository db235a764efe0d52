-- What holds of the messages of both ends: which of their pieces were sent, what each end knows was
-- taken, and the rules of a proper trace for what was
-- sent so far.
use Rattle.std.specs.Prelude.{◌≡◌, ℕ, ◌+◌, ◌-◌, ◌<◌, Bool, true, List, [], ◌∷◌, ◌++◌, length, drop, reverse, Some}
use Rattle.padp_link.specs.Pieces.{piece_count, piece_of, fragment_of}
use Rattle.trace_text.specs.Parts.{Part, spoken, message_parts, session_parts}
use Rattle.trace_text.specs.Past.{PastFrame, said, acked}
use Rattle.trace_text.specs.Proper.{Reaches, BearsNumber, IsKnown, BeginInTurn, AtMostTen}
use Rattle.trace_text.specs.Talks.{Talk, messages_of, pieces_before, answer_to}
use Rattle.trace_text.specs.declared.frame.End.{End}
use Rattle.trace_text.specs.declared.frame.End.TheVariants.{Handheld, Desktop}
use Rattle.line_laws.specs.Came.{came_by, AcksMatch}
use Rattle.line_laws.specs.Core.{Side, Speaker, Waiting}

-- how many pieces of its message an end hasn't begun yet
abbrev pub left : Side → ℕ
left side = piece_count (length side.message) - (side.acknowledged + 1)

-- the part of this number of a message
abbrev pub part_at : ℕ → List ℕ → ℕ → Part
part_at id message number = record {
  key = (piece_of id (length message) number).key;
  bytes = (fragment_of message (piece_of id (length message) number)).bytes;
}

-- the parts that it hasn't begun
abbrev pub unsaid : Side → List Part
unsaid side =
    drop (piece_count (length side.message) - left side) (message_parts side.id side.message)

-- how many messages an end began
abbrev pub count_messages : End → Talk → ℕ
count_messages X talk = length (messages_of X talk)

-- an end begins a message
abbrev pub say : End → List ℕ → Talk → Talk
say Handheld message talk = record {
  handheld = talk.handheld ++ message ∷ [];
  desktop = talk.desktop;
}
say Desktop message talk = record {
  handheld = talk.handheld;
  desktop = talk.desktop ++ message ∷ [];
}

-- a frame with the newest fragment of X that Y took
pub record TookNewest (X Y : End) (came : ℕ → Bool) (past : List PastFrame) : Type 0 where
  pub n : ℕ
  pub reaches : Reaches came n past
  pub bears : BearsNumber X past n reaches.frame (length (acked Y past))

-- what X sent
pub record Speech (X Y : End) (talk : Talk) (cursor : End → ℕ) (past : List PastFrame)
    (x : Side) : Type 0 where
  pub begun : length (said X past) + left x
      ≡ pieces_before (messages_of X talk) (count_messages X talk)
  pub current : 0 < count_messages X talk
      → pieces_before (messages_of X talk) (count_messages X talk)
      ≡ pieces_before (messages_of X talk) (count_messages X talk - 1)
      + piece_count (length x.message)
  pub says : reverse (spoken X past) ++ unsaid x ≡ session_parts 0 (messages_of X talk)
  pub begins : BeginInTurn X Y talk (came_by cursor past) past
  pub ten : AtMostTen X past
  pub acks : AcksMatch X Y cursor past
  pub known : (Waiting x → ⊥) → 0 < length (said X past)
      → IsKnown X Y talk (came_by cursor past) past
  pub took : 0 < length (acked Y past) → TookNewest X Y (came_by cursor past) past

-- where both wait, the message of X, whose first piece waits, answers that of Y
abbrev pub AnswersIt : End → End → Talk → Bool → Side → Side → Type 0
AnswersIt X Y talk fresh x y =
    fresh ≡ true → x.acknowledged ≡ 0 → Waiting y
    → (0 < count_messages X talk) × (0 < count_messages Y talk)
    × (answer_to Y (count_messages Y talk - 1) ≡ Some (count_messages X talk - 1))

-- what both ends sent of the messages of a talk
pub record Talking (X Y : End) (talk : Talk) (cursor : End → ℕ) (past : List PastFrame)
    (x y : Speaker) : Type 0 where
  pub x_speech : Speech X Y talk cursor past x.side
  pub y_speech : Speech Y X talk cursor past y.side
  pub x_answers : AnswersIt X Y talk x.fresh x.side y.side
  pub y_answers : AnswersIt Y X talk y.fresh y.side x.side

-- the cursor of X moves past one frame, and that of Y doesn't
pub record Moves (X Y : End) (cursor later : End → ℕ) : Type 0 where
  pub moved : later X ≡ cursor X + 1
  pub kept : later Y ≡ cursor Y
