-- What the frames told an end: the messages that it took whole.
use Rattle.std.specs.Prelude.{◌≡◌, ℕ, List, ◌++◌, reverse}
use Rattle.std.specs.List.{flat_map}
use Rattle.trace_text.specs.declared.frame.End.{End}
use Rattle.trace_text.specs.TraceLines.{FrameValue}
use Rattle.trace_text.specs.Frames.{past_of, came_in}
use Rattle.trace_text.specs.Parts.{Part, message_parts, taken}

-- a message under its id
pub record IdMessage : Type 0 where
  pub id : ℕ
  pub message : List ℕ

-- the parts of messages, one message after the other
abbrev pub told_parts : List IdMessage → List Part
told_parts story = flat_map (λ told. message_parts told.id told.message) story

-- the parts begin with those of the story, and no whole message stands behind these
pub record IsStoryOf (parts : List Part) (story : List IdMessage) : Type 0 where
  pub rest : List Part
  pub is : parts ≡ told_parts story ++ rest
  pub unfinished : (id : ℕ) (message : List ℕ) (later : List Part)
      → rest ≡ message_parts id message ++ later → ⊥

-- the story of the end that takes what X sent
abbrev pub IsStory : End → List FrameValue → List IdMessage → Type 0
IsStory X frames story = IsStoryOf (reverse (taken X (came_in frames) (past_of frames))) story
