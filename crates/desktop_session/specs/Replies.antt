-- A reply that is no error.
use Rattle.std.specs.Prelude.{◌≡◌, ℕ, List}
use Rattle.dlp_replies.specs.Frames.{frame, function_byte}
use Rattle.dlp_replies.specs.ReplyTexts.{ReplyText}
use Rattle.dlp_replies.specs.ReplyValues as reply
use Rattle.dlp_replies.specs.ReplyValues.{ReplyValue}

-- no error
abbrev pub IsDone : ReplyValue → Type 0
IsDone (reply.Refused number code) = ⊥
IsDone other = Unit {0}

-- the bytes are the reply of this function, and no error
pub record AnswersTo (number : ℕ) (value : ReplyValue) (bytes : List ℕ) : Type 0 where
  pub text : ReplyText number value bytes
  pub own : function_byte (frame value) ≡ number
  pub done : IsDone value
