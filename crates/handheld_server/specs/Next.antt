-- The next changed record, as it is found and replied.
use Rattle.std.specs.Prelude.{ℕ, List, Option, None, Some, Result, Ok, Err}
use Rattle.dlp_replies.specs.Frames.{reply_text}
use Rattle.dlp_replies.specs.ReplyValues.{ReplyValue, Refused}

-- the place of the record that was found
abbrev pub place_in : Result (ℕ × ReplyValue) ℕ → Option ℕ
place_in (Ok found) = Some found.0
place_in (Err code) = None

-- its reply, under the byte of its function
abbrev pub next_text : ℕ → Result (ℕ × ReplyValue) ℕ → List ℕ
next_text number (Ok found) = reply_text found.1
next_text number (Err code) = reply_text (Refused number code)
