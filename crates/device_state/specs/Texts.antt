-- What a talk holds beside its folder, as bytes.
use Rattle.std.specs.Prelude.{◌≡◌, ◌<◌, ◌^◌, ℕ, List, ◌++◌, length}
use Rattle.device_state.specs.Strings.{string_text}
use Rattle.device_state.specs.Numbers.{numbers_text}
use Rattle.device_state.specs.Opened.{handles_text}
use Rattle.device_stream.specs.declared.parts.TalkParts.{TalkParts}

-- its numbers, what it received of a message, the message that it sends, and what is open under
-- each of the handles 1 to 8
unfoldable pub talk_text : TalkParts → List ℕ
talk_text parts =
    string_text (numbers_text parts) ++ string_text parts.end.receiver.received.items
    ++ string_text parts.end.message.items ++ handles_text 1 8 parts.handles

-- the texts of two talks of eight handles each, with what stands behind them, are the same bytes,
-- fewer than 2^64
pub record BeginOneText (x y : TalkParts) (rest behind : List ℕ) : Type 0 where
  pub eight : length x.handles ≡ 8
  pub other_eight : length y.handles ≡ 8
  pub short : length (talk_text x ++ rest) < 2 ^ 64
  pub same : talk_text x ++ rest ≡ talk_text y ++ behind
