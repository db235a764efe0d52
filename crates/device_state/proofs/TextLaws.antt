-- The pieces of a talk's text.
use Rattle.std.proofs.Common.{◌≡◌, ◌∙◌, ℕ, ◌^◌, ◌<◌, List, Option, ◌++◌, length, sym, refl}
use Rattle.std.proofs.lemmas.List.{append_assoc}
use Rattle.palm_device.specs.declared.opened.Opened.{Opened}
use Rattle.device_state.specs.Strings.{string_text}
use Rattle.device_state.specs.Numbers.{numbers_text}
use Rattle.device_state.specs.Opened.{handles_text}
use Rattle.device_state.specs.Texts.{talk_text}
use Rattle.device_stream.specs.declared.parts.TalkParts.{TalkParts}
use Rattle.device_stream.specs.Parts.{SameTalkParts}
use Rattle.device_state.proofs.HandleLaws.{handles_are, handles_text-end}
use Rattle.device_state.proofs.NumberLaws.{numbers_text-injective}
use Rattle.device_state.proofs.TalkStringLaws.{string_next}

-- what stands behind the message that is sent, behind what was received, and behind the numbers
abbrev pub behind_message : TalkParts → List ℕ → List ℕ
behind_message parts rest = handles_text 1 8 parts.handles ++ rest

abbrev pub behind_received : TalkParts → List ℕ → List ℕ
behind_received parts rest = string_text parts.end.message.items ++ behind_message parts rest

abbrev pub behind_numbers : TalkParts → List ℕ → List ℕ
behind_numbers parts rest = string_text parts.end.receiver.received.items ++ behind_received parts rest

pub talk_text-append : (parts : TalkParts) (rest : List ℕ) → talk_text parts ++ rest ≡ string_text (numbers_text parts) ++ behind_numbers parts rest
unfolding talk_text
talk_text-append parts rest = simp append_assoc

pub append-talk_text : (parts : TalkParts) (old : List ℕ)
    → old ++ string_text (numbers_text parts) ++ string_text parts.end.receiver.received.items ++ string_text parts.end.message.items
    ++ handles_text 1 8 parts.handles ≡ old ++ talk_text parts
unfolding talk_text
append-talk_text parts old = simp append_assoc

-- the pieces that were read are those of these parts
pub talk_text-read : (parts : TalkParts) (rest : List ℕ) (handles : List (Option Opened)) {bytes numbers received message : List ℕ}
    (behind behind' behind'' : List ℕ) → bytes ≡ string_text numbers ++ behind → behind ≡ string_text received ++ behind'
    → behind' ≡ string_text message ++ behind'' → behind'' ≡ handles_text 1 8 handles ++ rest → numbers ≡ numbers_text parts
    → parts.end.receiver.received.items ≡ received → parts.end.message.items ≡ message → parts.handles ≡ handles → bytes ≡ talk_text parts ++ rest
talk_text-read parts rest handles behind behind' behind'' first second third fourth is_numbers is_received is_message is_handles =
    let whole = talk_text-append parts rest in cc

-- the pieces of two talks with one text are the same
pub talk_text-injective : (x y : TalkParts) (rest behind : List ℕ) → length x.handles ≡ 8 → length y.handles ≡ 8 → length (talk_text x ++ rest) < 2 ^ 64
    → talk_text x ++ rest ≡ talk_text y ++ behind → SameTalkParts x y × (rest ≡ behind)
talk_text-injective x y rest behind eight eight' short same =
    let one = string_next (numbers_text x) (behind_numbers x rest) (numbers_text y) (behind_numbers y behind) short (talk_text-append x rest)
    (same ∙ talk_text-append y behind) in
    let two = string_next x.end.receiver.received.items (behind_received x rest) y.end.receiver.received.items (behind_received y behind) one.2 refl one.1 in
    let three = string_next x.end.message.items (behind_message x rest) y.end.message.items (behind_message y behind) two.2 refl two.1 in
    let four = handles_text-end 1 8 x.handles y.handles rest behind three.2 three.1 in
    let numbers = numbers_text-injective x y one.0 in (
      record {
        end_is = record {
          receiver_is = record {
            awaited_is = numbers.awaited;
            length_is = numbers.length;
            taken_is = numbers.taken;
            received_is = sym two.0;
            last_is = numbers.last;
          };
          sender_is = numbers.sender;
          message_is = sym three.0;
        };
        handles_are = handles_are x.handles y.handles eight eight' four.0;
        number_is = numbers.number;
        greeted_is = numbers.greeted;
        over_is = numbers.over;
      },
      four.1,
    )
