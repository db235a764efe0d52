-- Two talks whose numbers have one text have the same numbers.
use Rattle.std.proofs.Common.{◌≡◌, ◌∙◌, ℕ, Bool, true, false, List, Option, Some, None, unwrap_or, get_or, eqb, cond, refl, sym, ap, arith}
use Rattle.padp_link.specs.declared.parts.SenderParts.{SenderParts}
use Rattle.padp_link.specs.declared.piece.Key.{Key}
use Rattle.device_state.specs.Numbers.{greeted_code, mark, no_key, numbers_text, over_code}
use Rattle.device_stream.specs.declared.talk_end.TalkEnd.{TalkEnd}
use Rattle.device_stream.specs.declared.talk_end.TalkEnd.TheVariants.{Ended, Aborted, BadHello}
use Rattle.device_stream.specs.declared.parts.TalkParts.{TalkParts}
use Rattle.slp_frames.proofs.CrcLaws.{same_bytes}

-- ---- one number

marked_is : {A : Type 0} (default : A) (x y : Option A) → mark x ≡ mark y → unwrap_or x default ≡ unwrap_or y default → y ≡ x
marked_is default None None marks values = refl
marked_is default None (Some value) marks values = absurd (omega arith)
marked_is default (Some value) None marks values = absurd (omega arith)
marked_is default (Some value) (Some other) marks values = ap Some (sym values)

key_is : (x y : Key) → x.id ≡ y.id → x.flags ≡ y.flags → x.size ≡ y.size → x ≡ y
key_is x y id flags size = λ i. record { id = id i; flags = flags i; size = size i }

sender_is : (x y : SenderParts) → x.id ≡ y.id → x.length ≡ y.length → x.acknowledged ≡ y.acknowledged → x.tries ≡ y.tries → x ≡ y
sender_is x y id length acknowledged tries = λ i. record {
  id = id i;
  length = length i;
  acknowledged = acknowledged i;
  tries = tries i;
}

greeted_is : (x y : Bool) → greeted_code x ≡ greeted_code y → y ≡ x
greeted_is false false code = refl
greeted_is false true code = absurd (omega arith)
greeted_is true false code = absurd (omega arith)
greeted_is true true code = refl

-- what a code says
over_of : ℕ → Option TalkEnd
over_of code = cond (eqb code 1) (Some Ended) (cond (eqb code 2) (Some Aborted) (cond (eqb code 3) (Some BadHello) None))

over_of-code : (over : Option TalkEnd) → over_of (over_code over) ≡ over
unfolding over_of
over_of-code None = refl
over_of-code (Some Ended) = refl
over_of-code (Some Aborted) = refl
over_of-code (Some BadHello) = refl

over_is : (x y : Option TalkEnd) → over_code x ≡ over_code y → y ≡ x
over_is x y code = sym (over_of-code y) ∙ ap over_of (sym code) ∙ over_of-code x

-- ---- all of them

-- the numbers of two talks are the same
pub record SameNumbers (x y : TalkParts) : Type 0 where
  pub awaited : y.end.receiver.awaited ≡ x.end.receiver.awaited
  pub length : y.end.receiver.length ≡ x.end.receiver.length
  pub taken : y.end.receiver.taken ≡ x.end.receiver.taken
  pub last : y.end.receiver.last ≡ x.end.receiver.last
  pub sender : y.end.sender ≡ x.end.sender
  pub number : y.number ≡ x.number
  pub greeted : y.greeted ≡ x.greeted
  pub over : y.over ≡ x.over

pub numbers_text-injective : (x y : TalkParts) → numbers_text x ≡ numbers_text y → SameNumbers x y
numbers_text-injective x y same =
    let at : (place : ℕ) → get_or (numbers_text x) place 0 ≡ get_or (numbers_text y) place 0 = λ place. ap (λ (bytes : List ℕ). get_or bytes place 0) same in
    let receiver = x.end.receiver in
    let other = y.end.receiver in
    let sender = x.end.sender in
    let sender' = y.end.sender in
    record {
      awaited = marked_is 0 receiver.awaited other.awaited (at 0) (at 1);
      length = sym (same_bytes receiver.length other.length (at 2) (at 3));
      taken = sym (at 4);
      last = marked_is no_key receiver.last other.last (at 5)
          (key_is (unwrap_or receiver.last no_key) (unwrap_or other.last no_key) (at 6) (at 7) (same_bytes _ _ (at 8) (at 9)));
      sender = sym (sender_is sender sender' (at 10) (same_bytes sender.length sender'.length (at 11) (at 12)) (at 13) (at 14));
      number = sym (at 15);
      greeted = greeted_is x.greeted y.greeted (at 16);
      over = over_is x.over y.over (at 17);
    }
