-- What an end makes of data, by the tests that it takes.
use Rattle.std.proofs.Common.{◌≡◌, ◌≤◌, ℕ, nat_eq, true, false, ◌&&◌, List, [], ◌∷◌, ◌++◌, length, Option, Some, None, inl, inr, refl, subst, sym, ap, ◌∙◌, arith}
use Rattle.std.proofs.lemmas.Bool.{cases_Bool, cond-false, cond-true}
use Rattle.std.proofs.lemmas.Bool.Decides.{nat_tests}
use Rattle.std.proofs.lemmas.Grind.{common_steps}
use Rattle.slp_frames.specs.PacketText.{PacketValue}
use Rattle.padp_link.specs.declared.piece.Key.{Key}
use Rattle.padp_link.specs.declared.piece.Piece.{Piece}
use Rattle.padp_link.specs.FragmentText.{FragmentValue}
use Rattle.padp_link.specs.Pieces.{key_of}
use Rattle.padp_link.specs.Receivers.{bytes_of, is_complete, is_next, whole_of}
use Rattle.padp_link.specs.Senders.{waiting, waiting_key}
use Rattle.padp_end.specs.Arrivals.{Arrival, Drop, Tickle, Stop, Ack, Data, arrival_of}
use Rattle.padp_end.specs.Ends.{Answer, EndValue, arrival_taken, data_taken, end_takes, goes_on_with, heard_with, is_acked, is_key, is_only, is_ready, new_taken, heard_behind, silent, with_next, with_part}
use Rattle.padp_end.specs.Outgoings.{acknowledgement, pieces_said}
use Rattle.trace_text.specs.Past.{same_key}
use Rattle.padp_end.specs.Laws.{IsRepeatOf, same_again}
use Rattle.padp_end.specs.declared.heard.Heard.TheVariants as heard

-- ---- the key

pub is_key-true : (last : Option Key) (key : Key) → is_key last key ≡ true → last ≡ Some key
is_key-true None key is = absurd cc
is_key-true (Some other) key is = grind (arith, common_steps, nat_tests)

pub is_key-same : (last : Option Key) (key : Key) → last ≡ Some key → is_key last key ≡ true
is_key-same None key is = absurd cc
is_key-same (Some other) key is = grind (arith, common_steps, nat_tests)

-- ---- an acknowledgement

pub is_acked-same : (key : Key) → is_acked (Some key) key ≡ true
is_acked-same key = grind (arith, common_steps, nat_tests)

-- one with the key of the piece that waits counts
pub is_acked-key : (waits : Option Key) (key : Key) → waits ≡ Some key → is_acked waits key ≡ true
is_acked-key waits key is = ap (λ (w : Option Key). is_acked w key) is ∙ is_acked-same key

-- one of another transaction doesn't
pub is_acked-others : (expected key : Key) → (expected.id ≡ key.id → ⊥) → is_acked (Some expected) key ≡ false
is_acked-others expected key other = grind (arith, common_steps, nat_tests)

same_key-true : (x y : Key) → same_key x y ≡ true → x ≡ y
same_key-true x y same = grind (arith, common_steps, nat_tests)

-- nor does one of another piece of a longer message
pub is_acked-part : (expected key : Key) → is_only expected ≡ false → (expected ≡ key → ⊥) → is_acked (Some expected) key ≡ false
is_acked-part expected key part other =
    cond-false (is_only expected) (nat_eq expected.id key.id) (same_key expected key) part ∙ elim (cases_Bool (same_key expected key)) [
      | inl same ↦ absurd (other (same_key-true expected key same))
      | inr differ ↦ differ
    ]

-- one that counts is of a piece that waits
pub is_acked-some : (waits : Option Key) (key : Key) → is_acked waits key ≡ true
    → (expected : Key) × (waits ≡ Some expected) × (is_acked (Some expected) key ≡ true)
is_acked-some None key is = absurd cc
is_acked-some (Some expected) key is = (expected, refl, is)

-- ---- data

-- a repeat is acknowledged
pub data_taken-repeat : (end : EndValue) (id : ℕ) (fragment : FragmentValue) → is_key end.receiver.last (key_of id fragment) ≡ true
    → data_taken end id fragment ≡ record { said = acknowledgement (key_of id fragment) ∷ []; heard = heard.Nothing; end = end }
data_taken-repeat end id fragment same = cond-true _ _ _ same

pub data_taken-new : (end : EndValue) (id : ℕ) (fragment : FragmentValue) → is_key end.receiver.last (key_of id fragment) ≡ false
    → data_taken end id fragment ≡ new_taken end id fragment
data_taken-new end id fragment new = cond-false _ _ _ new

-- the answer to a next piece
abbrev pub accepting : EndValue → ℕ → FragmentValue → Answer
accepting end id fragment =
    record { said = acknowledgement (key_of id fragment) ∷ []; heard = heard_with end.receiver fragment; end = with_part end id fragment }

pub new_taken-next : (end : EndValue) (id : ℕ) (fragment : FragmentValue) → (is_ready (waiting end.sender) fragment && is_next end.receiver id fragment) ≡ true
    → new_taken end id fragment ≡ accepting end id fragment
new_taken-next end id fragment next = cond-true _ _ _ next

pub new_taken-other : (end : EndValue) (id : ℕ) (fragment : FragmentValue)
    → (is_ready (waiting end.sender) fragment && is_next end.receiver id fragment) ≡ false → new_taken end id fragment ≡ silent end heard.Nothing
new_taken-other end id fragment other = cond-false _ _ _ other

-- what data is: a repeat, a next piece that may be taken, or neither
pub data DataCase (end : EndValue) (id : ℕ) (fragment : FragmentValue) : Type 0 where
  IsRepeat : is_key end.receiver.last (key_of id fragment) ≡ true
      → data_taken end id fragment ≡ record { said = acknowledgement (key_of id fragment) ∷ []; heard = heard.Nothing; end = end } → DataCase end id fragment
  IsNext : data_taken end id fragment ≡ accepting end id fragment → DataCase end id fragment
  IsOther : data_taken end id fragment ≡ silent end heard.Nothing → DataCase end id fragment

pub data_case : (end : EndValue) (id : ℕ) (fragment : FragmentValue) → DataCase end id fragment
data_case end id fragment = elim (cases_Bool (is_key end.receiver.last (key_of id fragment))) [
  | inl same ↦ IsRepeat same (data_taken-repeat end id fragment same)
  | inr new ↦ elim (cases_Bool (is_ready (waiting end.sender) fragment && is_next end.receiver id fragment)) [
    | inl next ↦ IsNext (data_taken-new end id fragment new ∙ new_taken-next end id fragment next)
    | inr other ↦ IsOther (data_taken-new end id fragment new ∙ new_taken-other end id fragment other)
  ]
]

-- ---- laws

few_pieces : (message : List ℕ) (piece : Option Piece) → length (pieces_said message piece) ≤ 1
few_pieces message None = omega arith
few_pieces message (Some piece) = omega arith

abbrev Few : Answer → Type 0
Few answer = length answer.said ≤ 1

-- how many packets are said
few_said : (end : EndValue) (arrival : Arrival) → Few (arrival_taken end arrival)
few_said end Drop = omega arith
few_said end Tickle = omega arith
few_said end Stop = omega arith
few_said end (Ack key) = elim (cases_Bool (is_acked (waiting_key end.sender) key)) [
  | inl same ↦ subst Few (sym (cond-true (is_acked (waiting_key end.sender) key) (goes_on_with (with_next end)) (silent end heard.Nothing) same))
      (few_pieces end.message (waiting (with_next end).sender))
  | inr other ↦ (let few : Few (silent end heard.Nothing) = omega arith in
      subst Few (sym (cond-false (is_acked (waiting_key end.sender) key) (goes_on_with (with_next end)) (silent end heard.Nothing) other)) few)
]
few_said end (Data id fragment) = elim (data_case end id fragment) [
  | IsRepeat same is ↦ (let few : Few (record { said = acknowledgement (key_of id fragment) ∷ []; heard = heard.Nothing; end = end }) = omega arith in
      subst Few (sym is) few)
  | IsNext is ↦ (let few : Few (accepting end id fragment) = omega arith in subst Few (sym is) few)
  | IsOther is ↦ (let few : Few (silent end heard.Nothing) = omega arith in subst Few (sym is) few)
]

pub end_takes-few : (end : EndValue) (packet : PacketValue) → length (end_takes end packet).said ≤ 1
end_takes-few end packet = few_said end (arrival_of packet)

-- data that was acknowledged is acknowledged again
again : (end : EndValue) (id : ℕ) (fragment : FragmentValue) → ((data_taken end id fragment).said ≡ [] → ⊥)
    → data_taken (data_taken end id fragment).end id fragment ≡ same_again (data_taken end id fragment)
again end id fragment said = elim (data_case end id fragment) [
  | IsRepeat same is ↦ subst (λ (a : Answer). data_taken a.end id fragment ≡ same_again a) (sym is) is
  | IsNext is ↦ subst (λ (a : Answer). data_taken a.end id fragment ≡ same_again a) (sym is)
      (data_taken-repeat (with_part end id fragment) id fragment (is_key-same (Some (key_of id fragment)) (key_of id fragment) refl))
  | IsOther is ↦ absurd (said (ap (λ (a : Answer). a.said) is))
]

pub end_takes-again : (end : EndValue) (packet : PacketValue) → IsRepeatOf end packet
end_takes-again end packet id fragment is said =
    subst (λ (a : Arrival). arrival_taken (arrival_taken end a).end a ≡ same_again (arrival_taken end a)) (sym is)
    (again end id fragment (λ none. said (ap (λ (a : Arrival). (arrival_taken end a).said) is ∙ none)))

-- data to which something is said is the last piece that was taken then
pub end_takes-known : (end : EndValue) (packet : PacketValue) (id : ℕ) (fragment : FragmentValue) → arrival_of packet ≡ Data id fragment
    → ((end_takes end packet).said ≡ [] → ⊥) → (end_takes end packet).end.receiver.last ≡ Some (key_of id fragment)
end_takes-known end packet id fragment is said =
    subst (λ (a : Arrival). (arrival_taken end a).end.receiver.last ≡ Some (key_of id fragment)) (sym is) (elim (data_case end id fragment) [
      | IsRepeat same taken ↦ subst (λ (a : Answer). a.end.receiver.last ≡ Some (key_of id fragment)) (sym taken)
          (is_key-true end.receiver.last (key_of id fragment) same)
      | IsNext taken ↦ subst (λ (a : Answer). a.end.receiver.last ≡ Some (key_of id fragment)) (sym taken) refl
      | IsOther taken ↦ absurd (said (ap (λ (a : Arrival). (arrival_taken end a).said) is ∙ ap (λ (a : Answer). a.said) taken))
    ])

-- and the last piece that was taken is acknowledged once more
pub end_takes-repeat : (end : EndValue) (packet : PacketValue) (id : ℕ) (fragment : FragmentValue) → arrival_of packet ≡ Data id fragment
    → end.receiver.last ≡ Some (key_of id fragment)
    → end_takes end packet ≡ record { said = acknowledgement (key_of id fragment) ∷ []; heard = heard.Nothing; end = end }
end_takes-repeat end packet id fragment is known =
    ap (arrival_taken end) is ∙ data_taken-repeat end id fragment (is_key-same end.receiver.last (key_of id fragment) known)

-- a message that is heard is whole, and its last piece is acknowledged
pub record IsHeardWhole (answer : Answer) : Type 0 where
  pub message : List ℕ
  pub whole : whole_of answer.end.receiver.pieces ≡ Some message
  pub key : Key
  pub said_is : answer.said ≡ acknowledgement key ∷ []

heard_whole : (end : EndValue) (id : ℕ) (fragment : FragmentValue) → (accepting end id fragment).heard ≡ heard.Message
    → IsHeardWhole (accepting end id fragment)
heard_whole end id fragment hears =
    let pieces = end.receiver.pieces ++ fragment ∷ [] in
    elim (cases_Bool (is_complete pieces)) [
      | inl whole ↦ record {
        message = bytes_of pieces;
        whole = cond-true (is_complete pieces) (Some (bytes_of pieces)) None whole;
        key = key_of id fragment;
        said_is = refl;
      }
      | inr part ↦ (let e : heard.Nothing ≡ heard.Message = sym (cond-false (is_complete pieces) heard.Message heard.Nothing part) ∙ hears in absurd cc)
    ]

delivered_no_message : (piece : Option Piece) → heard_behind piece ≡ heard.Message → ⊥
delivered_no_message None is = cc
delivered_no_message (Some piece) is = cc

message_whole : (end : EndValue) (arrival : Arrival) → (arrival_taken end arrival).heard ≡ heard.Message → IsHeardWhole (arrival_taken end arrival)
message_whole end Drop hears = absurd cc
message_whole end Tickle hears = absurd cc
message_whole end Stop hears = absurd cc
message_whole end (Ack key) hears = elim (cases_Bool (is_acked (waiting_key end.sender) key)) [
  | inl same ↦ absurd (delivered_no_message (waiting (with_next end).sender)
      (ap (λ (a : Answer). a.heard) (sym (cond-true (is_acked (waiting_key end.sender) key) (goes_on_with (with_next end)) (silent end heard.Nothing) same)) ∙ hears))
  | inr other ↦ (let e : heard.Nothing ≡ heard.Message =
      ap (λ (a : Answer). a.heard) (sym (cond-false (is_acked (waiting_key end.sender) key) (goes_on_with (with_next end)) (silent end heard.Nothing) other)) ∙ hears in
      absurd cc)
]
message_whole end (Data id fragment) hears = elim (data_case end id fragment) [
  | IsRepeat same is ↦ (let e : heard.Nothing ≡ heard.Message = ap (λ (a : Answer). a.heard) (sym is) ∙ hears in absurd cc)
  | IsNext is ↦ subst IsHeardWhole (sym is) (heard_whole end id fragment (ap (λ (a : Answer). a.heard) (sym is) ∙ hears))
  | IsOther is ↦ (let e : heard.Nothing ≡ heard.Message = ap (λ (a : Answer). a.heard) (sym is) ∙ hears in absurd cc)
]

pub end_takes-whole : (end : EndValue) (packet : PacketValue) → (end_takes end packet).heard ≡ heard.Message → IsHeardWhole (end_takes end packet)
end_takes-whole end packet hears = message_whole end (arrival_of packet) hears
