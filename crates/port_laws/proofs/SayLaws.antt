-- What is said, as the packet that comes.
use Rattle.std.proofs.Common.{◌≡◌, ◌≤◌, ◌<◌, ℕ, ◌^◌, List, length, Some, None, inl, inr, zero, suc, refl, subst, sym, ap, ◌∙◌, arith}
use Rattle.std.proofs.lemmas.Bool.{cases_lt}
use Rattle.std.proofs.lemmas.Bool.Decides.{nat_tests}
use Rattle.std.proofs.lemmas.Grind.{common_steps}
use Rattle.padp_end.proofs.ArrivalLaws.{arrival_of-bearing}
use Rattle.padp_end.specs.Arrivals.{Ack, Data, Stop, arrival_of}
use Rattle.padp_end.specs.Outgoings.{abort, acknowledgement, piece_said}
use Rattle.padp_link.proofs.PieceLaws.{count_inside}
use Rattle.padp_link.proofs.SenderLaws.{waiting_is}
use Rattle.padp_link.proofs.WaitingLaws.{ack-IsFragment, fragment_of-IsFragment, waiting-piece_of}
use Rattle.padp_link.specs.FragmentText.{FragmentText, FragmentValue, fragment_text}
use Rattle.padp_link.specs.Pieces.{fragment_of, key_of, piece_count, piece_flags, piece_of, piece_size}
use Rattle.padp_link.specs.Senders.{SenderValue, waiting}
use Rattle.padp_link.specs.declared.fragment.PadpKind.TheVariants as kind
use Rattle.padp_link.specs.declared.piece.Piece.{Piece}
use Rattle.port_laws.specs.Cables.{number_now, packet_of, piece_now}

-- an acknowledgement of data
pub ack-arrives : (id : ℕ) (fragment : FragmentValue) → FragmentText fragment (fragment_text fragment) → fragment.kind ≡ kind.Data → fragment.flags < 256
    → arrival_of (packet_of (acknowledgement (key_of id fragment))) ≡ Ack (key_of id fragment)
ack-arrives id fragment text is small =
    arrival_of-bearing (packet_of (acknowledgement (key_of id fragment))) (acknowledgement (key_of id fragment)).fragment
    (record {
      socket_is = refl;
      type_is = refl;
      text = record { fragment_is = ack-IsFragment fragment is small text.fragment_is; size_fits = text.size_fits; is = refl };
    })

-- the end of the connection
pub abort-arrives : (id : ℕ) → arrival_of (packet_of (abort id)) ≡ Stop
abort-arrives id =
    arrival_of-bearing (packet_of (abort id)) (abort id).fragment
    (record { socket_is = refl; type_is = refl; text = record { fragment_is = record { flags = refl; size = refl }; size_fits = omega arith; is = refl } })

size_within : (length number : ℕ) → length ≤ 65535 → number < piece_count length → piece_size length number < 2 ^ 16
size_within length zero short below = omega arith
size_within length (suc number) short below =
    let inside = count_inside length (suc number) (omega arith) below in
    grind (arith, nat_tests, common_steps, inside)

pub flags_within : (length number : ℕ) → piece_flags length number < 256
flags_within length number = grind (arith, nat_tests, common_steps)

-- a piece is a text
pub piece-text : (id number : ℕ) (message : List ℕ) → length message ≤ 65535 → number < piece_count (length message)
    → FragmentText (fragment_of message (piece_of id (length message) number)) (fragment_text (fragment_of message (piece_of id (length message) number)))
piece-text id number message short below = record {
  fragment_is = fragment_of-IsFragment id number message below;
  size_fits = size_within (length message) number short below;
  is = refl;
}

-- a piece
pub piece-arrives : (id number : ℕ) (message : List ℕ) → length message ≤ 65535 → number < piece_count (length message)
    → arrival_of (packet_of (piece_said message (piece_of id (length message) number))) ≡ Data id (fragment_of message (piece_of id (length message) number))
piece-arrives id number message short below =
    arrival_of-bearing (packet_of (piece_said message (piece_of id (length message) number))) (fragment_of message (piece_of id (length message) number))
    (record { socket_is = refl; type_is = refl; text = piece-text id number message short below })

-- ---- the piece that waits is the newest one

pub count_some : (length : ℕ) → 0 < piece_count length
count_some length = omega arith

pub number_within : (sender : SenderValue) → number_now sender < piece_count sender.length
number_within sender = let some = count_some sender.length in omega (arith, some)

pub waiting-now : (sender : SenderValue) (piece : Piece) → waiting sender ≡ Some piece
    → (sender.acknowledged < piece_count sender.length) × (piece ≡ piece_now sender)
waiting-now sender piece waits =
    let found = waiting-piece_of sender piece waits in
    let number : sender.acknowledged ≡ number_now sender = let f = found.0 in omega (arith, f) in
    (found.0, found.1 ∙ ap (λ (n : ℕ). piece_of sender.id sender.length n) number)

pub now-waiting : (sender : SenderValue) → sender.acknowledged < piece_count sender.length → waiting sender ≡ Some (piece_now sender)
now-waiting sender below =
    let number : sender.acknowledged ≡ number_now sender = omega (arith, below) in
    waiting_is sender below ∙ ap (λ (n : ℕ). Some (piece_of sender.id sender.length n)) number

-- nothing waits: all are acknowledged
pub none-waiting : (sender : SenderValue) → waiting sender ≡ None → piece_count sender.length ≤ sender.acknowledged
none-waiting sender none = elim (cases_lt sender.acknowledged (piece_count sender.length)) [
  | inl below ↦ absurd (differ (sym none ∙ now-waiting sender below))
  | inr above ↦ above
] where
  differ : {X : Type 0} {x : X} → None ≡ Some x → ⊥
  differ e = cc

-- the newest piece is a text
pub newest_text : (sender : SenderValue) (message : List ℕ) → sender.length ≡ length message → length message ≤ 65535
    → FragmentText (fragment_of message (piece_now sender)) (fragment_text (fragment_of message (piece_now sender)))
newest_text sender message length_is short =
    subst (λ (n : ℕ). FragmentText (fragment_of message (piece_of sender.id n (number_now sender)))
    (fragment_text (fragment_of message (piece_of sender.id n (number_now sender))))) (sym length_is)
    (piece-text sender.id (number_now sender) message short (subst (λ (n : ℕ). number_now sender < piece_count n) length_is (number_within sender)))
