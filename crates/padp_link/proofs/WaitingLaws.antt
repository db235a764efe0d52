-- The piece that waits, its fragment, the acknowledgement of it, and what a receiver makes of it.
use Rattle.std.proofs.lemmas.Bool.Decides.{nat_tests}
use Rattle.std.proofs.lemmas.Grind.{common_steps}
use Rattle.std.proofs.Common.{◌≡◌, ℕ, zero, suc, ◌+◌, ◌<◌, ◌≤◌, List, [], length, map, Some, subst, arith}
use Rattle.std.specs.List.{range_with_len, AllByRecursion}
use Rattle.padp_link.specs.declared.fragment.PadpKind.TheVariants.{Data, Ack}
use Rattle.padp_link.specs.declared.piece.Piece.{Piece}
use Rattle.padp_link.specs.FragmentText.{FragmentValue, IsFragment}
use Rattle.padp_link.specs.Pieces.{piece_count, piece_of, fragment_of}
use Rattle.padp_link.specs.Senders.{SenderValue, waiting}
use Rattle.padp_link.proofs.PieceLaws.{fragments_are}
use Rattle.padp_link.proofs.ReceiverLaws.{all_are_fragments}
use Rattle.padp_link.proofs.SenderLaws.{waiting_is, waits_with}

-- one of a list that is made by numbers
all_at : {X : Type 0} (P : X → Type 0) (f : ℕ → X) (from count place : ℕ) {at : ℕ} → place < count → from + place ≡ at
    → AllByRecursion P (map f (range_with_len from count)) → P (f at)
all_at P f from zero place inside is all = absurd (omega arith)
all_at P f from (suc count) zero {at} inside is all = let e : from ≡ at = omega arith in subst (λ n. P (f n)) e all.0
all_at P f from (suc count) (suc place) {at} inside is all = grind (arith, all_at P f (from + 1) count place)

-- the fragment of each piece is one of the protocol
pub fragment_of-IsFragment : (id number : ℕ) (message : List ℕ) → number < piece_count (length message)
    → IsFragment (fragment_of message (piece_of id (length message) number))
fragment_of-IsFragment id number message below =
    all_at IsFragment (λ n. fragment_of message (piece_of 0 (length message) n)) 0 (piece_count (length message)) number {at = number} below (omega arith)
    (subst (λ (fs : List FragmentValue). AllByRecursion IsFragment fs) (fragments_are 0 message) (all_are_fragments 0 message))

-- a piece ends inside its message
pub piece_of-within : (id length number : ℕ) → number < piece_count length → (piece_of id length number).place + (piece_of id length number).length ≤ length
piece_of-within id length number below = grind arith

-- the piece that waits is that of the number of pieces that are acknowledged
pub waiting-piece_of : (sender : SenderValue) (piece : Piece) → waiting sender ≡ Some piece
    → (sender.acknowledged < piece_count sender.length) × (piece ≡ piece_of sender.id sender.length sender.acknowledged)
waiting-piece_of sender piece is = grind (arith, waits_with, waiting_is)

-- it ends inside the message, and its fragment is one of the protocol
pub waiting-fragment : (sender : SenderValue) (message : List ℕ) (piece : Piece) → length message ≡ sender.length → waiting sender ≡ Some piece
    → (piece.place + piece.length ≤ sender.length) × IsFragment (fragment_of message piece)
waiting-fragment sender message piece whole is =
    grind (
      arith,
      nat_tests,
      common_steps,
      waiting-piece_of sender piece is,
      sender.id,
      sender.acknowledged,
      sender.length,
      piece_of-within sender.id sender.length sender.acknowledged (waiting-piece_of sender piece is).0,
      fragment_of-IsFragment sender.id sender.acknowledged message,
    )

-- the acknowledgement of a data fragment, with its flags and size, is a fragment of the protocol
pub ack-IsFragment : (fragment : FragmentValue) → fragment.kind ≡ Data → fragment.flags < 256 → IsFragment fragment
    → IsFragment (record { kind = Ack; flags = fragment.flags; size = fragment.size; bytes = [] })
ack-IsFragment fragment kind small is = grind (arith, nat_tests, common_steps)

-- ---- what a receiver makes of a piece
