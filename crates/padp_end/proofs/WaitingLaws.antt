-- The piece that waits.
use Rattle.std.proofs.Common.{◌≡◌, ℕ, ◌+◌, ◌≤◌, true, List, length, Some, sym, ap, ◌∙◌, arith, nat_eq}
use Rattle.std.proofs.lemmas.Bool.{eqb-true}
use Rattle.padp_link.proofs.PieceLaws.{flag_last}
use Rattle.padp_link.proofs.WaitingLaws.{waiting-fragment, waiting-piece_of}
use Rattle.padp_link.specs.declared.piece.Piece.{Piece}
use Rattle.padp_link.specs.FragmentText.{IsFragment, has_flag}
use Rattle.padp_link.specs.Pieces.{fragment_of, piece_count}
use Rattle.padp_link.specs.Senders.{SenderValue, WaitsOnLast, waiting}

-- a piece with the flag of a last one is the last one
pub waits_on_last : (sender : SenderValue) (piece : Piece) → waiting sender ≡ Some piece → has_flag 64 piece.key.flags ≡ true → WaitsOnLast sender
waits_on_last sender piece waits last =
    let found = waiting-piece_of sender piece waits in
    let test : nat_eq (sender.acknowledged + 1) (piece_count sender.length) ≡ true =
    sym (flag_last (nat_eq sender.acknowledged 0) (nat_eq (sender.acknowledged + 1) (piece_count sender.length)))
    ∙ ap (λ (p : Piece). has_flag 64 p.key.flags) (sym found.1) ∙ last in
    eqb-true _ _ test

-- what `say_piece` asks for
pub record IsInside (message : List ℕ) (piece : Piece) : Type 0 where
  pub inside : piece.place + piece.length ≤ length message
  pub fragment : IsFragment (fragment_of message piece)
  pub short : piece.length ≤ 1024

pub waits_inside : (sender : SenderValue) (message : List ℕ) (piece : Piece) → sender.length ≡ length message → waiting sender ≡ Some piece
    → IsInside message piece
waits_inside sender message piece whole waits =
    let parts = waiting-fragment sender message piece (sym whole) waits in
    let found = waiting-piece_of sender piece waits in
    record {
      inside = omega (arith, parts.0);
      fragment = parts.1;
      short = omega (arith, ap (λ (p : Piece). p.length) found.1);
    }
