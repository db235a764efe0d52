-- The waiting piece of an end.
use Rattle.line_steps.proofs.Names.{rules, ◌≡◌, ℕ, ◌+◌, ◌-◌, ◌≤◌, List, length, take, drop, Some, sym, ap, subst, ◌∙◌, arith, Data, Piece, IsFragment, piece_of}
use Rattle.line_steps.proofs.Names.{fragment_of, waiting, waiting-piece_of, waiting-fragment, part_now, Half, IsHalf, side_of}

pub record IsPiece (half : Half) (piece : Piece) : Type 0 where
  pub is : piece ≡ piece_of half.sender.id (length half.message) half.sender.acknowledged
  pub within : piece.place + piece.length ≤ length half.message
  pub fragment : IsFragment (part_now (side_of half))
  pub part_is : fragment_of half.message piece ≡ part_now (side_of half)
  pub id_is : piece.key.id ≡ half.sender.id

pub is_piece : {half : Half} {piece : Piece} → IsHalf half → waiting half.sender ≡ Some piece → IsPiece half piece
is_piece {half} {piece} is_half waits =
    let found = waiting-piece_of half.sender piece waits in
    let parts = waiting-fragment half.sender half.message piece (sym is_half.length_is) waits in
    let is : piece ≡ piece_of half.sender.id (length half.message) half.sender.acknowledged =
    found.1 ∙ ap (λ n. piece_of half.sender.id n half.sender.acknowledged) is_half.length_is in
    let part : fragment_of half.message piece ≡ part_now (side_of half) = ap (λ p. fragment_of half.message p) is in
    record {
      is = is;
      within = omega (arith, parts.0, is_half.length_is);
      fragment = subst (λ f. IsFragment f) part parts.1;
      part_is = part;
      id_is = ap (λ p. p.key.id) is;
    }

-- the bytes of a piece
pub piece_bytes : {message slice : List ℕ} (piece : Piece) {place end : ℕ} → slice ≡ message → place ≡ piece.place → end ≡ place + piece.length
    → take (end - place) (drop place slice) ≡ take piece.length (drop piece.place message)
piece_bytes piece same at to = search rules

pub with_bytes : (message : List ℕ) (piece : Piece) {bytes : List ℕ} → bytes ≡ take piece.length (drop piece.place message)
    → record { kind = Data; flags = piece.key.flags; size = piece.key.size; bytes = bytes } ≡ fragment_of message piece
with_bytes message piece same = search rules
