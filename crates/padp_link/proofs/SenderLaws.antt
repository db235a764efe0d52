-- The piece that waits.
use Rattle.std.proofs.Common.{◌≡◌, ℕ, zero, suc, ◌+◌, ◌<◌, ◌≤◌, map, Some, None, slice_get, ap, arith}
use Rattle.std.specs.List.{range_with_len}
use Rattle.std.proofs.lemmas.Option.{slice_get_past, slice_get_within}
use Rattle.std.proofs.lemmas.List.FromFn.{length-map-range_with_len}
use Rattle.padp_link.specs.declared.piece.Piece.{Piece}
use Rattle.padp_link.specs.Pieces.{piece_count, piece_of}
use Rattle.padp_link.specs.Senders.{SenderValue, waiting}

slice_get-map-range : {X : Type 0} (f : ℕ → X) (from count place : ℕ) → place < count
    → slice_get (map f (range_with_len from count)) place ≡ Some (f (from + place))
slice_get-map-range f from zero place inside = absurd (omega arith)
slice_get-map-range f from (suc count) zero inside = let e : from ≡ from + 0 = omega arith in ap (λ (k : ℕ). Some (f k)) e
slice_get-map-range f from (suc count) (suc place) inside = grind (arith, slice_get-map-range f (from + 1) count place)

pub waiting_is : (sender : SenderValue) → sender.acknowledged < piece_count sender.length
    → waiting sender ≡ Some (piece_of sender.id sender.length sender.acknowledged)
waiting_is sender waits = grind (arith, slice_get-map-range)

pub waiting_none : (sender : SenderValue) → piece_count sender.length ≤ sender.acknowledged → waiting sender ≡ None
waiting_none sender none = grind (arith, slice_get_past, length-map-range_with_len)

pub waits_with : (sender : SenderValue) (piece : Piece) → waiting sender ≡ Some piece → sender.acknowledged + 1 ≤ piece_count sender.length
waits_with sender piece is = grind (arith, slice_get_within, length-map-range_with_len)
