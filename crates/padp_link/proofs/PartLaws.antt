-- A receiver has one form of parts.
use Rattle.std.proofs.Common.{◌≡◌, ℕ, zero, suc, ◌*◌, ◌≤◌, min, true, not, ◌&&◌, ◌||◌, nat_eq, nat_le, List, [], ◌∷◌, length, inl, inr, refl, sym, ap, ◌∙◌}
use Rattle.std.proofs.lemmas.Bool.{and_parts, both_ways, eq-eqb, eqb-true, leb-true, not-true, or_cases}
use Rattle.std.proofs.lemmas.List.FromFn.{length-map-range_with_len}
use Rattle.padp_link.proofs.CollectingLaws.{bytes_of-held}
use Rattle.padp_link.specs.Collecting.{taken_pieces}
use Rattle.padp_link.specs.FragmentText.{FragmentValue}
use Rattle.padp_link.specs.Parts.{SameReceiverParts, are_receiver_parts, receiver_of}
use Rattle.padp_link.specs.Pieces.{fragment_of, piece_count, piece_of}
use Rattle.padp_link.specs.Receivers.{ReceiverValue, bytes_of}
use Rattle.padp_link.specs.declared.parts.ReceiverParts.{ReceiverParts}

-- what the test of parts says
pub record IsReceivers (parts : ReceiverParts) : Type 0 where
  pub counts : parts.taken ≤ piece_count parts.length
  pub has_all : length parts.received.items ≡ min (1024 * parts.taken) parts.length
  pub none : parts.taken ≡ 0 → parts.length ≡ 0

length_none : (count size : ℕ) → (not (nat_eq count 0) || nat_eq size 0) ≡ true → count ≡ 0 → size ≡ 0
length_none count size test none = elim (or_cases (not (nat_eq count 0)) (nat_eq size 0) test) [
  | inl some ↦ absurd (both_ways _ (not-true _ some) (eq-eqb count 0 none))
  | inr same ↦ eqb-true size 0 same
]

pub are_receiver_parts-true : (parts : ReceiverParts) → are_receiver_parts parts ≡ true → IsReceivers parts
are_receiver_parts-true parts test =
    let outer = and_parts
    (nat_le parts.taken (piece_count parts.length) && nat_eq (length parts.received.items) (min (1024 * parts.taken) parts.length))
    (not (nat_eq parts.taken 0) || nat_eq parts.length 0) test in
    let inner = and_parts (nat_le parts.taken (piece_count parts.length)) (nat_eq (length parts.received.items) (min (1024 * parts.taken) parts.length))
    outer.0 in
    record { counts = leb-true _ _ inner.0; has_all = eqb-true _ _ inner.1; none = length_none parts.taken parts.length outer.1 }

-- the length that the first piece announces
abbrev announced : List FragmentValue → ℕ
announced [] = 0
announced (first ∷ later) = first.size

announced-taken : (size count : ℕ) (bytes : List ℕ) → (count ≡ 0 → size ≡ 0) → announced (taken_pieces size count bytes) ≡ size
announced-taken size zero bytes none = sym (none refl)
announced-taken size (suc count) bytes none = refl

length-taken : (size count : ℕ) (bytes : List ℕ) → length (taken_pieces size count bytes) ≡ count
length-taken size count bytes = length-map-range_with_len (λ number. fragment_of bytes (piece_of 0 size number)) 0 count

pub receiver_of-same : (x y : ReceiverParts) → are_receiver_parts x ≡ true → are_receiver_parts y ≡ true → receiver_of y ≡ receiver_of x
    → SameReceiverParts x y
receiver_of-same x y x_are y_are same =
    let x_is = are_receiver_parts-true x x_are in
    let y_is = are_receiver_parts-true y y_are in
    let pieces : taken_pieces y.length y.taken y.received.items ≡ taken_pieces x.length x.taken x.received.items =
    ap (λ (r : ReceiverValue). r.pieces) same in
    record {
      awaited_is = ap (λ (r : ReceiverValue). r.awaited) same;
      length_is = sym (announced-taken y.length y.taken y.received.items y_is.none) ∙ ap announced pieces
          ∙ announced-taken x.length x.taken x.received.items x_is.none;
      taken_is = sym (length-taken y.length y.taken y.received.items) ∙ ap length pieces ∙ length-taken x.length x.taken x.received.items;
      received_is = sym (bytes_of-held y.length y.taken y.received.items y_is.has_all) ∙ ap bytes_of pieces
          ∙ bytes_of-held x.length x.taken x.received.items x_is.has_all;
      last_is = ap (λ (r : ReceiverValue). r.last) same;
    }
