-- A receiver that holds the first pieces of a message and takes the next one holds one piece more.
use Rattle.std.proofs.lemmas.Bool.Decides.{nat_tests}
use Rattle.std.proofs.lemmas.Grind.{common_steps}
use Rattle.std.proofs.Common.{◌≡◌, ◌⊎◌, ℕ, zero, suc, ◌+◌, ◌-◌, ◌*◌, ◌<◌, ◌≤◌, min, Bool, true, false, cond, not, ◌&&◌, nat_eq, nat_le, List, [], ◌∷◌, ◌++◌}
use Rattle.std.proofs.Common.{length, take, drop, map, refl, sym, ap, ◌∙◌, arith, inl, inr}
use Rattle.std.specs.Bool.{beq}
use Rattle.std.specs.List.{range_with_len}
use Rattle.std.proofs.lemmas.Bool.{and_parts, eqb-true, ne_eqb, leb-true, cond-true, cond-false, not-true}
use Rattle.std.proofs.lemmas.List.{take_all, drop_at, length-append, nil_from_length}
use Rattle.std.proofs.lemmas.List.FromFn.{map-range_with_len_more}
use Rattle.padp_link.specs.declared.fragment.PadpKind.TheVariants.{Data}
use Rattle.padp_link.specs.declared.piece.Key.{Key}
use Rattle.padp_link.specs.FragmentText.{FragmentValue, has_flag, fits_first, fits_later, IsFragment}
use Rattle.padp_link.specs.Pieces.{piece_count, piece_flags, piece_size, piece_of, fragment_of}
use Rattle.padp_link.specs.Collecting.{taken_pieces, data_fragment}
use Rattle.padp_link.specs.Receivers.{bytes_of, is_complete, goes_on, is_next_piece}
use Rattle.padp_link.proofs.PieceLaws.{flags_are, bytes_of-taken}

-- ---- tests

pub same_tests : (a b : Bool) → (a ≡ true → b ≡ true) → (b ≡ true → a ≡ true) → a ≡ b
same_tests a b f g = grind arith

pub beq_is : (a b : Bool) → beq a b ≡ true → a ≡ b
beq_is a b e = grind arith

pub beq_of : (a b : Bool) → a ≡ b → beq a b ≡ true
beq_of a b e = grind arith

-- ---- what is held

pub bytes_of-held : (size count : ℕ) (bytes : List ℕ) → length bytes ≡ min (1024 * count) size → bytes_of (taken_pieces size count bytes) ≡ bytes
bytes_of-held size count bytes held = grind (arith, bytes_of-taken, take_all)

pub is_next_piece-later : (size count : ℕ) (bytes : List ℕ) (fragment : FragmentValue) → (count ≡ 0 → ⊥) → length bytes ≡ min (1024 * count) size
    → is_next_piece (taken_pieces size count bytes) fragment ≡ goes_on size (length bytes) fragment
is_next_piece-later size zero bytes fragment some held = absurd (some refl)
is_next_piece-later size (suc count) bytes fragment some held = cc (bytes_of-held size (suc count) bytes held)

pub is_complete-held : (size count : ℕ) (bytes : List ℕ) → length bytes ≡ min (1024 * count) size
    → is_complete (taken_pieces size count bytes) ≡ (not (nat_eq count 0) && nat_eq (length bytes) size)
is_complete-held size zero bytes held = refl
is_complete-held size (suc count) bytes held =
    grind (arith, nat_tests, common_steps, nat_eq (suc count) 0, ne_eqb (suc count) 0, bytes_of-held size (suc count) bytes held)

-- ---- the first piece

pub last_of_first : (size : ℕ) → nat_le size 1024 ≡ nat_eq (0 + 1) (piece_count size)
last_of_first size = grind arith

pub first_piece : (key : Key) (part : List ℕ) → key.flags < 256 → IsFragment (data_fragment key part) → has_flag 128 key.flags ≡ true
    → (fragment_of part (piece_of 0 key.size 0) ≡ data_fragment key part) × (length part ≡ min 1024 key.size)
first_piece key part byte is first =
    let size = key.size in
    let fits : fits_first (has_flag 64 key.flags) size (length part) ≡ true = sym (cond-true _ _ _ first) ∙ is.size in
    let parts = and_parts (nat_eq (length part) (min size 1024)) _ fits in
    let len : length part ≡ min size 1024 = eqb-true _ _ parts.0 in
    let last : has_flag 64 key.flags ≡ nat_eq (0 + 1) (piece_count size) = beq_is _ _ parts.1 ∙ last_of_first size in
    let flags : key.flags ≡ piece_flags size 0 = flags_are key.flags byte is.flags ∙ ap (λ (b : Bool). cond b 128 0 + cond (has_flag 64 key.flags) 64 0) first
    ∙ ap (λ (b : Bool). 128 + cond b 64 0) last in
    let bytes : take (min (size - 1024 * 0) 1024) (drop (1024 * 0) part) ≡ part =
    (let e : 1024 * 0 ≡ 0 = omega arith in rw e (take_all (min (size - 0) 1024) part (omega arith))) in
    (λ i. record { kind = Data; flags = sym flags i; size = size; bytes = bytes i }, omega arith)

-- ---- a later piece

full_is_some : (last : Bool) (len : ℕ) → cond last (nat_le 1 len && nat_le len 1024) (nat_eq len 1024) ≡ true → (1 ≤ len) × (len ≤ 1024)
full_is_some last len full = grind arith

-- behind so many pieces stands one more
record IsBehind (size count len : ℕ) (last : Bool) : Type 0 where
  counts : count + 1 ≤ piece_count size
  reaches : 1024 * count + len ≡ min (1024 * (count + 1)) size
  last_is : last ≡ nat_eq (count + 1) (piece_count size)

is_behind : (last : Bool) (size count len : ℕ) → cond last (nat_le 1 len && nat_le len 1024) (nat_eq len 1024) ≡ true → 1024 * count + len ≤ size
    → last ≡ nat_eq (1024 * count + len) size → IsBehind size count len last
is_behind last size count len full inside ends = grind arith

same_parts : (size from count : ℕ) (bytes part : List ℕ) → 1024 * (from + count) ≤ length bytes
    → map (λ number. fragment_of (bytes ++ part) (piece_of 0 size number)) (range_with_len from count)
    ≡ map (λ number. fragment_of bytes (piece_of 0 size number)) (range_with_len from count)
same_parts size from zero bytes part inside = refl
same_parts size from (suc count) bytes part inside = grind (arith, nat_tests, common_steps, same_parts size (from + 1) count bytes part)

-- what is held after one more piece
pub record HoldsMore (size count : ℕ) (bytes : List ℕ) (old : List FragmentValue) (fragment : FragmentValue) : Type 0 where
  pub pieces : taken_pieces size (count + 1) bytes ≡ old ++ fragment ∷ []
  pub counts : count + 1 ≤ piece_count size
  pub reaches : length bytes ≡ min (1024 * (count + 1)) size

pub holds_first : (size : ℕ) (bytes part : List ℕ) (key : Key) → length bytes ≡ 0 → key.flags < 256 → IsFragment (data_fragment key part)
    → is_next_piece (taken_pieces size 0 bytes) (data_fragment key part) ≡ true
    → HoldsMore key.size 0 (bytes ++ part) (taken_pieces size 0 bytes) (data_fragment key part)
holds_first size bytes part key none byte is next = grind (arith, nil_from_length, first_piece, length-append)

pub holds_later : (size count : ℕ) (bytes part : List ℕ) (key : Key) → (count ≡ 0 → ⊥) → length bytes ≡ min (1024 * count) size → key.flags < 256
    → IsFragment (data_fragment key part) → is_next_piece (taken_pieces size count bytes) (data_fragment key part) ≡ true
    → HoldsMore size count (bytes ++ part) (taken_pieces size count bytes) (data_fragment key part)
holds_later size count bytes part key some held byte is next =
    let fragment = data_fragment key part in
    let last = has_flag 64 key.flags in
    let goes : goes_on size (length bytes) fragment ≡ true = sym (is_next_piece-later size count bytes fragment some held) ∙ next in
    let p = and_parts _ (beq last (nat_eq (length bytes + length part) size)) goes in
    let q = and_parts _ (nat_le (length bytes + length part) size) p.0 in
    let r = and_parts (not (has_flag 128 key.flags)) (nat_eq key.size (length bytes)) q.0 in
    let not_first : has_flag 128 key.flags ≡ false = not-true _ r.0 in
    let place : key.size ≡ length bytes = eqb-true _ _ r.1 in
    let inside : length bytes + length part ≤ size = leb-true _ _ q.1 in
    let fits : fits_later last key.size (length part) ≡ true = sym (cond-false _ _ _ not_first) ∙ is.size in
    let full = (and_parts _ (cond last (nat_le 1 (length part) && nat_le (length part) 1024) (nat_eq (length part) 1024)) fits).1 in
    let part_len = full_is_some last (length part) full in
    let at : length bytes ≡ 1024 * count = omega arith in
    let ends : last ≡ nat_eq (1024 * count + length part) size = beq_is _ _ p.1 ∙ ap (λ (n : ℕ). nat_eq (n + length part) size) at in
    let behind = is_behind last size count (length part) full (omega arith) ends in
    let zero_not : nat_eq count 0 ≡ false = ne_eqb count 0 some in
    let flags : key.flags ≡ piece_flags size count =
    flags_are key.flags byte is.flags ∙ ap (λ (b : Bool). cond b 128 0 + cond last 64 0) (not_first ∙ sym zero_not)
    ∙ ap (λ (b : Bool). cond (nat_eq count 0) 128 0 + cond b 64 0) behind.last_is in
    let size_is : key.size ≡ piece_size size count = place ∙ at ∙ sym (cond-false _ _ _ zero_not) in
    let bytes_are : take (min (size - 1024 * count) 1024) (drop (1024 * count) (bytes ++ part)) ≡ part =
    ap (λ (s : List ℕ). take (min (size - 1024 * count) 1024) s) (drop_at bytes part (1024 * count) at) ∙ take_all (min (size - 1024 * count) 1024) part
    (omega arith) in
    let new : fragment_of (bytes ++ part) (piece_of 0 size count) ≡ fragment =
    (λ i. record { kind = Data; flags = sym flags i; size = sym size_is i; bytes = bytes_are i }) in
    record {
      pieces = map-range_with_len_more (λ number. fragment_of (bytes ++ part) (piece_of 0 size number)) 0 count count (omega arith)
          ∙ ap (λ (fs : List FragmentValue). fs ++ fragment_of (bytes ++ part) (piece_of 0 size count) ∷ []) (same_parts size 0 count bytes part (omega arith))
          ∙ ap (λ (f : FragmentValue). taken_pieces size count bytes ++ f ∷ []) new;
      counts = behind.counts;
      reaches = omega (arith, length-append bytes part, behind.reaches, at);
    }

-- either case, with the length of the message as it is then
pub holds_more : {size size' : ℕ} (count : ℕ) (bytes part : List ℕ) (key : Key) → ((count ≡ 0) × (size' ≡ key.size)) ⊎ ((count ≡ 0 → ⊥) × (size' ≡ size))
    → length bytes ≡ min (1024 * count) size → key.flags < 256 → IsFragment (data_fragment key part)
    → is_next_piece (taken_pieces size count bytes) (data_fragment key part) ≡ true
    → HoldsMore size' count (bytes ++ part) (taken_pieces size count bytes) (data_fragment key part)
holds_more {size} zero bytes part key (inl first) held byte is next =
    grind (arith, nat_tests, common_steps, first.1, holds_first size bytes part key (omega arith) byte is next)
holds_more (suc count) bytes part key (inl first) held byte is next = absurd (omega (arith, first.0))
holds_more {size} count bytes part key (inr later) held byte is next =
    grind (arith, nat_tests, common_steps, later.1, holds_later size count bytes part key later.0 held byte is next)
