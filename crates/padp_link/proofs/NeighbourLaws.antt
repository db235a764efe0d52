-- Neighbouring pieces have different keys.
use Rattle.std.proofs.Common.{◌≡◌, ℕ, zero, suc, ◌+◌, List, [], ◌∷◌, ◌++◌, map, refl, sym, ap, ◌∙◌, arith}
use Rattle.std.specs.List.{range_with_len, AllByRecursion}
use Rattle.padp_link.specs.declared.piece.Key.{Key}
use Rattle.padp_link.specs.declared.piece.Piece.{Piece}
use Rattle.padp_link.specs.Pieces.{piece_count, piece_of}
use Rattle.padp_link.specs.Neighbours.{Chain, Neighbours, Outgoing, HaveDifferentIds, HaveDifferentKeys, all_pieces, session_id, session_from}

-- a piece and the next one of the same message
pub next_key_differs : (id length number : ℕ) → HaveDifferentKeys (piece_of id length number) (piece_of id length (number + 1))
next_key_differs id length number = grind arith

-- the pieces of one message from one on, behind the one before them
within : (id length from count : ℕ) → Chain HaveDifferentKeys (piece_of id length from) (map (piece_of id length) (range_with_len (from + 1) count))
within id length from zero = tt
within id length from (suc count) = (next_key_differs id length from, within id length (from + 1) count)

abbrev HasId : ℕ → Piece → Type 0
HasId id piece = piece.key.id ≡ id

all_have_id : (id length from count : ℕ) → AllByRecursion (HasId id) (map (piece_of id length) (range_with_len from count))
all_have_id id length from zero = tt
all_have_id id length from (suc count) = (refl, all_have_id id length (from + 1) count)

-- one chain behind another
chain-append : {X : Type 0} (R : X → X → Type 0) (P : X → Type 0) (x : X) (xs ys : List X) → P x → AllByRecursion P xs → Chain R x xs
    → ((z : X) → P z → Chain R z ys) → Chain R x (xs ++ ys)
chain-append R P x [] ys p all chain behind = behind x p
chain-append R P x (z ∷ zs) ys p all chain behind = (chain.0, chain-append R P z zs ys all.0 all.1 chain.1 behind)

-- the pieces of a message, and what stands behind its last one
chain_of : (id length count : ℕ) (later : List Piece) → ((last : Piece) → HasId id last → Chain HaveDifferentKeys last later)
    → Chain HaveDifferentKeys (piece_of id length 0) (map (piece_of id length) (range_with_len 1 count) ++ later)
chain_of id length count later behind =
    chain-append HaveDifferentKeys (HasId id) (piece_of id length 0) (map (piece_of id length) (range_with_len 1 count)) later refl
    (all_have_id id length 1 count) (within id length 0 count) behind

-- the pieces of a message and those of the messages behind it
behind_message : (message : Outgoing) (later : List Outgoing) → Chain HaveDifferentIds message later → (piece : Piece) → HasId message.id piece
    → Chain HaveDifferentKeys piece (all_pieces later)
behind_message message [] chain piece has = tt
behind_message message (next ∷ later) chain piece has = go (piece_count next.length) refl (behind_message next later chain.1) where
  go : (count : ℕ) → piece_count next.length ≡ count → ((last : Piece) → HasId next.id last → Chain HaveDifferentKeys last (all_pieces later))
      → Chain HaveDifferentKeys piece (map (piece_of next.id next.length) (range_with_len 0 count) ++ all_pieces later)
  go zero e behind = absurd (omega arith)
  go (suc count) e behind = (λ same. chain.0 (sym has ∙ ap (λ (key : Key). key.id) same), chain_of next.id next.length count (all_pieces later) behind)

pub keys_differ : (messages : List Outgoing) → Neighbours HaveDifferentIds messages → Neighbours HaveDifferentKeys (all_pieces messages)
keys_differ [] chain = tt
keys_differ (message ∷ later) chain = go (piece_count message.length) refl where
  go : (count : ℕ) → piece_count message.length ≡ count
      → Neighbours HaveDifferentKeys (map (piece_of message.id message.length) (range_with_len 0 count) ++ all_pieces later)
  go zero e = absurd (omega arith)
  go (suc count) e = chain_of message.id message.length count (all_pieces later) (behind_message message later chain)

-- ---- the messages of a session

pub next_id_differs : (number : ℕ) → session_id number ≡ session_id (number + 1) → ⊥
next_id_differs number same = grind arith

session_ids_differ : (lengths : List ℕ) (number length : ℕ)
    → Chain HaveDifferentIds (record { id = session_id number; length = length }) (session_from (number + 1) lengths)
session_ids_differ [] number length = tt
session_ids_differ (next ∷ later) number length = (next_id_differs number, session_ids_differ later (number + 1) next)

session_is_a_chain : (lengths : List ℕ) → Neighbours HaveDifferentIds (session_from 0 lengths)
session_is_a_chain [] = tt
session_is_a_chain (length ∷ later) = session_ids_differ later 0 length

pub session_keys_differ : (lengths : List ℕ) → Neighbours HaveDifferentKeys (all_pieces (session_from 0 lengths))
session_keys_differ lengths = keys_differ (session_from 0 lengths) (session_is_a_chain lengths)
