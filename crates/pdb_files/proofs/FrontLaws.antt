-- The app block and the sort block: each stands in front of the others, if it is there.
use Rattle.std.proofs.Common.{◌≡◌, ℕ, zero, suc, ◌+◌, ◌^◌, ◌<◌, ◌≤◌, List, [], ◌∷◌, ◌++◌, length, get_or, drop, Option, Some, None, refl, ap, ◌∙◌}
use Rattle.std.proofs.Common.{arith}
use Rattle.std.specs.Prelude.{slice_index, slice_range}
use Rattle.std.specs.List.{AllByRecursion}
use Rattle.std.proofs.lemmas.List.{length-append}
use Rattle.pdb_values.specs.Blocks.{block_length}
use Rattle.pdb_files.specs.Blocks.{AreInOrder, AreShort, begin_list, begins_from, behind_front, block_list, block_offset, blocks_in, front_block, next_begin}
use Rattle.pdb_files.proofs.BlockLaws.{blocks_in-cons, in_order_earlier}

-- what the first of these blocks is, where they begin as the header says
pub record ReadsFront (offset place : ℕ) (blocks : List (List ℕ)) (begins : List ℕ) : Type 0 where
  pub parts : block_list (front_block offset blocks) ++ behind_front offset blocks ≡ blocks
  pub says : block_offset (front_block offset blocks) place ≡ offset
  pub behind : begins_from (place + block_length (front_block offset blocks)) (behind_front offset blocks) ≡ begins

pub front-read : (offset place : ℕ) (blocks : List (List ℕ)) (begins : List ℕ)
    → begins_from place blocks ≡ begin_list offset ++ begins → ReadsFront offset place blocks begins
front-read zero place blocks begins e =
    let same : place + 0 ≡ place = omega arith in
    record { parts = refl; says = refl; behind = ap (λ place. begins_from place blocks) same ∙ e }
front-read (suc offset) place [] begins e = absurd cc
front-read (suc offset) place (block ∷ blocks) begins e = record { parts = refl; says = ap (λ begins. get_or begins 0 0) e; behind = ap (drop 1) e }

-- what the header says of a block, and what is read by it
pub record WritesFront (block : Option (List ℕ)) (place : ℕ) (blocks : List (List ℕ)) : Type 0 where
  pub begins : begin_list (block_offset block place) ++ begins_from (place + block_length block) blocks ≡ begins_from place (block_list block ++ blocks)
  pub reads : front_block (block_offset block place) (block_list block ++ blocks) ≡ block
  pub behind : behind_front (block_offset block place) (block_list block ++ blocks) ≡ blocks

pub front-written : (block : Option (List ℕ)) (place : ℕ) (blocks : List (List ℕ)) → 0 < place → WritesFront block place blocks
front-written None place blocks some =
    let same : place + 0 ≡ place = omega arith in
    record { begins = ap (λ place. begins_from place blocks) same; reads = refl; behind = refl }
front-written (Some block) zero blocks some = absurd (omega arith)
front-written (Some block) (suc place) blocks some = record { begins = refl; reads = refl; behind = refl }

-- places that the offsets can name
pub offset_small : (block : Option (List ℕ)) (place : ℕ) (blocks : List (List ℕ))
    → AllByRecursion (λ begin. begin < 2 ^ 32) (begins_from place (block_list block ++ blocks))
    → (block_offset block place < 2 ^ 32) × AllByRecursion (λ begin. begin < 2 ^ 32) (begins_from (place + block_length block) blocks)
offset_small None place blocks small = grind arith
offset_small (Some block) place blocks small = small

pub begins_fit : (offset : ℕ) (begins : List ℕ)
    → offset < 2 ^ 32 → AllByRecursion (λ begin. begin < 2 ^ 32) begins → AllByRecursion (λ begin. begin < 2 ^ 32) (begin_list offset ++ begins)
begins_fit zero begins lt small = small
begins_fit (suc offset) begins lt small = (lt, small)

-- ---- the blocks of a file behind the first one

pub front_there : (offset : ℕ) (rest begins : List ℕ) → begins ≡ begin_list offset ++ rest → length (begin_list offset) ≤ length begins
front_there offset rest begins e = grind (arith, length-append)

pub begins-behind : (offset : ℕ) (rest begins : List ℕ) → begins ≡ begin_list offset ++ rest → behind_front offset begins ≡ rest
begins-behind zero rest begins e = e
begins-behind (suc offset) rest begins e = ap (drop 1) e

pub blocks-behind : (offset : ℕ) (begins bytes : List ℕ) → blocks_in (behind_front offset begins) bytes ≡ behind_front offset (blocks_in begins bytes)
blocks-behind zero begins bytes = refl
blocks-behind (suc offset) [] bytes = refl
blocks-behind (suc offset) (begin ∷ begins) bytes = grind (arith, blocks_in-cons)

pub length-behind : (offset : ℕ) (blocks : List (List ℕ)) (rest : List ℕ)
    → length blocks ≡ length (begin_list offset ++ rest) → length (behind_front offset blocks) ≡ length rest
length-behind zero blocks rest e = e
length-behind (suc offset) [] rest e = absurd (omega arith)
length-behind (suc offset) (block ∷ blocks) rest e = omega arith

pub order-behind : (offset end : ℕ) (begins : List ℕ) → AreInOrder 0 end begins → AreInOrder 0 end (behind_front offset begins)
order-behind zero end begins order = order
order-behind (suc offset) end [] order = tt
order-behind (suc offset) end (begin ∷ begins) order = in_order_earlier 0 end begin begins (omega arith) order.2

pub short-behind : (offset : ℕ) (blocks : List (List ℕ)) → AreShort blocks → AreShort (behind_front offset blocks)
short-behind zero blocks short = short
short-behind (suc offset) [] short = tt
short-behind (suc offset) (block ∷ blocks) short = short.1

pub short-front : (offset : ℕ) (blocks : List (List ℕ)) → AreShort blocks → block_length (front_block offset blocks) ≤ 65500
short-front zero blocks short = omega arith
short-front (suc offset) [] short = omega arith
short-front (suc offset) (block ∷ blocks) short = short.0

-- the first block, as its bytes
pub front_is : (offset : ℕ) (begins bytes : List ℕ) → 0 < offset → length (begin_list offset) ≤ length begins
    → Some (slice_range bytes (slice_index begins 0) (next_begin (drop 1 begins) (length bytes))) ≡ front_block offset (blocks_in begins bytes)
front_is zero begins bytes some there = absurd (omega arith)
front_is (suc offset) [] bytes some there = absurd (omega arith)
front_is (suc offset) (begin ∷ begins) bytes some there = grind (arith, blocks_in-cons)
