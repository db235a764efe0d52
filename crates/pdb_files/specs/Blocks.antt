-- The blocks of a file, one behind the other (Palm File Format Specification). Each is known by
-- where it begins, and
-- reaches to the next one or to the end of the file.
use Rattle.std.specs.Prelude.{ℕ, ◌+◌, ◌-◌, ◌||◌, ◌≤◌, nat_lt, Bool, zero, suc, List, [], ◌∷◌, ◌++◌, length, drop, map, slice_range, Option, Some, None}
use Rattle.std.specs.List.{AllByRecursion, zip, position_from}
use Rattle.pdb_values.specs.Bounds.{most_bytes}

-- where each block begins, the first one at a place
abbrev pub begins_from : ℕ → List (List ℕ) → List ℕ
begins_from place [] = []
begins_from place (block ∷ blocks) = place ∷ begins_from (place + length block) blocks

-- a block that can be absent, as the blocks that it makes
abbrev pub block_list : Option (List ℕ) → List (List ℕ)
block_list None = []
block_list (Some block) = block ∷ []

-- what the header says of such a block: where it begins, or 0 where it is absent
abbrev pub block_offset : Option (List ℕ) → ℕ → ℕ
block_offset None place = 0
block_offset (Some block) place = place

-- where a block begins of which the header says this, if it is there
abbrev pub begin_list : ℕ → List ℕ
begin_list zero = []
begin_list (suc offset) = suc offset ∷ []

-- the first of these blocks, where the header says that it is there
abbrev pub front_block : ℕ → List (List ℕ) → Option (List ℕ)
front_block zero blocks = None
front_block (suc offset) [] = None
front_block (suc offset) (block ∷ blocks) = Some block

-- what stands behind it
abbrev pub behind_front : {A : Type 0} → ℕ → List A → List A
behind_front zero items = items
behind_front (suc offset) items = drop 1 items

-- where each block ends
abbrev pub ends : List ℕ → ℕ → List ℕ
ends begins end = drop 1 begins ++ end ∷ []

-- where each block begins and ends
abbrev pub spans : List ℕ → ℕ → List (ℕ × ℕ)
spans begins end = zip begins (ends begins end)

-- the blocks of a file
abbrev pub blocks_in : List ℕ → List ℕ → List (List ℕ)
blocks_in begins bytes = map (λ span. slice_range bytes span.0 span.1) (spans begins (length bytes))

-- A block begins before the end of the entries, before the block in front of it, or after the end
-- of the file. The
-- pair is where the block in front of it begins (for the first one the end of the entries), and
-- where it does.
abbrev pub is_misplaced : ℕ → ℕ → (ℕ × ℕ) → Bool
is_misplaced entries_end end pair =
    nat_lt pair.1 entries_end || nat_lt pair.1 pair.0 || nat_lt end pair.1

-- the least block that is out of its place
abbrev pub first_misplaced : ℕ → ℕ → List ℕ → Option ℕ
first_misplaced entries_end end begins =
    position_from (is_misplaced entries_end end) 0 (zip (entries_end ∷ begins) begins)

-- more than 65,500 bytes
abbrev pub is_oversized : (ℕ × ℕ) → Bool
is_oversized span = nat_lt most_bytes (span.1 - span.0)

-- the least block that is too large
abbrev pub first_oversized : ℕ → List ℕ → Option ℕ
first_oversized end begins = position_from is_oversized 0 (spans begins end)

-- each block begins at or behind the place in front of it, and none after the end
abbrev pub AreInOrder : ℕ → ℕ → List ℕ → Type 0
AreInOrder before end [] = Unit {0}
AreInOrder before end (begin ∷ begins) =
    (before ≤ begin) × (begin ≤ end) × AreInOrder begin end begins

-- no block is too large
abbrev pub AreShort : List (List ℕ) → Type 0
AreShort blocks = AllByRecursion (λ block. length block ≤ most_bytes) blocks

-- where a list of blocks goes on: where the next one begins, or at the end
abbrev pub next_begin : List ℕ → ℕ → ℕ
next_begin [] end = end
next_begin (begin ∷ begins) end = begin
