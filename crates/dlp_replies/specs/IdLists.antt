-- Ids of records in a reply, and their texts (pilot-link, `dlp.c`: dlp_ReadRecordIDList).
use Rattle.std.specs.Prelude.{ℕ, ◌+◌, ◌≤◌, List, [], ◌∷◌}
use Rattle.std.specs.List.{flat_map}
use Rattle.std.specs.Int.{w32, from_be_bytes, to_be_bytes}
use Rattle.pdb_values.specs.Bounds.{greatest_id}
use Rattle.dlp_replies.specs.Checks.{Checks, is_id}

-- the texts of ids, four bytes each
abbrev pub ids_text : List ℕ → List ℕ
ids_text ids = flat_map (to_be_bytes w32) ids

-- a number of 24 bits
abbrev pub IsId : ℕ → Type 0
IsId id = id ≤ greatest_id

-- the numbers of each four bytes
unfoldable pub words : List ℕ → List ℕ
words (a ∷ b ∷ c ∷ d ∷ bytes) = from_be_bytes w32 (a ∷ b ∷ c ∷ d ∷ []) ∷ words bytes
words bytes = []

-- the values of ids from a place on
abbrev pub ids_checks : ℕ → List ℕ → Checks
ids_checks at [] = []
ids_checks at (id ∷ ids) = (at, is_id id) ∷ ids_checks (at + 4) ids
