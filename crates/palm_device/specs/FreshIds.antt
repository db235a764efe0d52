-- Fresh ids: what becomes of ids that are 0 or stand twice where a handheld's files are read.
use Rattle.std.specs.Prelude.{ℕ, zero, suc, Bool, not, ◌&&◌, List, [], ◌∷◌, length, map, ◌==◌, if◌then◌else◌}
use Rattle.std.specs.List.{list_any}
use Rattle.pdb_values.specs.declared.record.Record.{Record}

-- an id is among these
abbrev pub is_among : ℕ → List ℕ → Bool
is_among id ids = list_any (λ other. other == id) ids

-- an id is kept that isn't 0 and that no earlier record has
abbrev pub is_kept : List ℕ → ℕ → Bool
is_kept earlier id = not (id == 0) && not (is_among id earlier)

-- the ids that are kept, behind the earlier ones
unfoldable pub kept_behind : List ℕ → List ℕ → List ℕ
kept_behind earlier [] = []
kept_behind earlier (id ∷ ids) =
    if is_kept earlier id then id ∷ kept_behind (id ∷ earlier) ids
    else kept_behind (id ∷ earlier) ids

-- the least number from `first` on that is not among the taken ones, if `more` steps lead to it
unfoldable pub least_from : ℕ → ℕ → List ℕ → ℕ
least_from zero first taken = first
least_from (suc more) first taken =
    if is_among first taken then least_from more (suc first) taken else first

-- the least id from 1 that is not taken
abbrev pub least_id : List ℕ → ℕ
least_id taken = least_from (length taken) 1 taken

-- each id that isn't kept, in order, gives way to the least one from 1 that is neither kept nor
-- given before
unfoldable pub given_behind : List ℕ → List ℕ → List ℕ → List ℕ
given_behind earlier taken [] = []
given_behind earlier taken (id ∷ ids) =
    if is_kept earlier id then id ∷ given_behind (id ∷ earlier) taken ids
    else least_id taken ∷ given_behind (id ∷ earlier) (least_id taken ∷ taken) ids

-- the ids of a database after its files were read
abbrev pub fresh_ids : List ℕ → List ℕ
fresh_ids ids = given_behind [] (kept_behind [] ids) ids

-- records under other ids, one for each
unfoldable pub with_ids : List ℕ → List Record → List Record
with_ids [] records = records
with_ids (id ∷ ids) [] = []
with_ids (id ∷ ids) (item ∷ records) = record item { id = id } ∷ with_ids ids records

-- the records of a database after its files were read
abbrev pub with_fresh_ids : List Record → List Record
with_fresh_ids records = with_ids (fresh_ids (map (λ item. item.id) records)) records
