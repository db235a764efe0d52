-- The databases of a slot that took no part in its last session, in byte order of the stems of
-- their names.
use Rattle.std.specs.Prelude.{◌≡◌, ◌*◌, ◌≤◌, ℕ, Bool, true, bytes_eq, find, if◌then◌else◌, List, [], ◌∷◌, length, Option}
use Rattle.std.specs.List.{prefix_len}
use Rattle.std.specs.Option.{is_some, option_map}
use Rattle.pdb_values.specs.Bounds.{most_databases}
use Rattle.pdb_values.specs.NamedDatabases.{comes_before}
use Rattle.pdb_values.specs.Stems.{stem_of}
use Rattle.folder_files.specs.declared.parted.Parted.{Parted}
use Rattle.folder_files.specs.declared.parted.Parting.{Parting}

-- as many as both sides together have
abbrev pub most_parted : ℕ
most_parted = 2 * most_databases

-- the stem of a name stands before that of another in byte order
abbrev pub stem_before : List ℕ → List ℕ → Bool
stem_before name other = comes_before (stem_of name) (stem_of other)

-- the stem of a name stands before that of the first of these, if there is one
abbrev pub leads : List ℕ → List Parted → Bool
leads name [] = true
leads name (next ∷ parted) = stem_before name next.name

-- the stem of a name stands behind that of the last of these, if there is one
abbrev pub follows : List Parted → List ℕ → Bool
follows [] name = true
follows (one ∷ []) name = stem_before one.name name
follows (one ∷ next ∷ parted) name = follows (next ∷ parted) name

-- each stem stands before the next one in byte order, so that none stands twice
abbrev pub StemsRise : List Parted → Type 0
StemsRise [] = Unit {0}
StemsRise (one ∷ parted) = (leads one.name parted ≡ true) × StemsRise parted

-- what a slot can keep: at most 400, whose stems rise in byte order
pub record PartedRise (parted : List Parted) : Type 0 where
  pub few : length parted ≤ most_parted
  pub rise : StemsRise parted

-- with a database at its place among these, instead of the one of its name, if there is one
abbrev pub with_one : Parted → List Parted → List Parted
with_one one [] = one ∷ []
with_one one (next ∷ parted) =
    if stem_before next.name one.name then next ∷ with_one one parted
    else if bytes_eq next.name one.name then one ∷ parted
    else one ∷ next ∷ parted

-- how many of these stand before a name, which is the place of its database
abbrev pub place_among : List ℕ → List Parted → ℕ
place_among name parted = prefix_len (λ (one : Parted). stem_before one.name name) parted

-- what is kept of the database of a name
abbrev pub parting_of : List ℕ → List Parted → Option Parting
parting_of name parted =
    option_map (λ one. one.how) (find (λ (one : Parted). bytes_eq one.name name) parted)

-- something is kept of it: it took no part
abbrev pub is_parted : List ℕ → List Parted → Bool
is_parted name parted = is_some (parting_of name parted)
