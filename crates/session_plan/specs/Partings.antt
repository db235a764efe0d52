-- On which databases both sides agree, and which took no part in a session.
use Rattle.std.specs.Prelude.{ℕ, Bool, true, false, not, ◌&&◌, ◌||◌, if◌then◌else◌, is_some, length, nat_lt, List, [], ◌∷◌, Option, None, Some}
use Rattle.pdb_values.specs.NamedDatabases.{database_of}
use Rattle.folder_files.specs.Partings.{is_parted, most_parted, parting_of, with_one}
use Rattle.folder_files.specs.declared.parted.Parted.{Parted}
use Rattle.folder_files.specs.declared.parted.Parting.{Parting}
use Rattle.folder_files.specs.declared.parted.Parting.TheVariants.{Apart, Unmet}
use Rattle.desk_store.specs.Shelves.{ShelvesValue}
use Rattle.session_parts.specs.declared.skip.Skip.{Skip}
use Rattle.session_parts.specs.declared.skip.Skip.TheVariants as skip
use Rattle.session_plan.specs.declared.planned.Planned.{Planned}

-- both sides agree on the database of a name: their marks agree, and it took part in the slot's
-- last session
abbrev pub agrees_with : Bool → List Parted → List ℕ → Bool
agrees_with agree parted name = agree && not (is_parted name parted)

-- it took no part since it was missing, or since the handheld was a stranger
abbrev pub is_unmet : Option Parting → Bool
is_unmet None = false
is_unmet (Some Apart) = false
is_unmet (Some Unmet) = true

abbrev pub was_missing : Skip → Bool
was_missing skip.Missing = true
was_missing other = false

-- what the slot keeps of a database that took no part
abbrev pub parting : Bool → Option Parting → Skip → Parting
parting stranger before why =
    if stranger || (is_unmet before || was_missing why) then Unmet else Apart

-- what it keeps of each: nothing where it took part, or where there are no base rows of it
abbrev pub parting_by : Bool → Bool → Option Parting → Option Skip → Option Parting
parting_by stranger based before None = None
parting_by stranger based before (Some why) =
    if based then Some (parting stranger before why) else None

-- with what is kept of a database, if anything is, and the slot has room for it
abbrev pub with_parting : List ℕ → Option Parting → List Parted → List Parted
with_parting name None parted = parted
with_parting name (Some how) parted =
    if nat_lt (length parted) most_parted then with_one (record { name = name; how = how }) parted
    else parted

-- what the slot keeps of a planned database once the session has ended, where it kept this before
abbrev pub parting_planned : Bool → ShelvesValue → List Parted → Planned → Option Parting
parting_planned stranger shelves before one =
    parting_by stranger (is_some (database_of one.job.name shelves.bases))
    (parting_of one.job.name before) one.job.skip

-- and of all of them
abbrev pub parted_planned : Bool → ShelvesValue → List Parted → List Planned → List Parted
parted_planned stranger shelves before [] = []
parted_planned stranger shelves before (one ∷ planned) =
    with_parting one.job.name (parting_planned stranger shelves before one)
    (parted_planned stranger shelves before planned)
