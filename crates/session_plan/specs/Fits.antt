-- When a desktop takes what was planned: its rows, its names, its ids and its user are as a change
-- of a slot asks for.
use Rattle.std.specs.Prelude.{◌≡◌, ◌≤◌, true, false, Bool, ℕ, List, [], ◌∷◌, length, map, None}
use Rattle.std.specs.Prelude.{IfSome}
use Rattle.std.specs.List.{list_all}
use Rattle.pdb_values.specs.Bounds.{most_databases}
use Rattle.pdb_values.specs.Databases.{DatabaseValue}
use Rattle.pdb_values.specs.Heads.{holds_resources}
use Rattle.pdb_values.specs.NamedDatabases.{comes_before, database_of}
use Rattle.pdb_values.specs.declared.head.DbHead.{DbHead}
use Rattle.pdb_values.specs.declared.user.Marks.{Marks}
use Rattle.conduit_rules.specs.declared.planned.Plan.{Plan}
use Rattle.desk_store.specs.Changes.{IsFree}
use Rattle.desk_store.specs.Shelves.{ShelvesValue, SlotValue, number_of, slot_at}
use Rattle.session_plan.specs.Jobs.{jobs_of}
use Rattle.session_plan.specs.PlannedLimits.{unskipped}
use Rattle.session_plan.specs.Takes.{rows_begun}
use Rattle.session_plan.specs.declared.planned.Planned.{Planned}
use Rattle.session_plan.specs.declared.wishes.Wishes.{Wishes}

-- ---- names

-- names stand in byte order, each once
abbrev pub Rise : List (List ℕ) → Type 0
Rise [] = Unit {0}
Rise (name ∷ names) = (list_all (λ later. comes_before name later) names ≡ true) × Rise names

abbrev pub names_planned : List Planned → List (List ℕ)
names_planned planned = map (λ (one : Planned). one.job.name) planned

-- ---- rows and ids

-- rows hold records under this name, and each new record of a plan got an id
pub record TakesPlan (name : List ℕ) (plan : Plan) (given : List ℕ)
    (rows : DatabaseValue) : Type 0 where
  pub records : holds_resources rows.head.attributes ≡ false
  pub named : rows.head.name ≡ name
  pub counted : length given ≡ length plan.adds.items

-- the rows that a planned database changes do, unless it is skipped
abbrev pub IsTakeable : ℕ → ShelvesValue → Planned → List ℕ → Type 0
IsTakeable date shelves one given =
    one.job.skip ≡ None
    → IfSome (rows_begun date (database_of one.job.name shelves.rows) one.job.handheld)
    (TakesPlan one.job.name one.plan given)

-- each with the ids of its own new records
abbrev pub AreTakeable : ℕ → ShelvesValue → List Planned → List (List ℕ) → Type 0
AreTakeable date shelves [] [] = Unit {0}
AreTakeable date shelves (one ∷ planned) (given ∷ ids) =
    IsTakeable date shelves one given × AreTakeable date shelves planned ids
AreTakeable date shelves planned ids = ⊥

-- planned databases are those of a session: each by the heads that some handheld listed, and by the
-- slot
pub record AreOfSession (shelves : ShelvesValue) (planned : List Planned) : Type 0 where
  pub heads : List DbHead
  pub agree : List ℕ → Bool
  pub wishes : Wishes
  pub are : map (λ (one : Planned). one.job) planned ≡ jobs_of heads shelves agree wishes

-- ---- the user

-- no other slot than that at this place has this user, which is 0 only in slot 0
pub record IsSeat (slots : List SlotValue) (place user : ℕ) : Type 0 where
  pub own : IsFree slots place user
  pub first : user ≡ 0 → place ≡ 0

-- ---- all of it

-- the slot at a place takes what was planned, with these ids, and these marks, which end the session
pub record CanTake (done : Marks) (planned : List Planned) (ids : List (List ℕ))
    (place : ℕ)
    (slots : List SlotValue) : Type 0 where
  pub each : AreTakeable done.last (slot_at slots place).shelves planned ids
  pub rise : Rise (names_planned planned)
  pub few : length (unskipped planned) ≤ most_databases
  pub number : done.pc ≡ number_of slots
  pub seat : IsSeat slots place done.user
