-- Entries that wait for their content: one for each id behind those that were read, so that the
-- first of an id is what was read.
use Rattle.std.specs.Prelude.{◌≡◌, ℕ, Bool, true, false, List, [], ◌∷◌, ◌++◌, Option, IfSome, option_to_list, if◌then◌else◌}
use Rattle.std.specs.List.{AllByRecursion, flat_map}
use Rattle.pdb_values.specs.declared.record.Record.{Record}
use Rattle.palm_device.specs.Devices.{Device}
use Rattle.conduit_rules.specs.States.{base_at}
use Rattle.conduit_rules.specs.declared.view.Seen.{Seen}
use Rattle.conduit_rules.specs.declared.view.SeenState.{SeenState}
use Rattle.conduit_rules.specs.declared.view.SeenState.TheVariants.{Live, Archived, Deleted, Unread}
use Rattle.desktop_session.specs.Acts.{Act}
use Rattle.mirrors.specs.FastReads.{other_reads, other_seen}

-- an entry of this id without a content
abbrev pub shell : ℕ → Seen
shell id = record {
  id = id;
  state = Unread;
  content = record { category = 0; secret = false; bytes = [] };
}

-- it waits for its content
abbrev pub waits : SeenState → Bool
waits Live = false
waits Archived = false
waits Deleted = false
waits Unread = true

-- it was read
abbrev pub IsRead : Seen → Type 0
IsRead entry = waits entry.state ≡ false

abbrev pub AreRead : List Seen → Type 0
AreRead entries = AllByRecursion IsRead entries

-- what is said or shown of an entry
abbrev pub filled_reads : List Record → ℕ → Seen → List Act
filled_reads base handle entry =
    if waits entry.state then other_reads handle entry.id (base_at base false entry.id) else []

abbrev pub filled_seen : List Record → ℕ → Device → Seen → List Seen
filled_seen base handle device entry =
    if waits entry.state then other_seen handle device entry.id (base_at base false entry.id)
    else entry ∷ []

-- ---- what is shown has the ids of the entries

-- at most one entry, of this id
abbrev pub IsOf : ℕ → Option Seen → Type 0
IsOf id found = IfSome found (λ (entry : Seen). entry.id ≡ id)

-- at most one entry more, of this id
pub record Adds (id : ℕ) (old new : List Seen) : Type 0 where
  pub found : Option Seen
  pub is : new ≡ old ++ option_to_list found
  pub same : IsOf id found

-- at most one for each entry, of its id
abbrev pub AreOf : List Seen → List (Option Seen) → Type 0
AreOf [] [] = Unit {0}
AreOf [] (found ∷ founds) = ⊥
AreOf (entry ∷ entries) [] = ⊥
AreOf (entry ∷ entries) (found ∷ founds) = IsOf entry.id found × AreOf entries founds

-- these are shown of the entries
pub record Fills (entries seen : List Seen) : Type 0 where
  pub founds : List (Option Seen)
  pub are : AreOf entries founds
  pub is : seen ≡ flat_map option_to_list founds
