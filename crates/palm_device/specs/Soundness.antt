-- What every device keeps: names in order, ids that differ, and eight handles.
use Rattle.std.specs.Prelude.{◌≡◌, ◌<◌, ◌≤◌, ℕ, false, List, [], ◌∷◌, length, map}
use Rattle.std.specs.List.{AllByRecursion}
use Rattle.pdb_values.specs.declared.record.Record.{Record}
use Rattle.pdb_values.specs.NamedDatabases.{NamesRise}
use Rattle.palm_device.specs.Devices.{Device, most_databases}
use Rattle.palm_device.specs.FreshIds.{is_among}

-- the ids of records in their order
abbrev pub ids_of : List Record → List ℕ
ids_of records = map (λ item. item.id) records

-- ids that differ and of which none is 0
abbrev pub AreIds : List ℕ → Type 0
AreIds [] = Unit {0}
AreIds (id ∷ ids) = (0 < id) × (is_among id ids ≡ false) × AreIds ids

-- databases in byte order of their names, which differ, at most 200; within each the records have
-- ids that differ; eight handles
pub record IsDevice (device : Device) : Type 0 where
  pub names : NamesRise device.databases
  pub few : length device.databases ≤ most_databases
  pub ids : AllByRecursion (λ database. AreIds (ids_of database.records)) device.databases
  pub handles : length device.handles ≡ 8
