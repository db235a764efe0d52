-- Ids stay below the bound: at and above it no side has anything. And rows that were made by id are read back by id.
use Rattle.std.proofs.Common.{◌<◌, List, Option, None, Some}
use Rattle.std.specs.List.{AllByRecursion}
use Rattle.pdb_values.specs.Contents.{ContentValue}
use Rattle.pdb_values.specs.declared.record.Record.{Record}
use Rattle.conduit_rules.specs.ById.{id_bound}
use Rattle.conduit_rules.specs.States.{SideState, nothing, live}

-- each record's id is below the bound
abbrev pub AreBounded : List Record → Type 0
AreBounded records = AllByRecursion (λ (r : Record). r.id < id_bound) records

-- ---- rows that were made by id

-- live with a content, or nothing
abbrev pub live_or : Option ContentValue → SideState
live_or None = nothing
live_or (Some c) = live c
