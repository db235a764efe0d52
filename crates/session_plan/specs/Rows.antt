-- The desktop's rows once a database is merged, from its plan and the ids that its new records got.
use Rattle.std.specs.Prelude.{ℕ, List, ◌++◌, map}
use Rattle.pdb_values.specs.Contents.{ContentValue}
use Rattle.pdb_values.specs.declared.record.Record.{Record}
use Rattle.conduit_rules.specs.ById.{at, each_id, with_id}
use Rattle.conduit_rules.specs.declared.planned.Plan.{Plan}
use Rattle.conduit_rules.specs.declared.view.Seen.{Seen}
use Rattle.conduit_rules.specs.declared.view.SeenState.TheVariants.{Live}
use Rattle.record_merge.specs.Merging.{gone_record, settled_record}
use Rattle.record_merge.specs.Writes.{numbered}

-- a row, as an entry of a view
abbrev pub row_seen : ℕ × ContentValue → Seen
row_seen row = record { id = row.0; state = Live; content = row.1 }

-- what is kept, and then the new records under their ids
abbrev pub row_entries : Plan → List ℕ → List (ℕ × ContentValue)
row_entries plan given = plan.kept.items ++ numbered given plan.adds.items

-- as live and clean records in rising ids; of those of one id the first
abbrev pub planned_rows : Plan → List ℕ → List Record
planned_rows plan given =
    map settled_record (each_id (λ i. with_id i (at i (row_entries plan given))))

-- the base rows: the rows, and then what is gone
abbrev pub planned_base : Plan → List ℕ → List Record
planned_base plan given = planned_rows plan given ++ map gone_record plan.gone.items
