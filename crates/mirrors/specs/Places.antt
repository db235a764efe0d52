-- Where the rows of a base stand.
use Rattle.std.specs.Prelude.{ℕ, Bool, Option, None, Some, if◌then◌else◌}
use Rattle.pdb_values.specs.Contents.{ContentValue}
use Rattle.conduit_rules.specs.States.{BaseState, no_base, row, gone}

-- a place that is known, or this one where it is one of the id's
abbrev pub or_place : Option ℕ → Bool → ℕ → Option ℕ
or_place (Some known) same place = Some known
or_place None same place = if same then Some place else None

-- the content of a row that is not gone
abbrev pub row_content : BaseState → Option ContentValue
row_content no_base = None
row_content (row content) = Some content
row_content (gone content) = None
