-- What a plan makes of a database that both sides have.
use Rattle.std.specs.Prelude.{◌≡◌, ◌+◌, ◌≤◌, ℕ, List, length, Option, Some, None}
use Rattle.std.specs.Option.{option_or}
use Rattle.pdb_values.specs.Databases.{DatabaseValue}
use Rattle.conduit_rules.specs.declared.planned.Plan.{Plan}
use Rattle.palm_device.specs.Records.{with_records}
use Rattle.record_merge.specs.Writes.{AreFree, after, numbered, replaces}
use Rattle.session_plan.specs.Merges.{archive_of, beside, handheld_before, rows_before}
use Rattle.session_plan.specs.Rows.{planned_base, planned_rows}
use Rattle.session_plan.specs.Takes.{planned_archive}
use Rattle.session_plan.specs.Tasks.{records_of}
use Rattle.session_plan.specs.declared.sizes.Sizes.{Sizes}
use Rattle.database_merge.specs.Seeing.{writes}
use Rattle.database_merge.specs.declared.both_sides.BothSides.{BothSides}

-- both sides once a plan was carried out, with new records under these ids
abbrev pub carried_by : Plan → List ℕ → Option DatabaseValue → DatabaseValue → DatabaseValue
    → BothSides
carried_by plan given archive before rows = record {
  handheld = Some (with_records (after (writes plan given) before.records) before);
  rows = Some (with_records (planned_rows plan given) rows);
  base = Some (beside rows (planned_base plan given));
  archive = option_or (archive_of rows (planned_archive plan (records_of archive))) archive;
}

-- how many records the handheld has at most meanwhile
abbrev pub plan_peak : Plan → DatabaseValue → ℕ
plan_peak plan before =
    length (after (replaces plan.replace.items) before.records) + length plan.adds.items

-- a plan was carried out
pub record IsCarried (plan : Plan) (archive : Option DatabaseValue) (before rows : DatabaseValue)
    (after_all : BothSides) : Type 0 where
  pub given : List ℕ
  pub counted : length given ≡ length plan.adds.items
  pub free : AreFree (numbered given plan.adds.items)
      (after (replaces plan.replace.items) before.records)
  pub room : plan_peak plan before ≤ 65535
  pub is : after_all ≡ carried_by plan given archive before rows

-- how much a plan makes on the desktop
abbrev pub plan_sizes : Plan → Option DatabaseValue → Sizes
plan_sizes plan archive = record {
  handhelds = 0;
  desktops = 0;
  records = 0;
  rows = length plan.kept.items + length plan.adds.items;
  base = length plan.kept.items + length plan.adds.items + length plan.gone.items;
  archive = length (planned_archive plan (records_of archive));
}

-- a plan was carried out on a database, where a side has it
abbrev pub IsCarriedTo : Plan → BothSides → Option DatabaseValue → Option DatabaseValue → BothSides
    → Type 0
IsCarriedTo plan both None rows after_all = after_all ≡ both
IsCarriedTo plan both (Some before) None after_all = after_all ≡ both
IsCarriedTo plan both (Some before) (Some rows) after_all =
    IsCarried plan both.archive before rows after_all

abbrev pub IsCarriedOn : BothSides → ℕ → Plan → BothSides → Type 0
IsCarriedOn both date plan after_all =
    IsCarriedTo plan both (handheld_before both.handheld both.rows)
    (rows_before date both.rows both.handheld) after_all

-- how many records the handheld has at most meanwhile, where a side has the database
abbrev pub peak_where : Plan → Option DatabaseValue → ℕ
peak_where plan None = 0
peak_where plan (Some before) = plan_peak plan before

abbrev pub carry_peak : BothSides → Plan → ℕ
carry_peak both plan = peak_where plan (handheld_before both.handheld both.rows)
