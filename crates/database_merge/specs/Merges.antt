-- What a session leaves of a database that it doesn't skip.
use Rattle.std.specs.Prelude.{◌≡◌, ℕ, false, List, length, Option, Some, None}
use Rattle.std.specs.Option.{option_or}
use Rattle.pdb_values.specs.Databases.{DatabaseValue}
use Rattle.conduit_rules.specs.Choices.{Choice}
use Rattle.conduit_rules.specs.States.{SideState}
use Rattle.palm_device.specs.Records.{with_records}
use Rattle.record_merge.specs.Merging.{merged_archive, merged_base, merged_records, merged_rows}
use Rattle.record_merge.specs.Writes.{GotFreeIds}
use Rattle.session_plan.specs.Archives.{archive_records, entries_of}
use Rattle.session_plan.specs.Merges.{archive_of, beside, handheld_before, rows_before}
use Rattle.session_plan.specs.Tasks.{records_of}
use Rattle.database_merge.specs.Faults.{is_full}
use Rattle.database_merge.specs.Seeing.{merge_choice, shown, skip_of}
use Rattle.database_merge.specs.declared.both_sides.BothSides.{BothSides}
use Rattle.database_merge.specs.declared.wishes.MergeWishes.{MergeWishes}

-- the handheld's database with its records merged
abbrev pub handheld_after : Choice → (ℕ → SideState) → List ℕ → DatabaseValue → DatabaseValue
handheld_after ch handheld given before =
    with_records (merged_records ch handheld given before.records) before

-- the archive of a database: the old one, where it has no entry
abbrev pub archive_after : Choice → Option DatabaseValue → DatabaseValue → Option DatabaseValue
archive_after ch archive rows =
    option_or
    (archive_of rows (archive_records (merged_archive ch (entries_of (records_of archive)))))
    archive

-- The handheld's database and the desktop's rows before, each a new one where its side lacks it,
-- become this with new records under these ids.
abbrev pub left_by : Choice → (ℕ → SideState) → List ℕ → Option DatabaseValue → DatabaseValue
    → DatabaseValue → BothSides
left_by ch handheld given archive before rows = record {
  handheld = Some (handheld_after ch handheld given before);
  rows = Some (with_records (merged_rows ch given) rows);
  base = Some (beside rows (merged_base ch handheld given));
  archive = archive_after ch archive rows;
}

-- no side passes a limit, the handheld gave each new record an id that no record has at its turn,
-- and this is left
pub record IsLeft (both : BothSides) (wishes : MergeWishes) (before rows : DatabaseValue)
    (after : BothSides) : Type 0 where
  pub fits : is_full both wishes ≡ false
  pub given : List ℕ
  pub counted : length given ≡ length (merge_choice both wishes).adds
  pub free : GotFreeIds (merge_choice both wishes) (shown both wishes) given before.records
  pub is : after
      ≡ left_by (merge_choice both wishes) (shown both wishes) given both.archive before rows

-- a database that neither side has stays as it is
abbrev pub IsLeftOf : BothSides → MergeWishes → Option DatabaseValue → Option DatabaseValue
    → BothSides → Type 0
IsLeftOf both wishes None rows after = after ≡ both
IsLeftOf both wishes (Some before) None after = after ≡ both
IsLeftOf both wishes (Some before) (Some rows) after = IsLeft both wishes before rows after

-- what a session leaves of a database that it doesn't skip
pub record IsMerged (both : BothSides) (wishes : MergeWishes) (after : BothSides) : Type 0 where
  pub goes_on : skip_of both wishes.action ≡ None
  pub is : IsLeftOf both wishes (handheld_before both.handheld both.rows)
      (rows_before wishes.date both.rows both.handheld) after
