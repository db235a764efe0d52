-- When a database is not merged.
use Rattle.std.specs.Prelude.{◌≡◌, ◌+◌, ⊤, ℕ, Bool, true, List, length, Some, None}
use Rattle.pdb_values.specs.declared.record.Record.{Record}
use Rattle.conduit_rules.specs.Choices.{Choice}
use Rattle.conduit_rules.specs.Plans.{gone_rows, kept_rows, replaced_rows}
use Rattle.conduit_rules.specs.States.{SideState}
use Rattle.record_merge.specs.Merging.{merged_archive}
use Rattle.record_merge.specs.Writes.{after, replaces}
use Rattle.session_plan.specs.Archives.{entries_of}
use Rattle.session_plan.specs.Sizes.{is_over}
use Rattle.session_plan.specs.Tasks.{records_of}
use Rattle.session_plan.specs.declared.sizes.Sizes.{Sizes}
use Rattle.database_merge.specs.Seeing.{merge_choice, shown, skip_of}
use Rattle.database_merge.specs.declared.fault.MergeFault.{MergeFault}
use Rattle.database_merge.specs.declared.fault.MergeFault.TheVariants.{Skipped, Full, NoMemory}
use Rattle.database_merge.specs.declared.both_sides.BothSides.{BothSides}
use Rattle.database_merge.specs.declared.wishes.MergeWishes.{MergeWishes}

-- how many records a handheld has once the replacements and the adds are written, before any goes
abbrev pub peak : Choice → (ℕ → SideState) → List Record → ℕ
peak ch handheld records =
    length (after (replaces (replaced_rows ch.keep handheld)) records) + length ch.adds

-- how much a merge makes; the numbers of databases aren't looked at
abbrev pub sizes_by : Choice → (ℕ → SideState) → List Record → List Record → Sizes
sizes_by ch handheld records archive = record {
  handhelds = 0;
  desktops = 0;
  records = peak ch handheld records;
  rows = length (kept_rows ch.keep) + length ch.adds;
  base = length (kept_rows ch.keep) + length ch.adds + length (gone_rows ch.keep handheld);
  archive = length (merged_archive ch (entries_of archive));
}

-- a side would pass a limit
abbrev pub is_full : BothSides → MergeWishes → Bool
is_full both wishes =
    is_over (sizes_by (merge_choice both wishes) (shown both wishes) (records_of both.handheld)
    (records_of both.archive))

-- what is true where a merge is refused
abbrev pub Refuses : BothSides → MergeWishes → MergeFault → Type 0
Refuses both wishes (Skipped skip) = skip_of both wishes.action ≡ Some skip
Refuses both wishes Full =
    (skip_of both wishes.action ≡ None) × (is_full both wishes ≡ true)
Refuses both wishes NoMemory = ⊤
