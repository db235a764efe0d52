-- What both sides have of a database that is not skipped.
use Rattle.std.proofs.lemmas.Bool.{or_parts}
use Rattle.std.proofs.Common.{◌≡◌, ◌∙◌, ap, refl, sym, ℕ, Bool, true, false, not, List}
use Rattle.std.specs.Prelude.{Option, Some, None, is_some, if◌then◌else◌}
use Rattle.std.specs.Option.{option_map}
use Rattle.pdb_values.specs.Databases.{DatabaseValue}
use Rattle.pdb_values.specs.Heads.{holds_resources, is_read_only}
use Rattle.pdb_values.specs.NamedDatabases.{database_of}
use Rattle.pdb_values.specs.declared.head.DbHead.{DbHead}
use Rattle.conduit_rules.specs.declared.action.Action.TheVariants as action
use Rattle.desk_store.specs.Shelves.{ShelvesValue}
use Rattle.session_parts.specs.declared.skip.Skip.{Skip}
use Rattle.session_parts.specs.declared.skip.Skip.TheVariants as skip
use Rattle.session_plan.specs.Skips.{head_of, one_passes, reason}
use Rattle.category_mirror.specs.Jobs.{filing_job, filing_reason, or_missing}
use Rattle.category_mirror.specs.Sides.{heads_of}
use Rattle.category_mirror.proofs.NamedMaps.{head-named, listed_of}
use Rattle.folder_files.proofs.SlotLaws.{not_true}

-- the handheld's database may be written, and rows and base rows hold records
pub record IsWhole (databases : List DatabaseValue) (shelves : ShelvesValue) (name : List ℕ) : Type 0 where
  pub handheld : DatabaseValue
  pub there : database_of name databases ≡ Some handheld
  pub writable : is_read_only handheld.head.attributes ≡ false
  pub rows : DatabaseValue
  pub rows_there : database_of name shelves.rows ≡ Some rows
  pub rows_records : holds_resources rows.head.attributes ≡ false
  pub base : DatabaseValue
  pub base_there : database_of name shelves.bases ≡ Some base
  pub base_records : holds_resources base.head.attributes ≡ false

or_none : (o : Option Skip) (whole : Bool) → or_missing o whole ≡ None → (o ≡ None) × (whole ≡ true)
or_none (Some other) whole none = absurd cc
or_none None true none = (refl, refl)
or_none None false none = absurd cc

else_none : (b : Bool) (x : Skip) (rest : Option Skip) → (if b then Some x else rest) ≡ None → (b ≡ false) × (rest ≡ None)
else_none true x rest none = absurd cc
else_none false x rest none = (refl, none)

-- it holds records on both sides, and may be written
abbrev MayFile : Option DbHead → Option DbHead → Type 0
MayFile handheld rows =
    (one_passes holds_resources handheld rows ≡ false) × (one_passes is_read_only handheld rows ≡ false)

may_file : (handheld rows : Option DbHead) (has_base : Bool) → reason action.Sync handheld rows has_base ≡ None → MayFile handheld rows
may_file handheld rows has_base none =
    let first = else_none (one_passes holds_resources handheld rows) skip.Resource _ none in
    let second = else_none (one_passes is_read_only handheld rows) skip.ReadOnly _ first.1 in (first.0, second.0)

whole_by : (databases : List DatabaseValue) (shelves : ShelvesValue) (name : List ℕ) (one two three : Option DatabaseValue) → database_of name databases ≡ one
    → database_of name shelves.rows ≡ two → database_of name shelves.bases ≡ three
    → filing_reason (option_map listed_of one) (head_of two) three ≡ None → IsWhole databases shelves name
whole_by databases shelves name None two three here there base none =
    let parts = or_none (reason action.Sync None (head_of two) (is_some three)) false none in absurd (let no = parts.1 in cc)
whole_by databases shelves name (Some handheld) None three here there base none =
    let parts = or_none (reason action.Sync (Some (listed_of handheld)) None (is_some three)) false none in absurd (let no = parts.1 in cc)
whole_by databases shelves name (Some handheld) (Some rows) None here there base none =
    let parts = or_none (reason action.Sync (Some (listed_of handheld)) (Some rows.head) false) false none in absurd (let no = parts.1 in cc)
whole_by databases shelves name (Some handheld) (Some rows) (Some base_rows) here there base none =
    let parts = or_none (reason action.Sync (Some (listed_of handheld)) (Some rows.head) true) (not (holds_resources base_rows.head.attributes)) none in
    let may = may_file (Some (listed_of handheld)) (Some rows.head) true parts.0 in
    let first = or_parts (holds_resources handheld.head.attributes) (holds_resources rows.head.attributes) may.0 in
    let second = or_parts (is_read_only handheld.head.attributes) (is_read_only rows.head.attributes) may.1 in
    record {
      handheld = handheld;
      there = here;
      writable = second.0;
      rows = rows;
      rows_there = there;
      rows_records = first.1;
      base = base_rows;
      base_there = base;
      base_records = not_true (holds_resources base_rows.head.attributes) parts.1;
    }

pub whole_of : (databases : List DatabaseValue) (shelves : ShelvesValue) (name : List ℕ)
    → (filing_job (heads_of databases) shelves name).skip ≡ None → IsWhole databases shelves name
whole_of databases shelves name none =
    whole_by databases shelves name (database_of name databases) (database_of name shelves.rows) (database_of name shelves.bases) refl refl refl
    (ap (λ (h : Option DbHead). filing_reason h (head_of (database_of name shelves.rows)) (database_of name shelves.bases)) (sym (head-named name databases)) ∙ none)
