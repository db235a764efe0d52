-- Which records of a database are exported, under which label, and which of them is the first that
-- is out of its form.
use Rattle.std.specs.Prelude.{ℕ, suc, ◌==◌, ◌&&◌, Bool, not, List, [], ◌∷◌, Option, None, Some, if◌then◌else◌}
use Rattle.pdb_values.specs.declared.record.Record.{Record}
use Rattle.pdb_values.specs.Records.{is_live}
use Rattle.palm_records.specs.Categories.{category_label}
use Rattle.palm_records.specs.declared.choice.Privacy.{Privacy}
use Rattle.palm_records.specs.declared.choice.Privacy.TheVariants as privacy

-- the records that are exported: live ones, and private ones where they are wanted
abbrev pub is_exported : Privacy → Record → Bool
is_exported privacy.All item = is_live item
is_exported privacy.WithoutPrivate item = is_live item && not item.content.secret

-- the label of a category; category 0 is the one without a name
abbrev pub shown_label : Option (List ℕ) → ℕ → List ℕ
shown_label app category = if category == 0 then [] else category_label app category

-- a record that is out of its form: its number among all records of the database, from 0, and the
-- place in it
pub record BadItem : Type 0 where
  pub index : ℕ
  pub place : ℕ

-- a record with this number breaks its form, or what is behind it does
abbrev pub or_later : ℕ → Option ℕ → Option BadItem → Option BadItem
or_later index (Some place) later = Some (record { index = index; place = place })
or_later index None later = later

-- the first of these records that is exported and out of its form, counted from a number; a form
-- gives the place where it is broken
unfoldable pub first_bad : (Record → Option ℕ) → Privacy → ℕ → List Record → Option BadItem
first_bad fault_of wanted index [] = None
first_bad fault_of wanted index (item ∷ rest) =
    if is_exported wanted item
    then or_later index (fault_of item) (first_bad fault_of wanted (suc index) rest)
    else first_bad fault_of wanted (suc index) rest
