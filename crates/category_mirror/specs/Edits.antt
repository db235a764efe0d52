-- What counts as an edit of the desktop: the state of its rows against their base rows.
use Rattle.std.specs.Prelude.{◌≡◌, ℕ, Bool, true, false, ◌&&◌, List, Option, None, Some, bytes_eq, slice_index}
use Rattle.std.specs.Bool.{beq}
use Rattle.pdb_values.specs.Contents.{ContentValue}
use Rattle.pdb_values.specs.Databases.{DatabaseValue}
use Rattle.pdb_values.specs.NamedDatabases.{database_of}
use Rattle.pdb_values.specs.declared.record.Record.{Record}
use Rattle.conduit_rules.specs.States.{BaseState, SideState, base_at, gone, held, live, archived, no_base, nothing, row, state}
use Rattle.conduit_rules.specs.declared.table.Side.{Side}
use Rattle.conduit_rules.specs.declared.table.Side.TheVariants.{ArchivedChanged, ArchivedSame, Changed, Deleted, Gone, Same}
use Rattle.category_mirror.specs.Blocks.{MergeValue}
use Rattle.category_mirror.specs.Sides.{Filing, merge_named, shelves_of}

-- the state of what is held, where there is a base row that isn't gone
abbrev pub state_under : BaseState → SideState → Option Side
state_under no_base held = None
state_under (row base) held = Some (state base held)
state_under (gone base) held = None

-- the state of the desktop's row of an id against its base row
abbrev pub row_state : List Record → List Record → ℕ → Option Side
row_state rows base id = state_under (base_at base false id) (held rows id)

-- its content is another one
abbrev pub is_edited : Side → Bool
is_edited Same = false
is_edited Changed = true
is_edited Deleted = false
is_edited ArchivedSame = false
is_edited ArchivedChanged = true
is_edited Gone = false

-- contents that are equal but for their categories
abbrev pub same_text : ContentValue → ContentValue → Bool
same_text one other = beq one.secret other.secret && bytes_eq one.bytes other.bytes

-- two contents of one text that are in different categories go to different ones
abbrev pub GoApart : List ℕ → ContentValue → ContentValue → Type 0
GoApart numbers one other =
    same_text one other ≡ true
    → slice_index numbers one.category ≡ slice_index numbers other.category
    → one.category ≡ other.category

-- so do a row and its base row
abbrev pub GoApartUnder : List ℕ → BaseState → SideState → Type 0
GoApartUnder numbers no_base held = Unit {0}
GoApartUnder numbers (row base) nothing = Unit {0}
GoApartUnder numbers (row base) (live content) = GoApart numbers content base
GoApartUnder numbers (row base) (archived content) = GoApart numbers content base
GoApartUnder numbers (gone base) held = Unit {0}

abbrev pub GoApartBy : Option MergeValue → BaseState → SideState → Type 0
GoApartBy None base held = Unit {0}
GoApartBy (Some merge) base held = GoApartUnder merge.numbers base held

-- the row and the base row of an id go apart, as the categories of their database come together
abbrev pub RowsGoApart : Filing → List ℕ → List Record → List Record → ℕ → Type 0
RowsGoApart filing name rows base id =
    GoApartBy (merge_named filing name) (base_at base false id) (held rows id)

-- these are the rows and the base rows of a name in the picked slot
pub record AreRowsOf (filing : Filing) (name : List ℕ) (rows base : DatabaseValue) : Type 0 where
  pub rows_there : database_of name (shelves_of filing).rows ≡ Some rows
  pub base_there : database_of name (shelves_of filing).bases ≡ Some base
