-- What a side holds under an id, what the base has there, and a side's state against the base row.
use Rattle.std.specs.Prelude.{ℕ, Bool, true, false, if◌then◌else◌, ◌==◌, List, Option, Some, None}
use Rattle.std.specs.List.{find}
use Rattle.pdb_values.specs.Contents.{ContentValue}
use Rattle.pdb_values.specs.Records.{kind_of}
use Rattle.pdb_values.specs.declared.record.Record.{Record}
use Rattle.pdb_values.specs.declared.record.Kind.{Kind}
use Rattle.pdb_values.specs.declared.record.Kind.TheVariants.{Live as KindLive, Archived as KindArchived, Deleted as KindDeleted}
use Rattle.conduit_rules.specs.Contents.{same_content}
use Rattle.conduit_rules.specs.declared.table.Side.{Side}
use Rattle.conduit_rules.specs.declared.table.Side.TheVariants.{Same, Changed, Deleted, ArchivedSame, ArchivedChanged}

-- what a side holds under an id; a record that is deleted without leave to archive it is nothing
pub data SideState : Type 0 where
  nothing : SideState
  live : ContentValue → SideState
  archived : ContentValue → SideState

-- the content of a live record
abbrev pub live_of : SideState → Option ContentValue
live_of nothing = None
live_of (live c) = Some c
live_of (archived c) = None

-- the content of an archived record
abbrev pub archived_of : SideState → Option ContentValue
archived_of nothing = None
archived_of (live c) = None
archived_of (archived c) = Some c

-- the content of either
abbrev pub content_of : SideState → Option ContentValue
content_of nothing = None
content_of (live c) = Some c
content_of (archived c) = Some c

-- a content by the kind of its record
abbrev pub held_by : Kind → ContentValue → SideState
held_by KindLive c = live c
held_by KindArchived c = archived c
held_by KindDeleted c = nothing

-- what a record is to its side
abbrev pub record_held : Record → SideState
record_held r = held_by (kind_of r) r.content

-- the first record of an id
abbrev pub first : ℕ → List Record → Option Record
first i records = find (λ r. r.id == i) records

abbrev pub held_where : Option Record → SideState
held_where None = nothing
held_where (Some r) = record_held r

-- what a side's records hold under an id: the first record of the id decides
abbrev pub held : List Record → ℕ → SideState
held records i = held_where (first i records)

-- what the base has under an id
pub data BaseState : Type 0 where
  no_base : BaseState
  row : ContentValue → BaseState
  gone : ContentValue → BaseState

-- a base record with the delete bit is a gone row, where these count
abbrev pub based_where : Bool → Option Record → BaseState
based_where gone_counts None = no_base
based_where gone_counts (Some r) =
    if r.deleted then (if gone_counts then gone r.content else no_base) else row r.content

-- nothing under id 0
abbrev pub based_under : Bool → ℕ → Option Record → BaseState
based_under gone_counts i r = if i == 0 then no_base else based_where gone_counts r

-- what base records have under an id: the first record of the id decides
abbrev pub base_at : List Record → Bool → ℕ → BaseState
base_at base gone_counts i = based_under gone_counts i (first i base)

abbrev pub is_row : BaseState → Bool
is_row no_base = false
is_row (row b) = true
is_row (gone b) = false

-- whether an id has a base row that isn't gone
abbrev pub has_row : List Record → ℕ → Bool
has_row base i = is_row (base_at base false i)

-- the state of what is held, against the content of the base row
abbrev pub state : ContentValue → SideState → Side
state b nothing = Deleted
state b (live c) = if same_content c b then Same else Changed
state b (archived c) = if same_content c b then ArchivedSame else ArchivedChanged

abbrev pub same_contents : Option ContentValue → Option ContentValue → Bool
same_contents None d = false
same_contents (Some c) None = false
same_contents (Some c) (Some x) = same_content c x

-- whether both sides hold a content, and the same one
abbrev pub equal_contents : SideState → SideState → Bool
equal_contents h d = same_contents (content_of h) (content_of d)
