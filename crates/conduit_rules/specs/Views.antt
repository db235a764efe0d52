-- What a reading of a handheld's database shows: a view, slow or fast.
use Rattle.std.specs.Prelude.{◌≡◌, ℕ, true, false, not, ◌&&◌, if◌then◌else◌, ◌==◌, List, Option, Some, None, option_to_list}
use Rattle.std.specs.Option.{option_map}
use Rattle.std.specs.List.{find}
use Rattle.pdb_values.specs.Contents.{ContentValue}
use Rattle.pdb_values.specs.Records.{kind_of}
use Rattle.pdb_values.specs.declared.record.Record.{Record}
use Rattle.pdb_values.specs.declared.record.Kind.{Kind}
use Rattle.pdb_values.specs.declared.record.Kind.TheVariants.{Live as KindLive, Archived as KindArchived, Deleted as KindDeleted}
use Rattle.conduit_rules.specs.ById.{each_id}
use Rattle.conduit_rules.specs.States.{SideState, nothing, live, archived, BaseState, no_base, row, gone, first, base_at}
use Rattle.conduit_rules.specs.declared.view.Seen.{Seen}
use Rattle.conduit_rules.specs.declared.view.SeenState.{SeenState}
use Rattle.conduit_rules.specs.declared.view.SeenState.TheVariants.{Live, Archived, Deleted, Unread}

-- what an entry shows by its state; an unread record has the content that the entry bears, its base
-- row's
abbrev pub held_as : SeenState → ContentValue → SideState
held_as Live c = live c
held_as Archived c = archived c
held_as Deleted c = nothing
held_as Unread c = live c

-- the first entry of an id
abbrev pub first_seen : ℕ → List Seen → Option Seen
first_seen i view = find (λ s. s.id == i) view

abbrev pub seen_where : Option Seen → SideState
seen_where None = nothing
seen_where (Some s) = held_as s.state s.content

-- what the handheld holds under an id by its view
abbrev pub view_held : List Seen → ℕ → SideState
view_held view i = seen_where (first_seen i view)

-- the state of a record that was read
abbrev pub state_as : Kind → SeenState
state_as KindLive = Live
state_as KindArchived = Archived
state_as KindDeleted = Deleted

-- a record that was read
abbrev pub slow_seen : Record → Seen
slow_seen r = record { id = r.id; state = state_as (kind_of r); content = r.content }

abbrev pub unread_where : BaseState → Record → Seen
unread_where no_base r = slow_seen r
unread_where (row b) r = record { id = r.id; state = Unread; content = b }
unread_where (gone b) r = slow_seen r

-- a record that is read only where it is dirty, has the delete bit or has no base row
abbrev pub fast_seen : List Record → Record → Seen
fast_seen base r =
    if not r.dirty && not r.deleted then unread_where (base_at base false r.id) r else slow_seen r

-- the view of a slow reading: each record, in rising ids
abbrev pub slow_view : List Record → List Seen
slow_view records = each_id (λ i. option_to_list (option_map slow_seen (first i records)))

-- the view of a fast reading
abbrev pub fast_view : List Record → List Record → List Seen
fast_view base records =
    each_id (λ i. option_to_list (option_map (fast_seen base) (first i records)))

-- a record that a fast reading passes over has the content of its base row
abbrev pub IsHonestUnder : BaseState → Record → Type 0
IsHonestUnder no_base r = Unit {0}
IsHonestUnder (row b) r = (not r.dirty && not r.deleted) ≡ true → r.content ≡ b
IsHonestUnder (gone b) r = Unit {0}

-- each record that is neither dirty nor deleted and whose id has a base row has that row's content
abbrev pub IsHonest : List Record → List Record → Type 0
IsHonest base records =
    (i : ℕ) (r : Record) → first i records ≡ Some r → IsHonestUnder (base_at base false i) r
