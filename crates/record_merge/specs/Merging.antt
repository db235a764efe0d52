-- What both sides have of one database once it is merged.
use Rattle.std.specs.Prelude.{◌≡◌, ◌<◌, ◌==◌, ◌&&◌, ℕ, Bool, true, false, List, [], ◌∷◌, ◌++◌, Option, Some, None, map, flat_map, nat_lt, if◌then◌else◌}
use Rattle.std.specs.List.{list_any}
use Rattle.std.specs.Option.{option_or}
use Rattle.pdb_values.specs.Contents.{ContentValue}
use Rattle.pdb_values.specs.Records.{is_live}
use Rattle.pdb_values.specs.declared.record.Record.{Record}
use Rattle.palm_device.specs.Records.{rewritten, new_record, clean}
use Rattle.conduit_rules.specs.ById.{id_bound, each_id, with_id, at}
use Rattle.conduit_rules.specs.Contents.{same_content}
use Rattle.conduit_rules.specs.States.{SideState, nothing, live, archived, first}
use Rattle.conduit_rules.specs.Choices.{Choice}
use Rattle.conduit_rules.specs.Plans.{replacement, gone_rows}
use Rattle.record_merge.specs.Writes.{numbered}

-- what stands under an id: what is kept, else the add that got the id
abbrev pub row_at : Choice → List ℕ → ℕ → Option ContentValue
row_at ch given i = option_or (ch.keep i) (at i (numbered given ch.adds))

-- the row under an id of a record
abbrev pub row_under : Choice → List ℕ → ℕ → Option ContentValue
row_under ch given i = if nat_lt i id_bound then row_at ch given i else None

-- a live and clean record
abbrev pub settled_record : ℕ × ContentValue → Record
settled_record e = clean (new_record e.0 e.1)

-- a base record with the delete bit
abbrev pub gone_record : ℕ × ContentValue → Record
gone_record e = record { id = e.0; deleted = true; dirty = false; busy = false; content = e.1 }

-- what stands under ids, in rising order
abbrev pub merged_entries : Choice → List ℕ → List (ℕ × ContentValue)
merged_entries ch given = each_id (λ i. with_id i (row_at ch given i))

-- the desktop's rows
abbrev pub merged_rows : Choice → List ℕ → List Record
merged_rows ch given = map settled_record (merged_entries ch given)

-- the base: the rows, then the gone rows
abbrev pub merged_base : Choice → (ℕ → SideState) → List ℕ → List Record
merged_base ch handheld given = merged_rows ch given ++ map gone_record (gone_rows ch.keep handheld)

-- a record with what is written over it, if anything is
abbrev pub written_over : Option ContentValue → Record → Record
written_over None r = r
written_over (Some c) r = rewritten c r

-- what becomes of a record by what is kept under its id: it goes, stays as it was, or has the kept
-- content in its place
abbrev pub kept_record : Option ContentValue → SideState → Record → List Record
kept_record None h r = []
kept_record (Some c) h r = clean (written_over (replacement (Some c) h) r) ∷ []

-- what is kept under an id that no record has
abbrev pub new_under : ℕ → Option Record → Option ContentValue → List (ℕ × ContentValue)
new_under i None keep = with_id i keep
new_under i (Some r) keep = []

-- the handheld's records: in their order, then the replacements under ids that no record has in
-- rising ids, then the adds
abbrev pub merged_records : Choice → (ℕ → SideState) → List ℕ → List Record → List Record
merged_records ch handheld given records =
    flat_map (λ r. kept_record (ch.keep r.id) (handheld r.id) r) records
    ++ (map settled_record (each_id (λ i. new_under i (first i records) (ch.keep i)))
    ++ map settled_record (numbered given ch.adds))

abbrev pub is_held_live : SideState → Bool
is_held_live nothing = false
is_held_live (live c) = true
is_held_live (archived c) = false

-- each record's id is one of a record, and it is shown as live where it is live
abbrev pub AreShown : (ℕ → SideState) → List Record → Type 0
AreShown handheld [] = Unit {0}
AreShown handheld (r ∷ records) =
    (nat_lt r.id id_bound ≡ true) × (is_held_live (handheld r.id) ≡ is_live r)
    × AreShown handheld records

-- nothing is shown where no record is
abbrev pub ShowsNoOther : (ℕ → SideState) → List Record → Type 0
ShowsNoOther handheld records = (i : ℕ) → first i records ≡ None → handheld i ≡ nothing

-- ids that records can have
abbrev pub AreBounded : List Record → Type 0
AreBounded [] = Unit {0}
AreBounded (r ∷ records) = (nat_lt r.id id_bound ≡ true) × AreBounded records

-- each add has an id of its own, under which nothing is kept
abbrev pub AreNew : (ℕ → Option ContentValue) → List (ℕ × ContentValue) → ℕ → Type 0
AreNew keep [] n = Unit {0}
AreNew keep (e ∷ es) n = (keep e.0 ≡ None) × (at e.0 es ≡ None) × (e.0 < n) × AreNew keep es n

-- whether an entry stands in an archive, by its id and its content
abbrev pub is_archived : ℕ × ContentValue → List (ℕ × ContentValue) → Bool
is_archived e es = list_any (λ x. (x.0 == e.0) && same_content x.1 e.1) es

-- one copy of each entry: those are left out that an earlier one equals
abbrev pub one_copy_behind : List (ℕ × ContentValue) → List (ℕ × ContentValue)
    → List (ℕ × ContentValue)
one_copy_behind earlier [] = []
one_copy_behind earlier (e ∷ es) =
    if is_archived e earlier then one_copy_behind earlier es
    else e ∷ one_copy_behind (e ∷ earlier) es

-- the archive: the old entries, then the new ones, one copy of each
abbrev pub merged_archive : Choice → List (ℕ × ContentValue) → List (ℕ × ContentValue)
merged_archive ch old = one_copy_behind [] (old ++ ch.archive)
