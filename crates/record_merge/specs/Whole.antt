-- What a session sees of one database, and what it makes of it.
use Rattle.std.specs.Prelude.{◌≡◌, ◌+◌, ℕ, Bool, List, [], max, sum_by, take}
use Rattle.pdb_values.specs.Contents.{ContentValue}
use Rattle.pdb_values.specs.declared.record.Record.{Record}
use Rattle.palm_device.specs.Soundness.{AreIds, ids_of}
use Rattle.conduit_rules.specs.Choices.{Choice, Sides, choice, choice_for, sides_of, without_base}
use Rattle.conduit_rules.specs.Contents.{count_of}
use Rattle.conduit_rules.specs.News.{live_contents}
use Rattle.conduit_rules.specs.Plans.{kept_rows}
use Rattle.conduit_rules.specs.States.{SideState, held}
use Rattle.conduit_rules.specs.Views.{slow_view, view_held}
use Rattle.conduit_rules.specs.declared.action.Action.{Action}
use Rattle.conduit_rules.specs.declared.action.Action.TheVariants.{Both}
use Rattle.conduit_rules.specs.declared.view.Seen.{Seen}
use Rattle.record_merge.specs.Merging.{AreBounded, merged_base, merged_entries, merged_records, merged_rows, row_under}
use Rattle.record_merge.specs.Stops.{NoBase, rest_of}
use Rattle.record_merge.specs.Writes.{GotFreeIds, Write, after, giving, numbered, whole}

-- ids that records can have, each once
pub record AreRecords (records : List Record) : Type 0 where
  pub ids : AreIds (ids_of records)
  pub bounded : AreBounded records

-- under each id what is shown is what the records hold
abbrev pub ShowsAll : (ℕ → SideState) → List Record → Type 0
ShowsAll shown records = (i : ℕ) → shown i ≡ held records i

-- under each id both hold the same
abbrev pub HoldSame : List Record → List Record → Type 0
HoldSame records rows = (i : ℕ) → held records i ≡ held rows i

-- a session saw what the handheld holds, and each of its new records got a free id
pub record SeesAll (ch : Choice) (shown : ℕ → SideState) (given : List ℕ) (records : List Record)
    : Type 0 where
  pub are : AreRecords records
  pub shows : ShowsAll shown records
  pub free : GotFreeIds ch shown given records

-- where each new record gets a free id, the writes of a session that saw this make the merge
abbrev pub MakesMerge : Choice → (ℕ → SideState) → List ℕ → List Record → Type 0
MakesMerge ch shown given records =
    GotFreeIds ch shown given records
    → after (whole ch shown given) records ≡ merged_records ch shown given records

-- whatever is counted of the merged rows is that of the kept ones and that of the added ones
abbrev pub EachIsKeptOrAdded : Choice → List ℕ → Type 0
EachIsKeptOrAdded ch given =
    (w : ℕ × ContentValue → ℕ)
    → sum_by w (merged_entries ch given)
    ≡ sum_by w (kept_rows ch.keep) + sum_by w (numbered given ch.adds)

-- ---- a session that stops among its replacements and adds

-- the first of them
abbrev pub first_writes : ℕ → Sides → List ℕ → List Write
first_writes n s given = take n (giving (choice s) s.handheld given)

-- it saw what the handheld held, and its new records got free ids, which no base row had
pub record IsStopped (s : Sides) (given : List ℕ) (records : List Record) : Type 0 where
  pub fresh : NoBase s.base given
  pub shows : ShowsAll s.handheld records
  pub free : GotFreeIds (choice s) s.handheld given records

-- wherever it stops, the next one, which sees what the handheld holds then, has the rest to do
abbrev pub IsTakenUp : List Seen → List Record → List Record → Bool → List ℕ → List Record → Type 0
IsTakenUp v rows base counts given records =
    (n : ℕ) (w : List Seen)
    → let s = sides_of v rows base counts in
    ShowsAll (view_held w) (after (first_writes n s given) records)
    → choice (sides_of w rows base counts) ≡ rest_of (first_writes n s given) (choice s)

-- so it is where no base is looked at
abbrev pub IsTakenUpBaseless : List Seen → List Record → List Record → Bool → List ℕ → List Record
    → Type 0
IsTakenUpBaseless v rows base counts given records =
    (n : ℕ) (w : List Seen)
    → let s = without_base (sides_of v rows base counts) in
    ShowsAll (view_held w) (after (first_writes n s given) records)
    → choice_for Both (sides_of w rows base counts) ≡ rest_of (first_writes n s given) (choice s)

-- ---- a session behind one that ended

-- a session read the whole database, chose this, and each of its new records got a free id
pub record IsSlowMerge (a : Action) (rows base : List Record) (counts : Bool) (given : List ℕ)
    (records : List Record) (ch : Choice) : Type 0 where
  pub are : AreRecords records
  pub chosen : ch ≡ choice_for a (sides_of (slow_view records) rows base counts)
  pub free : GotFreeIds ch (view_held (slow_view records)) given records

-- both sides behind it, as the next one finds them
abbrev pub merged_sides : Choice → List ℕ → List Record → Bool → Sides
merged_sides ch given records counts =
    let shown = view_held (slow_view records) in
    sides_of (slow_view (after (whole ch shown given) records)) (merged_rows ch given)
    (merged_base ch shown given) counts

-- the merged rows are kept, and nothing is archived or added
abbrev pub rows_alone : Choice → List ℕ → Choice
rows_alone ch given = record { keep = row_under ch given; archive = []; adds = [] }

-- behind a session whose new records each got an id, a content is so often live on the handheld, and
-- in the desktop's rows
abbrev pub count_on_handheld : Choice → List ℕ → List Record → ContentValue → ℕ
count_on_handheld ch given records c =
    count_of c (live_contents (after (whole ch (view_held (slow_view records)) given) records))

abbrev pub count_on_desktop : Choice → List ℕ → ContentValue → ℕ
count_on_desktop ch given c = count_of c (live_contents (merged_rows ch given))

-- it was so often live on the side that had it more often
abbrev pub greater_count : List Record → List Record → ContentValue → ℕ
greater_count records rows c =
    max (count_of c (live_contents records)) (count_of c (live_contents rows))

-- so the next one chooses, whichever sides it goes by
abbrev pub StaysMerged : Choice → List ℕ → List Record → Type 0
StaysMerged ch given records =
    (a : Action) (counts : Bool)
    → choice_for a (merged_sides ch given records counts) ≡ rows_alone ch given
