-- One database as a session finds it, what both sides hold of it once the session ends, and what a
-- session that stops leaves of it.
use Rattle.std.specs.Prelude.{◌≡◌, ℕ, Bool, true, false, List, [], ◌∷◌, ◌++◌, length, take}
use Rattle.pdb_values.specs.Contents.{ContentValue}
use Rattle.pdb_values.specs.declared.record.Record.{Record}
use Rattle.palm_device.specs.Soundness.{ids_of, AreIds}
use Rattle.conduit_rules.specs.States.{SideState, nothing, held, BaseState, no_base, row, gone, base_at}
use Rattle.conduit_rules.specs.Choices.{Choice, Sides, sides_of, choice_for}
use Rattle.conduit_rules.specs.Views.{view_held, slow_view}
use Rattle.conduit_rules.specs.declared.action.Action.{Action}
use Rattle.conduit_rules.specs.declared.action.Action.TheVariants.{Sync, Handheld, Desktop, Both}
use Rattle.conduit_rules.specs.declared.view.Seen.{Seen}
use Rattle.record_merge.specs.Merging.{merged_records, merged_rows, merged_base, merged_archive, AreBounded}
use Rattle.record_merge.specs.Stops.{NoBase}
use Rattle.record_merge.specs.Writes.{Write, replace, add, purge, clean_up, reset, after, giving, clearing, GotFreeIds}

-- ---- one session

-- one database as a session finds it: the view of the handheld's records, these, the desktop's
-- rows, base rows and archive, and whether gone base rows count
pub record Finding : Type 0 where
  pub view : List Seen
  pub records : List Record
  pub rows : List Record
  pub base : List Record
  pub archive : List (ℕ × ContentValue)
  pub gone_counts : Bool

abbrev pub sides : Finding → Sides
sides x = sides_of x.view x.rows x.base x.gone_counts

-- what the session chooses, by whichever sides it goes
abbrev pub chosen : Action → Finding → Choice
chosen a x = choice_for a (sides x)

-- what its view shows
abbrev pub shown : Finding → ℕ → SideState
shown x = view_held x.view

-- its ids are those of records, and its view shows what these hold
pub record IsRead (x : Finding) : Type 0 where
  pub ids : AreIds (ids_of x.records)
  pub bounded : AreBounded x.records
  pub shows : (i : ℕ) → shown x i ≡ held x.records i

-- what both sides hold of it: the handheld's records, the desktop's rows, base rows and archive
pub record Ending : Type 0 where
  pub records : List Record
  pub rows : List Record
  pub base : List Record
  pub archive : List (ℕ × ContentValue)

-- the merge: how a session ends whose new records got these ids
abbrev pub ended : Action → Finding → List ℕ → Ending
ended a x given = record {
  records = merged_records (chosen a x) (shown x) given x.records;
  rows = merged_rows (chosen a x) given;
  base = merged_base (chosen a x) (shown x) given;
  archive = merged_archive (chosen a x) x.archive;
}

-- the handheld gave each of its new records an id that no record had at its turn
abbrev pub GotIds : Action → Finding → List ℕ → Type 0
GotIds a x given = GotFreeIds (chosen a x) (shown x) given x.records

-- ---- a stop among the replacements and adds

-- the first so many of them
abbrev pub news_done : Action → Finding → List ℕ → ℕ → List Write
news_done a x given n = take n (giving (chosen a x) (shown x) given)

-- the ids that the adds among writes got
abbrev pub given_by : List Write → List ℕ
given_by [] = []
given_by (replace i c ∷ ws) = given_by ws
given_by (add g c ∷ ws) = g ∷ given_by ws
given_by (purge i ∷ ws) = given_by ws
given_by (clean_up ∷ ws) = given_by ws
given_by (reset ∷ ws) = given_by ws

-- what the next session finds: the handheld has these writes, and the desktop is as it was. Both
-- sides don't agree, so that all records are read, and gone rows count
abbrev pub left_among_news : Action → Finding → List ℕ → ℕ → Finding
left_among_news a x given n =
    let records = after (news_done a x given n) x.records in
    record {
      view = slow_view records;
      records = records;
      rows = x.rows;
      base = x.base;
      archive = x.archive;
      gone_counts = true;
    }

-- nothing is held under the id of a gone row
abbrev pub NothingIfGone : BaseState → SideState → Type 0
NothingIfGone no_base h = Unit {0}
NothingIfGone (row b) h = Unit {0}
NothingIfGone (gone b) h = h ≡ nothing

-- where gone rows didn't count, which is where both sides agreed, no record has the id of one
abbrev pub NoneUnderGone : Bool → List Record → List Record → Type 0
NoneUnderGone true base records = Unit {0}
NoneUnderGone false base records = (i : ℕ) → NothingIfGone (base_at base true i) (held records i)

-- These are the ids that a stopped session's new records got: all of them, each free at its turn,
-- and no id of a base row, gone or not. And no record had the id of a gone row, where these didn't
-- count.
pub record StopsAmongNews (a : Action) (x : Finding) (given : List ℕ) (n : ℕ) : Type 0 where
  pub read : IsRead x
  pub all : given_by (news_done a x given n) ≡ given
  pub got : GotIds a x given
  pub fresh : NoBase (base_at x.base true) given
  pub gone : NoneUnderGone x.gone_counts x.base x.records

-- ---- a stop behind the desktop's commit

-- the first so many of the purges, the clean up and the reset
abbrev pub clearing_done : Action → Finding → ℕ → List Write
clearing_done a x n = take n (clearing (chosen a x) (shown x))

-- what the next session finds: the handheld has what it was given, and these writes, and the
-- desktop is merged. Both sides don't agree
abbrev pub left_behind_commit : Action → Finding → List ℕ → ℕ → Finding
left_behind_commit a x given n =
    let records = after (giving (chosen a x) (shown x) given ++ clearing_done a x n) x.records in
    let end = ended a x given in
    record {
      view = slow_view records;
      records = records;
      rows = end.rows;
      base = end.base;
      archive = end.archive;
      gone_counts = true;
    }

-- what the next session finds behind a whole one, whichever way it reads and whether or not gone
-- rows count
abbrev pub left_at_end : Action → Finding → List ℕ → List Seen → Bool → Finding
left_at_end a x given view gone_counts =
    let end = ended a x given in
    record {
      view = view;
      records = end.records;
      rows = end.rows;
      base = end.base;
      archive = end.archive;
      gone_counts = gone_counts;
    }

-- a session reads what the handheld holds, and its new records get free ids
pub record IsSession (a : Action) (x : Finding) (given : List ℕ) : Type 0 where
  pub read : IsRead x
  pub got : GotIds a x given

-- both ends are the same but for the gone rows of the base
pub record EndAlike (e f : Ending) : Type 0 where
  pub records : e.records ≡ f.records
  pub rows : e.rows ≡ f.rows
  pub base : (i : ℕ) → base_at e.base false i ≡ base_at f.base false i
  pub archive : e.archive ≡ f.archive

-- a session that finds y, and gives its new records the first ids, ends as one that finds x, and
-- gives them the second
abbrev pub EndsLike : Action → Finding → List ℕ → Finding → List ℕ → Type 0
EndsLike a y later x given = EndAlike (ended a y later) (ended a x given)

-- ---- sessions that stop, one after another

-- where a session stopped in a database: before anything was written; or after so many of its
-- replacements and adds, or of its purges, the clean up and the reset, or behind all of it, with
-- the ids that its new records got, and in the last case how the next one reads
pub data Place : Type 0 where
  before_mark : Place
  among_news : List ℕ → ℕ → Place
  behind_commit : List ℕ → ℕ → Place
  at_end : List ℕ → List Seen → Bool → Place

-- the ids that its new records got
abbrev pub ids_given : Place → List ℕ
ids_given before_mark = []
ids_given (among_news given n) = given
ids_given (behind_commit given n) = given
ids_given (at_end given view gone_counts) = given

-- what the next session finds
abbrev pub left : Action → Finding → Place → Finding
left a x before_mark = x
left a x (among_news given n) = left_among_news a x given n
left a x (behind_commit given n) = left_behind_commit a x given n
left a x (at_end given view gone_counts) = left_at_end a x given view gone_counts

-- each add has its id
pub record GotAllIds (a : Action) (x : Finding) (given : List ℕ) : Type 0 where
  pub got : GotIds a x given
  pub each : length given ≡ length (chosen a x).adds

-- a session may stop among its news: one that goes by the handheld has none, and what one adds that
-- goes by the desktop is purged by the next
abbrev pub MayStopAmongNews : Action → Finding → List ℕ → ℕ → Type 0
MayStopAmongNews Sync x given n = StopsAmongNews Sync x given n
MayStopAmongNews Handheld x given n = given ≡ []
MayStopAmongNews Desktop x given n = GotIds Desktop x given
MayStopAmongNews Both x given n = StopsAmongNews Both x given n

-- a session may stop there; behind a whole one the view shows what the records hold
abbrev pub MayStop : Action → Finding → Place → Type 0
MayStop a x before_mark = Unit {0}
MayStop a x (among_news given n) = MayStopAmongNews a x given n
MayStop a x (behind_commit given n) = GotAllIds a x given
MayStop a x (at_end given view gone_counts) =
    GotAllIds a x given × IsRead (left_at_end a x given view gone_counts)

-- what the session behind all of these finds
abbrev pub left_by : Action → Finding → List Place → Finding
left_by a x [] = x
left_by a x (place ∷ places) = left_by a (left a x place) places

-- each of these sessions may stop at its place
abbrev pub AreStops : Action → Finding → List Place → Type 0
AreStops a x [] = Unit {0}
AreStops a x (place ∷ places) = MayStop a x place × AreStops a (left a x place) places

-- the ids that stand in the end, where these stand that are given later: those that were given
-- before them too. But what a session added that goes by the desktop and stopped before its commit
-- doesn't stand
abbrev pub ids_with : Action → Place → List ℕ → List ℕ
ids_with Sync place later = ids_given place ++ later
ids_with Handheld place later = ids_given place ++ later
ids_with Desktop before_mark later = later
ids_with Desktop (among_news given n) later = later
ids_with Desktop (behind_commit given n) later = given ++ later
ids_with Desktop (at_end given view gone_counts) later = given ++ later
ids_with Both place later = ids_given place ++ later

-- those of all these sessions, and of the one behind them
abbrev pub all_ids : Action → List Place → List ℕ → List ℕ
all_ids a [] later = later
all_ids a (place ∷ places) later = ids_with a place (all_ids a places later)
