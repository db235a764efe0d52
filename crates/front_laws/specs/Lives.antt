-- The life of a database: edits of either side, and sessions between them that end or stop
-- anywhere. Where a content stands, and what lets it go.
use Rattle.std.specs.Prelude.{◌≡◌, ◌⊎◌, ℕ, Bool, true, ◌||◌, List, [], ◌∷◌, Some}
use Rattle.pdb_values.specs.Contents.{ContentValue}
use Rattle.pdb_values.specs.declared.record.Record.{Record}
use Rattle.conduit_rules.specs.Choices.{contents_of}
use Rattle.conduit_rules.specs.Fates.{stands}
use Rattle.conduit_rules.specs.News.{live_contents}
use Rattle.conduit_rules.specs.States.{live, archived, content_of, held, row, gone, base_at}
use Rattle.conduit_rules.specs.declared.action.Action.{Action}
use Rattle.conduit_rules.specs.declared.action.Action.TheVariants.{Sync, Handheld, Desktop, Both}
use Rattle.conduit_rules.specs.declared.view.Seen.{Seen}
use Rattle.record_merge.specs.Merging.{AreBounded}
use Rattle.front_laws.specs.Repeats.{Finding, IsRead, Ending, ended, GotIds, GotAllIds, Place, left}
use Rattle.front_laws.specs.Repeats.{before_mark, among_news, behind_commit, at_end}

-- ---- where a content stands

-- a content is live among records
abbrev pub is_live_in : ContentValue → List Record → Bool
is_live_in c records = stands c (live_contents records)

-- it is live on a side, or archived
abbrev pub is_there : ContentValue → Ending → Bool
is_there c e =
    is_live_in c e.records || (is_live_in c e.rows || stands c (contents_of e.archive))

-- ---- one session

-- a session's view shows what the handheld holds, and the desktop's ids are those of records
pub record IsFound (x : Finding) : Type 0 where
  pub read : IsRead x
  pub rows : AreBounded x.rows

-- the desktop's row of an id has a content as its base row has it, and the handheld holds something
-- else there, or nothing: there it was changed or deleted
pub record WasLetGoOnHandheld (c : ContentValue) (x : Finding) (i : ℕ) : Type 0 where
  pub base : base_at x.base x.gone_counts i ≡ row c
  pub desktop : held x.rows i ≡ live c
  pub handheld : content_of (held x.records i) ≡ Some c → ⊥

-- the handheld's record of an id has a content as its base row has it, and that row is gone, or the
-- desktop holds something else there, or nothing: there it was changed or deleted
pub record WasLetGoOnDesktop (c : ContentValue) (x : Finding) (i : ℕ) : Type 0 where
  pub handheld : held x.records i ≡ live c
  pub other : (base_at x.base x.gone_counts i ≡ gone c)
      ⊎ ((base_at x.base x.gone_counts i ≡ row c) × (content_of (held x.rows i) ≡ Some c → ⊥))

-- ---- what happens to a database

-- One side gets these records by an edit; or a session of this action comes to this place: it saw
-- the handheld by this view, and gone base rows counted for it or not. A session that skips the
-- database is none.
pub data Event : Type 0 where
  handheld_edit : List Record → Event
  desktop_edit : List Record → Event
  session : Action → List Seen → Bool → Place → Event

-- what a session finds of what both sides hold
abbrev pub finding : Ending → List Seen → Bool → Finding
finding e view gone_counts = record {
  view = view;
  records = e.records;
  rows = e.rows;
  base = e.base;
  archive = e.archive;
  gone_counts = gone_counts;
}

-- what both sides hold of what is found
abbrev pub standing : Finding → Ending
standing x = record { records = x.records; rows = x.rows; base = x.base; archive = x.archive }

-- what both sides hold after an event
abbrev pub after_event : Event → Ending → Ending
after_event (handheld_edit records) e = record e { records = records }
after_event (desktop_edit rows) e = record e { rows = rows }
after_event (session a view gone_counts place) e =
    standing (left a (finding e view gone_counts) place)

-- each record that a session added up to a place got a free id, and from the desktop's commit on
-- each has been added
abbrev pub GotIdsUpTo : Action → Finding → Place → Type 0
GotIdsUpTo a x before_mark = Unit {0}
GotIdsUpTo a x (among_news given n) = GotIds a x given
GotIdsUpTo a x (behind_commit given n) = GotAllIds a x given
GotIdsUpTo a x (at_end given view gone_counts) = GotAllIds a x given

-- an edit may do anything that the next session is shown
abbrev pub CanHappen : Event → Ending → Type 0
CanHappen (handheld_edit records) e = Unit {0}
CanHappen (desktop_edit rows) e = Unit {0}
CanHappen (session a view gone_counts place) e =
    let x = finding e view gone_counts in IsFound x × GotIdsUpTo a x place

-- ---- what lets a content be

-- an edit lets a content be: each record that bears it stays live with it, it is live as before,
-- and no record is archived with it
pub record EditLetsBe (c : ContentValue) (old new : List Record) : Type 0 where
  pub under_ids : (i : ℕ) → held old i ≡ live c → held new i ≡ live c
  pub lives : is_live_in c old ≡ true → is_live_in c new ≡ true
  pub unarchived : (i : ℕ) → held new i ≡ archived c → held old i ≡ archived c

-- the end that a session decides on: what it did up to its place, and from the desktop's commit on
-- the merge, whatever of its purges is still to come
abbrev pub end_by : Action → Finding → Place → Ending
end_by a x before_mark = standing x
end_by a x (among_news given n) = standing (left a x (among_news given n))
end_by a x (behind_commit given n) = ended a x given
end_by a x (at_end given view gone_counts) = ended a x given

-- a session of both sides lets each content be, and one that goes by one side lets go what is live
-- on the other side and doesn't stay live there
abbrev pub SessionLetsBe : ContentValue → Action → Finding → Place → Type 0
SessionLetsBe c Sync x place = Unit {0}
SessionLetsBe c Handheld x place =
    is_live_in c x.rows ≡ true → is_live_in c (end_by Handheld x place).rows ≡ true
SessionLetsBe c Desktop x place =
    is_live_in c x.records ≡ true → is_live_in c (end_by Desktop x place).records ≡ true
SessionLetsBe c Both x place = Unit {0}

abbrev pub EventLetsBe : ContentValue → Event → Ending → Type 0
EventLetsBe c (handheld_edit records) e = EditLetsBe c e.records records
EventLetsBe c (desktop_edit rows) e = EditLetsBe c e.rows rows
EventLetsBe c (session a view gone_counts place) e =
    SessionLetsBe c a (finding e view gone_counts) place

-- ---- before the first event

-- no side has a content archived under an id
pub record IsUnarchived (c : ContentValue) (e : Ending) : Type 0 where
  pub handheld : (i : ℕ) → held e.records i ≡ archived c → ⊥
  pub desktop : (i : ℕ) → held e.rows i ≡ archived c → ⊥

-- Nothing has let a content go so far: under each id whose base row has it, it is live on both
-- sides; where a gone base row has it, another one has it that isn't gone; and no side has it
-- archived.
pub record IsInPlace (c : ContentValue) (e : Ending) : Type 0 where
  pub rows : (i : ℕ) → base_at e.base true i ≡ row c
      → (held e.records i ≡ live c) × (held e.rows i ≡ live c)
  pub gone_rows : (i : ℕ) → base_at e.base true i ≡ gone c
      → (j : ℕ) × (base_at e.base true j ≡ row c)
  pub unarchived : IsUnarchived c e

-- ---- a life

-- what both sides hold after all of these events, one behind the other
abbrev pub after_events : List Event → Ending → Ending
after_events [] e = e
after_events (v ∷ vs) e = after_events vs (after_event v e)

abbrev pub AllCanHappen : List Event → Ending → Type 0
AllCanHappen [] e = Unit {0}
AllCanHappen (v ∷ vs) e = CanHappen v e × AllCanHappen vs (after_event v e)

abbrev pub AllLetBe : ContentValue → List Event → Ending → Type 0
AllLetBe c [] e = Unit {0}
AllLetBe c (v ∷ vs) e = EventLetsBe c v e × AllLetBe c vs (after_event v e)

-- a life in which nothing lets a content go
pub record IsLife (c : ContentValue) (events : List Event) (e : Ending) : Type 0 where
  pub begun : IsInPlace c e
  pub can : AllCanHappen events e
  pub let_be : AllLetBe c events e

-- a content was there at first, or came by one of the events
abbrev pub was_there : ContentValue → List Event → Ending → Bool
was_there c [] e = is_there c e
was_there c (v ∷ vs) e = is_there c e || was_there c vs (after_event v e)
