-- A session up to any of its places is an event of each database that takes part, and lets be what is in place there.
use Rattle.std.proofs.lemmas.Bool.{or_cases, or_left, or_right}
use Rattle.std.proofs.Common.{arith, ◌≡◌, ◌⊎◌, ⊎_elim, ◌∙◌, ◌<◌, ◌||◌, inl, inr, ap, refl, sym, subst, ℕ, Bool, true, false, List, [], ◌∷◌, is_some}
use Rattle.std.specs.Prelude.{Option, Some, None, not}
use Rattle.pdb_values.specs.Contents.{ContentValue}
use Rattle.pdb_values.specs.Databases.{DatabaseValue}
use Rattle.pdb_values.specs.NamedDatabases.{database_of}
use Rattle.pdb_values.specs.declared.record.Record.{Record}
use Rattle.pdb_values.proofs.NamedLaws.{AllByRecursion-database_of}
use Rattle.palm_device.specs.Bounds.{IsBoundedDatabase}
use Rattle.palm_device.specs.Devices.{Device}
use Rattle.conduit_rules.specs.Choices.{Choice, contents_of}
use Rattle.conduit_rules.specs.Fates.{desktop_fate, stands}
use Rattle.conduit_rules.specs.News.{loose}
use Rattle.conduit_rules.specs.States.{base_at, gone, has_row, held, live, live_of, row}
use Rattle.conduit_rules.specs.declared.action.Action.{Action}
use Rattle.conduit_rules.specs.declared.action.Action.TheVariants.{Sync, Handheld, Desktop, Both}
use Rattle.conduit_rules.specs.declared.view.Seen.{Seen}
use Rattle.conduit_rules.proofs.ActionLaws.{desktop-is}
use Rattle.record_merge.specs.Merging.{AreBounded}
use Rattle.record_merge.proofs.CountLaws.{new-free}
use Rattle.record_merge.proofs.PutLaws.{differ-ids}
use Rattle.desk_store.specs.Shelves.{SlotValue}
use Rattle.session_plan.specs.Archives.{entries_of}
use Rattle.session_plan.specs.Choosing.{agrees, base_rows_by, view}
use Rattle.session_plan.specs.Limits.{first_over}
use Rattle.session_plan.specs.Merges.{merged_slot}
use Rattle.session_plan.specs.Tasks.{Meeting, records_of, slot_of, task_of}
use Rattle.front_laws.specs.Again.{HoldsTheSame, Later, RunsAgain}
use Rattle.front_laws.specs.Equal.{IsShownWhole}
use Rattle.front_laws.specs.Keeping.{ActionSpares, IsKept, LetsBe, holding_at}
use Rattle.front_laws.specs.Lives.{EditLetsBe, GotIdsUpTo, desktop_edit, handheld_edit, IsFound, IsInPlace, SessionLetsBe, is_live_in, is_there, standing}
use Rattle.front_laws.specs.Meetings.{AsksTheSame, IsActive, LeftMerged, action_at, found_of, ids_at}
use Rattle.front_laws.specs.Repeats.{Ending, Finding, GotAllIds, GotIds, Place, chosen, ended, left, left_among_news, shown, sides}
use Rattle.front_laws.specs.Repeats.{before_mark, among_news, behind_commit, at_end}
use Rattle.front_laws.specs.Sound.{FitsLimits, IsSoundMeeting}
use Rattle.front_laws.specs.Stops.{StandsAmongNews, StandsBehindCommit}
use Rattle.front_laws.proofs.ChosenLaws.{added-live_in, kept-live_in}
use Rattle.front_laws.proofs.EqualLaws.{ended-equal}
use Rattle.front_laws.proofs.FrontLaws.{front-among, front-behind}
use Rattle.front_laws.proofs.InPlaceLaws.{news-place, session-place, unmet-place}
use Rattle.front_laws.proofs.LetGoLaws.{below-bound, has_row-is}
use Rattle.front_laws.proofs.LifeLaws.{event-place, event-there, session-there}
use Rattle.front_laws.proofs.MeetingLaws.{among-news, at-the_end, behind-the_commit, reading-shows, same_action}
use Rattle.front_laws.proofs.ReadyLaws.{bounded_ids, handheld-sound}
use Rattle.front_laws.proofs.ShownLaws.{active-or, shown-whole, shows-next}
use Rattle.front_laws.proofs.SkippedLaws.{left-stopped}
use Rattle.front_laws.proofs.StandLaws.{IsUnder, held-live_in, live_in-held, loose-or}
use Rattle.front_laws.proofs.StopLaws.{found-before, left-among, left-behind}
use Rattle.front_laws.proofs.WholeLaws.{merged-at, whole-found}

-- ---- what both sides hold, and what a session finds of it

abbrev held_by : List Record → Option DatabaseValue → Option DatabaseValue → List (ℕ × ContentValue) → Ending
held_by records rows base archive = record { records = records; rows = records_of rows; base = records_of base; archive = archive }

abbrev found_by : List Record → Option DatabaseValue → Option DatabaseValue → List (ℕ × ContentValue) → Ending
found_by records rows base archive = record { records = records; rows = records_of rows; base = base_rows_by rows base; archive = archive }

-- where a side lacks the rows its base rows count for nothing
found-place : (c : ContentValue) (records : List Record) (rows base : Option DatabaseValue) (archive : List (ℕ × ContentValue))
    → IsInPlace c (held_by records rows base archive) → IsInPlace c (found_by records rows base archive)
found-place c records None base archive place =
    unmet-place (found_by records None base archive) c refl
    (record { handheld = place.unarchived.handheld; desktop = place.unarchived.desktop })
found-place c records (Some d) base archive place = place

held-place : (c : ContentValue) (records old : List Record) (rows base : Option DatabaseValue) (archive before : List (ℕ × ContentValue))
    → (rows ≡ None → IsInPlace c (held_by old rows base before)) → IsInPlace c (found_by records rows base archive)
    → IsInPlace c (held_by records rows base archive)
held-place c records old None base archive before was place = record {
  rows = λ i is. absurd (none i ((was refl).rows i is).1);
  gone_rows = λ i is. let other = (was refl).gone_rows i is in absurd (none other.0 ((was refl).rows other.0 other.1).1);
  unarchived = record { handheld = place.unarchived.handheld; desktop = place.unarchived.desktop };
}
  where
    none : (i : ℕ) → held [] i ≡ live c → ⊥
    none i is = cc
held-place c records old (Some d) base archive before was place = place

-- an action doesn't look at the base rows there
found-spares : (c : ContentValue) (a : Action) (records rows base other : List Record) (archive : List (ℕ × ContentValue))
    → ActionSpares c a (record { records = records; rows = rows; base = base; archive = archive })
    → ActionSpares c a (record { records = records; rows = rows; base = other; archive = archive })
found-spares c Sync records rows base other archive spares = tt
found-spares c Handheld records rows base other archive spares = spares
found-spares c Desktop records rows base other archive spares = spares
found-spares c Both records rows base other archive spares = tt

-- ---- a place where a session stopped, as the next one finds it

pub record IsEvent (m next : Meeting) (name : List ℕ) : Type 0 where
  pub place : Place
  pub finds : found_of next name ≡ left (action_at m name) (found_of m name) place
  pub got : GotIdsUpTo (action_at m name) (found_of m name) place

event-among : {m next : Meeting} {given : List ℕ} (name : List ℕ) (stands : StandsAmongNews m given next.device) → AsksTheSame m next
    → slot_of next ≡ slot_of m → 0 < (slot_of m).marks.pc → IsEvent m next name
event-among {m} {next} {given} name stands asks slot number = elim stands.begun [
  | inl begun ↦
      let follows = among-news m next (ids_at m given) stands.count name (left-among stands asks begun slot number) in
      record { place = among_news (ids_at m given name) (stands.count name); finds = follows.finds; got = stands.free name }
  | inr (user, databases) ↦ record { place = before_mark; finds = found-before next name asks user databases slot; got = tt }
]

event-behind : {m next : Meeting} {given : List ℕ} (name : List ℕ) (stands : StandsBehindCommit m given next.device) → IsActive m name
    → AsksTheSame m next → slot_of next ≡ merged_slot m given → 0 < (slot_of m).marks.pc → IsEvent m next name
event-behind {m} {next} {given} name stands is asks slot number = elim stands.ended [
  | inl begun ↦
      let follows = behind-the_commit m next (ids_at m given) stands.count name (left-behind next stands name is asks begun slot number) in
      record { place = behind_commit (ids_at m given name) (stands.count name); finds = follows.finds; got = stands.free name is }
  | inr (user, databases) ↦
      let merged : LeftMerged m next given = record { asks = asks; databases = databases; slot = slot } in
      let follows = at-the_end m next (ids_at m given) name (whole-found m next given name merged is) in
      record {
        place = at_end (ids_at m given name) (view next (task_of next name)) (not (agrees next name));
        finds = follows.finds;
        got = stands.free name is;
      }
]

-- ---- an action that goes by one side

desktop-rows : (x : Finding) (given : List ℕ) (c : ContentValue) → IsFound x → GotAllIds Desktop x given → is_live_in c x.rows ≡ true
    → is_live_in c (ended Desktop x given).rows ≡ true
desktop-rows x given c found got is =
    let ch = chosen Desktop x in
    ⊎_elim (λ (free : is_live_in c (loose (has_row x.base) x.rows) ≡ true).
    added-live_in ch given x.archive c (new-free ch (shown x) given x.records found.read.shows got.got) got.each
    (ap (λ (k : Choice). stands c k.adds) (desktop-is (sides x)) ∙ free))
    (λ (under : (i : ℕ) × IsUnder c (has_row x.base) x.rows i).
    let i = under.0 in
    let counted = has_row-is x.base i x.gone_counts under.1.based in
    kept-live_in ch given x.archive c i (below-bound c x.rows i found.rows under.1.live)
    (λ k. (desktop_fate (counted.1 k) (under.1.live k)).keep))
    (loose-or c (has_row x.base) x.rows is)

desktop-ends : (x : Finding) (given : List ℕ) (c : ContentValue) → IsFound x → GotAllIds Desktop x given → is_live_in c x.rows ≡ true
    → is_live_in c (ended Desktop x given).records ≡ true
desktop-ends x given c found got is =
    let equal = ended-equal Desktop given found.read got.got in
    let end = ended Desktop x given in
    let under = live_in-held c end.rows (differ-ids end.rows equal.desktop.ids) (desktop-rows x given c found got is) in
    held-live_in c end.records under.0 (equal.same under.0 ∙ under.1)

lets-commit : (a : Action) (x : Finding) (given : List ℕ) (n : ℕ) (c : ContentValue) → IsFound x → GotAllIds a x given → ActionSpares c a (standing x)
    → SessionLetsBe c a x (behind_commit given n)
lets-commit Sync x given n c found got spares = tt
lets-commit Handheld x given n c found got spares = λ is.
    let under = live_in-held c x.records (differ-ids x.records found.read.ids) (spares is) in
    kept-live_in (chosen Handheld x) given x.archive c under.0 (below-bound c x.records under.0 found.read.bounded under.1)
    (ap live_of (found.read.shows under.0 ∙ under.1))
lets-commit Desktop x given n c found got spares = λ is. desktop-ends x given c found got (spares is)
lets-commit Both x given n c found got spares = tt

lets-end : (a : Action) (x : Finding) (given : List ℕ) (view : List Seen) (g : Bool) (c : ContentValue) → IsFound x → GotAllIds a x given
    → ActionSpares c a (standing x) → SessionLetsBe c a x (at_end given view g)
lets-end Sync x given view g c found got spares = tt
lets-end Handheld x given view g c found got spares = lets-commit Handheld x given 0 c found got spares
lets-end Desktop x given view g c found got spares = lets-commit Desktop x given 0 c found got spares
lets-end Both x given view g c found got spares = tt

among-there : (a : Action) (x : Finding) (given : List ℕ) (n : ℕ) (c : ContentValue) → IsFound x → GotIds a x given → ActionSpares c a (standing x)
    → IsInPlace c (standing x) → is_there c (standing x) ≡ true → is_there c (standing (left_among_news a x given n)) ≡ true
among-there Sync x given n c found got spares place is = session-there Sync x (among_news given n) c found got tt place is
among-there Handheld x given n c found got spares place is = session-there Handheld x (among_news given n) c found got (λ on. on) place is
among-there Desktop x given n c found got spares place is =
    let rest = is_live_in c x.rows || stands c (contents_of x.archive) in
    or_right (is_live_in c (left_among_news Desktop x given n).records) rest
    (⊎_elim (λ (here : is_live_in c x.records ≡ true). or_left (is_live_in c x.rows) (stands c (contents_of x.archive)) (spares here))
    (λ (other : rest ≡ true). other) (or_cases (is_live_in c x.records) rest is))
among-there Both x given n c found got spares place is = session-there Both x (among_news given n) c found got tt place is

-- ---- one session

-- a content stays in place, and there where it was there
pub record KeepsIt (c : ContentValue) (e f : Ending) : Type 0 where
  pub place : IsInPlace c f
  pub there : is_there c e ≡ true → is_there c f ≡ true

session-keeps : (a : Action) (x : Finding) (stop : Place) (c : ContentValue) → IsFound x → GotIdsUpTo a x stop → ActionSpares c a (standing x)
    → IsInPlace c (standing x) → KeepsIt c (standing x) (standing (left a x stop))
session-keeps a x before_mark c found got spares place = record { place = place; there = λ is. is }
session-keeps a x (among_news given n) c found got spares place =
    record { place = news-place a x given n c found got place; there = λ is. among-there a x given n c found got spares place is }
session-keeps a x (behind_commit given n) c found got spares place =
    let lets = lets-commit a x given n c found got spares in
    record {
      place = session-place a x (behind_commit given n) c found got lets place;
      there = λ is. session-there a x (behind_commit given n) c found got lets place is;
    }
session-keeps a x (at_end given view g) c found got spares place =
    let lets = lets-end a x given view g c found got spares in
    record {
      place = session-place a x (at_end given view g) c found got lets place;
      there = λ is. session-there a x (at_end given view g) c found got lets place is;
    }

-- ---- a meeting

rows-bounded : {m : Meeting} → IsSoundMeeting m → (name : List ℕ) → AreBounded (records_of (task_of m name).rows)
rows-bounded {m} sound name = by (task_of m name).rows refl
  where
    by : (r : Option DatabaseValue) → database_of name (slot_of m).shelves.rows ≡ r → AreBounded (records_of r)
    by None there = tt
    by (Some d) there =
        bounded_ids d.records
        (let bounded = AllByRecursion-database_of IsBoundedDatabase name (slot_of m).shelves.rows d sound.slot.rows there in bounded.records)

pub meeting-found : {m : Meeting} → IsSoundMeeting m → (name : List ℕ) → IsShownWhole m name → IsFound (found_of m name)
meeting-found {m} sound name whole =
    let own = handheld-sound sound (task_of m name) refl in
    record { read = reading-shows m (task_of m name) own.ids own.bounded whole; rows = rows-bounded sound name }

module _ (m next : Meeting) (name : List ℕ) (c : ContentValue) (sound : IsSoundMeeting m) (whole : IsShownWhole m name)
    (spares : ActionSpares c (action_at m name) (holding_at m name)) (place : IsInPlace c (holding_at m name)) where
  before_place : IsInPlace c (standing (found_of m name))
  before_place =
      let t = task_of m name in
      found-place c (records_of t.handheld) t.rows t.base (found_of m name).archive place

  before_spares : ActionSpares c (action_at m name) (standing (found_of m name))
  before_spares =
      let x = found_of m name in
      let e = holding_at m name in
      found-spares c (action_at m name) e.records e.rows e.base x.base x.archive spares

  -- where the next one finds no rows the base is the one of before
  abbrev Was : Type 0
  Was = (task_of next name).rows ≡ None
      → IsInPlace c (held_by (records_of (task_of m name).handheld) (task_of next name).rows (task_of next name).base (found_of m name).archive)

  event-keeps : IsEvent m next name → Was → KeepsIt c (holding_at m name) (holding_at next name)
  event-keeps event was =
      let a = action_at m name in
      let x = found_of m name in
      let t = task_of next name in
      let keeps = session-keeps a x event.place c (meeting-found sound name whole) event.got before_spares before_place in
      let now : KeepsIt c (standing x) (standing (found_of next name)) =
      subst (λ (y : Finding). KeepsIt c (standing x) (standing y)) (sym event.finds) keeps in
      record {
        place = held-place c (records_of t.handheld) (records_of (task_of m name).handheld) t.rows t.base (found_of next name).archive x.archive was now.place;
        there = now.there;
      }

  -- it has the slot of before
  among-was : slot_of next ≡ slot_of m → Was
  among-was slot none =
      subst (λ (s : SlotValue). IsInPlace c (held_by (records_of (task_of m name).handheld) (database_of name s.shelves.rows)
      (database_of name s.shelves.bases) (found_of m name).archive)) (sym slot) place

  behind-was : is_some (task_of next name).rows ≡ true → Was
  behind-was there none = absurd (let no : false ≡ true = sym (ap is_some none) ∙ there in cc)

  pub active-keeps : {writes : ℕ} {given : List ℕ} → first_over m ≡ None → RunsAgain m next writes given → IsActive m name
      → KeepsIt c (holding_at m name) (holding_at next name)
  active-keeps {writes} {given} fits runs is = elim runs.slot [
    | inl (slot, few) ↦
        event-keeps (event-among name (front-among m writes given next.device sound fits runs.front few) runs.asks slot runs.number) (among-was slot)
    | inr (slot, most) ↦
        event-keeps (event-behind name (front-behind m writes given next.device sound fits runs.front most) is runs.asks slot runs.number)
        (behind-was (merged-at m next given name slot is).there)
  ]

  idle-holds : {writes : ℕ} {given : List ℕ} → first_over m ≡ None → RunsAgain m next writes given → (IsActive m name → ⊥)
      → holding_at next name ≡ holding_at m name
  idle-holds {writes} {given} fits runs idle =
      let e : Later = record { next = next; writes = writes; given = given } in
      let same : HoldsTheSame m next.device (slot_of next) name = left-stopped m {e = e} (sound, fits, runs, tt) idle in
      λ k. record {
        records = records_of (same.handheld k);
        rows = records_of (same.rows k);
        base = records_of (same.base k);
        archive = entries_of (records_of (same.archive k));
      }

  -- whatever it does with the database
  pub meeting-keeps : {writes : ℕ} {given : List ℕ} → first_over m ≡ None → RunsAgain m next writes given
      → KeepsIt c (holding_at m name) (holding_at next name)
  meeting-keeps fits runs = elim (active-or m name) [
    | inl is ↦ active-keeps fits runs is
    | inr idle ↦
        subst (KeepsIt c (holding_at m name)) (sym (idle-holds fits runs idle)) (record { place = place; there = λ is. is })
  ]

-- ---- edits

-- an edit of each side that lets it be
pub edits-keep : (c : ContentValue) (e f : Ending) → f.base ≡ e.base → f.archive ≡ e.archive → EditLetsBe c e.records f.records
    → EditLetsBe c e.rows f.rows → IsInPlace c e → KeepsIt c e f
edits-keep c e f base archive handheld desktop place =
    let first = handheld_edit f.records in
    let mid : Ending = record e { records = f.records } in
    let second = desktop_edit f.rows in
    let same : record mid { rows = f.rows } ≡ f = λ k. record { records = f.records; rows = f.rows; base = sym base k; archive = sym archive k } in
    let mid_place : IsInPlace c mid = event-place first e c tt handheld place in
    subst (KeepsIt c e) same (record {
      place = event-place second mid c tt desktop mid_place;
      there = λ is. event-there second mid c tt desktop mid_place (event-there first e c tt handheld place is);
    })

-- ---- what a session leaves

pub kept-on : (c : ContentValue) (m next : Meeting) (name : List ℕ) → LetsBe c m next name → IsKept c next name
kept-on c m next name is = record {
  place = (meeting-keeps m next name c is.fits.sound (shown-whole m name is.kept.shown) is.spares is.kept.place is.fits.fits is.runs).place;
  shown = shows-next m next is.writes is.given name is.fits is.few is.runs is.kept.shown;
}

pub there-still : (c : ContentValue) (m next : Meeting) (name : List ℕ) → LetsBe c m next name → is_there c (holding_at m name) ≡ true
    → is_there c (holding_at next name) ≡ true
there-still c m next name is there =
    (meeting-keeps m next name c is.fits.sound (shown-whole m name is.kept.shown) is.spares is.kept.place is.fits.fits is.runs).there there
