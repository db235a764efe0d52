-- What an edit of the handheld marks is still shown behind sessions: a fast reading passes over nothing that changed.
use Rattle.std.proofs.Common.{arith, ◌≡◌, ◌⊎◌, ◌∙◌, ◌<◌, inl, inr, ap, refl, sym, subst, ℕ, Bool, true, false, List, [], ◌∷◌, ◌++◌, is_none, is_some}
use Rattle.std.specs.Prelude.{Option, Some, None, ◌&&◌, not}
use Rattle.std.specs.List.{list_any}
use Rattle.std.specs.Str.{bytes_eq}
use Rattle.pdb_values.specs.Databases.{DatabaseValue}
use Rattle.pdb_values.specs.NamedDatabases.{database_of}
use Rattle.pdb_values.specs.declared.record.Record.{Record}
use Rattle.pdb_values.specs.declared.user.UserInfo.{UserInfo}
use Rattle.palm_device.specs.Devices.{Device}
use Rattle.conduit_rules.specs.States.{BaseState, no_base, row, gone, base_at, first}
use Rattle.conduit_rules.specs.Views.{IsHonest, IsHonestUnder}
use Rattle.conduit_rules.specs.declared.action.Action.{Action}
use Rattle.conduit_rules.proofs.BothLaws.{none_based}
use Rattle.record_merge.specs.Writes.{after, clearing, giving}
use Rattle.record_merge.proofs.CountLaws.{honest-merged}
use Rattle.record_merge.proofs.PutLaws.{differ-ids}
use Rattle.desk_store.specs.Shelves.{SlotValue}
use Rattle.folder_files.specs.Partings.{is_parted}
use Rattle.mirrors.specs.Agreements.{agreed}
use Rattle.session_parts.specs.declared.skip.Skip.{Skip}
use Rattle.session_plan.specs.Choosing.{action_or_sync, agrees, base_rows_by, is_fast, is_sync}
use Rattle.session_plan.specs.Merges.{merged_device, merged_slot}
use Rattle.session_plan.specs.Partings.{agrees_with}
use Rattle.session_plan.specs.Skips.{skip_of}
use Rattle.session_plan.specs.Tasks.{Meeting, names, records_of, slot_of, task_of}
use Rattle.front_laws.specs.Again.{HoldsTheSame, RunsAgain}
use Rattle.front_laws.specs.Equal.{IsShownWhole}
use Rattle.front_laws.specs.Keeping.{MarksChanges, ShowsChanges}
use Rattle.front_laws.specs.Meetings.{IsActive, IsUnderWay, LeftMerged, action_at, found_of, ids_at}
use Rattle.front_laws.specs.Parts.{HasFewRows, TakesNoPart}
use Rattle.front_laws.specs.Repeats.{Finding, GotAllIds, GotIds, IsRead, chosen, ended, shown}
use Rattle.front_laws.specs.Sound.{FitsLimits, IsSoundMeeting}
use Rattle.front_laws.specs.Stops.{StandsAmongNews, StandsBehindCommit}
use Rattle.front_laws.proofs.FrontLaws.{front-among, front-behind}
use Rattle.front_laws.proofs.MeetingLaws.{reading-shows, under_way}
use Rattle.front_laws.proofs.NewsLaws.{whole-is}
use Rattle.front_laws.proofs.PartLaws.{apart-agrees, parted-kept}
use Rattle.front_laws.proofs.ReadyLaws.{handheld-sound}
use Rattle.front_laws.proofs.SkippedLaws.{left-whole}
use Rattle.front_laws.proofs.StopLaws.{slot_pc}
use Rattle.front_laws.proofs.TaskLaws.{device-name}
use Rattle.front_laws.proofs.WholeLaws.{whole-found}

-- ---- records without a mark

none-honest : (base : List Record) → IsHonest base []
none-honest base i r is = absurd (cc)

pub based-honest : (base records : List Record) → base ≡ [] → IsHonest base records
based-honest base records none i r is =
    subst (λ (b : BaseState). IsHonestUnder b r) (sym (ap (λ (rows : List Record). base_at rows false i) none ∙ none_based false i)) tt

-- an edit that marks what it changes leaves it so
pub edit-honest : (base old new : List Record) → MarksChanges old new → IsHonest base old → IsHonest base new
edit-honest base old new marks honest i r is = by (base_at base false i) (λ stood. honest i r stood) (λ unmarked. marks i r is unmarked)
  where
    by : (b : BaseState) → (first i old ≡ Some r → IsHonestUnder b r) → ((not r.dirty && not r.deleted) ≡ true → first i old ≡ Some r)
        → IsHonestUnder b r
    by no_base before stood = tt
    by (row c) before stood = λ unmarked. before (stood unmarked) unmarked
    by (gone c) before stood = tt

-- ---- a session is shown what changed

fast_parts : (agree slow sync handheld rows base : Bool) → (agree && (not slow && (sync && (handheld && (rows && base))))) ≡ true
    → (agree ≡ true) × (rows ≡ true)
fast_parts false slow sync handheld rows base is = absurd (cc)
fast_parts true true sync handheld rows base is = absurd (cc)
fast_parts true false false handheld rows base is = absurd (cc)
fast_parts true false true false rows base is = absurd (cc)
fast_parts true false true true false base is = absurd (cc)
fast_parts true false true true true base is = (refl, refl)

base-honest : (rows base : Option DatabaseValue) (records : List Record) → is_some rows ≡ true → IsHonest (records_of base) records
    → IsHonest (base_rows_by rows base) records
base-honest None base records there honest = absurd (cc)
base-honest (Some d) base records there honest = honest

pub shown-whole : (m : Meeting) (name : List ℕ) → ShowsChanges m.device.user m.device.databases (slot_of m) name → IsShownWhole m name
unfolding is_fast agrees
shown-whole m name shows fast =
    let t = task_of m name in
    let parts = fast_parts (agrees_with (agreed m.device.user (slot_of m).marks) (slot_of m).parted name) m.wishes.slow
    (is_sync (action_or_sync t.action)) (is_some t.handheld) (is_some t.rows) (is_some t.base) fast in
    base-honest t.rows t.base (records_of t.handheld) parts.1 (shows parts.0)

-- ---- behind a session that was under way

shows-under_way : (next : Meeting) (name : List ℕ) → IsUnderWay next → ShowsChanges next.device.user next.device.databases (slot_of next) name
unfolding agrees
shows-under_way next name is agree = absurd (let no : false ≡ true = sym (under_way is name) ∙ agree in cc)

-- ---- where nothing was written

pub shows-same : {user now : UserInfo} {databases after : List DatabaseValue} {slot then : SlotValue} (name : List ℕ) → now ≡ user → after ≡ databases
    → then ≡ slot → ShowsChanges user databases slot name → ShowsChanges now after then name
shows-same {user} {now} {databases} {after} {slot} {then} name same_user same_databases same_slot shows =
    subst (λ (s : SlotValue). ShowsChanges now after s name) (sym same_slot)
    (subst (λ (ds : List DatabaseValue). ShowsChanges now ds slot name) (sym same_databases)
    (subst (λ (u : UserInfo). ShowsChanges u databases slot name) (sym same_user) shows))

-- ---- behind a whole session

honest-end : (a : Action) (x : Finding) (given : List ℕ) → IsRead x → GotIds a x given → IsHonest (ended a x given).base (ended a x given).records
honest-end a x given read got =
    let differ = differ-ids x.records read.ids in
    subst (IsHonest (ended a x given).base) (whole-is (chosen a x) (shown x) given x.records differ read.bounded read.shows got)
    (honest-merged (chosen a x) (shown x) given x.records differ read.bounded read.shows got)

pub active-or : (m : Meeting) (name : List ℕ) → IsActive m name ⊎ (IsActive m name → ⊥)
active-or m name = by (list_any (λ other. bytes_eq other name) (names m)) (is_none (skip_of (task_of m name))) refl refl
  where
    by : (there kept : Bool) → list_any (λ other. bytes_eq other name) (names m) ≡ there → is_none (skip_of (task_of m name)) ≡ kept
        → IsActive m name ⊎ (IsActive m name → ⊥)
    by true true is keeps = inl (record { there = is; kept = keeps })
    by true false is keeps = inr (λ active. let no : false ≡ true = sym keeps ∙ active.kept in cc)
    by false kept is keeps = inr (λ active. let no : false ≡ true = sym is ∙ active.there in cc)

module _ (m next : Meeting) (given name : List ℕ) (sound : IsSoundMeeting m) (few : HasFewRows m) (left : LeftMerged m next given) where
  shows-active : IsActive m name → IsShownWhole m name
      → GotAllIds (action_at m name) (found_of m name) (ids_at m given name)
      → IsHonest (records_of (task_of next name).base) (records_of (task_of next name).handheld)
  shows-active is whole got =
      let own = handheld-sound sound (task_of m name) refl in
      let read = reading-shows m (task_of m name) own.ids own.bounded whole in
      let a = action_at m name in
      let x = found_of m name in
      let end = whole-found m next given name left is in
      subst (λ (base : List Record). IsHonest base (records_of (task_of next name).handheld)) (sym end.merged.base)
      (subst (IsHonest (ended a x (ids_at m given name)).base) (sym end.records) (honest-end a x (ids_at m given name) read got.got))

  same-base : (IsActive m name → ⊥) → (task_of next name).base ≡ (task_of m name).base
  same-base idle =
      ap (λ (s : SlotValue). database_of name s.shelves.bases) left.slot ∙ (left-whole m given name idle).base

  same-handheld : (IsActive m name → ⊥) → (task_of next name).handheld ≡ (task_of m name).handheld
  same-handheld idle = ap (λ (ds : List DatabaseValue). database_of name ds) left.databases ∙ (left-whole m given name idle).handheld

  shows-idle : (IsActive m name → ⊥) → ShowsChanges next.device.user next.device.databases (slot_of next) name
  shows-idle idle agree =
      by (list_any (λ other. bytes_eq other name) (names m)) (task_of m name).base (skip_of (task_of m name)) refl refl refl
    where
      unheld : (h : Option DatabaseValue) → (task_of m name).handheld ≡ h → list_any (λ other. bytes_eq other name) (names m) ≡ false
          → records_of h ≡ []
      unheld None is none = refl
      unheld (Some d) is none = absurd (let no : false ≡ true = sym none ∙ device-name m name (ap is_some is) in cc)

      by : (there : Bool) (base : Option DatabaseValue) (skip : Option Skip) → list_any (λ other. bytes_eq other name) (names m) ≡ there
          → (task_of m name).base ≡ base → skip_of (task_of m name) ≡ skip
          → IsHonest (records_of (task_of next name).base) (records_of (task_of next name).handheld)
      by false base skip is_there is_base is_skip =
          subst (IsHonest (records_of (task_of next name).base))
          (sym (ap records_of (same-handheld idle) ∙ unheld (task_of m name).handheld refl is_there)) (none-honest (records_of (task_of next name).base))
      by true None skip is_there is_base is_skip =
          based-honest (records_of (task_of next name).base) (records_of (task_of next name).handheld)
          (ap records_of (same-base idle ∙ is_base))
      by true (Some d) None is_there is_base is_skip = absurd (idle (record { there = is_there; kept = ap is_none is_skip }))
      by true (Some d) (Some why) is_there is_base is_skip =
          let none : TakesNoPart m name = record { there = is_there; skipped = ap is_some is_skip; based = ap is_some is_base } in
          let parted = ap (λ (s : SlotValue). is_parted name s.parted) left.slot ∙ parted-kept m given name sound few none in
          absurd (let no : false ≡ true =
          sym (apart-agrees (agreed next.device.user (slot_of next).marks) (slot_of next).parted name parted) ∙ agree in cc)

  shows-whole : IsShownWhole m name
      → (IsActive m name → GotAllIds (action_at m name) (found_of m name) (ids_at m given name))
      → ShowsChanges next.device.user next.device.databases (slot_of next) name
  shows-whole whole got = elim (active-or m name) [
    | inl is ↦ λ agree. shows-active is whole (got is)
    | inr idle ↦ shows-idle idle
  ]

-- ---- wherever it stopped

module _ (m next : Meeting) (writes : ℕ) (given name : List ℕ) (fits : FitsLimits m) (few : HasFewRows m) (runs : RunsAgain m next writes given)
    (shows : ShowsChanges m.device.user m.device.databases (slot_of m) name) where
  shows-among : StandsAmongNews m given next.device → slot_of next ≡ slot_of m
      → ShowsChanges next.device.user next.device.databases (slot_of next) name
  shows-among stands slot = elim stands.begun [
    | inl begun ↦
        shows-under_way next name (record {
          handheld = ap (λ (u : UserInfo). u.pc) begun;
          desktop = subst (λ (s : SlotValue). 0 < s.marks.pc) (sym slot) runs.number;
        })
    | inr (user, databases) ↦ shows-same name user databases slot shows
  ]

  shows-behind : StandsBehindCommit m given next.device → slot_of next ≡ merged_slot m given
      → ShowsChanges next.device.user next.device.databases (slot_of next) name
  shows-behind stands slot = elim stands.ended [
    | inl begun ↦
        shows-under_way next name (record {
          handheld = ap (λ (u : UserInfo). u.pc) begun;
          desktop = subst (λ n. 0 < n) (sym (ap (λ (s : SlotValue). s.marks.pc) slot ∙ slot_pc m given)) runs.number;
        })
    | inr (user, databases) ↦
        shows-whole m next given name fits.sound few (record { asks = runs.asks; databases = databases; slot = slot }) (shown-whole m name shows)
        (λ is. stands.free name is)
  ]

  pub shows-next : ShowsChanges next.device.user next.device.databases (slot_of next) name
  shows-next = elim runs.slot [
    | inl (slot, before) ↦ shows-among (front-among m writes given next.device fits.sound fits.fits runs.front before) slot
    | inr (slot, behind) ↦ shows-behind (front-behind m writes given next.device fits.sound fits.fits runs.front behind) slot
  ]
