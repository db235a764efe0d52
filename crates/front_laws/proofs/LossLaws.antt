-- A session that is run again behind one that stopped costs the desktop no live row, where the first one would have cost none.
use Rattle.std.proofs.Common.{◌≡◌, ◌∙◌, ◌⊎◌, ◌&&◌, ◌||◌, ◌++◌, refl, ap, sym, subst, inl, inr, ℕ, Bool, true, false, List, [], ◌∷◌, Option, Some, None, is_none, is_some}
use Rattle.std.proofs.Common.{if◌then◌else◌, not, arith}
use Rattle.std.specs.Prelude.{find, nat_lt}
use Rattle.std.specs.List.{AllByRecursion, list_any}
use Rattle.std.specs.Option.{option_map}
use Rattle.std.specs.Str.{bytes_eq}
use Rattle.pdb_values.specs.NamedDatabases.{database_of}
use Rattle.conduit_rules.specs.Choices.{Choice}
use Rattle.conduit_rules.specs.ById.{id_bound}
use Rattle.conduit_rules.specs.Plans.{kept_rows}
use Rattle.conduit_rules.specs.States.{first}
use Rattle.conduit_rules.specs.declared.action.Action.{Action}
use Rattle.conduit_rules.specs.declared.action.Action.TheVariants.{Sync, Handheld, Desktop, Both}
use Rattle.run_words.specs.Actions.{action_for}
use Rattle.session_plan.specs.Archives.{entries_of}
use Rattle.session_plan.specs.Choosing.{action_or_sync, agrees, is_sync, view}
use Rattle.session_plan.specs.Limits.{first_over}
use Rattle.folder_files.specs.Partings.{parting_of}
use Rattle.session_plan.specs.Losses.{first_loss, is_loss, is_lost, is_strange, is_stranger, is_stranger_to, is_there, may_lose}
use Rattle.session_plan.specs.Partings.{is_unmet}
use Rattle.session_plan.proofs.LossLaws.{stranger_stopped, there-view}
use Rattle.session_plan.specs.Merges.{merged_slot}
use Rattle.session_plan.specs.Skips.{active, head_of, reason_by, skip_of}
use Rattle.session_plan.specs.Tasks.{Meeting, Task, action_of_word, names, records_of, slot_of, task_of}
use Rattle.front_laws.specs.Losses.{costs_rows, has_lost, loses_rows}
use Rattle.front_laws.specs.Meetings.{AsksTheSame, IsActive, LeftMerged, action_at, found_of, ids_at}
use Rattle.front_laws.specs.Repeats.{Finding, GotIds, IsRead, MayStop, Place, among_news, at_end, before_mark, behind_commit, chosen, left}
use Rattle.front_laws.specs.Repeats.{left_at_end, left_behind_commit}
use Rattle.front_laws.proofs.RepeatLossLaws.{commit-loses, end-loses, news-has_lost, news-loses}
use Rattle.front_laws.proofs.MeetingLaws.{at-the_end, behind-the_commit, reading-shows}
use Rattle.front_laws.proofs.MergedLaws.{AreTasks, IsTask}
use Rattle.front_laws.proofs.TaskLaws.{are-active, device-name, is-active, on_a_side, rows-name}
use Rattle.front_laws.proofs.WholeLaws.{chosen-is, untouched-at, whole-found}
use Rattle.front_laws.specs.Again.{IsFresh, RunsAgain}
use Rattle.front_laws.specs.Sound.{IsSoundMeeting}
use Rattle.front_laws.specs.Stops.{StandsAmongNews, StandsBehindCommit}
use Rattle.front_laws.proofs.FrontLaws.{front-among, front-behind}
use Rattle.front_laws.proofs.NameLaws.{active_names, not-active}
use Rattle.front_laws.proofs.ReadyLaws.{handheld-sound}
use Rattle.front_laws.proofs.StopLaws.{honest-then, left-behind, step-among}
use Rattle.front_laws.proofs.UnknownLaws.{none-front}

-- ---- what is lost of one database

-- by which sides a session goes that would cost rows
abbrev is_cost : Action → Bool → Finding → Bool
is_cost a stranger x =
    is_sync a
    && ((stranger || has_lost x)
    && list_any (is_lost (kept_rows (chosen a x).keep) (chosen a x).adds (x.archive ++ (chosen a x).archive)) x.rows)

lost-found : (m : Meeting) (name : List ℕ) → is_loss m (task_of m name) ≡ is_cost (action_at m name) (is_strange m name) (found_of m name)
lost-found m name =
    let task = task_of m name in
    ap (λ (ch : Choice). is_sync (action_at m name) && (may_lose m task
    && list_any (is_lost (kept_rows ch.keep) ch.adds (entries_of (records_of task.archive) ++ ch.archive)) (records_of task.rows)))
    (chosen-is m task)

none-lost : (m : Meeting) (name : List ℕ) → (action_at m name ≡ Sync → costs_rows (is_strange m name) (found_of m name) ≡ false)
    → is_loss m (task_of m name) ≡ false
none-lost m name keeps = lost-found m name ∙ by (action_at m name) keeps
  where
    by : (a : Action) → (a ≡ Sync → costs_rows (is_strange m name) (found_of m name) ≡ false) → is_cost a (is_strange m name) (found_of m name) ≡ false
    by Sync keeps = keeps refl
    by Handheld keeps = refl
    by Desktop keeps = refl
    by Both keeps = refl

pub lost-sync : (m : Meeting) (name : List ℕ) → is_loss m (task_of m name) ≡ false → action_at m name ≡ Sync
    → costs_rows (is_strange m name) (found_of m name) ≡ false
lost-sync m name is sync = sym (ap (λ a. is_cost a (is_strange m name) (found_of m name)) sync) ∙ sym (lost-found m name) ∙ is

-- ---- the first of them

none-in : (m : Meeting) (ts : List Task) → AreTasks m ts → AllByRecursion (λ (t : Task). IsActive m t.name) ts
    → ((name : List ℕ) → IsActive m name → is_loss m (task_of m name) ≡ false) → find (is_loss m) ts ≡ None
none-in m [] are all keeps = refl
none-in m (t ∷ ts) are all keeps = rw (ap (is_loss m) are.0 ∙ keeps t.name all.0) (none-in m ts are.2 all.1 keeps)

none-first : (m : Meeting) → ((name : List ℕ) → IsActive m name → is_loss m (task_of m name) ≡ false) → first_loss m ≡ None
unfolding first_loss
none-first m keeps = ap (option_map (λ (task : Task). task.name)) (none-in m (active m) (are-active m) (active_names m) keeps)

none-found : (m : Meeting) (ts : List Task) (t : Task) → IsTask t ts → find (is_loss m) ts ≡ None → is_loss m t ≡ false
none-found m [] t there none = absurd there
none-found m (u ∷ ts) t there none = by (is_loss m u) refl none there (none-found m ts t)
  where
    by : (b : Bool) → is_loss m u ≡ b → (if b then Some u else find (is_loss m) ts) ≡ None → (u ≡ t) ⊎ IsTask t ts
        → (IsTask t ts → find (is_loss m) ts ≡ None → is_loss m t ≡ false) → is_loss m t ≡ false
    by true is none there later = absurd cc
    by false is none (inl same) later = sym (ap (is_loss m) same) ∙ is
    by false is none (inr there) later = later there none

pub none-of : (m : Meeting) (name : List ℕ) → first_loss m ≡ None → IsActive m name → is_loss m (task_of m name) ≡ false
unfolding first_loss
none-of m name none is =
    none-found m (active m) (task_of m name) (is-active m name is.there is.kept)
    (by (find (is_loss m) (active m)) none)
  where
    by : (o : Option Task) → option_map (λ (task : Task). task.name) o ≡ None → o ≡ None
    by None none = refl
    by (Some t) none = absurd cc

-- ---- a database that the session behind doesn't skip was not skipped

decide : (m : Meeting) (name : List ℕ) → IsActive m name ⊎ (IsActive m name → ⊥)
decide m name = by (list_any (λ other. bytes_eq other name) (names m)) (is_none (skip_of (task_of m name))) refl refl
  where
    by : (a b : Bool) → list_any (λ other. bytes_eq other name) (names m) ≡ a → is_none (skip_of (task_of m name)) ≡ b
        → IsActive m name ⊎ (IsActive m name → ⊥)
    by true true there kept = inl (record { there = there; kept = kept })
    by false b there kept = inr (λ is. let no : true ≡ false = sym is.there ∙ there in cc)
    by true false there kept = inr (λ is. let no : true ≡ false = sym is.kept ∙ kept in cc)

-- both sides have of a database what they had
record IsSame (m next : Meeting) (name : List ℕ) : Type 0 where
  handheld : (task_of next name).handheld ≡ (task_of m name).handheld
  rows : (task_of next name).rows ≡ (task_of m name).rows
  base : (task_of next name).base ≡ (task_of m name).base

one_of : (a b : Bool) → (a || b) ≡ true → (a ≡ true) ⊎ (b ≡ true)
one_of true b is = inl refl
one_of false b is = inr is

active-same : (m next : Meeting) (name : List ℕ) → IsSame m next name → AsksTheSame m next → IsActive next name → IsActive m name
unfolding skip_of
active-same m next name same asks is = record {
  there = elim (one_of (is_some (task_of m name).handheld) (is_some (task_of m name).rows)
      (sym (λ k. is_some (same.handheld k) || is_some (same.rows k)) ∙ on_a_side next name is.there)) [
        | inl there ↦ device-name m name there
        | inr there ↦ rows-name m name there
      ];
  kept = sym (λ k. is_none (reason_by (action_of_word (action_for name (asks.actions k))) (head_of (same.handheld k)) (head_of (same.rows k))
      (is_some (same.base k)))) ∙ is.kept;
}

active-back : (m next : Meeting) (name : List ℕ) → ((IsActive m name → ⊥) → IsSame m next name) → AsksTheSame m next → IsActive next name
    → IsActive m name
active-back m next name others asks is = elim (decide m name) [
  | inl here ↦ here
  | inr none ↦ active-same m next name (others none) asks is
]

-- ---- among the news

stranger-back : (m next : Meeting) (given : List ℕ) → StandsAmongNews m given next.device → slot_of next ≡ slot_of m
    → is_stranger next ≡ true → is_stranger m ≡ true
stranger-back m next given stands slot is = elim stands.begun [
  | inl begun ↦ stranger_stopped m.device.user (slot_of m).marks (sym (λ k. is_stranger_to (begun k) (slot k).marks) ∙ is)
  | inr (user, databases) ↦ sym (λ k. is_stranger_to (user k) (slot k).marks) ∙ is
]

or_back : (a b c d : Bool) → (a ≡ true → c ≡ true) → b ≡ d → (a || b) ≡ true → (c || d) ≡ true
or_back a b c d back same is = grind arith

strange-back : (m next : Meeting) (given : List ℕ) (name : List ℕ) → StandsAmongNews m given next.device → slot_of next ≡ slot_of m
    → is_strange next name ≡ true → is_strange m name ≡ true
strange-back m next given name stands slot is =
    or_back (is_stranger next) (is_unmet (parting_of name (slot_of next).parted)) (is_stranger m) (is_unmet (parting_of name (slot_of m).parted))
    (stranger-back m next given stands slot) (λ k. is_unmet (parting_of name (slot k).parted)) is

-- a stranger or a lost database was one, and what stayed stays
cost_by : (s t h g l k : Bool) → (t ≡ true → s ≡ true) → (g ≡ true → h ≡ true) → (l ≡ false → k ≡ false) → ((s || h) && l) ≡ false
    → ((t || g) && k) ≡ false
cost_by s t h g l k strange lost stay none = grind arith

none_cost : (b l : Bool) → l ≡ false → (b && l) ≡ false
none_cost b l none = grind arith

-- the view of a session shows the records that are there
abbrev Sees : Finding → Type 0
Sees x = (i : ℕ) → is_there x.view i ≡ (nat_lt i id_bound && is_some (first i x.records))

place-costs : (x : Finding) (place : Place) (s t : Bool) → IsRead x → Sees x → MayStop Sync x place → (t ≡ true → s ≡ true)
    → costs_rows s x ≡ false → costs_rows t (left Sync x place) ≡ false
place-costs x before_mark s t read sees may strange keeps =
    cost_by s t (has_lost x) (has_lost x) (loses_rows x) (loses_rows x) strange (λ is. is) (λ is. is) keeps
place-costs x (among_news given n) s t read sees may strange keeps =
    let y = left Sync x (among_news given n) in
    cost_by s t (has_lost x) (has_lost y) (loses_rows x) (loses_rows y) strange (news-has_lost x given n may sees) (news-loses x given n may) keeps
place-costs x (behind_commit given n) s t read sees may strange keeps =
    let y = left Sync x (behind_commit given n) in
    none_cost (t || has_lost y) (loses_rows y) (commit-loses x given n read may.got)
place-costs x (at_end given view g) s t read sees may strange keeps =
    let y = left Sync x (at_end given view g) in
    none_cost (t || has_lost y) (loses_rows y) (end-loses x given view g read may.0.got may.1)

-- ---- the session that is run again

module _ (meeting next : Meeting) (writes : ℕ) (given later : List ℕ) (sound : IsSoundMeeting meeting) (none : first_over meeting ≡ None)
    (runs : RunsAgain meeting next writes given) (fresh : (name : List ℕ) → IsActive meeting name → IsFresh meeting next given later name) where
  read-of : (name : List ℕ) → IsActive meeting name → IsRead (found_of meeting name)
  read-of name is =
      let own = handheld-sound sound (task_of meeting name) refl in
      reading-shows meeting (task_of meeting name) own.ids own.bounded (fresh name is).honest

  among-none : slot_of next ≡ slot_of meeting → StandsAmongNews meeting given next.device → first_loss meeting ≡ None → first_loss next ≡ None
  among-none slot stands costs = none-first next each
    where
      each : (name : List ℕ) → IsActive next name → is_loss next (task_of next name) ≡ false
      each name is_next =
          let is = active-back meeting next name
          (λ none. record {
            handheld = stands.others name none;
            rows = λ k. database_of name (slot k).shelves.rows;
            base = λ k. database_of name (slot k).shelves.bases;
          }) runs.asks is_next in
          let x = found_of meeting name in
          let read = read-of name is in
          let step = step-among stands is runs.asks slot runs.number read
          (none-front _ (ids_at meeting given name) (ids_at next later name) (fresh name is).fresh) (fresh name is).gone in
          none-lost next name (λ sync.
          let first : action_at meeting name ≡ Sync = sym step.follows.action ∙ sync in
          ap (costs_rows (is_strange next name)) step.follows.finds ∙ ap (λ a. costs_rows (is_strange next name) (left a x step.place)) first
          ∙ place-costs x step.place (is_strange meeting name) (is_strange next name) read (there-view meeting (task_of meeting name))
          (subst (λ a. MayStop a x step.place) first step.may) (strange-back meeting next given name stands slot)
          (lost-sync meeting name (none-of meeting name costs is) first))

  behind-loses : slot_of next ≡ merged_slot meeting given → (stands : StandsBehindCommit meeting given next.device) (name : List ℕ)
      → IsActive meeting name → action_at meeting name ≡ Sync → loses_rows (found_of next name) ≡ false
  behind-loses slot stands name is sync =
      let x = found_of meeting name in
      let ids = ids_at meeting given name in
      let read = read-of name is in
      let free = stands.free name is in
      let got : GotIds Sync x ids = subst (λ a. GotIds a x ids) sync free.got in
      elim stands.ended [
        | inl begun ↦
            let follows = behind-the_commit meeting next (ids_at meeting given) stands.count name
            (left-behind next stands name is runs.asks begun slot runs.number) in
            ap loses_rows follows.finds ∙ ap (λ a. loses_rows (left_behind_commit a x ids (stands.count name))) sync
            ∙ commit-loses x ids (stands.count name) read got
        | inr (user, databases) ↦
            let merged : LeftMerged meeting next given = record { asks = runs.asks; databases = databases; slot = slot } in
            let found = whole-found meeting next given name merged is in
            let seen = view next (task_of next name) in
            let counts = not (agrees next name) in
            let follows = at-the_end meeting next (ids_at meeting given) name found in
            let then_read = subst IsRead follows.finds (honest-then next given name read free.got found) in
            ap loses_rows follows.finds ∙ ap (λ a. loses_rows (left_at_end a x ids seen counts)) sync
            ∙ end-loses x ids seen counts read got (subst (λ a. IsRead (left_at_end a x ids seen counts)) sync then_read)
      ]

  behind-none : slot_of next ≡ merged_slot meeting given → StandsBehindCommit meeting given next.device → first_loss next ≡ None
  behind-none slot stands = none-first next (λ name is_next.
      let is = active-back meeting next name
      (λ none.
      let same = untouched-at meeting next given name slot (not-active meeting name none) in
      record { handheld = stands.others name none; rows = same.rows; base = same.base }) runs.asks is_next in
      let action : action_at next name ≡ action_at meeting name = λ k. action_or_sync (action_of_word (action_for name (runs.asks.actions k))) in
      none-lost next name (λ sync.
      none_cost (is_strange next name || has_lost (found_of next name)) (loses_rows (found_of next name)) (behind-loses slot stands name is (sym action ∙ sync))))

pub runs-costless : (meeting next : Meeting) (writes : ℕ) (given later : List ℕ) → IsSoundMeeting meeting → first_over meeting ≡ None
    → first_loss meeting ≡ None → RunsAgain meeting next writes given
    → ((name : List ℕ) → IsActive meeting name → IsFresh meeting next given later name) → first_loss next ≡ None
runs-costless meeting next writes given later sound none costs runs fresh = elim runs.slot [
  | inl (slot, few) ↦
      among-none meeting next writes given later sound none runs fresh slot
      (front-among meeting writes given next.device sound none runs.front few) costs
  | inr (slot, most) ↦
      behind-none meeting next writes given later sound none runs fresh slot
      (front-behind meeting writes given next.device sound none runs.front most)
]
