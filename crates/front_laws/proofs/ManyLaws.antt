-- Any number of sessions that stopped, one behind another, and one that ends behind them.
use Rattle.std.proofs.lemmas.Grind.{common_steps}
use Rattle.std.proofs.Common.{◌≡◌, ◌⊎◌, inl, inr, ◌∙◌, ◌+◌, refl, ap, sym, subst, ℕ, zero, suc, Bool, true, false, List, [], ◌∷◌, ◌++◌, length, take, arith}
use Rattle.std.specs.Prelude.{None}
use Rattle.std.specs.List.{AllByRecursion}
use Rattle.pdb_values.specs.Contents.{ContentValue}
use Rattle.pdb_values.specs.declared.record.Record.{Record}
use Rattle.conduit_rules.specs.Choices.{Choice}
use Rattle.conduit_rules.specs.Plans.{replaced_rows}
use Rattle.conduit_rules.specs.States.{base_at}
use Rattle.conduit_rules.specs.declared.action.Action.{Action}
use Rattle.conduit_rules.specs.declared.action.Action.TheVariants.{Sync, Handheld, Desktop, Both}
use Rattle.conduit_rules.proofs.ActionLaws.{handheld-is}
use Rattle.record_merge.specs.Stops.{NoBase}
use Rattle.record_merge.specs.Writes.{replaces}
use Rattle.record_merge.proofs.HeldLaws.{held-merged}
use Rattle.record_merge.proofs.PutLaws.{differ-ids}
use Rattle.record_merge.proofs.SettledLaws.{based-merged}
use Rattle.session_plan.specs.Limits.{first_over}
use Rattle.session_plan.specs.Tasks.{Meeting, task_of}
use Rattle.front_laws.specs.Meetings.{AllFollow, Follows, IsActive, action_at, found_of, holding_after, ids_at, last_of, places_of}
use Rattle.front_laws.specs.Renaming.{AreUnknown, SameEnds}
use Rattle.front_laws.specs.Repeats.{AreStops, Finding, GotAllIds, GotIds, IsRead, MayStop, NoneUnderGone, Place, all_ids, among_news, at_end, before_mark}
use Rattle.front_laws.specs.Repeats.{EndAlike, Ending, behind_commit, chosen, ended, given_by, ids_given, ids_with, left, left_by, news_done, shown, sides}
use Rattle.front_laws.proofs.CommitLaws.{end-adds}
use Rattle.front_laws.proofs.DesktopLaws.{chosen-again}
use Rattle.front_laws.proofs.MeetingLaws.{all-follow, reading-shows}
use Rattle.front_laws.proofs.NewsLaws.{news-adds, whole-is}
use Rattle.front_laws.proofs.SoundLaws.{read-commit, read-news}
use Rattle.front_laws.proofs.BaselessLaws.{baseless-adds}
use Rattle.front_laws.proofs.RepeatLaws.{both_repeat, got-any}
use Rattle.front_laws.proofs.WholeLaws.{holds-end, meetings-hold}
use Rattle.front_laws.specs.Again.{AllRunAgain, AreFresh, EndsAtMerge, IsFreshBehind, Later, RunsAgain, ids_of_all, last_run}
use Rattle.front_laws.specs.Sound.{IsSoundMeeting}
use Rattle.front_laws.proofs.FrontLaws.{front-among, front-behind}
use Rattle.front_laws.proofs.ReadyLaws.{handheld-sound}
use Rattle.front_laws.proofs.StopLaws.{IsStep, adds-behind, none-later, step-among, step-behind}
use Rattle.front_laws.proofs.UnknownLaws.{IsNewIn, all-new, news-back, unknown-both, unknown-of}
use Rattle.sync_session.proofs.NewsJoins.{no_ids}
use Rattle.record_merge.proofs.BothLaws.{no_contents}

-- ---- what a stop leaves

-- what is left can be read
read-left : (a : Action) (y : Finding) (place : Place) → IsRead y → MayStop a y place → IsRead (left a y place)
read-left a y before_mark read may = read
read-left Sync y (among_news given n) read may = read-news Sync y given n read may.got
read-left Handheld y (among_news given n) read may = read-news Handheld y given n read (got-any y given)
read-left Desktop y (among_news given n) read may = read-news Desktop y given n read may
read-left Both y (among_news given n) read may = read-news Both y given n read may.got
read-left a y (behind_commit given n) read may = read-commit a y given n read may.got
read-left a y (at_end given view g) read may = may.1

-- where both sides are merged, no record has the id of a gone row
merged-gone : (a : Action) (y : Finding) (given : List ℕ) (g : Bool) → IsRead y → GotIds a y given
    → NoneUnderGone g (ended a y given).base (ended a y given).records
merged-gone a y given true read got = tt
merged-gone a y given false read got =
    grind (
      arith,
      differ-ids y.records read.ids,
      whole-is (chosen a y) (shown y) given y.records (differ-ids y.records read.ids) read.bounded read.shows got,
      held-merged (chosen a y) (shown y) given y.records (differ-ids y.records read.ids) read.bounded read.shows got,
      based-merged (chosen a y) (shown y) given true,
    )

gone-left : (a : Action) {y : Finding} (place : Place) → IsRead y → MayStop a y place → NoneUnderGone y.gone_counts y.base y.records
    → NoneUnderGone (left a y place).gone_counts (left a y place).base (left a y place).records
gone-left a before_mark read may gone = gone
gone-left a (among_news given n) read may gone = tt
gone-left a (behind_commit given n) read may gone = tt
gone-left a {y} (at_end given view g) read may gone = merged-gone a y given g read may.0.got

no_items : (xs : List ContentValue) (n : ℕ) → n + length xs ≡ 0 → xs ≡ []
no_items xs n few = grind (arith, common_steps)

-- what adds nothing adds nothing later
adds-left : (a : Action) (y : Finding) (place : Place) → IsRead y → MayStop a y place → (chosen a y).adds ≡ [] → (chosen a (left a y place)).adds ≡ []
adds-left a y before_mark read may none = none
adds-left Sync y (among_news given n) read may none =
    no_items (chosen Sync (left Sync y (among_news given n))).adds (length given)
    (news-adds y given n may (read-news Sync y given n read may.got) ∙ ap length none)
adds-left Handheld y (among_news given n) read may none = ap (λ (c : Choice). c.adds) (handheld-is (sides (left Handheld y (among_news given n))))
adds-left Desktop y (among_news given n) read may none = ap (λ (c : Choice). c.adds) (chosen-again y given n) ∙ none
adds-left Both y (among_news given n) read may none =
    no_items (chosen Both (left Both y (among_news given n))).adds (length given)
    (baseless-adds y n may (read-news Both y given n read may.got) ∙ ap length none)
adds-left a y (behind_commit given n) read may none = adds-behind a y given n read may.got
adds-left a y (at_end given view g) read may none = end-adds a y given view g read may.0.got may.1

-- ---- behind some sessions that stopped

-- none came to its commit: the base is the first one, and what no record has none had
record IsKept (x y : Finding) : Type 0 where
  base : y.base ≡ x.base
  back : (ids : List ℕ) → AllByRecursion (IsNewIn y.records) ids → AllByRecursion (IsNewIn x.records) ids

-- so it is, or nothing is added any more
abbrev Since : Action → Finding → Finding → Type 0
Since a x y = IsKept x y ⊎ ((chosen a y).adds ≡ [])

since-left : (a : Action) (x y : Finding) (place : Place) → IsRead y → MayStop a y place → Since a x y → Since a x (left a y place)
since-left a x y place read may (inr none) = inr (adds-left a y place read may none)
since-left a x y before_mark read may (inl kept) = inl kept
since-left a x y (among_news given n) read may (inl kept) = grind (arith, news-back a y given n)
since-left a x y (behind_commit given n) read may (inl kept) = inr (adds-behind a y given n read may.got)
since-left a x y (at_end given view g) read may (inl kept) = inr (end-adds a y given view g read may.0.got may.1)

-- a database as a session finds it behind them
record IsReady (a : Action) (x y : Finding) : Type 0 where
  read : IsRead y
  gone : NoneUnderGone y.gone_counts y.base y.records
  since : Since a x y

ready-left : {a : Action} (x : Finding) {y : Finding} (place : Place) → MayStop a y place → IsReady a x y → IsReady a x (left a y place)
ready-left {a} x {y} place may ready =
    grind (arith, read-left a y place ready.read may, gone-left a place ready.read may ready.gone, since-left a x y place ready.read may ready.since)

-- ---- one more

no_given : (n : ℕ) (rows : List (ℕ × ContentValue)) → given_by (take n (replaces rows ++ [])) ≡ []
no_given zero rows = refl
no_given (suc n) [] = refl
no_given (suc n) (r ∷ rows) = no_given n rows

-- where nothing is added no id is given
ids-none : (a : Action) (y : Finding) (ids : List ℕ) (n : ℕ) → (chosen a y).adds ≡ [] → given_by (news_done a y ids n) ≡ ids → ids ≡ []
ids-none a y ids n none all = grind (arith, no_contents ids, no_given n (replaced_rows (chosen a y).keep (shown y)))

-- where one more stopped, as the next one finds it
record IsTaken (x : Finding) (meeting next : Meeting) (name ids : List ℕ) : Type 0 where
  place : Place
  follows : Follows meeting next name place
  may : MayStop (action_at meeting name) (found_of meeting name) place
  gives : ids_given place ≡ ids
  active : IsActive next name
  ready : IsReady (action_at meeting name) x (found_of next name)
  stay : (later : List ℕ) → AreUnknown x later → AreUnknown x (ids_with (action_at meeting name) place later)

taken : (x : Finding) {meeting next : Meeting} {name ids : List ℕ} → IsReady (action_at meeting name) x (found_of meeting name)
    → NoBase (base_at x.base true) ids → ((chosen (action_at meeting name) (found_of meeting name)).adds ≡ [] → ids ≡ []) → IsStep meeting next name ids
    → IsTaken x meeting next name ids
taken x {meeting} {name} {ids} ready fresh none_ids step =
    let own : AllByRecursion (IsNewIn x.records) ids = elim ready.since [
      | inl kept ↦ kept.back ids step.own
      | inr none ↦ subst (AllByRecursion (IsNewIn x.records)) (sym (none_ids none)) tt
    ] in
    record {
      place = step.place;
      follows = step.follows;
      may = step.may;
      gives = step.gives;
      active = step.active;
      ready = subst (IsReady (action_at meeting name) x) (sym step.follows.finds) (ready-left x step.place step.may ready);
      stay = λ later un. step.stay x later (unknown-both x ids later (unknown-of x ids own fresh) un);
    }

take-step : (x : Finding) {meeting next : Meeting} {writes : ℕ} {given : List ℕ} (name : List ℕ) → IsSoundMeeting meeting → first_over meeting ≡ None
    → RunsAgain meeting next writes given → IsActive meeting name → IsReady (action_at meeting name) x (found_of meeting name)
    → NoBase (base_at x.base true) (ids_at meeting given name) → IsTaken x meeting next name (ids_at meeting given name)
take-step x {meeting} {next} {writes} {given} name sound none runs is ready fresh =
    let a = action_at meeting name in
    let y = found_of meeting name in
    let ids = ids_at meeting given name in
    let own_fresh : ((chosen a y).adds ≡ [] → ids ≡ []) → NoBase (base_at y.base true) ids = λ none_ids. elim ready.since [
      | inl kept ↦ subst (λ (base : List Record). NoBase (base_at base true) ids) (sym kept.base) fresh
      | inr none ↦ subst (NoBase (base_at y.base true)) (sym (none_ids none)) tt
    ] in
    elim runs.slot [
      | inl (slot, few) ↦
          let stands = front-among meeting writes given next.device sound none runs.front few in
          let none_ids : (chosen a y).adds ≡ [] → ids ≡ [] = λ no_adds. ids-none a y ids (stands.count name) no_adds (stands.all name) in
          taken x ready fresh none_ids (step-among stands is runs.asks slot runs.number ready.read (own_fresh none_ids) ready.gone)
      | inr (slot, most) ↦
          let stands = front-behind meeting writes given next.device sound none runs.front most in
          let none_ids : (chosen a y).adds ≡ [] → ids ≡ [] = λ no_adds. no_ids ids ((stands.free name is).each ∙ ap length no_adds) in
          taken x ready fresh none_ids (step-behind stands is runs.asks slot runs.number ready.read)
    ]

-- ---- all of them

record IsChain (x : Finding) (a : Action) (meeting : Meeting) (es : List Later) (later name : List ℕ) : Type 0 where
  steps : List (Meeting × Place)
  last : last_of meeting steps ≡ last_run meeting es
  follows : AllFollow meeting name steps
  stops : AreStops a (found_of meeting name) (places_of steps)
  active : IsActive (last_run meeting es) name
  ready : IsReady a x (found_of (last_run meeting es) name)
  fresh : NoBase (base_at x.base true) (ids_at (last_run meeting es) later name)
  stay : (ids : List ℕ) → AreUnknown x ids → AreUnknown x (all_ids a (places_of steps) ids)
  given : (a ≡ Desktop → ⊥) → all_ids a (places_of steps) (ids_at (last_run meeting es) later name) ≡ ids_of_all meeting es later name

-- where it doesn't go by the desktop all ids stand in the end
ids-other : (a : Action) (place : Place) (later : List ℕ) → (a ≡ Desktop → ⊥) → ids_with a place later ≡ ids_given place ++ later
ids-other Sync place later other = refl
ids-other Handheld place later other = refl
ids-other Desktop place later other = absurd (other refl)
ids-other Both place later other = refl

chain : (x : Finding) (a : Action) {meeting : Meeting} (es : List Later) (later : List ℕ) {name : List ℕ} → action_at meeting name ≡ a
    → AllRunAgain meeting es → IsActive meeting name → IsReady a x (found_of meeting name) → AreFresh (base_at x.base true) meeting es later name
    → IsChain x a meeting es later name
chain x a [] later same runs is ready fresh = record {
  steps = [];
  last = refl;
  follows = tt;
  stops = tt;
  active = is;
  ready = ready;
  fresh = fresh;
  stay = λ ids un. un;
  given = λ other. refl;
}
chain x a {meeting} (e ∷ es) later {name} same runs is ready fresh =
    let t = take-step x name runs.0 runs.1 runs.2 is (subst (λ b. IsReady b x (found_of meeting name)) (sym same) ready) fresh.0 in
    let rest =
    chain x a es later (t.follows.action ∙ same) runs.3 t.active (subst (λ b. IsReady b x (found_of e.next name)) same t.ready) fresh.1 in
    record {
      steps = (e.next, t.place) ∷ rest.steps;
      last = rest.last;
      follows = (t.follows, rest.follows);
      stops = (
        subst (λ b. MayStop b (found_of meeting name) t.place) same t.may,
        subst (λ (y : Finding). AreStops a y (places_of rest.steps)) (t.follows.finds ∙ ap (λ b. left b (found_of meeting name) t.place) same) rest.stops,
      );
      active = rest.active;
      ready = rest.ready;
      fresh = rest.fresh;
      stay = λ ids un. subst (λ b. AreUnknown x (ids_with b t.place (all_ids a (places_of rest.steps) ids))) same
          (t.stay (all_ids a (places_of rest.steps) ids) (rest.stay ids un));
      given = λ other. ids-other a t.place (all_ids a (places_of rest.steps) (ids_at (last_run e.next es) later name)) other
          ∙ ap {A = List ℕ × List ℕ} (λ p. p.0 ++ p.1) (λ k. (t.gives k, rest.given other k));
    }

-- what is known of the database behind all of them
record IsTakenUp (meeting : Meeting) (es : List Later) (later name : List ℕ) : Type 0 where
  read : IsRead (found_of meeting name)
  chained : IsChain (found_of meeting name) (action_at meeting name) meeting es later name
  unknown : AreUnknown (found_of meeting name)
      (all_ids (action_at meeting name) (places_of chained.steps) (ids_at (last_run meeting es) later name))

taken-up : (meeting : Meeting) (es : List Later) (later name : List ℕ) → IsSoundMeeting meeting → AllRunAgain meeting es → IsActive meeting name
    → IsFreshBehind meeting es later name
    → GotAllIds (action_at meeting name) (found_of (last_run meeting es) name) (ids_at (last_run meeting es) later name)
    → IsTakenUp meeting es later name
taken-up meeting es later name sound runs is fresh got =
    let a = action_at meeting name in
    let x = found_of meeting name in
    let own = handheld-sound sound (task_of meeting name) refl in
    let read = reading-shows meeting (task_of meeting name) own.ids own.bounded fresh.honest in
    let c = chain x a es later refl runs is
    (record { read = read; gone = fresh.gone; since = inl (record { base = refl; back = λ ids new_ids. new_ids }) }) fresh.fresh in
    let ids = ids_at (last_run meeting es) later name in
    let new_ids : AllByRecursion (IsNewIn x.records) ids = elim c.ready.since [
      | inl kept ↦ kept.back ids (all-new got)
      | inr none ↦ none-later x.records none got
    ] in
    record { read = read; chained = c; unknown = c.stay ids (unknown-of x ids new_ids c.fresh) }

pub all-run_again : (meeting : Meeting) (es : List Later) (later new : List ℕ) (name : List ℕ) → IsSoundMeeting meeting → AllRunAgain meeting es
    → IsActive meeting name → IsFreshBehind meeting es later name
    → GotAllIds (action_at meeting name) (found_of (last_run meeting es) name) (ids_at (last_run meeting es) later name)
    → GotAllIds (action_at meeting name) (found_of meeting name) (ids_at meeting new name)
    → AreUnknown (found_of meeting name) (ids_at meeting new name)
    → IsActive (last_run meeting es) name × SameEnds (found_of meeting name) (holding_after (last_run meeting es) later name) (holding_after meeting new name)
all-run_again meeting es later new name sound runs is fresh got new_got new_un =
    let a = action_at meeting name in
    let x = found_of meeting name in
    let up = taken-up meeting es later name sound runs is fresh got in
    let c = up.chained in
    let ids = ids_at (last_run meeting es) later name in (
      c.active,
      subst (λ (last : Meeting). SameEnds x (holding_after last later name) (holding_after meeting new name)) c.last
          (meetings-hold meeting name c.steps later new is (subst (λ (last : Meeting). IsActive last name) (sym c.last) c.active) c.follows up.read c.stops
          (subst (λ (last : Meeting). GotAllIds a (found_of last name) (ids_at last later name)) (sym c.last) got)
          (subst (λ (last : Meeting). AreUnknown x (all_ids a (places_of c.steps) (ids_at last later name))) (sym c.last) up.unknown) new_got new_un),
    )

-- and under which ids it ends
pub all-merged : (meeting : Meeting) (es : List Later) (later name : List ℕ) → IsSoundMeeting meeting → AllRunAgain meeting es → IsActive meeting name
    → IsFreshBehind meeting es later name
    → GotAllIds (action_at meeting name) (found_of (last_run meeting es) name) (ids_at (last_run meeting es) later name)
    → EndsAtMerge meeting es later name
all-merged meeting es later name sound runs is fresh got =
    let a = action_at meeting name in
    let x = found_of meeting name in
    let up = taken-up meeting es later name sound runs is fresh got in
    let c = up.chained in
    let places = places_of c.steps in
    let last = last_run meeting es in
    let ids = ids_at last later name in
    let follow = all-follow meeting name c.steps c.follows in
    let action : action_at last name ≡ a = ap (λ (m : Meeting). action_at m name) (sym c.last) ∙ follow.0 in
    let finds : found_of last name ≡ left_by a x places = ap (λ (m : Meeting). found_of m name) (sym c.last) ∙ follow.1 in
    let both = both_repeat a places ids up.read c.stops (subst (λ (y : Finding). GotIds a y ids) finds got.got) in
    let holds : holding_after last later name ≡ ended a (left_by a x places) ids =
    holds-end last later name c.active ∙ (λ k. ended (action k) (finds k) ids) in
    record {
      ids = all_ids a places ids;
      all = c.given;
      got = both.0;
      unknown = up.unknown;
      ends = subst (λ (e : Ending). EndAlike e (ended a x (all_ids a places ids))) (sym holds) both.1;
    }
