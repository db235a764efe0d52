-- A meeting without a limit passed has at most as many databases as a handheld can have.
use Rattle.std.proofs.lemmas.Grind.{common_steps}
use Rattle.std.proofs.lemmas.Bool.Decides.{nat_tests}
use Rattle.std.proofs.lemmas.Bool.{or_parts}
use Rattle.std.proofs.Common.{◌≡◌, ◌∙◌, ◌≤◌, ◌+◌, ◌-◌, ap, refl, sym, subst, inl, inr, ◌⊎◌, ℕ, suc, Bool, true, false, List, [], ◌∷◌, arith, filter}
use Rattle.std.proofs.Common.{length, map}
use Rattle.std.specs.Prelude.{◌==◌, Option, Some, None, if◌then◌else◌, is_none, is_some, nat_lt}
use Rattle.std.specs.List.{list_any}
use Rattle.std.specs.Option.{option_or}
use Rattle.std.specs.Str.{bytes_eq}
use Rattle.pdb_values.specs.NamedDatabases.{database_of}
use Rattle.pdb_values.proofs.NamedLaws.{bytes_eq-is}
use Rattle.desk_store.specs.Desks.{all_rows}
use Rattle.desktop_session.specs.Tellings.{IsTellable}
use Rattle.sync_session.proofs.MeetingWords.{DatabaseValue, Job, Meeting, Planned, Skip, Task, names, slot_of, task_of, tasks, active, skip_of}
use Rattle.sync_session.proofs.MeetingWords.{AreEachPlannedFor, ArePlannedFor}
use Rattle.session_plan.specs.Limits.{first_behind, first_over, sizes_of, with_one}
use Rattle.session_plan.specs.PlannedLimits.{limit_planned, over_planned, past_most, past_room, unskipped}
use Rattle.session_plan.specs.Sizes.{is_over}
use Rattle.sync_session.proofs.OnceLaws.{Once, bytes_eq-swap, names-once}
use Rattle.sync_session.proofs.PlannedLaws.{over_is_first_over}
use Rattle.sync_session.proofs.ReadJoins.{job-skip}
use Rattle.conduit_rules.proofs.CountedLaws.{one_if}

-- ---- how many of a list pass a test

abbrev tally : {A : Type 0} → (A → Bool) → List A → ℕ
tally test [] = 0
tally test (x ∷ xs) = one_if (test x) + tally test xs

tally-none : (name : List ℕ) (names : List (List ℕ)) → list_any (λ other. bytes_eq other name) names ≡ false
    → tally (λ other. bytes_eq name other) names ≡ 0
tally-none name [] none = refl
tally-none name (n ∷ names) none =
    let both = or_parts (bytes_eq n name) (list_any (λ other. bytes_eq other name) names) none in
    let rest = tally-none name names both.1 in
    rw (bytes_eq-swap n name both.0) (omega (arith, rest))

-- a name stands once
tally-once : (name : List ℕ) (names : List (List ℕ)) → Once names → tally (λ other. bytes_eq name other) names ≤ 1
tally-once name [] once = omega arith
tally-once name (n ∷ names) once = by (bytes_eq name n) refl (tally-once name names once.1)
  where
    by : (same : Bool) → bytes_eq name n ≡ same → tally (λ other. bytes_eq name other) names ≤ 1
        → one_if (bytes_eq name n) + tally (λ other. bytes_eq name other) names ≤ 1
    by true is rest =
        let none : tally (λ other. bytes_eq name other) names ≡ 0 =
        subst (λ m. tally (λ other. bytes_eq m other) names ≡ 0) (sym (bytes_eq-is name n is)) (tally-none n names once.0) in
        rw is (omega (arith, none))
    by false is rest = rw is (omega (arith, rest))

tally-either : (d : DatabaseValue) (databases : List DatabaseValue) (names : List (List ℕ))
    → tally (λ name. is_some (database_of name (d ∷ databases))) names
    ≤ tally (λ other. bytes_eq d.head.name other) names + tally (λ name. is_some (database_of name databases)) names
tally-either d databases [] = omega arith
tally-either d databases (name ∷ names) =
    let rest = tally-either d databases names in
    let here : one_if (is_some (database_of name (d ∷ databases))) ≤ one_if (bytes_eq d.head.name name) + one_if (is_some (database_of name databases))
    = grind (arith, nat_tests, common_steps) in
    omega (arith, rest, here)

tally-nothing : (names : List (List ℕ)) → tally (λ name. is_some (database_of name [])) names ≡ 0
tally-nothing [] = refl
tally-nothing (name ∷ names) = let rest = tally-nothing names in omega (arith, rest)

-- databases with these names, which differ, are no more than there are
tally-held : (databases : List DatabaseValue) (names : List (List ℕ)) → Once names
    → tally (λ name. is_some (database_of name databases)) names ≤ length databases
tally-held [] names once = let none = tally-nothing names in omega (arith, none)
tally-held (d ∷ databases) names once =
    let either = tally-either d databases names in
    let first = tally-once d.head.name names once in
    let rest = tally-held databases names once in
    omega (arith, either, first, rest)

-- ---- the databases of a meeting

tally-both : (ts : List Task) → length ts ≡ tally (λ (t : Task). is_some t.handheld) ts + tally (λ (t : Task). is_none t.handheld) ts
tally-both [] = omega arith
tally-both (t ∷ ts) = by t.handheld (tally-both ts)
  where
    by : (handheld : Option DatabaseValue) → length ts ≡ tally (λ (t : Task). is_some t.handheld) ts + tally (λ (t : Task). is_none t.handheld) ts
        → length (t ∷ ts) ≡ (one_if (is_some handheld) + tally (λ (t : Task). is_some t.handheld) ts)
        + (one_if (is_none handheld) + tally (λ (t : Task). is_none t.handheld) ts)
    by None rest = omega (arith, rest)
    by (Some d) rest = omega (arith, rest)

-- so many have room
room-none : (room : ℕ) (planned : List Planned) → length (unskipped planned) ≤ room → past_room room planned ≡ None
room-none room [] few = refl
room-none room (one ∷ planned) few = by one.job.skip few (room-none room planned) (room-none (room - 1) planned)
  where
    by : (skip : Option Skip) → length (if is_none skip then one ∷ unskipped planned else unskipped planned) ≤ room
        → (length (unskipped planned) ≤ room → past_room room planned ≡ None)
        → (length (unskipped planned) ≤ room - 1 → past_room (room - 1) planned ≡ None)
        → (if is_some skip then past_room room planned else (if room == 0 then Some one.job.name else past_room (room - 1) planned)) ≡ None
    by (Some skip) few same less = same few
    by None few same less =
        let some : (room == 0) ≡ false = grind (arith, nat_tests, few) in
        rw some (less (omega (arith, few)))

module _ (meeting : Meeting) where
  -- those that the handheld has are no more than it has
  tally-active : (ns : List (List ℕ))
      → tally (λ (t : Task). is_some t.handheld) (filter (λ task. is_none (skip_of task)) (map (task_of meeting) ns))
      ≤ tally (λ name. is_some (database_of name meeting.device.databases)) ns
  tally-active [] = omega arith
  tally-active (n ∷ ns) = by (is_none (skip_of (task_of meeting n))) (tally-active ns)
    where
      later : List Task
      later = filter (λ task. is_none (skip_of task)) (map (task_of meeting) ns)

      by : (kept : Bool) → tally (λ (t : Task). is_some t.handheld) later ≤ tally (λ name. is_some (database_of name meeting.device.databases)) ns
          → tally (λ (t : Task). is_some t.handheld) (if kept then task_of meeting n ∷ later else later)
          ≤ one_if (is_some (database_of n meeting.device.databases)) + tally (λ name. is_some (database_of name meeting.device.databases)) ns
      by true rest = omega (arith, rest)
      by false rest = omega (arith, rest)

  -- with those that it lacks, where no limit is passed
  tally-new : (handhelds desktops : ℕ) (ts : List Task) → first_behind meeting handhelds desktops ts ≡ None
      → (tally (λ (t : Task). is_none t.handheld) ts ≡ 0) ⊎ (handhelds + tally (λ (t : Task). is_none t.handheld) ts ≤ 200)
  unfolding first_behind
  tally-new handhelds desktops [] none = inl refl
  tally-new handhelds desktops (t ∷ ts) none =
      by (is_over (sizes_of meeting handhelds desktops t)) refl none (tally-new (with_one t.handheld handhelds) (with_one t.rows desktops) ts)
    where
      room : is_over (sizes_of meeting handhelds desktops t) ≡ false → nat_lt 200 (if is_none t.handheld then handhelds + 1 else 0) ≡ false
      room under = (or_parts (nat_lt 200 (if is_none t.handheld then handhelds + 1 else 0)) _ under).0

      step : (handheld : Option DatabaseValue) → nat_lt 200 (if is_none handheld then handhelds + 1 else 0) ≡ false
          → ((tally (λ (t : Task). is_none t.handheld) ts ≡ 0) ⊎ (with_one handheld handhelds + tally (λ (t : Task). is_none t.handheld) ts ≤ 200))
          → ((one_if (is_none handheld) + tally (λ (t : Task). is_none t.handheld) ts ≡ 0)
          ⊎ (handhelds + (one_if (is_none handheld) + tally (λ (t : Task). is_none t.handheld) ts) ≤ 200))
      step (Some d) under (inl rest) = inl (omega (arith, rest))
      step (Some d) under (inr rest) = inr (omega (arith, rest))
      step None under (inl rest) = inr (let less : handhelds + 1 ≤ 200 = grind (arith, nat_tests, under) in omega (arith, less, rest))
      step None under (inr rest) = inr (omega (arith, rest))

      by : (over : Bool) → is_over (sizes_of meeting handhelds desktops t) ≡ over
          → (if over then Some t.name else first_behind meeting (with_one t.handheld handhelds) (with_one t.rows desktops) ts) ≡ None
          → (first_behind meeting (with_one t.handheld handhelds) (with_one t.rows desktops) ts ≡ None
          → (tally (λ (t : Task). is_none t.handheld) ts ≡ 0) ⊎ (with_one t.handheld handhelds + tally (λ (t : Task). is_none t.handheld) ts ≤ 200))
          → ((one_if (is_none t.handheld) + tally (λ (t : Task). is_none t.handheld) ts ≡ 0)
          ⊎ (handhelds + (one_if (is_none t.handheld) + tally (λ (t : Task). is_none t.handheld) ts) ≤ 200))
      by true is none rest = absurd cc
      by false is none rest = step t.handheld (room is) (rest none)

  module _ (proper : IsTellable meeting.device) where
    pub active-few : first_over meeting ≡ None → length (active meeting) ≤ 200
    unfolding first_over active tasks
    active-few none =
        let held = tally-held meeting.device.databases (names meeting) (names-once meeting) in
        let mine = tally-active (names meeting) in
        let both = tally-both (filter (λ task. is_none (skip_of task)) (map (task_of meeting) (names meeting))) in
        let few = proper.sound.few in
        elim (tally-new (length meeting.device.databases) (all_rows meeting.slots)
        (filter (λ task. is_none (skip_of task)) (map (task_of meeting) (names meeting))) none) [
          | inl new ↦ omega (arith, held, mine, both, few, new)
          | inr new ↦ omega (arith, held, mine, both, few, new)
        ]

    -- those that are planned are these
    unskipped-length : (ns : List (List ℕ)) (planned : List Planned) → AreEachPlannedFor meeting (map (task_of meeting) ns) planned
        → length (unskipped planned) ≡ length (filter (λ task. is_none (skip_of task)) (map (task_of meeting) ns))
    unskipped-length [] [] each = refl
    unskipped-length (n ∷ ns) (one ∷ planned) each =
        let same : is_none one.job.skip ≡ is_none (skip_of (task_of meeting n))
        = ap (λ (j : Job). is_none j.skip) each.0.job ∙ ap is_none (job-skip meeting (task_of meeting n)) in
        rw same (by (is_none (skip_of (task_of meeting n))) (unskipped-length ns planned each.1))
      where
        later : List Task
        later = filter (λ task. is_none (skip_of task)) (map (task_of meeting) ns)

        by : (kept : Bool) → length (unskipped planned) ≡ length later
            → length (if kept then one ∷ unskipped planned else unskipped planned) ≡ length (if kept then task_of meeting n ∷ later else later)
        by true rest = ap suc rest
        by false rest = rest
    unskipped-length [] (one ∷ planned) each = absurd each
    unskipped-length (n ∷ ns) [] each = absurd each

    past-none : (planned : List Planned) → ArePlannedFor meeting planned → first_over meeting ≡ None → past_most planned ≡ None
    unfolding active tasks
    past-none planned each none =
        let few = active-few none in
        let same = unskipped-length (names meeting) planned each in
        room-none 200 planned (omega (arith, few, same))

    -- the limit that is told is the meeting's
    pub limit_is_first_over : (planned : List Planned) → ArePlannedFor meeting planned
        → limit_planned (slot_of meeting).shelves (length meeting.device.databases) (all_rows meeting.slots) planned ≡ first_over meeting
    limit_is_first_over planned each = by (first_over meeting) refl
      where
        over : Option (List ℕ)
        over = over_planned (slot_of meeting).shelves (length meeting.device.databases) (all_rows meeting.slots) planned

        by : (found : Option (List ℕ)) → first_over meeting ≡ found → option_or over (past_most planned) ≡ first_over meeting
        by (Some name) is = rw (over_is_first_over meeting proper planned each, is) refl
        by None is = rw (over_is_first_over meeting proper planned each, is) (past-none planned each is)
