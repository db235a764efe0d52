-- The meetings behind a session that stopped, and what the last of them leaves.
use Rattle.std.proofs.Common.{◌≡◌, ◌<◌, ◌==◌, ◌&&◌, ℕ, Bool, true, false, not, List, [], ◌∷◌, refl, ap, ◌∙◌, sym, subst, arith, if◌then◌else◌, is_some}
use Rattle.std.proofs.lemmas.Bool.Decides.{nat_tests}
use Rattle.pdb_values.specs.NamedDatabases.{database_of}
use Rattle.folder_files.specs.Partings.{is_parted}
use Rattle.conduit_rules.specs.declared.action.Action.{Action}
use Rattle.palm_device.specs.Soundness.{ids_of, AreIds}
use Rattle.conduit_rules.specs.States.{held}
use Rattle.conduit_rules.specs.Views.{slow_view, fast_view, view_held, IsHonest}
use Rattle.record_merge.specs.Merging.{AreBounded}
use Rattle.record_merge.proofs.ShownLaws.{slow_shows, fast_shows}
use Rattle.run_words.specs.Actions.{action_for}
use Rattle.session_plan.specs.Archives.{entries_of}
use Rattle.session_plan.specs.Choosing.{action_or_sync, agrees, base_rows, is_fast, view}
use Rattle.session_plan.specs.Tasks.{Meeting, Task, action_of_word, task_of, slot_of, records_of}
use Rattle.front_laws.specs.Meetings.{found, found_of, action_at, AsksTheSame, IsUnderWay, LeftAmongNews, LeftBehindCommit, LeftAtEnd, Follows, AllFollow}
use Rattle.front_laws.specs.Meetings.{last_of, places_of}
use Rattle.front_laws.specs.Renaming.{AreUnknown, SameEnds}
use Rattle.front_laws.specs.Repeats.{IsRead, Finding, ended, GotAllIds, Place, among_news, behind_commit, at_end, left_by, all_ids, AreStops}
use Rattle.front_laws.proofs.RepeatLaws.{repeat_anew}

-- ---- the marks

pub no_number : {pc : ℕ} (n : ℕ) (b : Bool) → pc ≡ 0 → 0 < n → ((pc == n) && b) ≡ false
no_number n b is l = grind (arith, nat_tests, is, l)

-- while a session was under way the sides don't agree
pub under_way : {next : Meeting} → IsUnderWay next → (name : List ℕ) → agrees next name ≡ false
unfolding agrees
under_way {next} is name =
    ap (λ b. b && not (is_parted name (slot_of next).parted))
    (no_number (slot_of next).marks.pc (next.device.user.good == (slot_of next).marks.last) is.handheld is.desktop)

-- so that all is read
pub under_way-slow : (next : Meeting) (task : Task) → agrees next task.name ≡ false → view next task ≡ slow_view (records_of task.handheld)
unfolding view is_fast
under_way-slow next task is = grind arith

-- ---- one meeting after the other

pub same_action : {meeting next : Meeting} (name : List ℕ) → AsksTheSame meeting next → action_at next name ≡ action_at meeting name
same_action name asks = ap (λ items. action_or_sync (action_of_word (action_for name items))) asks.actions

pub among-news : (meeting next : Meeting) (given : List ℕ → List ℕ) (count : List ℕ → ℕ) (name : List ℕ) → LeftAmongNews meeting next given count
    → Follows meeting next name (among_news (given name) (count name))
among-news meeting next given count name is =
    let apart = under_way is.marks name in
    let slow = under_way-slow next (task_of next name) apart ∙ ap slow_view (is.records name) in
    record {
      action = same_action name is.asks;
      finds = λ k. record {
        view = slow k;
        records = is.records name k;
        rows = records_of (database_of name (is.slot k).shelves.rows);
        base = if is_some (database_of name (is.slot k).shelves.rows) then records_of (database_of name (is.slot k).shelves.bases) else [];
        archive = entries_of (records_of (database_of name (is.slot k).shelves.archives));
        gone_counts = not (apart k);
      };
    }

base_there : (task : Task) → is_some task.rows ≡ true → base_rows task ≡ records_of task.base
base_there task is = ap (λ b. if b then records_of task.base else []) is

pub behind-the_commit : (meeting next : Meeting) (given : List ℕ → List ℕ) (count : List ℕ → ℕ) (name : List ℕ)
    → LeftBehindCommit meeting next given count name → Follows meeting next name (behind_commit (given name) (count name))
behind-the_commit meeting next given count name is =
    grind (arith, under_way is.marks name, under_way-slow next (task_of next name) (under_way is.marks name))

pub at-the_end : (meeting next : Meeting) (given : List ℕ → List ℕ) (name : List ℕ) → LeftAtEnd meeting next given name
    → Follows meeting next name (at_end (given name) (view next (task_of next name)) (not (agrees next name)))
at-the_end meeting next given name is = grind arith

-- ---- any number of meetings

pub all-follow : (meeting : Meeting) (name : List ℕ) (es : List (Meeting × Place)) → AllFollow meeting name es
    → (action_at (last_of meeting es) name ≡ action_at meeting name) × (found_of (last_of meeting es) name
    ≡ left_by (action_at meeting name) (found_of meeting name) (places_of es))
all-follow meeting name [] follow = (refl, refl)
all-follow meeting name (e ∷ es) follow = grind (arith, all-follow e.0 name es follow.1)

pub meetings-same : (meeting : Meeting) (name : List ℕ) (es : List (Meeting × Place)) (later new : List ℕ) → AllFollow meeting name es
    → IsRead (found_of meeting name) → AreStops (action_at meeting name) (found_of meeting name) (places_of es)
    → GotAllIds (action_at meeting name) (found_of (last_of meeting es) name) later
    → AreUnknown (found_of meeting name) (all_ids (action_at meeting name) (places_of es) later)
    → GotAllIds (action_at meeting name) (found_of meeting name) new → AreUnknown (found_of meeting name) new
    → SameEnds (found_of meeting name) (ended (action_at (last_of meeting es) name) (found_of (last_of meeting es) name) later)
    (ended (action_at meeting name) (found_of meeting name) new)
meetings-same meeting name es later new follow read stops all_got un new_all new_un =
    let a = action_at meeting name in
    let x = found_of meeting name in
    let all = all-follow meeting name es follow in
    subst (λ (p : Action × Finding). SameEnds x (ended p.0 p.1 later) (ended a x new)) (sym (λ k. (all.0 k, all.1 k)))
    (repeat_anew a x (places_of es) later new read stops (subst (λ y. GotAllIds a y later) all.1 all_got) un new_all new_un)

-- ---- what a session reads

-- a slow reading shows what the records hold, and so does a fast one where these are honest
pub reading-shows : (m : Meeting) (t : Task) → AreIds (ids_of (records_of t.handheld)) → AreBounded (records_of t.handheld)
    → (is_fast m t ≡ true → IsHonest (base_rows t) (records_of t.handheld)) → IsRead (found m t)
unfolding view
reading-shows m t ids bounded honest = record { ids = ids; bounded = bounded; shows = by (is_fast m t) honest }
  where
    by : (b : Bool) → (b ≡ true → IsHonest (base_rows t) (records_of t.handheld)) → (i : ℕ)
        → view_held (if b then fast_view (base_rows t) (records_of t.handheld) else slow_view (records_of t.handheld)) i ≡ held (records_of t.handheld) i
    by true is_honest i = fast_shows (base_rows t) (records_of t.handheld) bounded (is_honest refl) i
    by false is_honest i = slow_shows (records_of t.handheld) bounded i
