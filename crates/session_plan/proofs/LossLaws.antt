-- What is among the entries of archives, which records a view shows as there, and what a stop makes of a handheld.
use Rattle.std.proofs.lemmas.Bool.Decides.{nat_tests}
use Rattle.std.proofs.lemmas.List.Folds.{list_any-append}
use Rattle.std.proofs.Common.{◌≡◌, ◌∙◌, ◌||◌, ◌&&◌, ◌++◌, ap, refl, arith, ℕ, Bool, true, false, not, List, [], ◌∷◌, Option, Some, None}
use Rattle.std.specs.Prelude.{◌==◌, if◌then◌else◌, is_some, nat_lt}
use Rattle.std.specs.List.{list_any}
use Rattle.std.specs.Option.{option_map}
use Rattle.session_plan.proofs.PlanWords.{ContentValue}
use Rattle.pdb_values.specs.declared.record.Record.{Record}
use Rattle.pdb_values.specs.declared.user.Marks.{Marks}
use Rattle.pdb_values.specs.declared.user.UserInfo.{UserInfo}
use Rattle.conduit_rules.specs.ById.{id_bound}
use Rattle.conduit_rules.specs.Contents.{same_content}
use Rattle.conduit_rules.specs.States.{first}
use Rattle.conduit_rules.specs.Views.{fast_seen, fast_view, first_seen, slow_seen, slow_view}
use Rattle.conduit_rules.specs.declared.view.Seen.{Seen}
use Rattle.conduit_rules.proofs.ViewLaws.{any_view, fast_id}
use Rattle.session_plan.proofs.SeenCountLaws.{view_by}
use Rattle.session_plan.specs.Archives.{entries_of}
use Rattle.session_plan.specs.Choosing.{base_rows, is_fast, view}
use Rattle.session_plan.specs.Losses.{has_lost_all, is_agreed_on, is_among, is_met, is_stranger_to, is_there}
use Rattle.session_plan.specs.Tasks.{Meeting, Task, records_of}
use Rattle.session_plan.specs.Users.{begun_user}

-- ---- archives

pub is_among_entries : (records : List Record) (c : ContentValue)
    → is_among (entries_of records) c ≡ list_any (λ (r : Record). same_content r.content c) records
is_among_entries [] c = refl
is_among_entries (r ∷ records) c = ap (λ b. same_content r.content c || b) (is_among_entries records c)

pub is_among_both : (old new : List (ℕ × ContentValue)) (c : ContentValue) → is_among (old ++ new) c ≡ (is_among old c || is_among new c)
is_among_both old new c = list_any-append (λ (entry : ℕ × ContentValue). same_content entry.1 c) old new

-- ---- a stop makes no stranger

-- what a stop sets is the last desktop, to none
stranger_by : (own never agree other no_last no_pc older good : Bool) → (never ≡ true → good ≡ true → no_last ≡ true)
    → (never ≡ true → no_last ≡ false → older ≡ true)
    → (not no_last && (not (agree && good) && (never || (other && not good)))) ≡ true
    → (not no_last && (not (own && good) && ((no_pc && never) || ((not no_pc && older) || (other && not (no_pc && good)))))) ≡ true
stranger_by own never agree other no_last no_pc older good same less is = grind arith

-- a handheld that a session of the slot stopped on is a stranger only where it was one
pub stranger_stopped : (handheld : UserInfo) (slot : Marks) → is_stranger_to (begun_user handheld) slot ≡ true → is_stranger_to handheld slot ≡ true
stranger_stopped handheld slot is =
    stranger_by (handheld.pc == slot.pc) (handheld.good == 0) (0 == slot.pc) (not (slot.user == 0) && not (handheld.user == slot.user)) (slot.last == 0) (handheld.pc == 0)
    (nat_lt handheld.good slot.last) (handheld.good == slot.last) (λ never good. grind (arith, nat_tests, never, good))
    (λ never last. grind (arith, nat_tests, never, last)) is

-- ---- records that are there

there_first : (seen : List Seen) (i : ℕ) → is_there seen i ≡ is_some (first_seen i seen)
there_first [] i = refl
there_first (s ∷ seen) i = by (s.id == i) (there_first seen i)
  where
    by : (b : Bool) → is_there seen i ≡ is_some (first_seen i seen) → (b || is_there seen i) ≡ is_some (if b then Some s else first_seen i seen)
    by true rest = refl
    by false rest = rest

-- a view that has an entry for each record shows those that are there
pub there-view_by : (g : Record → Seen) (records : List Record) (i : ℕ) → ((r : Record) → (g r).id ≡ r.id)
    → is_there (view_by g records) i ≡ (nat_lt i id_bound && is_some (first i records))
there-view_by g records i keeps =
    there_first (view_by g records) i ∙ ap is_some (any_view g records i keeps) ∙ by (nat_lt i id_bound) (first i records)
  where
    by : (b : Bool) (o : Option Record) → is_some (if b then option_map g o else None) ≡ (b && is_some o)
    by true None = refl
    by true (Some r) = refl
    by false o = refl

pub there-slow_view : (records : List Record) (i : ℕ) → is_there (slow_view records) i ≡ (nat_lt i id_bound && is_some (first i records))
there-slow_view records i = there-view_by slow_seen records i (λ r. refl)

pub there-fast_view : (base records : List Record) (i : ℕ) → is_there (fast_view base records) i ≡ (nat_lt i id_bound && is_some (first i records))
there-fast_view base records i = there-view_by (fast_seen base) records i (fast_id base)

-- and so does each view of a meeting
pub there-view : (meeting : Meeting) (task : Task) (i : ℕ)
    → is_there (view meeting task) i ≡ (nat_lt i id_bound && is_some (first i (records_of task.handheld)))
unfolding view
there-view meeting task i = by (is_fast meeting task)
  where
    by : (b : Bool) → is_there (if b then fast_view (base_rows task) (records_of task.handheld) else slow_view (records_of task.handheld)) i
        ≡ (nat_lt i id_bound && is_some (first i (records_of task.handheld)))
    by true = there-fast_view (base_rows task) (records_of task.handheld) i
    by false = there-slow_view (records_of task.handheld) i

-- ---- none of the records of a base is there, where there were fewer

met_grows : (base : List Record) (fewer more : List Seen) → ((i : ℕ) → is_there fewer i ≡ true → is_there more i ≡ true)
    → list_any (is_met fewer) base ≡ true → list_any (is_met more) base ≡ true
met_grows [] fewer more grows is = is
met_grows (r ∷ base) fewer more grows is =
    by (not r.deleted && not (r.id == 0)) (is_there fewer r.id) (is_there more r.id) (list_any (is_met fewer) base) (list_any (is_met more) base)
    (grows r.id) (met_grows base fewer more grows) is
  where
    by : (own few many rest later : Bool) → (few ≡ true → many ≡ true) → (rest ≡ true → later ≡ true) → ((own && few) || rest) ≡ true
        → ((own && many) || later) ≡ true
    by own few many rest later here behind is = grind arith

pub lost_all_grows : (base : List Record) (fewer more : List Seen) → ((i : ℕ) → is_there fewer i ≡ true → is_there more i ≡ true)
    → has_lost_all base more ≡ true → has_lost_all base fewer ≡ true
lost_all_grows base fewer more grows is =
    by (list_any is_agreed_on base) (list_any (is_met fewer) base) (list_any (is_met more) base) (met_grows base fewer more grows) is
  where
    by : (some few many : Bool) → (few ≡ true → many ≡ true) → (some && not many) ≡ true → (some && not few) ≡ true
    by some few many here is = grind arith
