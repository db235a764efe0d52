-- What a session planned is what a desktop takes.
use Rattle.std.proofs.lemmas.Bool.{and_parts}
use Rattle.std.proofs.Common.{◌≡◌, ◌∙◌, ◌<◌, ◌≤◌, ap, refl, subst, ℕ, zero, suc, Bool, true, false, List, [], ◌∷◌, ◌++◌}
use Rattle.std.proofs.Common.{arith, length, map, get_or}
use Rattle.std.specs.Prelude.{Option, Some, None, IfSome, if◌then◌else◌, is_none, is_some}
use Rattle.std.specs.Global.{Vec}
use Rattle.std.specs.List.{list_all}
use Rattle.pdb_values.specs.Databases.{DatabaseValue}
use Rattle.pdb_values.specs.NamedDatabases.{NamesRise, comes_before, database_of}
use Rattle.pdb_values.specs.declared.head.DbHead.{DbHead}
use Rattle.pdb_values.specs.declared.record.Record.{Record}
use Rattle.conduit_rules.specs.declared.planned.Plan.{Plan}
use Rattle.desk_store.specs.Shelves.{ShelvesValue}
use Rattle.desk_store.specs.declared.change.DbChange.{DbChange}
use Rattle.session_plan.specs.Fits.{AreOfSession, AreTakeable, IsTakeable, Rise, TakesPlan, names_planned}
use Rattle.session_plan.specs.Jobs.{job_of, jobs_of, names_with}
use Rattle.session_plan.specs.PlannedLimits.{unskipped}
use Rattle.session_plan.specs.Takes.{change_from, change_of, change_unless, changes_of, each_of, rows_begun}
use Rattle.session_plan.specs.Tasks.{names_of, records_of, with_names}
use Rattle.session_plan.specs.declared.job.Job.{Job}
use Rattle.session_plan.specs.declared.planned.Planned.{Planned}
use Rattle.session_parts.specs.declared.skip.Skip.{Skip}
use Rattle.session_plan.specs.declared.wishes.Wishes.{Wishes}
use Rattle.session_plan.proofs.RiseLaws.{rise-with_names}
use Rattle.palm_device.proofs.TellingLaws.{none_where}

-- ---- names

names-jobs : (heads : List DbHead) (shelves : ShelvesValue) (agree : List ℕ → Bool) (wishes : Wishes) (names : List (List ℕ))
    → map (λ (job : Job). job.name) (map (job_of heads shelves agree wishes) names) ≡ names
names-jobs heads shelves agree wishes [] = refl
names-jobs heads shelves agree wishes (name ∷ names) = ap (λ more. name ∷ more) (names-jobs heads shelves agree wishes names)

names-planned : (planned : List Planned) → names_planned planned ≡ map (λ (job : Job). job.name) (map (λ (one : Planned). one.job) planned)
names-planned [] = refl
names-planned (one ∷ planned) = ap (λ more. one.job.name ∷ more) (names-planned planned)

-- those of a session rise
pub session-rises : {shelves : ShelvesValue} {planned : List Planned} → AreOfSession shelves planned → Rise (names_planned planned)
unfolding jobs_of
session-rises {shelves} {planned} of =
    let names : names_planned planned ≡ names_with of.heads shelves
    = names-planned planned ∙ ap (map (λ (job : Job). job.name)) of.are ∙ names-jobs of.heads shelves of.agree of.wishes (names_with of.heads shelves) in
    rw names (rise-with_names (names_of shelves.rows) (with_names (map (λ (head : DbHead). head.name) of.heads) [])
    (rise-with_names (map (λ (head : DbHead). head.name) of.heads) [] tt))

-- ---- rows

pub takes-rows : (date : ℕ) (shelves : ShelvesValue) (one : Planned) (given : List ℕ) (rows : DatabaseValue) → IsTakeable date shelves one given
    → is_some one.job.skip ≡ false → database_of one.job.name shelves.rows ≡ Some rows → TakesPlan one.job.name one.plan given rows
takes-rows date shelves one given rows takes active there =
    subst (λ o. IfSome (rows_begun date o one.job.handheld) (TakesPlan one.job.name one.plan given)) there (takes (none_where one.job.skip active))

-- ---- at a place

pub takes-length : (date : ℕ) (shelves : ShelvesValue) (planned : List Planned) (ids : List (List ℕ)) → AreTakeable date shelves planned ids
    → length ids ≡ length planned
takes-length date shelves [] [] each = refl
takes-length date shelves (one ∷ planned) (given ∷ ids) each = ap suc (takes-length date shelves planned ids each.1)
takes-length date shelves planned ids each = absurd each

pub takes-at : (date : ℕ) (shelves : ShelvesValue) (planned : List Planned) (ids : List (Vec ℕ)) (k : ℕ) (one : Planned) (given : Vec ℕ)
    → AreTakeable date shelves planned (each_of ids) → k < length planned → one ≡ get_or planned k one → given ≡ get_or ids k given
    → IsTakeable date shelves one given.items
takes-at date shelves [] ids k one given each less is got = absurd (omega (arith, less))
takes-at date shelves (first ∷ planned) [] k one given each less is got = absurd each
takes-at date shelves (first ∷ planned) (ids ∷ more) zero one given each less is got = rw (is, got) each.0
takes-at date shelves (first ∷ planned) (ids ∷ more) (suc k) one given each less is got =
    takes-at date shelves planned more k one given each.1 (omega (arith, less)) is got

-- ---- the changes rise

module _ (date : ℕ) (shelves : ShelvesValue) where
  abbrev rows_in : DbChange → DatabaseValue
  rows_in change = change.rows

  abbrev are_behind : List ℕ → List DatabaseValue → Bool
  are_behind name xs = list_all (λ (later : DatabaseValue). comes_before name later.head.name) xs

  -- the change of one database in front of others
  front : (test : List ℕ → Bool) (name : List ℕ) (skip : Option Skip) (plan : Plan) (given : List ℕ) (old : List Record) (rows : Option DatabaseValue)
      (others : List DbChange) → (skip ≡ None → IfSome rows (TakesPlan name plan given)) → test name ≡ true
      → list_all (λ (later : DatabaseValue). test later.head.name) (map rows_in others) ≡ true
      → list_all (λ (later : DatabaseValue). test later.head.name) (map rows_in (change_unless skip (change_from plan given old rows) ++ others)) ≡ true
  front test name (Some skip) plan given old rows others takes here all = all
  front test name None plan given old None others takes here all = all
  front test name None plan given old (Some rows) others takes here all =
      let named : rows.head.name ≡ name = (takes refl).named in
      rw (named, here) all

  -- all changes pass a test of names that all names pass
  all_pass : (test : List ℕ → Bool) (planned : List Planned) (ids : List (List ℕ)) → AreTakeable date shelves planned ids
      → list_all test (names_planned planned) ≡ true
      → list_all (λ (later : DatabaseValue). test later.head.name) (map rows_in (changes_of date shelves planned ids)) ≡ true
  unfolding changes_of change_of
  all_pass test [] [] each all = refl
  all_pass test (one ∷ planned) (given ∷ ids) each all =
      let both = and_parts (test one.job.name) (list_all test (names_planned planned)) all in
      front test one.job.name one.job.skip one.plan given (records_of (database_of one.job.name shelves.archives))
      (rows_begun date (database_of one.job.name shelves.rows) one.job.handheld) (changes_of date shelves planned ids) each.0 both.0
      (all_pass test planned ids each.1 both.1)
  all_pass test planned ids each all = absurd each

  rise-front : (name : List ℕ) (skip : Option Skip) (plan : Plan) (given : List ℕ) (old : List Record) (rows : Option DatabaseValue)
      (others : List DbChange) → (skip ≡ None → IfSome rows (TakesPlan name plan given)) → are_behind name (map rows_in others) ≡ true
      → NamesRise (map rows_in others) → NamesRise (map rows_in (change_unless skip (change_from plan given old rows) ++ others))
  rise-front name (Some skip) plan given old rows others takes behind rise = rise
  rise-front name None plan given old None others takes behind rise = rise
  rise-front name None plan given old (Some rows) others takes behind rise =
      let named : rows.head.name ≡ name = (takes refl).named in
      (rw named behind, rise)

  pub changes-rise : (planned : List Planned) (ids : List (List ℕ)) → AreTakeable date shelves planned ids → Rise (names_planned planned)
      → NamesRise (map (λ (change : DbChange). change.rows) (changes_of date shelves planned ids))
  unfolding changes_of change_of
  changes-rise [] [] each rise = tt
  changes-rise (one ∷ planned) (given ∷ ids) each rise =
      rise-front one.job.name one.job.skip one.plan given (records_of (database_of one.job.name shelves.archives))
      (rows_begun date (database_of one.job.name shelves.rows) one.job.handheld) (changes_of date shelves planned ids) each.0
      (all_pass (λ later. comes_before one.job.name later) planned ids each.1 rise.0) (changes-rise planned ids each.1 rise.1)
  changes-rise planned ids each rise = absurd each

-- ---- there are few

module _ (date : ℕ) (shelves : ShelvesValue) where
  abbrev counted : Option Skip → List Planned → Planned → List Planned
  counted skip rest one = if is_none skip then one ∷ rest else rest

  few-front : (skip : Option Skip) (plan : Plan) (given : List ℕ) (old : List Record) (rows : Option DatabaseValue) (others : List DbChange)
      (one : Planned) (rest : List Planned) → length others ≤ length rest
      → length (change_unless skip (change_from plan given old rows) ++ others) ≤ length (counted skip rest one)
  few-front (Some skip) plan given old rows others one rest less = less
  few-front None plan given old None others one rest less = omega (arith, less)
  few-front None plan given old (Some rows) others one rest less = omega (arith, less)

  pub changes-few : (planned : List Planned) (ids : List (List ℕ)) → length (changes_of date shelves planned ids) ≤ length (unskipped planned)
  unfolding changes_of change_of
  changes-few [] ids = omega arith
  changes-few (one ∷ planned) [] = omega arith
  changes-few (one ∷ planned) (given ∷ ids) =
      few-front one.job.skip one.plan given (records_of (database_of one.job.name shelves.archives))
      (rows_begun date (database_of one.job.name shelves.rows) one.job.handheld) (changes_of date shelves planned ids) one (unskipped planned)
      (changes-few planned ids)
