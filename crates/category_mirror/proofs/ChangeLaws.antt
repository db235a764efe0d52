-- What changes by merges is what a desktop takes.
use Rattle.std.proofs.lemmas.Bool.Decides.{nat_tests}
use Rattle.std.proofs.lemmas.Bool.{and_parts, or_parts}
use Rattle.std.proofs.lemmas.List.{append-nil, length-map, length-take}
use Rattle.std.proofs.Common.{append_assoc, arith, ◌≡◌, ◌∙◌, ap, refl, sym, subst, ℕ, ◌<◌, ◌==◌, ◌||◌, Bool, true, false, not, List, [], ◌∷◌, ◌++◌, ◌+◌, length, map, min, option_to_list, take}
use Rattle.std.specs.Prelude.{Option, None, Some, IfSome, if◌then◌else◌}
use Rattle.std.specs.List.{AllByRecursion, list_all}
use Rattle.pdb_values.specs.Databases.{DatabaseValue}
use Rattle.pdb_values.specs.Heads.{holds_resources}
use Rattle.pdb_values.specs.NamedDatabases.{NamesRise, comes_before, database_of}
use Rattle.pdb_values.proofs.NamedLaws.{database_of-name}
use Rattle.desk_store.specs.Changes.{IsDbChange, IsOf}
use Rattle.desk_store.specs.Shelves.{ShelvesValue}
use Rattle.desk_store.specs.declared.change.DbChange.{DbChange}
use Rattle.session_plan.specs.Fits.{Rise}
use Rattle.category_mirror.specs.declared.job.FilingJob.{FilingJob}
use Rattle.category_mirror.specs.Blocks.{MergeValue}
use Rattle.category_mirror.specs.Changes.{change_filed, change_for, changes_filed, cleared_archive, cleared_database, cleared_record, is_changed}
use Rattle.category_mirror.specs.Courses.{did_of, report_filed, reports_filed}
use Rattle.session_parts.specs.declared.report.Did.{Did}
use Rattle.session_parts.specs.declared.report.DbReport.{DbReport}
use Rattle.mirrors.proofs.NewsLaws.{SplitAt}
use Rattle.category_mirror.specs.Jobs.{names_filed}
use Rattle.category_mirror.specs.Refiled.{refiled_base, refiled_rows}

-- a change of the database of a name, such as a desktop takes
pub record IsChangeOf (name : List ℕ) (change : DbChange) : Type 0 where
  pub named : change.rows.head.name ≡ name
  pub fits : IsDbChange change

-- none, or one of this name
abbrev pub IsOneOf : List ℕ → List DbChange → Type 0
IsOneOf name [] = Unit {0}
IsOneOf name (change ∷ []) = IsChangeOf name change
IsOneOf name (change ∷ more ∷ changes) = ⊥

archive_fits : (archive : DatabaseValue) (b : Bool) → (holds_resources archive.head.attributes || (length archive.records == 0)) ≡ b
    → IfSome (if b then None else Some (cleared_database archive)) (λ (copy : DatabaseValue). IsOf archive.head.name copy × (0 < length copy.records))
unfolding cleared_database
archive_fits archive true is = tt
archive_fits archive false is =
    let both = or_parts (holds_resources archive.head.attributes) (length archive.records == 0) is in
    let count = length-map archive.records cleared_record in (
      record { records = both.0; named = refl },
      grind (arith, nat_tests, both.1, count),
    )

cleared_fits : (name : List ℕ) (archive : Option DatabaseValue) → IfSome archive (λ (a : DatabaseValue). a.head.name ≡ name)
    → IfSome (cleared_archive archive) (λ (a : DatabaseValue). IsOf name a × (0 < length a.records))
cleared_fits name None is = tt
cleared_fits name (Some archive) is =
    subst (λ n. IfSome (cleared_archive (Some archive)) (λ (a : DatabaseValue). IsOf n a × (0 < length a.records))) is
    (archive_fits archive (holds_resources archive.head.attributes || (length archive.records == 0)) refl)

one_by : (name : List ℕ) (merge : MergeValue) (rows base : DatabaseValue) (archive : Option DatabaseValue) (b : Bool) → is_changed merge rows base ≡ b
    → rows.head.name ≡ name → base.head.name ≡ name → IfSome archive (λ (a : DatabaseValue). a.head.name ≡ name)
    → IsOneOf name (if b then record { rows = refiled_rows merge rows; base = refiled_base merge base; archive = cleared_archive archive } ∷ [] else [])
unfolding refiled_base refiled_rows
one_by name merge rows base archive false is rows_named base_named archive_named = tt
one_by name merge rows base archive true is rows_named base_named archive_named =
    let both = and_parts (not (holds_resources rows.head.attributes)) _ is in
    let more = and_parts (not (holds_resources base.head.attributes)) _ both.1 in
    record {
      named = rows_named;
      fits = record {
        rows = false_of both.0;
        base = record { records = false_of more.0; named = base_named ∙ sym rows_named };
        archive = subst (λ n. IfSome (cleared_archive archive) (λ (a : DatabaseValue). IsOf n a × (0 < length a.records))) (sym rows_named)
            (cleared_fits name archive archive_named);
      };
    }
  where
    false_of : {b : Bool} → not b ≡ true → b ≡ false
    false_of e = grind arith

one_for : (name : List ℕ) (merge : Option MergeValue) (rows base archive : Option DatabaseValue) → IfSome rows (λ (a : DatabaseValue). a.head.name ≡ name)
    → IfSome base (λ (a : DatabaseValue). a.head.name ≡ name) → IfSome archive (λ (a : DatabaseValue). a.head.name ≡ name)
    → IsOneOf name (change_for merge rows base archive)
one_for name None rows base archive one two three = tt
one_for name (Some merge) None base archive one two three = tt
one_for name (Some merge) (Some rows) None archive one two three = tt
one_for name (Some merge) (Some rows) (Some base) archive one two three =
    one_by name merge rows base archive (is_changed merge rows base) refl one two three

named_of : (name : List ℕ) (databases : List DatabaseValue) (o : Option DatabaseValue) → database_of name databases ≡ o
    → IfSome o (λ (a : DatabaseValue). a.head.name ≡ name)
named_of name databases None is = tt
named_of name databases (Some found) is = database_of-name name databases found is

pub one_filed : (shelves : ShelvesValue) (name : List ℕ) (merge : Option MergeValue) → IsOneOf name (change_filed shelves name merge)
unfolding change_filed
one_filed shelves name merge =
    one_for name merge _ _ _ (named_of name shelves.rows _ refl) (named_of name shelves.bases _ refl) (named_of name shelves.archives _ refl)

-- ---- several

abbrev rows_in : DbChange → DatabaseValue
rows_in change = change.rows

abbrev pass : (List ℕ → Bool) → List DbChange → Bool
pass test changes = list_all (λ (later : DatabaseValue). test later.head.name) (map rows_in changes)

front_passes : (test : List ℕ → Bool) (name : List ℕ) (one others : List DbChange) → IsOneOf name one → test name ≡ true → pass test others ≡ true
    → pass test (one ++ others) ≡ true
front_passes test name [] others is here all = all
front_passes test name (change ∷ []) others is here all = rw (ap test is.named ∙ here) all
front_passes test name (change ∷ more ∷ changes) others is here all = absurd is

front_rises : (name : List ℕ) (one others : List DbChange) → IsOneOf name one → pass (comes_before name) others ≡ true → NamesRise (map rows_in others)
    → NamesRise (map rows_in (one ++ others))
front_rises name [] others is behind rise = rise
front_rises name (change ∷ []) others is behind rise = (rw (← is.named) at behind, rise)
front_rises name (change ∷ more ∷ changes) others is behind rise = absurd is

front_fits : (name : List ℕ) (one others : List DbChange) → IsOneOf name one → AllByRecursion IsDbChange others → AllByRecursion IsDbChange (one ++ others)
front_fits name [] others is each = each
front_fits name (change ∷ []) others is each = (is.fits, each)
front_fits name (change ∷ more ∷ changes) others is each = absurd is

module _ (shelves : ShelvesValue) where
  all_pass : (test : List ℕ → Bool) (jobs : List FilingJob) (merges : List (Option MergeValue)) → list_all test (names_filed jobs) ≡ true
      → pass test (changes_filed shelves jobs merges) ≡ true
  unfolding changes_filed
  all_pass test [] merges all = refl
  all_pass test (job ∷ jobs) [] all = refl
  all_pass test (job ∷ jobs) (merge ∷ merges) all =
      let both = and_parts (test job.name) (list_all test (names_filed jobs)) all in
      front_passes test job.name (change_filed shelves job.name merge) (changes_filed shelves jobs merges) (one_filed shelves job.name merge) both.0
      (all_pass test jobs merges both.1)

  pub changes-rise : (jobs : List FilingJob) (merges : List (Option MergeValue)) → Rise (names_filed jobs)
      → NamesRise (map (λ (change : DbChange). change.rows) (changes_filed shelves jobs merges))
  unfolding changes_filed
  changes-rise [] merges rise = tt
  changes-rise (job ∷ jobs) [] rise = tt
  changes-rise (job ∷ jobs) (merge ∷ merges) rise =
      front_rises job.name (change_filed shelves job.name merge) (changes_filed shelves jobs merges) (one_filed shelves job.name merge)
      (all_pass (comes_before job.name) jobs merges rise.0) (changes-rise jobs merges rise.1)

  pub changes-fit : (jobs : List FilingJob) (merges : List (Option MergeValue)) → AllByRecursion IsDbChange (changes_filed shelves jobs merges)
  unfolding changes_filed
  changes-fit [] merges = tt
  changes-fit (job ∷ jobs) [] = tt
  changes-fit (job ∷ jobs) (merge ∷ merges) =
      front_fits job.name (change_filed shelves job.name merge) (changes_filed shelves jobs merges) (one_filed shelves job.name merge) (changes-fit jobs merges)

  pub changes-next : (jobs : List FilingJob) (merges : List (Option MergeValue)) (job : FilingJob) (merge : Option MergeValue) → length merges ≡ length jobs
      → changes_filed shelves (jobs ++ job ∷ []) (merges ++ merge ∷ []) ≡ changes_filed shelves jobs merges ++ change_filed shelves job.name merge
  unfolding changes_filed
  changes-next [] [] job merge same = append-nil (change_filed shelves job.name merge)
  changes-next [] (m ∷ ms) job merge same = absurd (omega (arith, same))
  changes-next (j ∷ js) [] job merge same = absurd (omega (arith, same))
  changes-next (j ∷ js) (m ∷ ms) job merge same =
      ap (λ rest. change_filed shelves j.name m ++ rest) (changes-next js ms job merge (omega (arith, same)))
      ∙ sym (append_assoc (change_filed shelves j.name m) (changes_filed shelves js ms) (change_filed shelves job.name merge))

  pub reports-next : (jobs : List FilingJob) (merges : List (Option MergeValue)) (job : FilingJob) (merge : Option MergeValue) → length merges ≡ length jobs
      → reports_filed shelves (jobs ++ job ∷ []) (merges ++ merge ∷ []) ≡ reports_filed shelves jobs merges ++ report_filed shelves job merge ∷ []
  unfolding reports_filed
  reports-next [] [] job merge same = refl
  reports-next [] (m ∷ ms) job merge same = absurd (omega (arith, same))
  reports-next (j ∷ js) [] job merge same = absurd (omega (arith, same))
  reports-next (j ∷ js) (m ∷ ms) job merge same = ap (λ rest. report_filed shelves j m ∷ rest) (reports-next js ms job merge (omega (arith, same)))

  takes_same : (jobs : List FilingJob) (merges : List (Option MergeValue)) (k : ℕ) → length merges ≡ length jobs → length (take k merges) ≡ length (take k jobs)
  takes_same jobs merges k same = length-take k merges ∙ ap (min k) same ∙ sym (length-take k jobs)

  module _ (jobs : List FilingJob) (merges : List (Option MergeValue)) (k : ℕ) {job : FilingJob} {merge : Option MergeValue} (same : length merges ≡ length jobs)
      (one : SplitAt jobs k job) (other : SplitAt merges k merge) where
    pub changes-step : (change : Option DbChange) {before now : List DbChange} → before ≡ changes_filed shelves (take k jobs) (take k merges)
        → now ≡ before ++ option_to_list change → option_to_list change ≡ change_filed shelves job.name merge
        → now ≡ changes_filed shelves (take (k + 1) jobs) (take (k + 1) merges)
    changes-step change {before} before_is put is =
        put ∙ ap (λ cs. before ++ cs) is ∙ ap (λ cs. cs ++ change_filed shelves job.name merge) before_is
        ∙ sym (changes-next (take k jobs) (take k merges) job merge (takes_same jobs merges k same))
        ∙ ap (λ js. changes_filed shelves js (take k merges ++ merge ∷ [])) (sym one.next) ∙ ap (changes_filed shelves (take (k + 1) jobs)) (sym other.next)

    pub reports-step : {before now : List DbReport} {report : DbReport} → before ≡ reports_filed shelves (take k jobs) (take k merges)
        → now ≡ before ++ report ∷ [] → report ≡ report_filed shelves job merge
        → now ≡ reports_filed shelves (take (k + 1) jobs) (take (k + 1) merges)
    reports-step {before} before_is put is =
        put ∙ ap (λ r. before ++ r ∷ []) is ∙ ap (λ rs. rs ++ report_filed shelves job merge ∷ []) before_is
        ∙ sym (reports-next (take k jobs) (take k merges) job merge (takes_same jobs merges k same))
        ∙ ap (λ js. reports_filed shelves js (take k merges ++ merge ∷ [])) (sym one.next) ∙ ap (reports_filed shelves (take (k + 1) jobs)) (sym other.next)

  pub report_is : (job : FilingJob) (merge : Option MergeValue) {name : List ℕ} {did : Did} → name ≡ job.name
      → did ≡ did_of job.skip merge (database_of job.name shelves.rows) → record { name = name; did = did } ≡ report_filed shelves job merge
  report_is job merge named is = λ k. record { name = named k; did = is k }
