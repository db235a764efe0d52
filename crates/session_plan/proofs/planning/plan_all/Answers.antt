-- Plans, one database after another.
use Rattle.std.proofs.Common.{◌≡◌, ◌+◌, ◌∷◌, ap, arith, length, refl, rules, ◌∙◌, sym, List, [], ◌++◌, map, append_assoc}
use Rattle.session_plan.proofs.PlanWords.{shelves_in, Planned, parted_in}
use Rattle.session_plan.specs.Planning.{IsPlanUnder}
use Rattle.std.proofs.lemmas.List.{map-append}
use Rattle.std.specs.List.{AllByRecursion}
use Rattle.session_plan.proofs.planning.plan_all.Goals as goal
use Rattle.desk_journal.proofs.StepLaws.{all-append}
use Rattle.session_plan.specs.Partings.{agrees_with}

-- what was planned so far, with what is left, is all
planned_on : {P A : Type 0} (f : P → A) (planned more : List P) (one : P) (x : A) (rest left all : List A) → more ≡ planned ++ one ∷ [] → f one ≡ x
    → left ≡ x ∷ rest → map f planned ++ left ≡ all → map f more ++ rest ≡ all
planned_on f planned more one x rest left all is same step before =
    ap (λ ps. map f ps ++ rest) is ∙ ap (λ xs. xs ++ rest) (map-append f planned (one ∷ [])) ∙ append_assoc (map f planned) (f one ∷ []) rest
    ∙ ap (λ y. map f planned ++ y ∷ rest) same ∙ ap (λ xs. map f planned ++ xs) (sym step) ∙ before

plans_on : {P : Type 0} (Q : P → Type 0) (planned more : List P) (one : P) → more ≡ planned ++ one ∷ [] → AllByRecursion Q planned → Q one
    → AllByRecursion Q more
plans_on Q planned more one is all last = rw is (all-append Q planned (one ∷ []) all (last, tt))

pub loop-job-preserved : goal.loop-job-preserved
loop-job-preserved g c =
    let before = c.loop-job.invariant in
    let first : c.loop-job.job-iterator.a.rest.items ≡ c.in-Some.job ∷ c.next.new.self.a.rest.items = search rules in
    let second : c.loop-job.job-iterator.b.rest.items ≡ c.in-Some.view ∷ c.next.new.self.b.rest.items = search rules in
    let one : Planned = record { job = c.in-Some.job; view = c.in-Some.view; plan = c.in_ok-plan.plan } in
    record {
      job_count = let less : c.loop-job.job-iterator.a.rest.len ≡ c.next.new.self.a.rest.len + 1 = search rules in
          let all = ap length first in let whole = before.job_count in omega arith;
      jobs = planned_on (λ (p : Planned). p.job) c.loop-job.planned.items c.push.new.self.items one c.in-Some.job c.next.new.self.a.rest.items
          c.loop-job.job-iterator.a.rest.items c.args.jobs.items c.in_ok-push.ensures.items refl first before.jobs;
      view_count = let less : c.loop-job.job-iterator.b.rest.len ≡ c.next.new.self.b.rest.len + 1 = search rules in
          let all = ap length second in let whole = before.view_count in omega arith;
      views = planned_on (λ (p : Planned). p.view) c.loop-job.planned.items c.push.new.self.items one c.in-Some.view c.next.new.self.b.rest.items
          c.loop-job.job-iterator.b.rest.items c.args.views.items c.in_ok-push.ensures.items refl second before.views;
      plans = plans_on (λ (p : Planned). IsPlanUnder (shelves_in c.args.desk.now) (agrees_with c.args.agree (parted_in c.args.desk.now)) p.job p.view p.plan) c.loop-job.planned.items
          c.push.new.self.items one c.in_ok-push.ensures.items before.plans c.in_ok-plan.ensures;
    }
