use Rattle.std.proofs.Common.{◌≡◌, ◌++◌, length, map}
use Rattle.std.specs.List.{AllByRecursion}
use Rattle.session_plan.proofs.PlanWords.{shelves_in, Planned, parted_in}
use Rattle.session_plan.specs.Planning.{IsPlanUnder}
use Rattle.session_plan.proofs.planning.plan_all.Given as goal
use Rattle.session_plan.specs.Partings.{agrees_with}

abbrev pub invariant-loop-job : goal.invariant-loop-job
invariant-loop-job g l = record {
  job_count : l.job-iterator.a.rest.len ≡ length l.job-iterator.a.rest.items;
  jobs : map (λ (one : Planned). one.job) l.planned.items ++ l.job-iterator.a.rest.items ≡ l.fn.jobs.items;
  view_count : l.job-iterator.b.rest.len ≡ length l.job-iterator.b.rest.items;
  views : map (λ (one : Planned). one.view) l.planned.items ++ l.job-iterator.b.rest.items ≡ l.fn.views.items;
  plans : AllByRecursion (λ (one : Planned). IsPlanUnder (shelves_in l.desk) (agrees_with l.agree (parted_in l.desk)) one.job one.view one.plan) l.planned.items;
}
