use Rattle.std.proofs.Common.{◌≡◌, map, take}
use Rattle.desk_store.specs.Views.{shelves_in, parted_in}
use Rattle.session_plan.specs.Jobs.{job_of}
use Rattle.session_plan.proofs.jobs.jobs_of.Given as goal
use Rattle.session_plan.specs.Partings.{agrees_with}

abbrev pub invariant-loop-name : goal.invariant-loop-name
invariant-loop-name g l = l.made.items ≡ map (job_of l.heads (shelves_in l.desk) (agrees_with l.agree (parted_in l.desk)) l.wishes) (take l.name-index l.name-items)
