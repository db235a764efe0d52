use Rattle.run_promises.proofs.promises.a_run_that_nothing_disturbs_is_done.Goals as goal

pub returns : goal.returns
returns c call is = is.complete
