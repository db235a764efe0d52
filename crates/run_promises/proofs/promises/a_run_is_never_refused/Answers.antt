use Rattle.std.proofs.Common.{subst}
use Rattle.std.specs.Prelude.{Option}
use Rattle.run_words.specs.Commands.{WordTask}
use Rattle.hotsync_run.specs.Calls.{IsCall}
use Rattle.run_promises.proofs.AnsweredRuns.{made-answered, run-answered}
use Rattle.run_promises.proofs.promises.a_run_is_never_refused.Goals as goal

pub returns : goal.returns
returns c = record {
  run = λ call is. run-answered call.run call.before call.after call.out call.out_after call.status call.report is;
  made = λ call seed count is asked. made-answered seed count call.out call.out_after call.status call.report
      (subst (λ (task : Option WordTask). IsCall task call.before call.after call.out call.out_after call.err call.err_after call.status call.report) asked is);
}
