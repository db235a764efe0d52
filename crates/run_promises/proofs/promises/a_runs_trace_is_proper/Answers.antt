use Rattle.std.proofs.Common.{subst}
use Rattle.std.specs.Prelude.{Option}
use Rattle.run_words.specs.Commands.{WordTask}
use Rattle.hotsync_run.specs.Calls.{IsCall}
use Rattle.run_promises.proofs.ProperLaws.{made-proper, run-proper}
use Rattle.run_promises.proofs.promises.a_runs_trace_is_proper.Goals as goal

pub returns : goal.returns
returns c = record {
  run = run-proper;
  made = λ call seed count is asked. made-proper seed count call.out call.out_after call.status call.report
      (subst (λ (task : Option WordTask). IsCall task call.before call.after call.out call.out_after call.err call.err_after call.status call.report) asked is);
}
