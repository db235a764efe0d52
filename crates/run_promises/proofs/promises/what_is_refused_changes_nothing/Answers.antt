use Rattle.std.proofs.Common.{subst}
use Rattle.std.specs.Prelude.{Option}
use Rattle.run_words.specs.Commands.{WordTask}
use Rattle.hotsync_run.specs.Calls.{IsCall}
use Rattle.run_promises.proofs.HeadlineLaws.{silent_run}
use Rattle.run_promises.proofs.promises.what_is_refused_changes_nothing.Goals as goal

pub returns : goal.returns
returns c = record {
  run = silent_run;
  words = λ call is none.
      subst (λ (task : Option WordTask). IsCall task call.before call.after call.out call.out_after call.err call.err_after call.status call.report) none is;
}
