use Rattle.std.proofs.Common.{subst}
use Rattle.std.specs.Prelude.{Option}
use Rattle.run_words.specs.Commands.{WordTask}
use Rattle.hotsync_run.specs.Calls.{IsCall}
use Rattle.run_promises.proofs.promises.every_file_is_read_or_refused.Goals as goal

pub returns : goal.returns
returns c call look file is asked =
    subst (λ (task : Option WordTask). IsCall task call.before call.after call.out call.out_after call.err call.err_after call.status call.report) asked is
