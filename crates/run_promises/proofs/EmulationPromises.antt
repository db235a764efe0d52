-- What a handheld over captured bytes promises, by what is known of its call.
use Rattle.std.proofs.Common.{◌≡◌, subst}
use Rattle.std.specs.Prelude.{Option, Some}
use Rattle.run_words.specs.Captures.{Capture}
use Rattle.run_words.specs.Commands.{Emulate, WordTask}
use Rattle.run_promises.specs.Calls.{Call, IsAnsweredCall}
use Rattle.hotsync_run.specs.Calls.{IsCall}
use Rattle.cmd_files.specs.Emulations.{IsEmulation, MayEmulate, SaysAll}
use Rattle.cmd_files.proofs.EmulationLaws.{says_all}
use Rattle.cmd_status.specs.declared.status.Status.{Status}
use Rattle.cmd_status.specs.declared.status.Status.TheVariants.{Done}

pub handheld_says_all : (call : Call) (capture : Capture) → IsAnsweredCall call → call.task ≡ Some (Emulate capture) → call.status ≡ Done
    → SaysAll call.before call.after call.report
handheld_says_all call capture is task done =
    let answered : IsEmulation capture call.before call.after call.out call.out_after call.status call.report =
    subst (λ (task : Option WordTask). IsCall task call.before call.after call.out call.out_after call.err call.err_after call.status call.report) task is in
    says_all (subst (λ (s : Status). MayEmulate capture call.before call.after s call.report) done answered.ran)
