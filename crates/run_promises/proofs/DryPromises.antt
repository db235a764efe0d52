-- What is promised of a dry run.
use Rattle.std.proofs.Common.{◌≡◌, ℕ, inl, inr, refl, subst}
use Rattle.std.specs.Prelude.{IfSome, Option, Some}
use Rattle.hs_folders.specs.Causes.{Rose}
use Rattle.hs_folders.specs.FileMaps.{FileMap}
use Rattle.folder_copies.specs.Copies.{IsCopy}
use Rattle.run_words.specs.Commands.{DryRun, WordTask}
use Rattle.run_words.specs.Runs.{Run}
use Rattle.run_promises.specs.Calls.{Call, IsAnsweredCall}
use Rattle.hotsync_run.specs.Calls.{IsCall}
use Rattle.cmd_session.specs.DryRuns.{HoldTheSame, IsDryRun, RanOverCopies, over}
use Rattle.call_parts.specs.Told.{CallTold}
use Rattle.call_parts.specs.declared.report.Report.{Report}
use Rattle.cmd_status.specs.declared.status.Status.{Status}

-- what is known of a call for a dry run
pub dry_asked : (call : Call) (run : Run) → IsAnsweredCall call → call.task ≡ Some (DryRun run)
    → IsDryRun run call.before call.after call.out call.out_after call.status call.report
dry_asked call run is asked =
    subst (λ (task : Option WordTask). IsCall task call.before call.after call.out call.out_after call.err call.err_after call.status call.report) asked is

holds_same : (told copied : Option FileMap) (before now : ℕ) → IsCopy told before now copied → ¬ (Rose before now)
    → IfSome told (λ held. copied ≡ Some held)
holds_same told copied before now (inl same) calm = same
holds_same told copied before now (inr failed) calm = absurd (calm failed.1)

pub dry_holds : {Ran : CallTold → CallTold → Type 0} {run : Run} {before after : CallTold} {status : Status} {report : Report}
    → (dry : RanOverCopies Ran run before after status report) → HoldTheSame before after (over dry.copies before)
dry_holds dry = record {
  handheld = λ calm. holds_same _ _ _ _ dry.handheld.copied_is calm;
  desktop = λ calm. holds_same _ _ _ _ dry.desktop.copied_is calm;
  source = refl;
  trace = refl;
}
