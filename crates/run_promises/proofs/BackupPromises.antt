-- What a backup promises, by what is known of its call.
use Rattle.std.proofs.Common.{◌≡◌, subst}
use Rattle.std.specs.Prelude.{Option, Some}
use Rattle.run_words.specs.Betweens.{Between}
use Rattle.run_words.specs.Commands.{Backup, WordTask}
use Rattle.cmd_files.specs.Backups.{BackupLeft, BackupRan, backup_command}
use Rattle.run_promises.specs.Calls.{Call, IsAnsweredCall}
use Rattle.hotsync_run.specs.Calls.{IsCall}
use Rattle.call_parts.specs.Causes.{ByEnd, HasBegun}
use Rattle.call_parts.specs.SessionCalls.{IsSessionCall, SentNothing}
use Rattle.call_parts.specs.Told.{sides_of}
use Rattle.run_promises.proofs.HeadlineLaws.{begun_by}
use Rattle.call_parts.specs.declared.report.SessionEnd.{SessionEnd}
use Rattle.call_parts.specs.declared.report.SessionEnd.TheVariants.{NotStarted}

module _ (call : Call) (words : Between) (is : IsAnsweredCall call) (task : call.task ≡ Some (Backup words)) where
  abbrev Silent : Type 0
  Silent = SentNothing (backup_command words) call.before call.after call.status call.report

  abbrev Session : Type 0
  Session = BackupRan words call.before call.after call.status call.report

  answered : IsSessionCall (backup_command words) call.before call.after call.out call.out_after call.status call.report
  answered = subst (λ (t : Option WordTask). IsCall t call.before call.after call.out call.out_after call.err call.err_after call.status call.report) task is

  pub backup_refused : call.report.end ≡ NotStarted → Silent
  backup_refused none = subst (λ (e : SessionEnd). ByEnd e Silent Session) none answered.ran.shown

  pub backup_left : HasBegun call.report.end → (ran : Session) × BackupLeft ran.device (sides_of call.before) (sides_of call.after) call.report
  backup_left begun = let ran = begun_by call.report.end Silent Session answered.ran.shown begun in (ran, ran.had.left)
