-- What a restore promises, by what is known of its call.
use Rattle.std.proofs.Common.{◌≡◌, subst, sym}
use Rattle.std.specs.Prelude.{Option, Some}
use Rattle.hs_folders.specs.Moments.{EachMomentSince}
use Rattle.install_backup.specs.InstallActs.{restore_mark}
use Rattle.install_backup.specs.InstallEnds.{all_installed}
use Rattle.run_words.specs.Betweens.{Between}
use Rattle.run_words.specs.Commands.{Restore, WordTask}
use Rattle.cmd_files.specs.Besides.{StandsBeside}
use Rattle.run_promises.specs.Calls.{Call, IsAnsweredCall}
use Rattle.hotsync_run.specs.Calls.{IsCall}
use Rattle.call_parts.specs.Causes.{ByEnd, HasBegun}
use Rattle.run_promises.specs.Promises.{IsReadWhole, IsReadWholeOrSame}
use Rattle.cmd_files.specs.Loads.{EndedLoad}
use Rattle.cmd_files.specs.Restores.{RestoreRan, restore_command}
use Rattle.call_parts.specs.SessionCalls.{IsSessionCall, SentNothing}
use Rattle.call_parts.specs.Stays.{StaysAsItWas}
use Rattle.run_promises.proofs.HeadlineLaws.{begun_by}
use Rattle.run_promises.proofs.NextLaws.{read_whole, read_whole_or_same}
use Rattle.call_parts.specs.declared.report.SessionEnd.{SessionEnd}
use Rattle.call_parts.specs.declared.report.SessionEnd.TheVariants.{Ended, NotStarted, Stopped}

module _ (call : Call) (words : Between) (is : IsAnsweredCall call) (task : call.task ≡ Some (Restore words)) where
  abbrev Silent : Type 0
  Silent = SentNothing (restore_command words) call.before call.after call.status call.report

  abbrev Session : Type 0
  Session = RestoreRan words call.before call.after call.status call.report

  answered : IsSessionCall (restore_command words) call.before call.after call.out call.out_after call.status call.report
  answered = subst (λ (t : Option WordTask). IsCall t call.before call.after call.out call.out_after call.err call.err_after call.status call.report) task is

  pub restore_refused : call.report.end ≡ NotStarted → Silent
  restore_refused none = subst (λ (e : SessionEnd). ByEnd e Silent Session) none answered.ran.shown

  pub restore_ran : HasBegun call.report.end → Session
  restore_ran begun = begun_by call.report.end Silent Session answered.ran.shown begun

  pub restore_folder : StaysAsItWas call.before.desk call.after.desk
  restore_folder = by call.report.end answered.ran.shown
    where
      by : (end : SessionEnd) → ByEnd end Silent Session → StaysAsItWas call.before.desk call.after.desk
      by NotStarted silent = silent.desktop
      by Ended ran = ran.desktop
      by Stopped ran = ran.desktop

  pub restore_ended : call.report.end ≡ Ended → (ran : Session)
      × EndedLoad (restore_mark ran.databases) ran.device ran.databases call.after.palm call.report
  restore_ended ended = let ran = restore_ran (subst HasBegun (sym ended) tt) in (ran, ran.had.left.ended ended)

  pub restore_stopped : HasBegun call.report.end
      → (ran : Session) × EachMomentSince (StandsBeside (restore_mark ran.databases) ran.device ran.databases) call.before.palm.moments call.after.palm.moments
  restore_stopped begun = let ran = restore_ran begun in (ran, ran.had.left.each_moment)

  -- the run behind it
  pub restore_read : call.report.end ≡ Ended → (ran : Session) × IsReadWhole (restore_mark ran.databases) call
  restore_read ended =
      let over = restore_ended ended in
      (over.0, read_whole (all_installed over.0.databases over.0.device.databases) (restore_mark over.0.databases) over.0.device.user over.1.handheld)

  pub restore_read_or_same : HasBegun call.report.end → (ran : Session) × IsReadWholeOrSame (restore_mark ran.databases) ran.device call
  restore_read_or_same begun =
      let ran = restore_ran begun in
      let beside = ran.had.left.beside in
      (ran, read_whole_or_same (restore_mark ran.databases) ran.device beside.reached beside.stands beside.user)
