-- What an install promises, by what is known of its call.
use Rattle.std.proofs.Common.{◌≡◌, subst, sym, [], ◌∷◌}
use Rattle.std.specs.Prelude.{Option, Some}
use Rattle.hs_folders.specs.Moments.{EachMomentSince}
use Rattle.install_backup.specs.InstallActs.{install_mark}
use Rattle.install_backup.specs.Installed.{with_installed}
use Rattle.run_words.specs.Betweens.{Between}
use Rattle.run_words.specs.Commands.{Install, WordTask}
use Rattle.cmd_files.specs.Besides.{StandsBeside}
use Rattle.run_promises.specs.Calls.{Call, IsAnsweredCall}
use Rattle.hotsync_run.specs.Calls.{IsCall}
use Rattle.call_parts.specs.Causes.{ByEnd, HasBegun}
use Rattle.run_promises.specs.Clean.{GoesThrough}
use Rattle.cmd_files.specs.Installs.{EndedInstall, InstallRan, install_command}
use Rattle.cmd_files.proofs.InstallLaws.{ended_install}
use Rattle.run_promises.specs.Promises.{IsReadWhole, IsReadWholeOrSame}
use Rattle.call_parts.specs.SessionCalls.{IsSessionCall, SentNothing}
use Rattle.run_promises.proofs.CleanLaws.{spoke_through}
use Rattle.run_promises.proofs.HeadlineLaws.{begun_by}
use Rattle.run_promises.proofs.NextLaws.{read_whole, read_whole_or_same}
use Rattle.call_parts.specs.declared.report.SessionEnd.{SessionEnd}
use Rattle.call_parts.specs.declared.report.SessionEnd.TheVariants.{Ended, NotStarted}

module _ (call : Call) (words : Between) (is : IsAnsweredCall call) (task : call.task ≡ Some (Install words)) where
  abbrev Silent : Type 0
  Silent = SentNothing (install_command words) call.before call.after call.status call.report

  abbrev Session : Type 0
  Session = InstallRan words call.before call.after call.status call.report

  answered : IsSessionCall (install_command words) call.before call.after call.out call.out_after call.status call.report
  answered = subst (λ (t : Option WordTask). IsCall t call.before call.after call.out call.out_after call.err call.err_after call.status call.report) task is

  pub install_refused : call.report.end ≡ NotStarted → Silent
  install_refused none = subst (λ (e : SessionEnd). ByEnd e Silent Session) none answered.ran.shown

  pub install_ran : HasBegun call.report.end → Session
  install_ran begun = begun_by call.report.end Silent Session answered.ran.shown begun

  pub install_through : HasBegun call.report.end → GoesThrough call.status call.report
  install_through begun = spoke_through (install_ran begun).had.spoke

  pub install_ended : call.report.end ≡ Ended → (ran : Session) × EndedInstall ran.device ran.database call.after.palm call.report
  install_ended ended = let ran = install_ran (subst HasBegun (sym ended) tt) in (ran, ended_install ran.writable (ran.had.left.ended ended))

  pub install_stopped : HasBegun call.report.end
      → (ran : Session)
      × EachMomentSince (StandsBeside (install_mark ran.database) ran.device (ran.database ∷ [])) call.before.palm.moments call.after.palm.moments
  install_stopped begun = let ran = install_ran begun in (ran, ran.had.left.each_moment)

  -- the run behind it
  pub install_read : call.report.end ≡ Ended → (ran : Session) × IsReadWhole (install_mark ran.database) call
  install_read ended =
      let over = install_ended ended in
      (over.0, read_whole (with_installed over.0.database over.0.device.databases) (install_mark over.0.database) over.0.device.user over.1.handheld)

  pub install_read_or_same : HasBegun call.report.end → (ran : Session) × IsReadWholeOrSame (install_mark ran.database) ran.device call
  install_read_or_same begun =
      let ran = install_ran begun in
      let beside = ran.had.left.beside in
      (ran, read_whole_or_same (install_mark ran.database) ran.device beside.reached beside.stands beside.user)
