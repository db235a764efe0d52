-- What a call for categories promises, by what is known of it.
use Rattle.std.proofs.Common.{◌≡◌, subst, sym}
use Rattle.std.specs.Prelude.{Option, Some}
use Rattle.run_words.specs.Betweens.{Between}
use Rattle.run_words.specs.Commands.{Categories, WordTask}
use Rattle.category_mirror.specs.Sides.{filing_of}
use Rattle.run_promises.specs.Calls.{Call, IsAnsweredCall}
use Rattle.hotsync_run.specs.Calls.{IsCall}
use Rattle.call_parts.specs.Causes.{ByEnd, HasBegun}
use Rattle.cmd_session.specs.Filings.{CategoriesRan, EndedFiling, StoppedFiling, categories_command}
use Rattle.call_parts.specs.SessionCalls.{IsSessionCall, SentNothing}
use Rattle.run_promises.proofs.HeadlineLaws.{begun_by}
use Rattle.call_parts.specs.declared.report.SessionEnd.{SessionEnd}
use Rattle.call_parts.specs.declared.report.SessionEnd.TheVariants.{Ended, NotStarted, Stopped}

module _ (call : Call) (words : Between) (is : IsAnsweredCall call) (task : call.task ≡ Some (Categories words)) where
  abbrev Silent : Type 0
  Silent = SentNothing (categories_command words) call.before call.after call.status call.report

  abbrev Session : Type 0
  Session = CategoriesRan words call.before call.after call.status call.report

  answered : IsSessionCall (categories_command words) call.before call.after call.out call.out_after call.status call.report
  answered = subst (λ (t : Option WordTask). IsCall t call.before call.after call.out call.out_after call.err call.err_after call.status call.report) task is

  pub filing_refused : call.report.end ≡ NotStarted → Silent
  filing_refused none = subst (λ (e : SessionEnd). ByEnd e Silent Session) none answered.ran.shown

  pub filing_ran : HasBegun call.report.end → Session
  filing_ran begun = begun_by call.report.end Silent Session answered.ran.shown begun

  pub filing_ended : call.report.end ≡ Ended → (ran : Session) × EndedFiling (filing_of ran.device ran.slots) call.after.palm call.after.desk call.report
  filing_ended ended = let ran = filing_ran (subst HasBegun (sym ended) tt) in (ran, ran.had.left.ended ended)

  pub filing_stopped : call.report.end ≡ Stopped
      → (ran : Session) × StoppedFiling (filing_of ran.device ran.slots) call.before.desk call.after.desk call.report
  filing_stopped stopped = let ran = filing_ran (subst HasBegun (sym stopped) tt) in (ran, ran.had.left.stopped stopped)
