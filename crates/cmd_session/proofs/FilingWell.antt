-- A call that brings categories together and that nothing disturbs is done whole.
use Rattle.std.proofs.Common.{List, ℕ, subst}
use Rattle.std.specs.Prelude.{IsOk}
use Rattle.run_words.specs.Betweens.{Between}
use Rattle.category_mirror.specs.FilingEnds.{seat_of}
use Rattle.category_mirror.specs.Sides.{Filing, filing_of}
use Rattle.cmd_status.specs.Printed.{IsPrinted}
use Rattle.cmd_status.specs.Told.{SinkTold}
use Rattle.cmd_session.specs.Filings.{FilingShows, IsCalmFiling, categories_command}
use Rattle.call_parts.proofs.JudgedCalls.{refuses_none}
use Rattle.call_parts.proofs.WellLaws.{IsOwnStop, call_well, session_well}
use Rattle.cmd_session.proofs.FilingRuns.{filing_judged}
use Rattle.call_parts.specs.SessionCalls.{MayHaveSession}
use Rattle.call_parts.specs.Told.{CallTold}
use Rattle.call_parts.specs.Undisturbed.{EndsWell}
use Rattle.call_parts.proofs.UndisturbedLaws.{judged_desktop, judged_script}
use Rattle.call_parts.specs.declared.report.Report.{Report}
use Rattle.cmd_status.specs.declared.status.Status.{Status}
use Rattle.cmd_status.specs.declared.status.Status.TheVariants.{OtherUser, TooManyUsers, Limit, NewHandheld}

-- it stops for nothing that it finds where the user has a slot
is_seated : (filing : Filing) (report : Report) (status : Status) → IsOk (seat_of filing) → FilingShows filing status report → IsOwnStop status → ⊥
is_seated filing report (OtherUser handheld desktop) seated shows own = let both = subst IsOk shows.0 seated in cc
is_seated filing report TooManyUsers seated shows own = shows
is_seated filing report (Limit name) seated shows own = shows
is_seated filing report (NewHandheld name) seated shows own = shows
is_seated filing report _ seated shows own = own

-- a call that nothing disturbs is done whole
pub filing_ends_well : (words : Between) (before after : CallTold) (out out_after : SinkTold) (status : Status) (report : Report) {IsText : List ℕ → Type 0}
    → MayHaveSession (categories_command words) before after status report → IsPrinted IsText out out_after status
    → IsCalmFiling words before after out out_after report
    → EndsWell status report
filing_ends_well words before after out out_after status report has printed calm =
    call_well (categories_command words) before after has printed calm.none_failed
    (refuses_none (filing_judged words) before calm.folders.handheld (judged_script words.script before.source.left calm.script)
    (judged_desktop calm.folders.desktop))
    (λ blames ran. session_well ran.had.spoke (calm.line ran.rules ran.scripted) blames
    (is_seated (filing_of ran.device ran.slots) report status (calm.seated ran.device ran.slots ran.handheld ran.desktop)
    ran.had.shows.status_is))
