-- A run that nothing disturbs is done whole.
use Rattle.std.proofs.Common.{◌∙◌, ℕ, List, sym}
use Rattle.run_words.specs.Runs.{Run}
use Rattle.session_plan.specs.Tasks.{Meeting}
use Rattle.cmd_session.specs.Ends.{StatusShows}
use Rattle.cmd_status.specs.Printed.{IsPrinted}
use Rattle.cmd_session.specs.Runs.{HasRun, run_command}
use Rattle.call_parts.proofs.JudgedCalls.{refuses_none}
use Rattle.call_parts.proofs.WellLaws.{IsOwnStop, call_well, session_well}
use Rattle.cmd_session.proofs.SessionRuns.{run_judged}
use Rattle.cmd_status.specs.Told.{SinkTold}
use Rattle.call_parts.specs.Told.{CallTold}
use Rattle.call_parts.specs.Undisturbed.{EndsWell}
use Rattle.cmd_session.specs.Undisturbed.{IsUndisturbed, MayMeet}
use Rattle.call_parts.specs.declared.report.Report.{Report}
use Rattle.cmd_status.specs.declared.status.Status.{Status}
use Rattle.cmd_status.specs.declared.status.Status.TheVariants.{OtherUser, TooManyUsers, Limit, NewHandheld}
use Rattle.call_parts.proofs.UndisturbedLaws.{none_is_some, judged_script, judged_desktop}

-- it stops for nothing that it finds on two sides that may meet
may_meet : (meeting : Meeting) (report : Report) (status : Status) → MayMeet meeting → StatusShows meeting report status → IsOwnStop status → ⊥
may_meet meeting report (OtherUser handheld desktop) may shows own = may.known shows.0.slot
may_meet meeting report TooManyUsers may shows own = may.room shows.0
may_meet meeting report (Limit name) may shows own = none_is_some (sym may.within ∙ shows.0)
may_meet meeting report (NewHandheld name) may shows own = none_is_some (sym may.keeps ∙ shows.1)
may_meet meeting report _ may shows own = own

-- a run that nothing disturbs is done whole
pub run_ends_well : (run : Run) (before after : CallTold) (out out_after : SinkTold) (status : Status) (report : Report) {IsText : List ℕ → Type 0}
    → HasRun run before after status report → IsPrinted IsText out out_after status → IsUndisturbed run before after out out_after report
    → EndsWell status report
run_ends_well run before after out out_after status report has printed calm =
    call_well (run_command run) before after has printed calm.calm.none_failed
    (refuses_none (run_judged run) before calm.folders.handheld (judged_script run.script before.source.left calm.calm.script)
    (judged_desktop calm.folders.desktop))
    (λ blames ran. session_well ran.talked.spoke (calm.calm.line ran.rules ran.scripted) blames
    (may_meet ran.meeting report status (calm.calm.sides ran.meeting ran.meets) ran.talked.shows.status_is))
