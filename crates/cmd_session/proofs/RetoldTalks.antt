-- What is known of the session of a run stays, whatever becomes of its trace.
use Rattle.std.proofs.lemmas.Grind.{common_steps}
use Rattle.std.proofs.Common.{arith, ◌≡◌, ◌⊎◌, inl, inr, subst, sym, List, ℕ}
use Rattle.std.specs.Prelude.{Option, IfSome, Result}
use Rattle.palm_device.specs.Devices.{Device}
use Rattle.pdb_values.specs.declared.user.UserInfo.{UserInfo}
use Rattle.desktop_session.specs.declared.fault.SessionFault.{SessionFault}
use Rattle.line_script.specs.Rules.{RuleValue}
use Rattle.desk_store.specs.Shelves.{SlotValue}
use Rattle.run_words.specs.Runs.{Run}
use Rattle.session_plan.specs.Limits.{first_over}
use Rattle.session_plan.specs.Losses.{first_loss}
use Rattle.sync_session.specs.Outcomes.{seat_of}
use Rattle.session_plan.specs.Tasks.{Meeting}
use Rattle.call_parts.specs.Causes.{IsCutShort}
use Rattle.cmd_session.specs.Ends.{IsToldRefusal, ShowsMeeting, status_refused}
use Rattle.cmd_session.specs.Talks.{BegunSession, TalkedFor}
use Rattle.call_parts.specs.Told.{SidesTold}
use Rattle.call_parts.proofs.RetoldLaws.{IsRetold, StaysShown, had_retold}
use Rattle.call_parts.specs.declared.report.Report.{Report}
use Rattle.cmd_status.specs.declared.status.Status.{Status}
use Rattle.cmd_status.specs.declared.status.Status.TheVariants.{Done, TraceWrite, OutWrite, NoMemory}

-- ---- what a status shows of both sides

-- a session that was cut short is told by that
memory_refused : (refused : Option Status) → IfSome refused (λ status. (NoMemory ≡ status) ⊎ IsCutShort NoMemory)
memory_refused refused = grind (arith, common_steps)

done_refused : (seat : Result UserInfo SessionFault) (over loss : Option (List ℕ)) (other : Status)
    → IfSome (status_refused seat over loss) (λ refused. (Done ≡ refused) ⊎ IsCutShort Done)
    → IfSome (status_refused seat over loss) (λ refused. (other ≡ refused) ⊎ IsCutShort other)
done_refused seat over loss other is = grind (arith, common_steps)

pub shows_retold : (meeting : Meeting) → StaysShown (ShowsMeeting meeting)
shows_retold meeting status other report (inl same) shows = subst (λ (s : Status). ShowsMeeting meeting s report) (sym same) shows
shows_retold meeting status other report (inr (inl memory)) shows =
    subst (λ (s : Status). ShowsMeeting meeting s report) (sym memory)
    (record { status_is = tt; refused = memory_refused (status_refused (seat_of meeting) (first_over meeting) (first_loss meeting)) })
shows_retold meeting status other report (inr (inr (done, inl untold))) shows =
    subst (λ (s : Status). ShowsMeeting meeting s report) (sym untold) (record {
      status_is = tt;
      refused = done_refused (seat_of meeting) (first_over meeting) (first_loss meeting) TraceWrite (subst (IsToldRefusal meeting) done shows.refused);
    })
shows_retold meeting status other report (inr (inr (done, inr unsaid))) shows =
    subst (λ (s : Status). ShowsMeeting meeting s report) (sym unsaid) (record {
      status_is = tt;
      refused = done_refused (seat_of meeting) (first_over meeting) (first_loss meeting) OutWrite (subst (IsToldRefusal meeting) done shows.refused);
    })

-- what is known of the session
pub talked_retold : {rules : List RuleValue} {meeting : Meeting} {before after : SidesTold} {status : Status} (other : Status) {report : Report}
    → IsRetold status other → BegunSession rules meeting before after status report → BegunSession rules meeting before after other report
talked_retold {meeting = meeting} other is talked = had_retold other (shows_retold meeting) is talked

pub talked_for_retold : (run : Run) (rules : List RuleValue) (device : Device) (slots : List SlotValue) (before after : SidesTold)
    → StaysShown (TalkedFor run rules device slots before after)
talked_for_retold run rules device slots before after status other report is had =
    record { wishes = had.wishes; asked = had.asked; talked = talked_retold other is had.talked; changed = had.changed }
