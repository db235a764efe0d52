-- What is known of a run, by how it is judged and by its session, from before its folders were opened on.
use Rattle.std.proofs.Common.{◌≡◌, ◌⊎◌, ◌∙◌, List, ℕ, inl, inr, refl, sym, subst, ap}
use Rattle.std.specs.Prelude.{Option}
use Rattle.std.specs.Option.{option_map}
use Rattle.hs_folders.specs.FileMaps.{FileMap}
use Rattle.hs_folders.specs.Moments.{EachMomentSince}
use Rattle.hs_folders.proofs.MomentLaws.{moments_go_on, moments_weaken}
use Rattle.palm_device.specs.Devices.{Device}
use Rattle.line_script.specs.Rules.{RuleValue}
use Rattle.desk_journal.specs.Overlays.{FinishesAs, finished, put_all}
use Rattle.desk_store.specs.Desks.{IsDesk}
use Rattle.desk_store.specs.Shelves.{SlotValue}
use Rattle.run_words.specs.Runs.{Run}
use Rattle.session_plan.specs.Merges.{merged_slots}
use Rattle.sync_session.specs.Outcomes.{StandsForSlots}
use Rattle.session_plan.specs.Tasks.{Meeting, meeting_of}
use Rattle.cmd_session.specs.Ends.{SessionLeft}
use Rattle.call_parts.specs.Refusals.{LeavesDesktopUnread, TraceRefuses}
use Rattle.cmd_session.specs.Runs.{HasRun, KeepsDesktop, SessionRan, run_command, run_paths}
use Rattle.call_parts.specs.Judges.{desktop_judges}
use Rattle.call_parts.specs.Stays.{StandsAsItDid}
use Rattle.call_parts.specs.Stays.{StaysAsItWas}
use Rattle.call_parts.specs.Scripts.{IsScripted}
use Rattle.cmd_session.specs.Talks.{DesktopRan, IsRunTalk, BegunSession}
use Rattle.cmd_status.specs.Told.{SinkTold}
use Rattle.call_parts.specs.Told.{CallTold, FolderTold, SidesTold, sides_of}
use Rattle.call_parts.specs.Traces.{TracesReport}
use Rattle.call_parts.proofs.CallPrinted.{IsPrintable}
use Rattle.call_parts.proofs.JudgedCalls.{IsJudged, never_done, of_script}
use Rattle.call_parts.proofs.OpenedCalls.{AreOpened, both_told, by_session}
use Rattle.call_parts.proofs.RefusalLaws.{desktop_alone, stands_same, stays_same, trace_alone}
use Rattle.call_parts.proofs.RetoldLaws.{StaysShown}
use Rattle.call_parts.proofs.RetoldCalls.{retold_done, retold_served, traced_as}
use Rattle.call_parts.proofs.TraceLaws.{traced_from}
use Rattle.cmd_session.proofs.RetoldTalks.{talked_retold}
use Rattle.call_parts.specs.declared.report.Report.{Report}
use Rattle.call_parts.specs.declared.report.SessionEnd.{SessionEnd}
use Rattle.cmd_status.specs.declared.status.Status.{Status}
use Rattle.cmd_status.specs.declared.status.Status.TheVariants.{NoMemory}
use Rattle.call_parts.proofs.EarlierLaws.{spoke_from}

-- ---- the desktop's folder

-- where it was not touched it is kept
pub keeps_same : (told : FolderTold) (status : Status) → KeepsDesktop told told status
keeps_same told status = record { stands = stands_same refl; unread = λ unread. stays_same refl }

-- and where memory ran out once it was opened
pub keeps_stood : {first before after : FolderTold} {status : Status} → StandsAsItDid first before → after ≡ before → status ≡ NoMemory
    → KeepsDesktop first after status
keeps_stood {first} stood same memory =
    record { stands = subst (StandsAsItDid first) (sym same) stood; unread = λ unread. absurd (subst LeavesDesktopUnread memory unread) }

-- and where the trace was refused
pub keeps_traced : {path : Option (List ℕ)} {first after : FolderTold} {refusal : Status} → TraceRefuses path refusal → StandsAsItDid first after
    → KeepsDesktop first after refusal
keeps_traced {refusal = refusal} refuses stood =
    record { stands = stood; unread = λ unread. absurd ((trace_alone refusal refuses.is).unread unread) }

-- what a session left, told from before a journal was finished on
left_from : {meeting : Meeting} {palm_after first before after : FolderTold} {report : Report} → StandsAsItDid first before
    → SessionLeft meeting palm_after before after report → SessionLeft meeting palm_after first after report
left_from {meeting} {first} {before} {after} stood left =
    let Merged = StandsForSlots (merged_slots meeting left.given) in
    record {
      sound = left.sound;
      issued = left.issued;
      over = left.over;
      losing = left.losing;
      unseated = left.unseated;
      ended = left.ended;
      stopped = λ is. elim (left.stopped is) [
        | inl b ↦ inl (record { stands = b.stands ∙ stood.stands; writes = b.writes })
        | inr b ↦ inr b
      ];
      given = left.given;
      moments = moments_go_on (λ told. FinishesAs first.contents told ⊎ Merged told) first.moments before.moments after.moments
          (moments_weaken (FinishesAs first.contents) (λ told. FinishesAs first.contents told ⊎ Merged told) first.moments before.moments stood.each_moment
          (λ told stands. inl stands))
          (moments_weaken (λ told. FinishesAs before.contents told ⊎ Merged told) (λ told. FinishesAs first.contents told ⊎ Merged told) before.moments
          after.moments left.moments (λ told is. elim is [ inl stands ↦ inl (stands ∙ stood.stands) | inr done ↦ inr done ]));
    }

talked_from : {rules : List RuleValue} {meeting : Meeting} {first : SidesTold} (before : SidesTold) {after : SidesTold} {status : Status}
    {report : Report} → StaysAsItWas first.palm before.palm → StandsAsItDid first.desk before.desk → BegunSession rules meeting before after status report
    → BegunSession rules meeting first after status report
talked_from {rules} {meeting} {first} before {after} {report} stays stood talked = record {
  spoke = spoke_from stays talked.spoke;
  left = left_from stood talked.left;
  shows = talked.shows;
}

-- the desktop's folder, from before its journal was finished on
desktop_ran : {meeting : Meeting} {first : FolderTold} (before : FolderTold) {after : FolderTold} {end : SessionEnd} → before.contents ≡ option_map finished first.contents
    → StandsAsItDid first before → DesktopRan meeting before.contents before after end
    → DesktopRan meeting (option_map finished first.contents) first after end
desktop_ran {meeting} {first} before {after} finished_is stood ran =
    let same : option_map (put_all ran.entries) before.contents ≡ option_map (put_all ran.entries) (option_map finished first.contents) =
    ap (λ (t : Option FileMap). option_map (put_all ran.entries) t) finished_is in
    record {
      entries = ran.entries;
      files = ran.files;
      written = λ ended. ran.written ended ∙ same;
      stands = elim ran.stands [
        | inl stays ↦ inl (stays ∙ stood.stands)
        | inr moved ↦ inr (subst (λ (t : Option FileMap). FinishesAs t after.contents) same moved)
      ];
      between = ran.between;
      unchanged = moments_go_on (FinishesAs first.contents) first.moments before.moments ran.between stood.each_moment
          (moments_weaken (FinishesAs before.contents) (FinishesAs first.contents) before.moments ran.between ran.unchanged
          (λ told stands. stands ∙ stood.stands));
      changed = subst (λ (t : Option FileMap). EachMomentSince (FinishesAs t) ran.between after.moments) same ran.changed;
    }

-- ---- a run

pub run_judged : (run : Run) → IsJudged (run_command run) (desktop_judges run.script)
run_judged run = record {
  refuses = λ before refusal is. is;
  judged = λ before refusal is. is;
  source = λ left refusal refuses. of_script refusal refuses.is;
  folder = λ kept refusal refuses. desktop_alone refuses;
  kept = λ told refusal. keeps_same told refusal;
}

-- what the opening of the desktop's folder left of it, which finished a journal that was there
pub record IsDeskOpened (script left : Option (List ℕ)) (first desk : FolderTold) (rules : List RuleValue) (slots : List SlotValue) : Type 0 where
  pub scripted : IsScripted script left rules
  pub slots_are : IsDesk (option_map finished first.contents) slots
  pub finished_is : desk.contents ≡ option_map finished first.contents
  pub stands : StandsAsItDid first desk

-- a run with a session
pub by_run : {run : Run} (before after : CallTold) {palm desk : FolderTold} {trace : SinkTold} {rules : List RuleValue} {device : Device}
    {slots : List SlotValue} {status : Status} {report : Report} → AreOpened (run_paths run) before after.source palm desk trace device
    → IsDeskOpened run.script before.source.left before.desk desk rules slots
    → IsRunTalk run rules device slots (both_told palm desk) (sides_of after) status report → TracesReport run.trace report trace after.trace status
    → HasRun run before after status report
by_run {run} before after {palm} {desk} {rules = rules} {device} {slots} opened met talk traced =
    by_session (run_command run) before after opened (λ same memory. keeps_stood met.stands same memory) talk traced (λ had. had.talked.spoke.why.ends)
    (λ had. record {
      rules = rules;
      scripted = met.scripted;
      meeting = meeting_of device slots had.wishes;
      meets = record {
        handheld = opened.handheld;
        closed = opened.closed;
        desktop = met.slots_are;
        picked = refl;
        asked = had.asked;
      };
      changed = desktop_ran desk met.finished_is met.stands had.changed;
      talked = talked_from (both_told palm desk) opened.palm_stays met.stands had.talked;
      traced = traced_from before.trace opened.trace_taken opened.trace_later traced.traced;
    })

-- ---- whatever is printed of it

ran_retold : (run : Run) (before after : CallTold) → StaysShown (SessionRan run before after)
ran_retold run before after status other report is ran = record {
  rules = ran.rules;
  scripted = ran.scripted;
  meeting = ran.meeting;
  meets = ran.meets;
  changed = ran.changed;
  talked = talked_retold other is ran.talked;
  traced = traced_as other (retold_done other is) (retold_served other is) ran.traced;
}

pub run_printable : (run : Run) → IsPrintable (run_command run)
run_printable run = record {
  not_done = never_done (run_judged run);
  kept = λ before after status kept. record { stands = kept.stands; unread = λ unread. absurd unread };
  stays = λ before after. ran_retold run before after;
}
