-- What is known of a call that brings categories together, by how it is judged and by its session, from before its folders were opened on,
-- whatever is printed of it.
use Rattle.std.proofs.Common.{◌≡◌, ◌⊎◌, ◌∙◌, inl, inr, subst, List}
use Rattle.std.specs.Option.{option_map}
use Rattle.hs_folders.specs.Moments.{EachMomentSince, Moments}
use Rattle.hs_folders.proofs.MomentLaws.{moments_go_on, moments_weaken}
use Rattle.palm_device.specs.Devices.{Device}
use Rattle.line_script.specs.Rules.{RuleValue}
use Rattle.desk_journal.specs.Overlays.{FinishesAs, finished}
use Rattle.desk_store.specs.Shelves.{SlotValue}
use Rattle.category_mirror.specs.FilingEnds.{StandsFiled}
use Rattle.category_mirror.specs.Sides.{Filing, filing_of}
use Rattle.run_words.specs.Betweens.{Between}
use Rattle.cmd_status.specs.Told.{SinkTold}
use Rattle.call_parts.specs.SessionCalls.{MayHaveSession, between_paths}
use Rattle.call_parts.specs.Judges.{desktop_judges}
use Rattle.cmd_session.specs.Filings.{CategoriesRan, FilingLeft, IsFilingTalk, StandsInSomeTurn, categories_command}
use Rattle.call_parts.specs.Stays.{StandsAsItDid}
use Rattle.call_parts.specs.Stays.{StaysAsItWas}
use Rattle.call_parts.specs.Told.{CallTold, FolderTold, SidesTold, sides_of}
use Rattle.call_parts.specs.Traces.{TracesReport}
use Rattle.call_parts.proofs.CallPrinted.{IsPrintable}
use Rattle.call_parts.proofs.JudgedCalls.{IsJudged, never_done, of_script}
use Rattle.call_parts.proofs.OpenedCalls.{AreOpened, both_told, by_session}
use Rattle.call_parts.proofs.RefusalLaws.{desktop_alone}
use Rattle.cmd_session.proofs.FilingSpoke.{filing_retold}
use Rattle.call_parts.proofs.RetoldLaws.{StaysShown}
use Rattle.call_parts.proofs.RetoldCalls.{retold_done, retold_served, traced_as}
use Rattle.cmd_session.proofs.SessionRuns.{IsDeskOpened, keeps_same, keeps_stood}
use Rattle.call_parts.proofs.EarlierLaws.{spoke_from}
use Rattle.call_parts.proofs.TraceLaws.{traced_from}
use Rattle.call_parts.specs.declared.report.Report.{Report}
use Rattle.cmd_status.specs.declared.status.Status.{Status}

-- ---- how it is judged

pub filing_judged : (words : Between) → IsJudged (categories_command words) (desktop_judges words.script)
filing_judged words = record {
  refuses = λ before refusal is. is;
  judged = λ before refusal is. is;
  source = λ left refusal refuses. of_script refusal refuses.is;
  folder = λ kept refusal refuses. desktop_alone refuses;
  kept = λ told refusal. keeps_same told refusal;
}

-- ---- a session

-- what a session left, told from before a journal was finished on
left_from : {filing : Filing} {first before after : SidesTold} {report : Report} → StaysAsItWas first.palm before.palm
    → before.desk.contents ≡ option_map finished first.desk.contents → StandsAsItDid first.desk before.desk
    → FilingLeft filing before.desk.contents before after report → FilingLeft filing (option_map finished first.desk.contents) first after report
left_from {filing} {first} {before} {after} stays finished_is stood left = record {
  sound = left.sound;
  handheld = left.handheld;
  turns = subst (λ (m : Moments). EachMomentSince (StandsInSomeTurn filing) m after.palm.moments) stays.moments left.turns;
  ended = left.ended;
  stopped = λ is. elim (left.stopped is) [ inl b ↦ inl (b ∙ stood.stands) | inr b ↦ inr b ];
  moments =
      moments_go_on (λ told. FinishesAs first.desk.contents told ⊎ StandsFiled filing told) first.desk.moments before.desk.moments after.desk.moments
      (moments_weaken (FinishesAs first.desk.contents) (λ told. FinishesAs first.desk.contents told ⊎ StandsFiled filing told) first.desk.moments
      before.desk.moments stood.each_moment (λ told stands. inl stands))
      (moments_weaken (λ told. FinishesAs before.desk.contents told ⊎ StandsFiled filing told)
      (λ told. FinishesAs first.desk.contents told ⊎ StandsFiled filing told) before.desk.moments after.desk.moments left.moments
      (λ told is. elim is [ inl stands ↦ inl (stands ∙ stood.stands) | inr done ↦ inr done ]));
  untouched = λ none. left.untouched none ∙ finished_is;
  unseated = left.unseated;
}

-- a call with a session
pub by_filing : {words : Between} (before after : CallTold) {palm desk : FolderTold} {trace : SinkTold} {rules : List RuleValue} {device : Device}
    {slots : List SlotValue} {status : Status} {report : Report} → AreOpened (between_paths words) before after.source palm desk trace device
    → IsDeskOpened words.script before.source.left before.desk desk rules slots
    → IsFilingTalk rules (filing_of device slots) (both_told palm desk) (sides_of after) status report
    → TracesReport words.trace report trace after.trace status → MayHaveSession (categories_command words) before after status report
by_filing {words} before after {palm} {desk} {rules = rules} {device} {slots} opened met talk traced =
    by_session (categories_command words) before after opened (λ same memory. keeps_stood met.stands same memory) talk traced
    (λ had. had.spoke.why.ends) (λ had. record {
      rules = rules;
      scripted = met.scripted;
      device = device;
      slots = slots;
      handheld = opened.handheld;
      closed = opened.closed;
      desktop = met.slots_are;
      had = record {
        spoke = spoke_from opened.palm_stays had.spoke;
        left = left_from {first = sides_of before} {before = both_told palm desk} {after = sides_of after} opened.palm_stays met.finished_is met.stands
            had.left;
        shows = had.shows;
      };
      traced = traced_from before.trace opened.trace_taken opened.trace_later traced.traced;
    })

-- ---- whatever is printed of it

ran_retold : (words : Between) (before after : CallTold) → StaysShown (CategoriesRan words before after)
ran_retold words before after status other report is ran = record {
  rules = ran.rules;
  scripted = ran.scripted;
  device = ran.device;
  slots = ran.slots;
  handheld = ran.handheld;
  closed = ran.closed;
  desktop = ran.desktop;
  had = filing_retold ran.rules (filing_of ran.device ran.slots) (option_map finished before.desk.contents) (sides_of before) (sides_of after)
      status other report is ran.had;
  traced = traced_as other (retold_done other is) (retold_served other is) ran.traced;
}

pub filing_printable : (words : Between) → IsPrintable (categories_command words)
filing_printable words = record {
  not_done = never_done (filing_judged words);
  kept = λ before after status kept. record { stands = kept.stands; unread = λ unread. absurd unread };
  stays = λ before after. ran_retold words before after;
}
