-- What is known of a call that is refused before its session, by what is judged, whatever its command is.
use Rattle.std.proofs.Common.{◌≡◌, ◌⊎◌, ap, inl, inr, refl, subst, sym, ℕ, List}
use Rattle.std.specs.Prelude.{Option}
use Rattle.hs_folders.specs.Causes.{Rose}
use Rattle.hs_folders.specs.FileMaps.{FileMap}
use Rattle.trace_text.specs.declared.frame.End.{End}
use Rattle.trace_text.specs.declared.frame.End.TheVariants as line_end
use Rattle.cmd_status.specs.Opening.{OpensGivenAtMost}
use Rattle.call_parts.specs.Judges.{Judges, Refuses}
use Rattle.call_parts.specs.Refusals.{HandheldRefuses, HasHandheld, IsDesktopFailure, TraceRefuses}
use Rattle.call_parts.specs.Reports.{IsNotStarted}
use Rattle.call_parts.specs.Scripts.{IsScriptRefusal}
use Rattle.call_parts.specs.SessionCalls.{MayHaveSession, SessionCommand}
use Rattle.call_parts.specs.Stays.{StaysAsItWas}
use Rattle.call_parts.specs.Told.{CallTold, FolderTold}
use Rattle.call_parts.specs.Undisturbed.{IsGoodHandheld}
use Rattle.call_parts.proofs.RefusedCalls.{refused_call}
use Rattle.call_parts.proofs.RefusalLaws.{IsDesktopAlone, handheld_alone, script_alone, stays_same, trace_alone}
use Rattle.call_parts.proofs.UndisturbedLaws.{BlamesNone, failed_desktop, failed_handheld, judged_handheld}
use Rattle.call_parts.specs.declared.report.Report.{Report}
use Rattle.cmd_status.specs.declared.status.Status.{Status}
use Rattle.cmd_status.specs.declared.status.Status.TheVariants.{Done, HandheldFolder, DesktopFolder, SourceRead, TraceWrite, NoMemory, InUse}

-- a refusal of the source is no other one
pub record IsSourceAlone (refusal : Status) : Type 0 where
  pub handheld : refusal ≡ HandheldFolder → ⊥
  pub desktop : refusal ≡ DesktopFolder → ⊥
  pub trace : refusal ≡ TraceWrite → ⊥
  pub done : refusal ≡ Done → ⊥
  pub in_use : (end : End) → refusal ≡ InUse end → ⊥

pub of_script : (refusal : Status) → IsScriptRefusal refusal → IsSourceAlone refusal
of_script refusal is =
    let alone = script_alone refusal is in
    record { handheld = alone.handheld; desktop = alone.desktop; trace = alone.trace; done = alone.done; in_use = alone.in_use }

-- A command is judged so: what either of its judges refuses blames nothing else, and what is kept of
-- the other folder is where it was not touched.
pub record IsJudged (command : SessionCommand) (judges : Judges) : Type 0 where
  pub refuses : (before : CallTold) (refusal : Status) → Refuses judges command.paths.trace before refusal → command.Judged before refusal
  pub judged : (before : CallTold) (refusal : Status) → command.Judged before refusal → Refuses judges command.paths.trace before refusal
  pub source : (left : Option (List ℕ)) (refusal : Status) → judges.SourceRefuses left refusal → IsSourceAlone refusal
  pub folder : (kept : Option FileMap) (refusal : Status) → judges.FolderRefuses kept refusal → IsDesktopAlone refusal
  pub kept : (told : FolderTold) (refusal : Status) → command.Kept told told refusal

module _ {command : SessionCommand} {judges : Judges} (by : IsJudged command judges) where
  -- what is judged is never told as done
  pub never_done : (before : CallTold) → command.Judged before Done → ⊥
  never_done before is = none (by.judged before Done is)
    where
      none : Refuses judges command.paths.trace before Done → ⊥
      none (inl refuses) = (by.source before.source.left Done refuses).done refl
      none (inr (_, inl refuses)) = (handheld_alone refuses).done refl
      none (inr (_, inr (_, inl refuses))) = (by.folder before.desk.contents Done refuses).done refl
      none (inr (_, inr (_, inr (_, refuses)))) = (trace_alone Done refuses.is).done refl

  -- good objects of which none failed refuse nothing but for want of memory
  pub refuses_none : (before : CallTold) {status : Status} → IsGoodHandheld before.palm.contents
      → (judges.SourceRefuses before.source.left status → (status ≡ SourceRead) ⊎ (status ≡ NoMemory))
      → (judges.FolderRefuses before.desk.contents status → IsDesktopFailure status) → BlamesNone status → command.Judged before status → status ≡ NoMemory
  refuses_none before {status} good source folder blames is = none (by.judged before status is)
    where
      none : Refuses judges command.paths.trace before status → status ≡ NoMemory
      none (inl refuses) = elim (source refuses) [ inl e ↦ absurd (blames.source e) | inr e ↦ e ]
      none (inr (_, inl refuses)) = failed_handheld blames (judged_handheld good refuses)
      none (inr (_, inr (_, inl refuses))) = failed_desktop blames (folder refuses)
      none (inr (_, inr (_, inr (_, refuses)))) = elim refuses.is [ inl e ↦ absurd (blames.trace e) | inr e ↦ e ]

module _ {command : SessionCommand} {judges : Judges} (by : IsJudged command judges) (before after : CallTold) {report : Report}
    (is : IsNotStarted report) where
  untouched : (refusal : Status) → after.desk ≡ before.desk → command.Kept before.desk after.desk refusal
  untouched refusal same = subst (λ (told : FolderTold). command.Kept before.desk told refusal) (sym same) (by.kept before.desk refusal)

  -- one whose source refuses it
  pub by_source : {refusal : Status} → judges.SourceRefuses before.source.left refusal
      → (refusal ≡ SourceRead → Rose before.source.faults after.source.faults) → OpensGivenAtMost command.paths.source before.source.paths after.source.paths
      → after.palm ≡ before.palm → after.desk ≡ before.desk → after.trace ≡ before.trace → MayHaveSession command before after refusal report
  by_source {refusal} refuses failed opened palm desk trace =
      let alone = by.source before.source.left refusal refuses in
      refused_call command (record {
        judged = inr (by.refuses before refusal (inl refuses));
        report_is = is;
        handheld = stays_same palm;
        desktop = untouched refusal desk;
        trace = ap (λ told. told.taken) trace;
      }) (record {
        source = failed;
        folders = record { handheld = λ e. absurd (alone.handheld e); desktop = λ e. absurd (alone.desktop e) };
        handheld_in_use = λ e. absurd (alone.in_use line_end.Handheld e);
        desktop_in_use = λ e. absurd (alone.in_use line_end.Desktop e);
        trace = λ e. absurd (alone.trace e);
      }) (record {
        handheld = inl (ap (λ told. told.paths) palm);
        desktop = inl (ap (λ told. told.paths) desk);
        source = opened;
        trace = inl (ap (λ told. told.paths) trace);
      })

  -- one whose handheld refuses it
  pub by_handheld : {refusal : Status} → judges.HasSource before.source.left → HandheldRefuses before.palm.contents refusal
      → (refusal ≡ HandheldFolder → Rose before.palm.faults after.palm.faults)
      → (refusal ≡ InUse line_end.Handheld → Rose before.palm.faults after.palm.faults)
      → OpensGivenAtMost command.paths.source before.source.paths after.source.paths → StaysAsItWas before.palm after.palm
      → OpensGivenAtMost command.paths.handheld before.palm.paths after.palm.paths → after.desk ≡ before.desk → after.trace ≡ before.trace
      → MayHaveSession command before after refusal report
  by_handheld {refusal} source refuses failed in_use opened stays path desk trace =
      let alone = handheld_alone refuses in
      refused_call command (record {
        judged = inr (by.refuses before refusal (inr (source, inl refuses)));
        report_is = is;
        handheld = stays;
        desktop = untouched refusal desk;
        trace = ap (λ told. told.taken) trace;
      }) (record {
        source = λ e. absurd (alone.source e);
        folders = record { handheld = failed; desktop = λ e. absurd (alone.desktop e) };
        handheld_in_use = in_use;
        desktop_in_use = λ e. absurd (alone.in_use e);
        trace = λ e. absurd (alone.trace e);
      }) (record {
        handheld = path;
        desktop = inl (ap (λ told. told.paths) desk);
        source = opened;
        trace = inl (ap (λ told. told.paths) trace);
      })

  -- one whose other folder refuses it
  pub by_folder : {refusal : Status} → judges.HasSource before.source.left → HasHandheld before.palm.contents
      → judges.FolderRefuses before.desk.contents refusal → (refusal ≡ DesktopFolder → Rose before.desk.faults after.desk.faults)
      → (refusal ≡ InUse line_end.Desktop → Rose before.desk.faults after.desk.faults)
      → OpensGivenAtMost command.paths.source before.source.paths after.source.paths → StaysAsItWas before.palm after.palm
      → OpensGivenAtMost command.paths.handheld before.palm.paths after.palm.paths → command.Kept before.desk after.desk refusal
      → OpensGivenAtMost command.paths.desktop before.desk.paths after.desk.paths → after.trace ≡ before.trace
      → MayHaveSession command before after refusal report
  by_folder {refusal} source handheld refuses failed in_use opened stays path kept desk_path trace =
      let alone = by.folder before.desk.contents refusal refuses in
      refused_call command (record {
        judged = inr (by.refuses before refusal (inr (source, inr (handheld, inl refuses))));
        report_is = is;
        handheld = stays;
        desktop = kept;
        trace = ap (λ told. told.taken) trace;
      }) (record {
        source = λ e. absurd (alone.source e);
        folders = record { handheld = λ e. absurd (alone.handheld e); desktop = failed };
        handheld_in_use = λ e. absurd (alone.in_use e);
        desktop_in_use = in_use;
        trace = λ e. absurd (alone.trace e);
      }) (record {
        handheld = path;
        desktop = desk_path;
        source = opened;
        trace = inl (ap (λ told. told.paths) trace);
      })

  -- one whose trace was not opened
  pub by_trace : {refusal : Status} → judges.HasSource before.source.left → HasHandheld before.palm.contents → judges.HasFolder before.desk.contents
      → TraceRefuses command.paths.trace refusal → (refusal ≡ TraceWrite → Rose before.trace.faults after.trace.faults)
      → OpensGivenAtMost command.paths.source before.source.paths after.source.paths → StaysAsItWas before.palm after.palm
      → OpensGivenAtMost command.paths.handheld before.palm.paths after.palm.paths → command.Kept before.desk after.desk refusal
      → OpensGivenAtMost command.paths.desktop before.desk.paths after.desk.paths
      → OpensGivenAtMost command.paths.trace before.trace.paths after.trace.paths → after.trace.taken ≡ before.trace.taken
      → MayHaveSession command before after refusal report
  by_trace {refusal} source handheld folder refuses failed opened stays path kept desk_path trace_path taken =
      let alone = trace_alone refusal refuses.is in
      refused_call command (record {
        judged = inr (by.refuses before refusal (inr (source, inr (handheld, inr (folder, refuses)))));
        report_is = is;
        handheld = stays;
        desktop = kept;
        trace = taken;
      }) (record {
        source = λ e. absurd (alone.source e);
        folders = record { handheld = λ e. absurd (alone.handheld e); desktop = λ e. absurd (alone.desktop e) };
        handheld_in_use = λ e. absurd (alone.in_use line_end.Handheld e);
        desktop_in_use = λ e. absurd (alone.in_use line_end.Desktop e);
        trace = failed;
      }) (record {
        handheld = path;
        desktop = desk_path;
        source = opened;
        trace = trace_path;
      })
