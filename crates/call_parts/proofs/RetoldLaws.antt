-- What is known of every session stays, whatever is written or printed of it.
use Rattle.std.proofs.lemmas.Grind.{common_steps}
use Rattle.std.proofs.Common.{arith, ◌≡◌, ◌⊎◌, inl, inr, refl, subst, sym}
use Rattle.line_world.specs.Causes.{BearsOut}
use Rattle.cmd_status.specs.Printed.{IsPrintedStatus}
use Rattle.call_parts.specs.Causes.{ByEnd, EndsAs, IsFallen, IsLineDown, IsTracedStatus, IsUnsaid, cause_in}
use Rattle.call_parts.specs.LineRuns.{frames_in}
use Rattle.call_parts.specs.Sessions.{Agenda, HadSession, IsTalk, KeptSilent, Spoke}
use Rattle.call_parts.specs.Told.{FolderTold, SidesTold}
use Rattle.call_parts.specs.Whole.{StopsAnswered}
use Rattle.call_parts.proofs.StopLaws.{tells_stop}
use Rattle.call_parts.proofs.WholeLaws.{dealt_as}
use Rattle.call_parts.specs.declared.report.Report.{Report}
use Rattle.call_parts.specs.declared.report.SessionEnd.{SessionEnd}
use Rattle.call_parts.specs.declared.report.SessionEnd.TheVariants.{Ended}
use Rattle.cmd_status.specs.declared.status.Status.{Status}
use Rattle.cmd_status.specs.declared.status.Status.TheVariants.{Done, TraceWrite, OutWrite, NoMemory}

-- by how far a session came, what follows
pub by_end_then : (end : SessionEnd) {A B C D : Type 0} → (A → C) → (B → D) → ByEnd end A B → ByEnd end C D
by_end_then end not began is = grind (arith, common_steps)

-- one fact that both lead to
pub by_end_both : (end : SessionEnd) {A B C : Type 0} → (A → C) → (B → C) → ByEnd end A B → C
by_end_both end not began is = grind (arith, common_steps)

-- ---- a status that is told in place of another one

-- the same, or that memory ran out, or that what was done could not be written or said
abbrev pub IsRetold : Status → Status → Type 0
IsRetold status other = (other ≡ status) ⊎ (other ≡ NoMemory) ⊎ ((status ≡ Done) × ((other ≡ TraceWrite) ⊎ (other ≡ OutWrite)))

pub retold_traced : {status : Status} (traced : Status) → IsTracedStatus status traced → IsRetold status traced
retold_traced traced (inl same) = inl same
retold_traced traced (inr (inl memory)) = inr (inl memory)
retold_traced traced (inr (inr untold)) = inr (inr (untold.0, inl untold.1))

pub retold_printed : {status : Status} (printed : Status) → IsPrintedStatus status printed → IsRetold status printed
retold_printed printed (inl same) = inl same
retold_printed printed (inr (inl memory)) = inr (inl memory)
retold_printed printed (inr (inr unsaid)) = inr (inr (unsaid.0, inr unsaid.1))

-- it shows what the other one showed
abbrev pub StaysShown : (Status → Report → Type 0) → Type 0
StaysShown Shows = (status other : Status) (report : Report) → IsRetold status other → Shows status report → Shows other report

-- ---- a session

-- what is known of a session under another status
spoke_as : {agenda : Agenda} {before after : FolderTold} {status other : Status} {report : Report}
    → (spoke : Spoke agenda before after status report) → EndsAs other report.end
    → BearsOut (cause_in other report.faulted.items) (frames_in report) → (IsLineDown other → ⊥) → (IsFallen other → ⊥) → (StopsAnswered other → ⊥)
    → (report.end ≡ Ended) ⊎ (other ≡ NoMemory) → Spoke agenda before after other report
spoke_as {other} spoke ends caused up stands free over = record {
  line = spoke.line;
  issued = spoke.issued;
  why = record {
    ends = ends;
    caused = caused;
    stops = tells_stop other (record {
      ends = ends;
      caused = caused;
      dealt = dealt_as up stands free over spoke.dealt;
      some = λ stops. absurd (free stops);
      acked = spoke.line.acked;
    });
    fair = λ fair. up;
    faulted = spoke.why.faulted;
  };
  dealt = dealt_as up stands free over spoke.dealt;
  stopped = spoke.stopped;
  front = spoke.front;
  fronts = spoke.fronts;
}

module _ {agenda : Agenda} {before after : FolderTold} {status : Status} {report : Report} (spoke : Spoke agenda before after status report) where
  spoke_memory : Spoke agenda before after NoMemory report
  spoke_memory = spoke_as spoke tt tt (λ is. is) (λ is. is) (λ is. is) (inr refl)

  spoke_done : status ≡ Done → report.end ≡ Ended
  spoke_done done = subst (λ (s : Status). EndsAs s report.end) done spoke.why.ends

  spoke_untold : status ≡ Done → Spoke agenda before after TraceWrite report
  spoke_untold done = let ended = spoke_done done in spoke_as spoke ended tt (λ is. is) (λ is. is) (λ is. is) (inl ended)

  spoke_unsaid : status ≡ Done → Spoke agenda before after OutWrite report
  spoke_unsaid done = let ended = spoke_done done in spoke_as spoke ended tt (λ is. is) (λ is. is) (λ is. is) (inl ended)

  pub spoke_retold : (other : Status) → IsRetold status other → Spoke agenda before after other report
  spoke_retold other (inl same) = subst (λ (s : Status). Spoke agenda before after s report) (sym same) spoke
  spoke_retold other (inr (inl memory)) = subst (λ (s : Status). Spoke agenda before after s report) (sym memory) spoke_memory
  spoke_retold other (inr (inr (done, inl untold))) = subst (λ (s : Status). Spoke agenda before after s report) (sym untold) (spoke_untold done)
  spoke_retold other (inr (inr (done, inr unsaid))) = subst (λ (s : Status). Spoke agenda before after s report) (sym unsaid) (spoke_unsaid done)

-- with what it left and what its status shows
pub had_retold : {Left : Report → Type 0} {Shows : Status → Report → Type 0} {agenda : Agenda} {before after : FolderTold} {status : Status}
    (other : Status) {report : Report} → StaysShown Shows → IsRetold status other → HadSession Left Shows agenda before after status report
    → HadSession Left Shows agenda before after other report
had_retold {status = status} other {report} stays is had = record {
  spoke = spoke_retold had.spoke other is;
  left = had.left;
  shows = stays status other report is had.shows;
}

-- ---- its trace

memory_traced : {status : Status} (traced : Status) → IsTracedStatus status traced → status ≡ NoMemory → traced ≡ NoMemory
memory_traced traced e memory = grind (arith, common_steps)

folder_traced : (status : Status) {traced blamed : Status} → IsTracedStatus status traced → (blamed ≡ NoMemory → ⊥) → (blamed ≡ TraceWrite → ⊥)
    → traced ≡ blamed → status ≡ blamed
folder_traced status e not_memory not_trace is = grind (arith, common_steps)

pub unprinted_traced : (status traced : Status) → IsUnsaid status → IsTracedStatus status traced → traced ≡ OutWrite → ⊥
unprinted_traced status traced unsaid e is = grind (arith, common_steps)

-- a session, and then its trace
pub talk_traced : {Had : Status → Report → Type 0} {before after : SidesTold} {status : Status} (traced : Status) {report : Report} → StaysShown Had
    → IsTalk Had before after status report → IsTracedStatus status traced → IsTalk Had before after traced report
talk_traced {Had} {before} {after} {status} traced {report} stays talk is = record {
  shown = by_end_then report.end {A = KeptSilent before after status report} {B = Had status report} {C = KeptSilent before after traced report}
      {D = Had traced report} (λ kept. record {
        memory = memory_traced traced is kept.memory;
        report_is = kept.report_is;
        handheld = kept.handheld;
        desktop = kept.desktop;
      }) (stays status traced report (retold_traced traced is)) talk.shown;
  blames = record {
    handheld = λ e. talk.blames.handheld (folder_traced status is (λ f. cc) (λ f. cc) e);
    desktop = λ e. talk.blames.desktop (folder_traced status is (λ f. cc) (λ f. cc) e);
  };
  paths = talk.paths;
}
