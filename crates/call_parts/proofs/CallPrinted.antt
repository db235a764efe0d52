-- What is known of every call that may have a session, whatever is printed of it.
use Rattle.std.proofs.Common.{◌≡◌, ◌∙◌, inl, inr, refl, subst, sym}
use Rattle.cmd_status.specs.Printed.{IsPrintedStatus}
use Rattle.call_parts.specs.SessionCalls.{MayHaveSession, SentNothing, SessionCommand}
use Rattle.call_parts.specs.Told.{CallTold}
use Rattle.call_parts.proofs.RetoldLaws.{StaysShown, by_end_then}
use Rattle.call_parts.specs.declared.report.Report.{Report}
use Rattle.cmd_status.specs.declared.status.Status.{Status}
use Rattle.cmd_status.specs.declared.status.Status.TheVariants.{Done, OutWrite, NoMemory}

-- what is needed of a command: what is judged is never told as done, what is kept stays so where memory
-- ran out, and what is known of its session stays known
pub record IsPrintable (command : SessionCommand) : Type 0 where
  pub not_done : (before : CallTold) → command.Judged before Done → ⊥
  pub kept : (before after : CallTold) (status : Status) → command.Kept before.desk after.desk status → command.Kept before.desk after.desk NoMemory
  pub stays : (before after : CallTold) → StaysShown (command.Had before after)

module _ {command : SessionCommand} (can : IsPrintable command) {before after : CallTold} {status : Status} {report : Report} where
  sent_memory : SentNothing command before after status report → SentNothing command before after NoMemory report
  sent_memory sent = record {
    judged = inl refl;
    report_is = sent.report_is;
    handheld = sent.handheld;
    desktop = can.kept before after status sent.desktop;
    trace = sent.trace;
  }

  sent_not_done : SentNothing command before after status report → status ≡ Done → ⊥
  sent_not_done sent done = elim sent.judged [
    | inl memory ↦ let same : NoMemory ≡ Done = sym memory ∙ done in absurd (let no : ⊥ = cc in no)
    | inr judged ↦ can.not_done before (subst (λ (s : Status). command.Judged before s) done judged)
  ]

  -- one whose status can't be said for want of memory
  call_memory : MayHaveSession command before after status report → MayHaveSession command before after NoMemory report
  call_memory has = record {
    shown = by_end_then report.end {A = SentNothing command before after status report} {B = command.Had before after status report}
        {C = SentNothing command before after NoMemory report} {D = command.Had before after NoMemory report} sent_memory
        (can.stays before after status NoMemory report (inr (inl refl))) has.shown;
    blames = record {
      source = λ e. cc;
      folders = record { handheld = λ e. cc; desktop = λ e. cc };
      handheld_in_use = λ e. cc;
      desktop_in_use = λ e. cc;
      trace = λ e. cc;
    };
    opened = has.opened;
  }

  -- one that was done and can't be said because standard output failed
  call_unsaid : status ≡ Done → MayHaveSession command before after status report → MayHaveSession command before after OutWrite report
  call_unsaid done has = record {
    shown = by_end_then report.end {A = SentNothing command before after status report} {B = command.Had before after status report}
        {C = SentNothing command before after OutWrite report} {D = command.Had before after OutWrite report}
        (λ sent. absurd (sent_not_done sent done)) (can.stays before after status OutWrite report (inr (inr (done, inr refl)))) has.shown;
    blames = record {
      source = λ e. cc;
      folders = record { handheld = λ e. cc; desktop = λ e. cc };
      handheld_in_use = λ e. cc;
      desktop_in_use = λ e. cc;
      trace = λ e. cc;
    };
    opened = has.opened;
  }

  -- what is known of it stays, whatever is printed of it
  pub call_printed : (printed : Status) → IsPrintedStatus status printed → MayHaveSession command before after status report
      → MayHaveSession command before after printed report
  call_printed printed (inl same) has = subst (λ (s : Status). MayHaveSession command before after s report) (sym same) has
  call_printed printed (inr (inl memory)) has = subst (λ (s : Status). MayHaveSession command before after s report) (sym memory) (call_memory has)
  call_printed printed (inr (inr unsaid)) has =
      subst (λ (s : Status). MayHaveSession command before after s report) (sym unsaid.1) (call_unsaid unsaid.0 has)
