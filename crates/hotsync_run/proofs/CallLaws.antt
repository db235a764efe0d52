-- A call whose words were not read for want of memory.
use Rattle.std.proofs.lemmas.Grind.{common_steps}
use Rattle.std.proofs.Common.{arith, ◌≡◌, ◌⊎◌, inl, inr, refl, subst, sym}
use Rattle.std.specs.Prelude.{List, None, Option, Some, length, ℕ}
use Rattle.run_words.specs.Commands.{Backup, DryRun, Emulate, Categories, Help, Install, LookAt, Make, Restore, Scan, Sync, WordTask}
use Rattle.hotsync_run.specs.Calls.{IsCall}
use Rattle.call_parts.specs.Causes.{ByEnd, HasBegun}
use Rattle.cmd_status.proofs.PrintedLaws.{printed_weaken}
use Rattle.hotsync_looks.specs.HelpTexts.{help_text}
use Rattle.call_parts.specs.DoneLines.{done_lines}
use Rattle.cmd_status.specs.Printed.{IsPrinted, IsShown}
use Rattle.cmd_status.specs.Told.{SinkTold}
use Rattle.call_parts.specs.Told.{CallTold}
use Rattle.call_parts.specs.Reports.{IsNotStarted}
use Rattle.cmd_files.specs.Backups.{backup_command}
use Rattle.hotsync_looks.specs.Looks.{IsTextIn}
use Rattle.hotsync_looks.specs.Served.{served_lines}
use Rattle.cmd_session.specs.Filings.{categories_command}
use Rattle.cmd_files.specs.Installs.{install_command}
use Rattle.cmd_files.specs.Restores.{restore_command}
use Rattle.cmd_session.specs.Runs.{run_command}
use Rattle.call_parts.specs.SessionCalls.{IsSessionCall, SentNothing, SessionCommand}
use Rattle.cmd_session.proofs.DryLaws.{dry_untouched}
use Rattle.cmd_files.proofs.EmulationLaws.{unread_emulation}
use Rattle.call_parts.proofs.RefusalLaws.{stands_same, stays_same}
use Rattle.call_parts.specs.declared.report.Report.{Report}
use Rattle.call_parts.specs.declared.report.SessionEnd.{SessionEnd}
use Rattle.cmd_status.specs.declared.status.Status.{Status}
use Rattle.cmd_status.specs.declared.status.Status.TheVariants.{NoMemory}

-- want of memory that can't be said is want of memory
pub only_memory : {status : Status} → (status ≡ NoMemory) ⊎ (status ≡ NoMemory) → status ≡ NoMemory
only_memory e = grind (arith, common_steps)

-- a command with a session that stops before an object is touched
unread_session : (command : SessionCommand) (before : CallTold) {out out_after : SinkTold} {report : Report}
    → command.Kept before.desk before.desk NoMemory → IsNotStarted report
    → IsPrinted (λ text. ⊥) out out_after NoMemory → IsSessionCall command before before out out_after NoMemory report
unread_session command before {report = report} kept is printed =
    let none : HasBegun report.end → ⊥ = λ begun. subst HasBegun is.end begun in
    let sent : SentNothing command before before NoMemory report = record {
      judged = inl refl;
      report_is = is;
      handheld = record { contents = refl; moments = refl };
      desktop = kept;
      trace = refl;
    } in
    record {
      ran = record {
        shown = subst (λ (e : SessionEnd). ByEnd e (SentNothing command before before NoMemory report) (command.Had before before NoMemory report))
            (sym is.end) sent;
        blames = record {
          source = λ e. cc;
          folders = record { handheld = λ e. cc; desktop = λ e. cc };
          handheld_in_use = λ e. cc;
          desktop_in_use = λ e. cc;
          trace = λ e. cc;
        };
        opened = record {
          handheld = inl refl;
          desktop = inl refl;
          source = inl refl;
          trace = inl refl;
          handheld_opened = λ begun. absurd (none begun);
          desktop_opened = λ begun. absurd (none begun);
          source_opened = λ begun. absurd (none begun);
          trace_opened = λ begun. absurd (none begun);
        };
      };
      printed = printed_weaken (λ text. text ≡ done_lines report.databases.items) (λ text no. absurd no) printed;
      complete = λ calm. inr (inl refl);
    }

-- a line that memory ran out, in the place of a text
unread_text : (IsText : List ℕ → Type 0) {out out_after : SinkTold} (err : SinkTold) → IsPrinted (λ text. ⊥) out out_after NoMemory
    → IsShown IsText out out_after err err NoMemory
unread_text IsText err printed = inl (record {
  ended = inr (inr refl);
  printed = printed_weaken IsText (λ text no. absurd no) printed;
  apart = refl;
})

-- what is known of a call that stops before its words are read
pub unread_call : (task : Option WordTask) (before : CallTold) {out out_after : SinkTold} (err : SinkTold) {report : Report} → IsNotStarted report
    → IsPrinted (λ text. ⊥) out out_after NoMemory → IsCall task before before out out_after err err NoMemory report
unread_call (Some (Sync run)) before err is printed =
    unread_session (run_command run) before (record { stands = stands_same refl; unread = λ unread. stays_same refl }) is printed
unread_call (Some (DryRun run)) before err is printed = dry_untouched
    (unread_session (run_command run) before (record { stands = stands_same refl; unread = λ unread. stays_same refl }) is printed)
unread_call (Some (Install words)) before err is printed = unread_session (install_command words) before refl is printed
unread_call (Some (Backup words)) before err is printed = unread_session (backup_command words) before (stays_same refl) is printed
unread_call (Some (Restore words)) before err is printed = unread_session (restore_command words) before (stays_same refl) is printed
unread_call (Some (Emulate capture)) before err {report = report} is printed = record {
  ran = unread_emulation capture before is;
  printed = printed_weaken (λ text. text ≡ served_lines (length report.performed.items)) (λ text no. absurd no) printed;
  complete = λ calm. inl refl;
}
unread_call (Some (Categories words)) before err is printed =
    unread_session (categories_command words) before (record { stands = stands_same refl; unread = λ unread. stays_same refl }) is printed
unread_call (Some (Help topic)) before err is printed = record {
  ended = inr (inr refl);
  printed = unread_text (λ text. text ≡ help_text topic) err printed;
  complete = λ calm. inr refl;
}
unread_call None before err is printed = record { ended = inr refl; printed = inl (printed, refl) }
unread_call (Some (LookAt look file)) before err is printed =
    let shown = unread_text (IsTextIn look before.source.left) err printed in
    grind (arith, common_steps, shown)
unread_call (Some (Scan bytes)) before err is printed = record {
  ended = inr (inr refl);
  printed = unread_text _ err printed;
  complete = λ calm. inr refl;
}
unread_call (Some (Make seed count)) before err is printed = grind (arith, common_steps)
