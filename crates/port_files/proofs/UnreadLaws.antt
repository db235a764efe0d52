-- A call whose words were not read for want of memory.
use Rattle.std.proofs.Common.{◌≡◌, ◌∙◌, ◌⊎◌, inl, inr, refl, subst, sym, Option, Some, None}
use Rattle.run_words.specs.Porteds.{Ported}
use Rattle.call_parts.specs.Causes.{ByEnd, HasBegun}
use Rattle.call_parts.specs.DoneLines.{done_lines}
use Rattle.call_parts.specs.declared.report.SessionEnd.{SessionEnd}
use Rattle.call_parts.proofs.RefusalLaws.{stays_same}
use Rattle.cmd_status.proofs.PrintedLaws.{printed_weaken}
use Rattle.cmd_status.specs.Printed.{IsPrinted}
use Rattle.cmd_status.specs.Told.{SinkTold}
use Rattle.cmd_status.specs.declared.status.Status.{Status}
use Rattle.cmd_status.specs.declared.status.Status.TheVariants.{NoMemory}
use Rattle.port_run.specs.Reports.{IsSilent}
use Rattle.port_run.specs.Told.{SyncTold}
use Rattle.port_run.specs.declared.synced.CableReport.{CableReport}
use Rattle.port_files.specs.Calls.{IsPortCall, PortRan, SentNothing}
use Rattle.port_files.specs.Talks.{PortCommand}

silent_call : (command : Ported → PortCommand) (words : Option Ported) (before : SyncTold) {out out_after : SinkTold} {report : CableReport} → IsSilent report
    → IsPrinted (λ text. ⊥) out out_after NoMemory → IsPortCall command words before before out out_after NoMemory report
silent_call command None before silent printed = record { ended = inr refl; same = refl; silent = silent; printed = printed }
silent_call command (Some words) before {report = report} silent printed =
    let none : HasBegun report.end → ⊥ = λ begun. subst HasBegun silent.end begun in
    let sent : SentNothing (command words) before before NoMemory report = record {
      judged = inl refl;
      silent = silent;
      port = record { given = refl; taken = refl; palm = refl };
      folder = stays_same refl;
      trace = refl;
    } in
    record {
      found = NoMemory;
      ran = record {
        shown = subst (λ (e : SessionEnd). ByEnd e (SentNothing (command words) before before NoMemory report)
            (PortRan (command words) before before NoMemory report)) (sym silent.end) sent;
        blames = record { port = λ e. cc; desktop = λ e. cc; in_use = λ e. cc; trace = λ e. cc };
        opened = record {
          port = inl refl;
          folder = inl refl;
          trace = inl refl;
          port_opened = λ begun. absurd (none begun);
          folder_opened = λ begun. absurd (none begun);
          trace_opened = λ begun. absurd (none begun);
        };
      };
      status_is = inl refl;
      printed = printed_weaken (λ text. text ≡ done_lines report.databases.items) (λ text no. absurd no) printed;
    }

only_memory : {status : Status} → (status ≡ NoMemory) ⊎ (status ≡ NoMemory) → status ≡ NoMemory
only_memory (inl e) = e
only_memory (inr e) = e

pub unread : (command : Ported → PortCommand) (words : Option Ported) (before : SyncTold) {out out_after : SinkTold} {status said : Status}
    {report : CableReport} → (status ≡ NoMemory) ⊎ (status ≡ NoMemory) → said ≡ status → IsSilent report → IsPrinted (λ text. ⊥) out out_after status
    → IsPortCall command words before before out out_after said report
unread command words before {out} {out_after} {report = report} refused same silent printed =
    let is = only_memory refused in
    subst (λ (s : Status). IsPortCall command words before before out out_after s report) (sym (same ∙ is))
    (silent_call command words before silent (subst (IsPrinted (λ text. ⊥) out out_after) is printed))
