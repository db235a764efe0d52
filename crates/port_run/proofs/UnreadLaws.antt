-- Calls whose words were not read for want of memory.
use Rattle.std.proofs.Common.{◌≡◌, ◌∙◌, ◌⊎◌, inl, inr, refl, subst, sym, Option, Some, None}
use Rattle.std.specs.Prelude.{length}
use Rattle.run_words.specs.Cables.{Cable}
use Rattle.run_words.specs.Docks.{Dock}
use Rattle.call_parts.specs.Causes.{ByEnd, HasBegun}
use Rattle.call_parts.specs.declared.report.SessionEnd.{SessionEnd}
use Rattle.call_parts.proofs.RefusalLaws.{stands_same, stays_same}
use Rattle.cmd_status.proofs.PrintedLaws.{printed_weaken}
use Rattle.cmd_status.specs.Printed.{IsPrinted}
use Rattle.cmd_status.specs.Told.{SinkTold}
use Rattle.cmd_status.specs.declared.status.Status.{Status}
use Rattle.cmd_status.specs.declared.status.Status.TheVariants.{NoMemory}
use Rattle.hotsync_looks.specs.Served.{served_lines}
use Rattle.port_run.specs.Docks.{IsDockCall, IsIdle}
use Rattle.port_run.specs.Reports.{IsSilent}
use Rattle.port_run.specs.Syncs.{IsSyncCall, SentNothing, SessionRan, synced_lines}
use Rattle.port_run.specs.Told.{DockTold, SyncTold}
use Rattle.port_run.specs.declared.dock_report.DockReport.{DockReport}
use Rattle.port_run.specs.declared.synced.CableReport.{CableReport}

silent_sync : (cable : Option Cable) (before : SyncTold) {out out_after : SinkTold} {report : CableReport} → IsSilent report
    → IsPrinted (λ text. ⊥) out out_after NoMemory → IsSyncCall cable before before out out_after NoMemory report
silent_sync None before silent printed = record { ended = inr refl; same = refl; silent = silent; printed = printed }
silent_sync (Some cable) before {report = report} silent printed =
    let none : HasBegun report.end → ⊥ = λ begun. subst HasBegun silent.end begun in
    let sent : SentNothing cable before before NoMemory report = record {
      judged = inl refl;
      silent = silent;
      port = record { given = refl; taken = refl; palm = refl };
      desktop = stands_same refl;
      unread = λ unread. stays_same refl;
      trace = refl;
    } in
    record {
      found = NoMemory;
      ran = record {
        shown = subst (λ (e : SessionEnd). ByEnd e (SentNothing cable before before NoMemory report) (SessionRan cable before before NoMemory report))
            (sym silent.end) sent;
        blames = record { port = λ e. cc; desktop = λ e. cc; in_use = λ e. cc; trace = λ e. cc };
        opened = record {
          port = inl refl;
          desktop = inl refl;
          trace = inl refl;
          port_opened = λ begun. absurd (none begun);
          desktop_opened = λ begun. absurd (none begun);
          trace_opened = λ begun. absurd (none begun);
        };
      };
      status_is = inl refl;
      printed = printed_weaken (λ text. text ≡ synced_lines cable report.databases.items) (λ text no. absurd no) printed;
    }

idle_dock : (dock : Option Dock) (before : DockTold) {out out_after : SinkTold} {report : DockReport} → IsIdle report
    → IsPrinted (λ text. ⊥) out out_after NoMemory → IsDockCall dock before before out out_after NoMemory report
idle_dock None before idle printed = record { ended = inr refl; same = refl; idle = idle; printed = printed }
idle_dock (Some dock) before {report = report} idle printed = record {
  found = NoMemory;
  ran = record {
    shown = inl (record {
      judged = inl (inl (inr (inr refl)));
      idle = idle;
      handheld = record { contents = refl; moments = refl };
      port = record { given = refl; taken = refl; palm = refl };
      trace = refl;
    });
    opened = record { handheld = inl refl; port = inl refl; trace = inl refl };
    blames = record { handheld = λ e. cc; in_use = λ e. cc; port = λ e. cc; trace = λ e. cc };
  };
  status_is = inl refl;
  printed = printed_weaken (λ text. text ≡ served_lines (length report.performed.items)) (λ text no. absurd no) printed;
}

-- the status of a refusal that was printed is want of memory too
only_memory : {status : Status} → (status ≡ NoMemory) ⊎ (status ≡ NoMemory) → status ≡ NoMemory
only_memory (inl e) = e
only_memory (inr e) = e

pub unread_sync : (cable : Option Cable) (before : SyncTold) {out out_after : SinkTold} {status said : Status} {report : CableReport} → (status ≡ NoMemory) ⊎ (status ≡ NoMemory)
    → said ≡ status → IsSilent report → IsPrinted (λ text. ⊥) out out_after status → IsSyncCall cable before before out out_after said report
unread_sync cable before {out} {out_after} {report = report} refused same silent printed =
    let is = only_memory refused in
    subst (λ (s : Status). IsSyncCall cable before before out out_after s report) (sym (same ∙ is))
    (silent_sync cable before silent (subst (IsPrinted (λ text. ⊥) out out_after) is printed))

pub unread_dock : (dock : Option Dock) (before : DockTold) {out out_after : SinkTold} {status said : Status} {report : DockReport} → (status ≡ NoMemory) ⊎ (status ≡ NoMemory)
    → said ≡ status → IsIdle report → IsPrinted (λ text. ⊥) out out_after status → IsDockCall dock before before out out_after said report
unread_dock dock before {out} {out_after} {report = report} refused same idle printed =
    let is = only_memory refused in
    subst (λ (s : Status). IsDockCall dock before before out out_after s report) (sym (same ∙ is))
    (idle_dock dock before idle (subst (IsPrinted (λ text. ⊥) out out_after) is printed))
