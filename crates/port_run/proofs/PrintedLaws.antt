-- Which lines a session over a cable prints.
use Rattle.std.proofs.Common.{◌≡◌, Bool, true, false, List, ℕ, subst, sym}
use Rattle.std.specs.Prelude.{is_some, if◌then◌else◌}
use Rattle.session_parts.specs.declared.report.DbReport.{DbReport}
use Rattle.run_words.specs.Cables.{Cable, only_of}
use Rattle.cmd_status.specs.Printed.{IsPrinted}
use Rattle.cmd_status.specs.Told.{SinkTold}
use Rattle.cmd_status.specs.declared.status.Status.{Status}
use Rattle.call_parts.specs.DoneLines.{done_lines}
use Rattle.call_parts.specs.TouchedLines.{touched_lines}
use Rattle.port_run.specs.Syncs.{synced_lines}

pub printed_some : (cable : Cable) (databases : List DbReport) (out after : SinkTold) (status : Status)
    → IsPrinted (λ text. text ≡ touched_lines databases) out after status → is_some (only_of cable) ≡ true
    → IsPrinted (λ text. text ≡ synced_lines cable databases) out after status
printed_some cable databases out after status printed some =
    subst (λ (b : Bool). IsPrinted (λ text. text ≡ (if b then touched_lines databases else done_lines databases)) out after status) (sym some) printed

pub printed_all : (cable : Cable) (databases : List DbReport) (out after : SinkTold) (status : Status)
    → IsPrinted (λ text. text ≡ done_lines databases) out after status → is_some (only_of cable) ≡ false
    → IsPrinted (λ text. text ≡ synced_lines cable databases) out after status
printed_all cable databases out after status printed none =
    subst (λ (b : Bool). IsPrinted (λ text. text ≡ (if b then touched_lines databases else done_lines databases)) out after status) (sym none) printed
