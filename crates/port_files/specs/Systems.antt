-- A backup of the handheld at a port, over the port, folder, file and standard output of the
-- system.
use Rattle.std.specs.Prelude.{◌&&◌, ◌≡◌, ℕ, Bool, List, Option, codes, is_none}
use Rattle.run_words.specs.Helps.{help_of, names_port}
use Rattle.run_words.specs.Porteds.{Ported}
use Rattle.cmd_status.specs.Codes.{code_of}
use Rattle.cmd_status.specs.Told.{SinkTold}
use Rattle.cmd_status.specs.declared.status.Status.{Status}
use Rattle.port_run.specs.Systems.{AreUntold}
use Rattle.port_run.specs.Told.{SyncTold}
use Rattle.port_run.specs.declared.synced.CableReport.{CableReport}
use Rattle.port_files.specs.Backups.{backup_command}
use Rattle.port_files.specs.Calls.{IsPortCall}

-- the words ask for a backup of the handheld at a port, and not for help
abbrev pub asks_ported : List (List ℕ) → Bool
asks_ported words = names_port (codes "backup") words && is_none (help_of words)

-- a call for this backup, over objects that tell nothing, ended with this exit status
pub record IsSystemBackup (words : Option Ported) (code : ℕ) : Type 0 where
  pub before : SyncTold
  pub after : SyncTold
  pub out : SinkTold
  pub out_after : SinkTold
  pub untold : AreUntold before out
  pub status : Status
  pub report : CableReport
  pub called : IsPortCall backup_command words before after out out_after status report
  pub code_is : code ≡ code_of status
