-- The folder of backups that a call hands back, or keeps in what it made.
use Rattle.std.specs.Prelude.{Result, Ok, Err}
use Rattle.cmd_files.specs.declared.backups.Backups.{Backups}

-- the folder of backups that was read, or the one that is handed back
abbrev pub backups_in : {F E : Type 0} → Result (Backups F) (E × F) → F
backups_in (Ok backups) = backups.folder
backups_in (Err refused) = refused.1
