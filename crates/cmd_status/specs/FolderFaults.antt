-- What becomes of a call whose folder was not opened.
use Rattle.backup_files.specs.declared.fault.BackupFault.{BackupFault}
use Rattle.backup_files.specs.declared.fault.BackupFault.TheVariants as backup
use Rattle.handheld_files.specs.declared.fault.OpenFault.{OpenFault}
use Rattle.handheld_files.specs.declared.fault.OpenFault.TheVariants as opening
use Rattle.desk_store.specs.declared.fault.DeskOpenFault.{DeskOpenFault}
use Rattle.desk_store.specs.declared.fault.DeskOpenFault.TheVariants as desk_opening
use Rattle.trace_text.specs.declared.frame.End.TheVariants as end
use Rattle.cmd_status.specs.declared.status.FileSide.TheVariants as side
use Rattle.cmd_status.specs.declared.status.Status.{Status}
use Rattle.cmd_status.specs.declared.status.Status.TheVariants.{TooMany, BadFile, SameDatabase, HandheldFolder, DesktopFolder, NoMemory}

-- what a refusal to open the handheld's folder makes of a run
abbrev pub handheld_status : OpenFault → Status
handheld_status opening.Keeper = HandheldFolder
handheld_status opening.TooMany = TooMany end.Handheld
handheld_status (opening.BadFile name kind place) = BadFile side.Handheld name kind place
handheld_status opening.NoMemory = NoMemory

-- what a refusal to open the desktop's folder makes of a run
abbrev pub desktop_status : DeskOpenFault → Status
desktop_status desk_opening.DeskFault = DesktopFolder
desktop_status desk_opening.TooMany = TooMany end.Desktop
desktop_status (desk_opening.BadFile name kind place) = BadFile side.Desktop name kind place
desktop_status desk_opening.NoMemory = NoMemory

-- what a refusal to read a folder of backups makes of a restore
abbrev pub backup_status : BackupFault → Status
backup_status backup.Failed = DesktopFolder
backup_status backup.TooMany = TooMany end.Desktop
backup_status (backup.BadFile name kind place) = BadFile side.Desktop name kind place
backup_status (backup.SameDatabase first second) = SameDatabase first second
backup_status backup.NoMemory = NoMemory
