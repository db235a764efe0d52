-- A session that installs databases, over a kind line and with room for all of them, is done whole.
use Rattle.std.proofs.Common.{◌≡◌, List, ℕ, length}
use Rattle.std.specs.Prelude.{Some}
use Rattle.pdb_values.specs.Databases.{DatabaseValue}
use Rattle.palm_device.specs.Devices.{Device}
use Rattle.line_script.specs.Rules.{RuleValue}
use Rattle.install_backup.specs.declared.mark.Mark.{Mark}
use Rattle.install_backup.specs.InstallEnds.{first_full}
use Rattle.cmd_files.specs.Loads.{HadLoad, LoadShows}
use Rattle.call_parts.proofs.WellLaws.{IsOwnStop, session_well}
use Rattle.call_parts.specs.LineRuns.{frames_in}
use Rattle.call_parts.specs.Told.{FolderTold}
use Rattle.call_parts.specs.Undisturbed.{EndsWell, IsKindScript}
use Rattle.call_parts.proofs.UndisturbedLaws.{BlamesNone}
use Rattle.call_parts.specs.declared.report.Report.{Report}
use Rattle.cmd_status.specs.declared.status.Status.{Status}
use Rattle.cmd_status.specs.declared.status.Status.TheVariants.{OtherUser, TooManyUsers, Limit, NewHandheld}

-- it stops for nothing that it finds but want of room
only_full : (mark : Mark) (device : Device) (databases : List DatabaseValue) (palm_after : FolderTold) (report : Report) (status : Status)
    → LoadShows mark device databases palm_after report status → ((name : List ℕ) → first_full databases device.databases ≡ Some name → ⊥)
    → IsOwnStop status → ⊥
only_full mark device databases palm_after report (OtherUser handheld desktop) shows room own = shows
only_full mark device databases palm_after report TooManyUsers shows room own = shows
only_full mark device databases palm_after report (Limit name) shows room own = room name shows.first
only_full mark device databases palm_after report (NewHandheld name) shows room own = shows
only_full mark device databases palm_after report _ shows room own = own

pub load_well : {rules : List RuleValue} {mark : Mark} {device : Device} {databases : List DatabaseValue} {before after : FolderTold} {status : Status}
    {report : Report} → HadLoad rules mark device databases before after status report → IsKindScript rules (length (frames_in report))
    → ((name : List ℕ) → first_full databases device.databases ≡ Some name → ⊥) → BlamesNone status → EndsWell status report
load_well {mark = mark} {device} {databases} {after = after} {status = status} {report} had kind room blames =
    session_well had.spoke kind blames
    (only_full mark device databases after report status had.shows.status_is room)
