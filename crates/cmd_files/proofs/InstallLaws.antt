-- What holds of an installing of one database that is not read-only.
use Rattle.std.proofs.Common.{◌≡◌, ◌∙◌, ap, refl, subst, ℕ, Bool, true, false, cond, List, [], ◌∷◌}
use Rattle.std.specs.Prelude.{None, Some, not}
use Rattle.pdb_values.specs.Databases.{DatabaseValue}
use Rattle.pdb_values.specs.Heads.{is_read_only}
use Rattle.palm_device.specs.Devices.{Device}
use Rattle.handheld_files.specs.Openings.{Stands}
use Rattle.session_parts.specs.declared.report.DbReport.{DbReport}
use Rattle.session_parts.specs.declared.report.Did.TheVariants.{Installed, Skipped}
use Rattle.session_parts.specs.declared.skip.Skip.TheVariants.{ReadOnly}
use Rattle.install_backup.specs.Installed.{with_installed}
use Rattle.install_backup.specs.InstallActs.{install_mark, is_installable, written_count}
use Rattle.install_backup.specs.Marks.{marked_user}
use Rattle.install_backup.specs.Rooms.{has_room}
use Rattle.cmd_files.specs.Installs.{EndedInstall}
use Rattle.cmd_files.specs.Loads.{EndedLoad}
use Rattle.call_parts.specs.Told.{FolderTold}
use Rattle.call_parts.specs.declared.report.Report.{Report}

-- whether it has room, by the first of a list of one that has none
room_of : (b c : Bool) (name : List ℕ) → b ≡ true → cond b (cond c None (Some name)) None ≡ None → c ≡ true
room_of true true name is none = refl
room_of true false name is none = cc
room_of false c name is none = absurd cc

pub full_of : (b c : Bool) (name other : List ℕ) → cond b (cond c None (Some name)) None ≡ Some other → c ≡ false
full_of true true name other some = cc
full_of true false name other some = refl
full_of false c name other some = cc

-- what is told of a database that is installed, or that is not
abbrev report_by : DatabaseValue → Bool → DbReport
report_by database b = record { name = database.head.name; did = cond b (Installed (written_count database)) (Skipped ReadOnly) }

-- the end of its session is that of one that installs a list of one
pub ended_install : {device : Device} {database : DatabaseValue} {palm_after : FolderTold} {report : Report} → is_read_only database.head.attributes ≡ false
    → EndedLoad (install_mark database) device (database ∷ []) palm_after report → EndedInstall device database palm_after report
ended_install {device} {database} {palm_after} writable over =
    let is : is_installable database ≡ true = ap not writable in
    record {
      room = room_of (is_installable database) (has_room database.head.name device.databases) database.head.name is over.room;
      said = over.said;
      handheld = subst (λ (b : Bool). Stands palm_after.contents (cond b (with_installed database device.databases) device.databases)
          (marked_user (install_mark database) device.user)) is over.handheld;
      told = over.told ∙ ap (λ (b : Bool). report_by database b ∷ []) is;
    }
