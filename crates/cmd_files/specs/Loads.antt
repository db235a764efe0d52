-- What holds of every session that installs databases on a handheld behind a mark, wherever they
-- come from.
use Rattle.std.specs.Prelude.{◌≡◌, ◌⊎◌, ⊤, ℕ, List, ◌∷◌, ◌++◌, map, None, Some, if◌then◌else◌}
use Rattle.hs_folders.specs.Moments.{EachMomentSince}
use Rattle.pdb_values.specs.Databases.{DatabaseValue}
use Rattle.pdb_values.specs.declared.user.UserInfo.{UserInfo}
use Rattle.palm_device.specs.Devices.{Device}
use Rattle.handheld_files.specs.Openings.{Stands}
use Rattle.line_script.specs.Rules.{RuleValue}
use Rattle.desktop_session.specs.Acts.{Act, text}
use Rattle.session_parts.specs.declared.report.DbReport.{DbReport}
use Rattle.session_parts.specs.declared.report.Did.TheVariants.{Installed, Skipped}
use Rattle.session_parts.specs.declared.skip.Skip.TheVariants.{ReadOnly}
use Rattle.install_backup.specs.declared.mark.Mark.{Mark}
use Rattle.install_backup.specs.InstallActs.{install_acts, installs_of, is_installable, written_count}
use Rattle.install_backup.specs.InstallEnds.{all_installed, first_full}
use Rattle.install_backup.specs.Installs.{making_acts}
use Rattle.install_backup.specs.Marks.{marked_greeting, marked_user}
use Rattle.cmd_status.specs.declared.status.Status.{Status}
use Rattle.cmd_status.specs.declared.status.Status.TheVariants.{DesktopFolder, Limit, NewHandheld, OtherUser, TooManyUsers}
use Rattle.cmd_files.specs.Besides.{StandsBeside}
use Rattle.call_parts.specs.Causes.{IsCutShort}
use Rattle.call_parts.specs.LineRuns.{SaidAll}
use Rattle.call_parts.specs.Sessions.{Agenda, HadSession, IsTalk}
use Rattle.call_parts.specs.Told.{FolderTold, SidesTold}
use Rattle.call_parts.specs.declared.report.Report.{Report}
use Rattle.call_parts.specs.declared.report.SessionEnd.TheVariants.{Ended}

-- the session: the rules of its line, the handheld, and all of its requests
abbrev pub load_agenda : List RuleValue → Mark → Device → List DatabaseValue → Agenda
load_agenda rules mark device databases = record {
  rules = rules;
  device = device;
  asked = map text (install_acts mark device.user databases);
}

-- what is told of a database: how many of its entries were installed, or that it is read-only
abbrev pub load_report : DatabaseValue → DbReport
load_report database = record {
  name = database.head.name;
  did =
      if is_installable database then Installed (written_count database) else Skipped ReadOnly;
}

-- It ended: each of its requests was issued and performed, and none else; the handheld's folder
-- stands for its databases with each of these that is not read-only in place of the one of its
-- name, and for its user with the mark; and each is told.
pub record EndedLoad (mark : Mark) (device : Device) (databases : List DatabaseValue)
    (palm_after : FolderTold) (report : Report) : Type 0 where
  pub room : first_full databases device.databases ≡ None
  pub said : SaidAll (map text (install_acts mark device.user databases)) report
  pub handheld : Stands palm_after.contents (all_installed databases device.databases)
      (marked_user mark device.user)
  pub told : report.databases.items ≡ map load_report databases

-- what it leaves where it ended, and however it ended, at each moment
pub record LoadLeft (mark : Mark) (device : Device) (databases : List DatabaseValue)
    (before after : FolderTold) (report : Report) : Type 0 where
  pub ended : report.end ≡ Ended → EndedLoad mark device databases after report
  pub beside : StandsBeside mark device databases after.contents
  pub each_moment : EachMomentSince (StandsBeside mark device databases) before.moments
      after.moments

-- what a handheld is asked for that has room for these, and none for one behind them
abbrev pub acts_until_one : Mark → UserInfo → List DatabaseValue → DatabaseValue → List Act
acts_until_one mark user before one =
    marked_greeting mark user ++ (installs_of before ++ making_acts one)

-- It stopped for want of room for the first database that has none: no more was asked for than that
-- it be made, and the handheld's folder stands for its databases with those before it installed, and
-- for its user with the mark.
pub record StopsAtFirst (mark : Mark) (device : Device) (databases : List DatabaseValue)
    (palm_after : FolderTold) (report : Report) (name : List ℕ) : Type 0 where
  pub first : first_full databases device.databases ≡ Some name
  pub before : List DatabaseValue
  pub one : DatabaseValue
  pub rest : List DatabaseValue
  pub parts : before ++ one ∷ rest ≡ databases
  pub named : name ≡ one.head.name
  pub said : SaidAll (map text (acts_until_one mark device.user before one)) report
  pub handheld : Stands palm_after.contents (all_installed before device.databases)
      (marked_user mark device.user)

-- what its status shows: it knows of no user, and no folder but the handheld's is touched
abbrev pub LoadShows : Mark → Device → List DatabaseValue → FolderTold → Report → Status → Type 0
LoadShows mark device databases palm_after report (Limit name) =
    StopsAtFirst mark device databases palm_after report name
LoadShows mark device databases palm_after report (OtherUser handheld desktop) = ⊥
LoadShows mark device databases palm_after report TooManyUsers = ⊥
LoadShows mark device databases palm_after report (NewHandheld name) = ⊥
LoadShows mark device databases palm_after report DesktopFolder = ⊥
LoadShows mark device databases palm_after report other = ⊤

-- the same, and that the first want of room is told, unless the session was cut short before
pub record ShowsLoad (mark : Mark) (device : Device) (databases : List DatabaseValue)
    (palm_after : FolderTold) (status : Status) (report : Report) : Type 0 where
  pub status_is : LoadShows mark device databases palm_after report status
  pub full : (name : List ℕ) → first_full databases device.databases ≡ Some name
      → (status ≡ Limit name) ⊎ IsCutShort status

-- the session that began: what is known of every session, what it left, and what its status shows
abbrev pub HadLoad : List RuleValue → Mark → Device → List DatabaseValue → FolderTold → FolderTold
    → Status → Report → Type 0
HadLoad rules mark device databases before after status report =
    HadSession (LoadLeft mark device databases before after)
    (ShowsLoad mark device databases after)
    (load_agenda rules mark device databases) before after status report

-- whatever is written of it
abbrev pub IsLoadTalk : List RuleValue → Mark → Device → List DatabaseValue → SidesTold
    → SidesTold → Status → Report → Type 0
IsLoadTalk rules mark device databases before after status report =
    IsTalk (HadLoad rules mark device databases before.palm after.palm) before after status report
