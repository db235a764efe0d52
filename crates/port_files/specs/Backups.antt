-- What a backup of the handheld at a port leaves.
use Rattle.std.specs.Prelude.{◌≡◌, ◌⊎◌, List, [], ◌++◌, map, Option, Some}
use Rattle.std.specs.List.{flat_map}
use Rattle.std.specs.Option.{option_map}
use Rattle.hs_folders.specs.Moments.{EachMomentSince}
use Rattle.pdb_values.specs.Databases.{DatabaseValue}
use Rattle.palm_device.specs.Devices.{Device}
use Rattle.handheld_files.specs.Openings.{AreKept}
use Rattle.desk_journal.specs.Overlays.{put_all}
use Rattle.desktop_session.specs.Acts.{text}
use Rattle.desktop_session.specs.Says.{IsPrefix}
use Rattle.device_stream.specs.Hands.{Hand}
use Rattle.install_backup.specs.BackupActs.{backup_acts, backup_of}
use Rattle.install_backup.specs.BackupEnds.{backup_front, next_of}
use Rattle.install_backup.specs.Backups.{HasSome, file_of}
use Rattle.port_laws.specs.Palms.{Palm}
use Rattle.port_link.specs.Hands.{HandRan}
use Rattle.port_link.specs.Standing.{talk_of}
use Rattle.dlp_commands.specs.Talks.{Talk}
use Rattle.run_words.specs.Porteds.{Ported}
use Rattle.call_parts.specs.Files.{FilesRefuse, StandsApart}
use Rattle.call_parts.specs.Told.{FolderTold}
use Rattle.call_parts.specs.declared.report.SessionEnd.TheVariants.{Ended}
use Rattle.cmd_files.specs.Backups.{backup_file, backup_report}
use Rattle.port_run.specs.Links.{Answered}
use Rattle.port_run.specs.declared.synced.CableReport.{CableReport}
use Rattle.port_files.specs.Talks.{PortCommand}

-- ---- whatever comes over the port

-- The files of some databases were put over those that were there, and no others; at each moment
-- those of a first part of them were. Where the session ended they are what is told.
pub record KeepsRead (before after : FolderTold) (report : CableReport) : Type 0 where
  pub wholes : List DatabaseValue
  pub files : after.contents ≡ option_map (put_all (map file_of wholes)) before.contents
  pub each_moment : EachMomentSince (HasSome (map file_of wholes) before.contents) before.moments
      after.moments
  pub told : report.end ≡ Ended → report.databases.items ≡ map backup_report wholes

-- ---- over a port that tells its handheld

-- The files of the first of the handheld's databases, each as the handheld has it, are put over
-- those that were there, and no others; at each moment those of a beginning of them were.
pub record KeepsFirst (device : Device) (kept : List DatabaseValue) (before after : FolderTold)
    : Type 0 where
  pub files : after.contents ≡ option_map (put_all (map backup_file kept)) before.contents
  pub each_moment : EachMomentSince (HasSome (map backup_file kept) before.contents)
      before.moments after.moments

-- The handheld has its databases and its user as before. No more of it was asked for than its
-- databases one after another, each of those that are kept was read whole and closed, and of the
-- next one there was no more than its reading.
pub record LeavesHandheld (device : Device) (kept later : List DatabaseValue) (hand : Hand)
    : Type 0 where
  pub databases : hand.device.databases ≡ device.databases
  pub user : hand.device.user ≡ device.user
  pub begins : IsPrefix hand.performed
      (map text (backup_front device ++ (flat_map backup_of kept ++ next_of later)))
  pub behind : (kept ≡ [])
      ⊎ IsPrefix (map text (backup_front device ++ flat_map backup_of kept)) hand.performed

-- it ended: each of its requests was performed, and none else, and each database is told
pub record EndedAtPort (device : Device) (later : List DatabaseValue) (hand : Hand)
    (report : CableReport) : Type 0 where
  pub all : later ≡ []
  pub performed : hand.performed ≡ map text (backup_acts device)
  pub told : report.databases.items ≡ map backup_report device.databases

-- What a backup leaves of its folder and of the handheld that the port told: the databases are as a
-- folder keeps them. What the link told of its talk, and the handheld that the port tells then.
pub record BackupLeft (device : Device) (after : Option Palm) (folder folder_after : FolderTold)
    (said : Answered) (report : CableReport) : Type 0 where
  pub talk : Talk
  pub told : talk_of said.last ≡ Some talk
  pub palm : Palm
  pub palm_is : after ≡ Some palm
  pub ran : HandRan device talk palm.hand
  pub kept : List DatabaseValue
  pub later : List DatabaseValue
  pub parts : kept ++ later ≡ device.databases
  pub files : KeepsFirst device kept folder folder_after
  pub handheld : LeavesHandheld device kept later palm.hand
  pub ended : report.end ≡ Ended → EndedAtPort device later palm.hand report

-- ---- the command

-- the folder is none that is synchronised, as for a backup over a line
abbrev pub backup_command : Ported → PortCommand
backup_command words = record {
  words = words;
  Refuses = λ kept refusal. FilesRefuse kept refusal;
  Has = λ kept. StandsApart kept;
  Left = λ before after report. KeepsRead before after report;
  Both = λ device after folder folder_after said report. AreKept device.databases
      → BackupLeft device after folder folder_after said report;
}
