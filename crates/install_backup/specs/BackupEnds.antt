-- How a session that backs a handheld up went.
use Rattle.std.specs.Prelude.{◌≡◌, ◌≢◌, ◌⊎◌, ℕ, List, [], ◌∷◌, ◌++◌, map, length, max, Option, IfErr, IfOk, IsErrOf, Result, Ok, Err, flat_map}
use Rattle.std.specs.Global.{Vec}
use Rattle.std.specs.Option.{option_map}
use Rattle.hs_folders.specs.FileMaps.{FileMap}
use Rattle.hs_folders.specs.Moments.{EachMomentSince, Moments}
use Rattle.pdb_values.specs.Databases.{DatabaseValue}
use Rattle.pdb_values.specs.declared.head.DbHead.{DbHead}
use Rattle.desk_journal.specs.Overlays.{put_all}
use Rattle.palm_device.specs.Devices.{Device}
use Rattle.dlp_commands.specs.DatabaseFunctions.{listed}
use Rattle.dlp_commands.specs.declared.link.LinkFault.{LinkFault}
use Rattle.dlp_commands.specs.Talks.{Talk}
use Rattle.desktop_session.specs.declared.ending.Halted.{Halted}
use Rattle.desktop_session.specs.Acts.{Act, acted, text}
use Rattle.desktop_session.specs.Lists.{listings}
use Rattle.desktop_session.specs.Requests.{ending, opening_to_read}
use Rattle.desktop_session.specs.Seats.{no_wish, unclaimed}
use Rattle.desktop_session.specs.Sessions.{SessionValue}
use Rattle.desktop_session.specs.Stops.{Does, Stops}
use Rattle.session_parts.specs.Causes.{IsLater}
use Rattle.session_parts.specs.Meets.{MeetsOrNot, greeting}
use Rattle.session_parts.specs.declared.meeting.Met.{Met}
use Rattle.session_parts.specs.declared.stop.Stop.{Stop}
use Rattle.session_parts.specs.declared.stop.Stop.TheVariants as stop
use Rattle.install_backup.specs.declared.moved.MoveOutcome.{MoveOutcome}
use Rattle.install_backup.specs.declared.moved.Moved.{Moved}
use Rattle.install_backup.specs.Backups.{HasSome, IsBackupCause, KeepsSome, file_of, kept_moved}
use Rattle.install_backup.specs.BackupActs.{backup_acts, backup_of}
use Rattle.install_backup.specs.Copies.{copied}

-- the session was to be ended once all were kept; where that was answered, this is told, and else
-- why it was not
abbrev pub Finishes : {L : Type 0} → (L → Option Talk) → (L → L → Type 0) → (L → Option LinkFault)
    → (L → ℕ)
    → L → L → Result (Vec Moved) Stop → Result (Vec Moved) Stop → Type 0
Finishes talk since fault downs now new (Ok moved) (Ok told) =
    Stops talk since fault downs (text ending ∷ []) now new
    × (Does talk (ending ∷ []) now new × (told ≡ moved))
Finishes talk since fault downs now new (Ok moved) (Err (stop.Session cause)) =
    Stops talk since fault downs (text ending ∷ []) now new × IsLater (talk new) (fault new) cause
Finishes talk since fault downs now new (Ok moved) (Err other) = ⊥
Finishes talk since fault downs now new (Err why) told = (new ≡ now) × (told ≡ Err why)

-- The databases with these heads were read whole and kept, one after another, as far as it went;
-- and once all were, the session was ended.
pub record BackupWent {L F : Type 0} (talk : L → Option Talk) (since : L → L → Type 0)
    (fault : L → Option LinkFault) (downs : L → ℕ)
    (contents : F → Option FileMap) (moments : F → Moments) (heads : List DbHead)
    (old : SessionValue L) (folder : F) (left : MoveOutcome L F) : Type 0 where
  pub answer : Result (Vec Moved) Stop
  pub now : SessionValue L
  pub keeps : KeepsSome talk since fault downs contents moments heads old now folder left.folder
      answer
  pub finishes : Finishes talk since fault downs now.link left.link answer left.end

-- where both sides did not meet, the folder was not touched, and the session stopped for that cause
abbrev pub BacksUp : {L F : Type 0} → (L → Option Talk) → (L → L → Type 0) → (L → Option LinkFault)
    → (L → ℕ) → (F → Option FileMap)
    → (F → Moments) → F → MoveOutcome L F → Result (Met L) (Halted L) → Type 0
BacksUp talk since fault downs contents moments folder left (Ok met) =
    BackupWent talk since fault downs contents moments met.heads.items met.linked folder left
BacksUp talk since fault downs contents moments folder left (Err halted) =
    left ≡ record { link = halted.link; folder = folder; end = Err (stop.Session halted.cause) }

-- A backup over any link: both sides meet, whoever the handheld's user is, and then the databases
-- that were listed are kept.
pub record BackupRan {L F : Type 0} (talk : L → Option Talk) (since : L → L → Type 0)
    (fault : L → Option LinkFault) (downs : L → ℕ)
    (contents : F → Option FileMap) (moments : F → Moments) (old : L) (folder : F)
    (left : MoveOutcome L F) : Type 0 where
  pub met : Result (Met L) (Halted L)
  pub meets : MeetsOrNot talk since fault downs (unclaimed ∷ []) no_wish old met
  pub backs_up : BacksUp talk since fault downs contents moments folder left met

-- ---- over a link that tells a handheld on which nothing is open

-- a database of the handheld, as its replies tell it once it is opened to be read
abbrev pub read_of : Device → DatabaseValue → DatabaseValue
read_of device database =
    copied (listed database.head) 1 (acted (opening_to_read database.head.name) device).1

-- what goes out before the databases are read
abbrev pub backup_front : Device → List Act
backup_front device = greeting ++ listings (max 1 (length device.databases))

-- what may go out behind those that are kept: the reading of the next one, or the end
abbrev pub next_of : List DatabaseValue → List Act
next_of [] = ending ∷ []
next_of (database ∷ databases) = backup_of database

-- A backup of a handheld: the files of the first of its databases are as they were read, and no
-- others, and at each moment on the way those of a beginning of them; each of these was read whole
-- and closed, and of the next one no more was asked for than its reading. Where the folder refused
-- a file its database was read whole and closed. Once all are kept the session is ended, and else
-- it stopped.
pub record BackupEnds {L F : Type 0} (talk : L → Option Talk) (since : L → L → Type 0)
    (fault : L → Option LinkFault) (downs : L → ℕ)
    (contents : F → Option FileMap) (moments : F → Moments) (device : Device) (old new : L)
    (folder after : F) (answer : Result (Vec Moved) Stop) : Type 0 where
  pub kept : List DatabaseValue
  pub later : List DatabaseValue
  pub parts : kept ++ later ≡ device.databases
  pub files : contents after
      ≡ option_map (put_all (map (λ (d : DatabaseValue). file_of (read_of device d)) kept))
      (contents folder)
  pub each_moment : EachMomentSince
      (HasSome (map (λ (d : DatabaseValue). file_of (read_of device d)) kept) (contents folder))
      (moments folder) (moments after)
  pub stops : Stops talk since fault downs
      (map text (backup_front device ++ (flat_map backup_of kept ++ next_of later))) old new
  pub now : L
  pub behind : (kept ≡ [])
      ⊎ (Does talk (backup_front device ++ flat_map backup_of kept) old now
      × Stops talk since fault downs (map text (next_of later)) now new)
  pub unkept : IsErrOf answer stop.DeskFault
      → (later ≢ [])
      × Does talk (backup_front device ++ (flat_map backup_of kept ++ next_of later)) old new
  pub ended : IfOk answer (λ moved. (later ≡ [])
      × (Does talk (backup_acts device) old new
      × (moved.items
      ≡ map (λ (d : DatabaseValue). kept_moved (read_of device d)) device.databases)))
  pub cause : IfErr answer (IsBackupCause talk fault new)
