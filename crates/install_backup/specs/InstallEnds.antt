-- How a session that installs databases ends.
use Rattle.std.specs.Prelude.{◌≡◌, ◌⊎◌, ℕ, List, [], ◌∷◌, ◌++◌, map, Option, None, Some, IfErr, IfOk, Result, Ok, Err, if◌then◌else◌}
use Rattle.std.specs.Global.{Vec}
use Rattle.pdb_values.specs.Databases.{DatabaseValue}
use Rattle.palm_device.specs.Devices.{Device}
use Rattle.dlp_commands.specs.declared.link.LinkFault.{LinkFault}
use Rattle.dlp_commands.specs.Talks.{Talk}
use Rattle.desktop_session.specs.Acts.{Act, text}
use Rattle.desktop_session.specs.Requests.{ending}
use Rattle.desktop_session.specs.Sessions.{SessionValue}
use Rattle.desktop_session.specs.Stops.{Does, Stops}
use Rattle.session_parts.specs.Causes.{IsLater}
use Rattle.session_parts.specs.Stretches.{AreFirst, EachSays, Stretch, each_acts}
use Rattle.session_parts.specs.declared.stop.Stop.{Stop}
use Rattle.session_parts.specs.declared.stop.Stop.TheVariants as stop
use Rattle.install_backup.specs.declared.mark.Mark.{Mark}
use Rattle.install_backup.specs.declared.moved.MoveOutcome.{MoveOutcome}
use Rattle.install_backup.specs.declared.moved.Moved.{Moved}
use Rattle.install_backup.specs.Installed.{with_installed}
use Rattle.install_backup.specs.InstallActs.{install_acts, install_one, installs_of, installs_under, is_installable, moved_of}
use Rattle.install_backup.specs.Installs.{SaysMoved, StopsAt, StopsWithin, making_acts}
use Rattle.install_backup.specs.Marks.{marked_greeting}
use Rattle.install_backup.specs.Rooms.{IsNoLimit, has_room}

-- ---- over any link

-- why an install stopped behind the greeting
abbrev pub IsInstallCause : {L : Type 0} → (L → Option Talk) → (L → Option LinkFault)
    → List DatabaseValue → SessionValue L → L → Stop → Type 0
IsInstallCause talk fault databases old new (stop.Session cause) =
    IsLater (talk new) (fault new) cause × IsNoLimit cause
IsInstallCause talk fault databases old new (stop.Limit name) = StopsAt talk databases name old new
IsInstallCause talk fault databases old new other = ⊥

-- The databases were installed one after another, as far as it went; and once all were, the session
-- was to be ended.
pub record InstallWent {L F : Type 0} (talk : L → Option Talk) (since : L → L → Type 0)
    (fault : L → Option LinkFault) (downs : L → ℕ)
    (databases : List DatabaseValue) (old : SessionValue L) (left : MoveOutcome L F) : Type 0 where
  pub stretches : List Stretch
  pub firsts : AreFirst installs_under (talk old.link) databases stretches
  pub moved : List Moved
  pub last : List Act
  pub whole : ((last ≡ []) × StopsWithin talk since fault downs databases old left.link)
      ⊎ ((last ≡ ending ∷ [])
      × EachSays installs_under SaysMoved (talk old.link) databases stretches moved)
  pub stops : Stops talk since fault downs
      (map text (each_acts installs_under (talk old.link) databases stretches
      ++ last)) old.link left.link
  pub does : IfOk left.end
      (λ moved. Does talk
      (each_acts installs_under (talk old.link) databases stretches
      ++ ending ∷ []) old.link left.link)
  pub said : IfOk left.end
      (λ moved. EachSays installs_under SaysMoved (talk old.link) databases stretches moved.items)
  pub cause : IfErr left.end (IsInstallCause talk fault databases old left.link)

-- ---- over a link that tells a handheld on which nothing is open

-- the first of these databases that the handheld would have no room for, among these and those that
-- are installed before it
abbrev pub first_full : List DatabaseValue → List DatabaseValue → Option (List ℕ)
first_full [] held = None
first_full (database ∷ databases) held =
    if is_installable database then (
    if has_room database.head.name held then first_full databases (with_installed database held)
    else Some database.head.name
    ) else first_full databases held

-- a handheld has room for all of them
abbrev pub HasRoomForAll : List DatabaseValue → Device → Type 0
HasRoomForAll databases device = first_full databases device.databases ≡ None

-- the databases of a handheld on which these were installed
abbrev pub all_installed : List DatabaseValue → List DatabaseValue → List DatabaseValue
all_installed [] held = held
all_installed (database ∷ databases) held =
    all_installed databases (if is_installable database then with_installed database held else held)

-- what is asked for up to the making of the first of these that has no room
unfoldable pub until_full : List DatabaseValue → List DatabaseValue → List Act
until_full [] held = []
until_full (database ∷ databases) held =
    if is_installable database then (
    if has_room database.head.name held
    then install_one database 1 [] ++ until_full databases (with_installed database held)
    else making_acts database
    ) else until_full databases held

-- it stopped at this database for want of room: all before it were installed, and no more was asked
-- for than that it be made
pub record IsFull {L : Type 0} (talk : L → Option Talk) (mark : Mark)
    (databases : List DatabaseValue) (device : Device) (old new : L) (name : List ℕ)
    : Type 0 where
  pub first : first_full databases device.databases ≡ Some name
  pub before : List DatabaseValue
  pub one : DatabaseValue
  pub rest : List DatabaseValue
  pub parts : before ++ one ∷ rest ≡ databases
  pub named : name ≡ one.head.name
  pub does : Does talk
      (marked_greeting mark device.user ++ (installs_of before ++ making_acts one)) old new

-- The cause of a stop: the link is down, or has no fault and a reply was an error or none that can
-- be read, or memory was wanted; or it is a limit, which is told as one wherever it is the cause.
abbrev pub IsInstallStop : {L : Type 0} → (L → Option Talk) → (L → Option LinkFault) → Mark
    → List DatabaseValue → Device → L → L → Stop → Type 0
IsInstallStop talk fault mark databases device old new (stop.Session cause) =
    IsLater (talk new) (fault new) cause × IsNoLimit cause
IsInstallStop talk fault mark databases device old new (stop.Limit name) =
    IsFull talk mark databases device old new name
IsInstallStop talk fault mark databases device old new other = ⊥

-- it stopped for the limit at this database, unless its link, a reply or its memory stopped it
-- before
abbrev pub StopsAtLimit : List ℕ → Result (Vec Moved) Stop → Type 0
StopsAtLimit name (Ok moved) = ⊥
StopsAtLimit name (Err (stop.Session cause)) = Unit {0}
StopsAtLimit name (Err (stop.Limit other)) = other ≡ name
StopsAtLimit name (Err other) = ⊥

-- all was said and answered, all had room, and this is told of each
pub record IsInstalled {L : Type 0} (talk : L → Option Talk) (mark : Mark)
    (databases : List DatabaseValue) (device : Device) (old new : L) (moved : List Moved)
    : Type 0 where
  pub does : Does talk (install_acts mark device.user databases) old new
  pub room : first_full databases device.databases ≡ None
  pub told : moved ≡ map moved_of databases

-- An install of these databases with a mark ended, or stopped, and why. Where one has no room, no
-- more is asked for than that it be made.
pub record InstallEnds {L : Type 0} (talk : L → Option Talk) (since : L → L → Type 0)
    (fault : L → Option LinkFault) (downs : L → ℕ)
    (mark : Mark) (databases : List DatabaseValue) (device : Device) (old new : L)
    (answer : Result (Vec Moved) Stop) : Type 0 where
  pub stops : Stops talk since fault downs
      (map text (install_acts mark device.user databases)) old new
  pub ended : IfOk answer (λ moved. IsInstalled talk mark databases device old new moved.items)
  pub cause : IfErr answer (IsInstallStop talk fault mark databases device old new)
  pub limit : (name : List ℕ) → first_full databases device.databases ≡ Some name
      → StopsAtLimit name answer
  pub until : (name : List ℕ) → first_full databases device.databases ≡ Some name
      → Stops talk since fault downs
      (map text (marked_greeting mark device.user ++ until_full databases device.databases)) old new
