-- Databases that are installed one after another.
use Rattle.std.specs.Prelude.{◌≡◌, ℕ, true, false, List, [], ◌∷◌, ◌++◌, map, Option}
use Rattle.pdb_values.specs.Databases.{DatabaseValue}
use Rattle.dlp_commands.specs.declared.link.LinkFault.{LinkFault}
use Rattle.dlp_commands.specs.Talks.{Talk}
use Rattle.desktop_session.specs.Acts.{Act, text}
use Rattle.desktop_session.specs.Requests.{deleting, making}
use Rattle.desktop_session.specs.Sessions.{SessionValue}
use Rattle.desktop_session.specs.Stops.{Does, Stops}
use Rattle.session_parts.specs.Rests.{IsFirst}
use Rattle.session_parts.specs.Stretches.{AreFirst, EachSays, Stretch, each_acts}
use Rattle.session_parts.specs.declared.stop.Stop.{Stop}
use Rattle.session_parts.specs.declared.stop.Stop.TheVariants as stop
use Rattle.install_backup.specs.declared.moved.Moved.{Moved}
use Rattle.install_backup.specs.Installed.{installed_head}
use Rattle.install_backup.specs.InstallActs.{installs_under, is_installable, moved_of}
use Rattle.install_backup.specs.Rooms.{HadRoom, IsNoLimit, IsWithin, Judges, RestsFor}

-- what is told of one that was to be installed: that it was, where it had room, or that it was
-- passed over
abbrev pub SaysMoved : Option Talk → DatabaseValue → ℕ → List ℕ → Moved → Type 0
SaysMoved told database handle given moved = (moved ≡ moved_of database) × HadRoom database told

-- the acts up to the making of one
abbrev pub making_acts : DatabaseValue → List Act
making_acts database = deleting database.head.name ∷ making (installed_head database.head) ∷ []

-- An install stopped at one of these databases, which it names, for want of room: those before it
-- were installed or passed over, and no more was asked for than that it be made.
pub record StopsAt {L : Type 0} (talk : L → Option Talk) (databases : List DatabaseValue)
    (name : List ℕ) (old : SessionValue L) (new : L) : Type 0 where
  pub before : List DatabaseValue
  pub one : DatabaseValue
  pub rest : List DatabaseValue
  pub parts : before ++ one ∷ rest ≡ databases
  pub named : name ≡ one.head.name
  pub writable : is_installable one ≡ true
  pub stretches : List Stretch
  pub moved : List Moved
  pub now : SessionValue L
  pub firsts : AreFirst installs_under (talk old.link) before stretches
  pub does : Does talk (each_acts installs_under (talk old.link) before stretches) old.link now.link
  pub said : EachSays installs_under SaysMoved (talk old.link) before stretches moved
  pub asked : Does talk (making_acts one) now.link new
  pub room : Judges (RestsFor one) false one.head.name (talk now.link)

-- An install stopped at or behind one of these databases: those before it were installed or passed
-- over, and of it no more was asked for than that it be made, unless it had room.
pub record StopsWithin {L : Type 0} (talk : L → Option Talk) (since : L → L → Type 0)
    (fault : L → Option LinkFault) (downs : L → ℕ) (databases : List DatabaseValue)
    (old : SessionValue L) (new : L) : Type 0 where
  pub before : List DatabaseValue
  pub one : DatabaseValue
  pub rest : List DatabaseValue
  pub parts : before ++ one ∷ rest ≡ databases
  pub stretches : List Stretch
  pub moved : List Moved
  pub now : SessionValue L
  pub firsts : AreFirst installs_under (talk old.link) before stretches
  pub does : Does talk (each_acts installs_under (talk old.link) before stretches) old.link now.link
  pub reached : Stops talk since fault downs
      (map text (each_acts installs_under (talk old.link) before stretches)) old.link now.link
  pub said : EachSays installs_under SaysMoved (talk old.link) before stretches moved
  pub handle : ℕ
  pub given : List ℕ
  pub first : IsFirst (talk now.link) handle
  pub stops : Stops talk since fault downs
      (map text (installs_under (talk now.link) one handle given)) now.link new
  pub within : is_installable one ≡ true
      → IsWithin talk since fault downs (RestsFor one) (making_acts one) one.head.name now.link new

-- an install of several stops for a limit at one of them, or for what its link, another reply or
-- its memory is the cause of
abbrev pub IsLimit : {L : Type 0} → (L → Option Talk) → List DatabaseValue → SessionValue L → L
    → Stop → Type 0
IsLimit talk databases old new (stop.Session cause) = IsNoLimit cause
IsLimit talk databases old new (stop.Limit name) = StopsAt talk databases name old new
IsLimit talk databases old new other = ⊥
