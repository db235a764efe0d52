-- Databases of a handheld that are backed up one after another, each into its file as soon as it
-- was read whole and closed.
use Rattle.std.specs.Prelude.{◌≡◌, ◌≢◌, ℕ, List, [], ◌∷◌, ◌++◌, map, Option, Some, IfErr, IfOk, IfSome, IsErrOf, OnOk, Result, Ok, Err}
use Rattle.std.specs.Global.{Vec}
use Rattle.std.specs.Option.{option_map}
use Rattle.hs_folders.specs.FileMaps.{FileMap}
use Rattle.hs_folders.specs.Moments.{EachMomentSince, IsBeforeOrAfter, Moments}
use Rattle.pdb_values.specs.Databases.{DatabaseValue}
use Rattle.pdb_values.specs.Heads.{holds_resources}
use Rattle.pdb_values.specs.declared.head.DbHead.{DbHead}
use Rattle.pdb_files.specs.Files.{canonical, entry_count}
use Rattle.folder_files.specs.FileNames.{database_file}
use Rattle.desk_journal.specs.Entries.{EntryValue}
use Rattle.desk_journal.specs.Overlays.{put_all}
use Rattle.dlp_commands.specs.declared.link.LinkFault.{LinkFault}
use Rattle.dlp_commands.specs.Talks.{Talk}
use Rattle.desktop_session.specs.declared.fault.SessionFault.{SessionFault}
use Rattle.desktop_session.specs.declared.fault.SessionFault.TheVariants as session
use Rattle.desktop_session.specs.Acts.{Act, text}
use Rattle.desktop_session.specs.Requests.{opening_to_read}
use Rattle.desktop_session.specs.Says.{saying}
use Rattle.desktop_session.specs.Sessions.{SessionValue}
use Rattle.desktop_session.specs.Stops.{Does, Stops}
use Rattle.mirrors.specs.Reads.{entries_of}
use Rattle.session_parts.specs.Causes.{IsLater}
use Rattle.session_parts.specs.Rests.{IsFirst}
use Rattle.session_parts.specs.Spans.{Spans, within}
use Rattle.session_parts.specs.Stretches.{AreFirst, EachSays, Stretch, each_acts}
use Rattle.session_parts.specs.declared.stop.Stop.{Stop}
use Rattle.session_parts.specs.declared.stop.Stop.TheVariants as stop
use Rattle.install_backup.specs.declared.moved.Moved.{Moved}
use Rattle.install_backup.specs.BackupActs.{backup_under}
use Rattle.install_backup.specs.Copies.{copied}

-- the file of a database that was read whole, and what is told of it
abbrev pub file_of : DatabaseValue → EntryValue
file_of database = record { name = database_file database.head; bytes = canonical database }

abbrev pub kept_moved : DatabaseValue → Moved
kept_moved database = record { name = database.head.name; entries = Some (entry_count database) }

-- what is asked for of an open database of this head, by what is told of it
abbrev pub copy_reads : DbHead → Option Talk → ℕ → List Act
copy_reads head told handle =
    backup_under (holds_resources head.attributes) (entries_of told handle) handle

-- what is asked for of one database, by what was told before it, and what is read of it then
unfoldable pub backups_under : Option Talk → DbHead → ℕ → List ℕ → List Act
backups_under told head handle given =
    within (opening_to_read head.name)
    (λ handle given. copy_reads head (saying (opening_to_read head.name ∷ []) told) handle) handle
    given

abbrev pub SaysCopied : Option Talk → DbHead → ℕ → List ℕ → DatabaseValue → Type 0
SaysCopied told head handle given whole =
    IfSome (saying (opening_to_read head.name ∷ []) told)
    (λ talk. whole ≡ copied head handle talk.device)

-- what is told of a folder in which the files of a beginning of these were put over the others
pub record HasSome (files : List EntryValue) (before told : Option FileMap) : Type 0 where
  pub kept : List EntryValue
  pub later : List EntryValue
  pub parts : kept ++ later ≡ files
  pub is : told ≡ option_map (put_all kept) before

-- ---- one

-- it stopped for a refusal of the folder, or memory was wanted
abbrev pub IsUnkept : Stop → Type 0
IsUnkept stop.DeskFault = Unit {0}
IsUnkept (stop.Session session.NoMemory) = Unit {0}
IsUnkept other = ⊥

-- where it was read whole and closed, its file holds it, or was not replaced; where it was not, the
-- folder is as before
abbrev pub IsKept : Result DatabaseValue SessionFault → Option FileMap → Option FileMap
    → Result Moved Stop → Type 0
IsKept (Ok whole) before after (Ok moved) =
    (after ≡ option_map (put_all (file_of whole ∷ [])) before) × (moved ≡ kept_moved whole)
IsKept (Ok whole) before after (Err why) = (after ≡ before) × IsUnkept why
IsKept (Err cause) before after (Ok moved) = ⊥
IsKept (Err cause) before after (Err why) = (after ≡ before) × (why ≡ stop.Session cause)

-- one database was read, and its file kept, whole or not at all at each moment
pub record KeepsOne {L F : Type 0} (talk : L → Option Talk) (since : L → L → Type 0)
    (fault : L → Option LinkFault) (downs : L → ℕ)
    (contents : F → Option FileMap) (moments : F → Moments) (head : DbHead)
    (old new : SessionValue L) (folder after : F)
    (answer : Result Moved Stop) : Type 0 where
  pub read : Result DatabaseValue SessionFault
  pub spans : Spans talk since fault downs (backups_under (talk old.link) head)
      (SaysCopied (talk old.link) head) old new read
  pub kept : IsKept read (contents folder) (contents after) answer
  pub each_moment : EachMomentSince (IsBeforeOrAfter (contents folder) (contents after))
      (moments folder) (moments after)

-- ---- several

-- what may have been asked for behind those that are kept: of the next one, and no more
abbrev pub next_acts : Option Talk → List DbHead → Stretch → List Act
next_acts told [] one = []
next_acts told (head ∷ heads) one = backups_under told head one.handle one.given

-- why a backup stopped
abbrev pub IsBackupCause : {L : Type 0} → (L → Option Talk) → (L → Option LinkFault) → L → Stop
    → Type 0
IsBackupCause talk fault new (stop.Session cause) = IsLater (talk new) (fault new) cause
IsBackupCause talk fault new stop.DeskFault = Unit {0}
IsBackupCause talk fault new other = ⊥

-- The first of these databases were read whole and closed, one after another, and their files are
-- kept, and no others; of the next one no more was asked for than its reading, and where its file
-- was refused it was read whole. Where it did not stop, these are all. At each moment the files of
-- a beginning of them were kept.
pub record KeepsSome {L F : Type 0} (talk : L → Option Talk) (since : L → L → Type 0)
    (fault : L → Option LinkFault) (downs : L → ℕ)
    (contents : F → Option FileMap) (moments : F → Moments) (heads : List DbHead)
    (old new : SessionValue L) (folder after : F)
    (answer : Result (Vec Moved) Stop) : Type 0 where
  pub done : List DbHead
  pub rest : List DbHead
  pub parts : done ++ rest ≡ heads
  pub stretches : List Stretch
  pub wholes : List DatabaseValue
  pub now : L
  pub firsts : AreFirst backups_under (talk old.link) done stretches
  pub stops : Stops talk since fault downs
      (map text (each_acts backups_under (talk old.link) done stretches)) old.link now
  pub does : Does talk (each_acts backups_under (talk old.link) done stretches) old.link now
  pub said : EachSays backups_under SaysCopied (talk old.link) done stretches wholes
  pub files : contents after ≡ option_map (put_all (map file_of wholes)) (contents folder)
  pub each_moment : EachMomentSince (HasSome (map file_of wholes) (contents folder))
      (moments folder) (moments after)
  pub next : Stretch
  pub first : IsFirst (talk now) next.handle
  pub behind : Stops talk since fault downs (map text (next_acts (talk now) rest next)) now new.link
  pub unkept : IsErrOf answer stop.DeskFault
      → (rest ≢ []) × Does talk (next_acts (talk now) rest next) now new.link
  pub all : OnOk answer ((rest ≡ []) × (new.link ≡ now))
  pub told : IfOk answer (λ moved. moved.items ≡ map kept_moved wholes)
  pub cause : IfErr answer (IsBackupCause talk fault new.link)
  pub closed : OnOk answer (new.abandoned ≡ old.abandoned)
