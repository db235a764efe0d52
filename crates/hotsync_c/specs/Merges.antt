-- The merge of one database, of which C hands over the files.
use Rattle.std.specs.Prelude.{◌≡◌, ◌≢◌, ◌⊎◌, ⊤, ℕ, ◌+◌, ◌==◌, ◌&&◌, Bool, true, false, not, nat_le, List, [], ◌++◌, length, drop, ℤ, pos, negsuc, Option, Some, None, if◌then◌else◌}
use Rattle.std.specs.Option.{option_map, option_or}
use Rattle.std.specs.Str.{bytes_eq}
use Rattle.conduit_rules.specs.declared.action.Action.{Action}
use Rattle.conduit_rules.specs.declared.action.Action.TheVariants.{Sync, Handheld, Desktop, Both}
use Rattle.database_merge.specs.Faults.{Refuses}
use Rattle.database_merge.specs.Merges.{IsMerged}
use Rattle.database_merge.specs.Seeing.{opened}
use Rattle.database_merge.specs.declared.both_sides.BothSides.{BothSides}
use Rattle.database_merge.specs.declared.fault.MergeFault.{MergeFault}
use Rattle.database_merge.specs.declared.fault.MergeFault.TheVariants.{Skipped, Full, NoMemory}
use Rattle.database_merge.specs.declared.wishes.MergeWishes.{MergeWishes}
use Rattle.pdb_files.specs.Faults.{file_fault}
use Rattle.pdb_files.specs.Files.{IsFileText, canonical}
use Rattle.pdb_files.specs.declared.fault.FileFault.{FileFault}
use Rattle.pdb_values.specs.Databases.{DatabaseValue}
use Rattle.pdb_values.specs.Heads.{holds_resources}
use Rattle.session_parts.specs.declared.skip.Skip.{Skip}
use Rattle.session_parts.specs.declared.skip.Skip.TheVariants as skip
use Rattle.hotsync_c.specs.Rooms.{put_first}
use Rattle.hotsync_c.specs.declared.merge.HsEnds.{HsEnds}
use Rattle.hotsync_c.specs.declared.merge.HsHow.{HsHow}
use Rattle.hotsync_c.specs.declared.merge_refusal.MergeRefusal.{MergeRefusal}
use Rattle.hotsync_c.specs.declared.merge_refusal.MergeRefusal.TheVariants.{Form, Fault}

-- ---- what is asked

-- the action of a number
abbrev pub action_of : ℕ → Option Action
action_of number =
    if number == 0 then Some Sync
    else (if number == 1 then Some Handheld
    else (if number == 2 then Some Desktop else (if number == 3 then Some Both else None)))

abbrev pub wishes_of : HsHow → Option MergeWishes
wishes_of how =
    option_map
    (λ action. record { action = action; agree = not (how.agree == 0); date = how.date })
    (action_of how.action)

-- ---- the files

-- the file of a database, or no bytes for none
abbrev pub IsSide : List ℕ → Option DatabaseValue → Type 0
IsSide bytes None = bytes ≡ []
IsSide bytes (Some database) = IsFileText database bytes

-- the files of both sides
pub record AreSides (handheld rows base archive : List ℕ) (both : BothSides) : Type 0 where
  pub handheld_is : IsSide handheld both.handheld
  pub rows_are : IsSide rows both.rows
  pub base_is : IsSide base both.base
  pub archive_is : IsSide archive both.archive

-- bytes that are no database's file break a rule
pub record IsNoSide (bytes : List ℕ) : Type 0 where
  pub some : bytes ≢ []
  pub fault : FileFault
  pub broken : file_fault bytes ≡ Some fault

-- why no file is read: it breaks a rule, or memory ran out
abbrev pub RefusesSide : List ℕ → MergeRefusal → Type 0
RefusesSide bytes Form = IsNoSide bytes
RefusesSide bytes (Fault NoMemory) = ⊤
RefusesSide bytes (Fault fault) = ⊥

abbrev pub name_in : Option DatabaseValue → Option (List ℕ)
name_in side = option_map (λ (database : DatabaseValue). database.head.name) side

-- the name of the first one that is there
abbrev pub first_name : BothSides → Option (List ℕ)
first_name both =
    option_or (name_in both.handheld)
    (option_or (name_in both.rows) (option_or (name_in both.base) (name_in both.archive)))

-- a database bears this name, where both are there
abbrev pub bears : Option (List ℕ) → Option DatabaseValue → Bool
bears None side = true
bears (Some name) None = true
bears (Some name) (Some database) = bytes_eq name database.head.name

-- it holds records, where it is there
abbrev pub has_records : Option DatabaseValue → Bool
has_records None = true
has_records (Some database) = not (holds_resources database.head.attributes)

-- a desktop's file under this name
abbrev pub is_kept_under : Option (List ℕ) → Option DatabaseValue → Bool
is_kept_under name side = bears name side && has_records side

-- all bear one name, and the desktop's hold records
abbrev pub is_one : BothSides → Bool
is_one both =
    is_kept_under (first_name both) both.rows && is_kept_under (first_name both) both.base
    && is_kept_under (first_name both) both.archive

-- ---- what is left

-- the canonical file of a database, or no bytes for none
abbrev pub side_text : Option DatabaseValue → List ℕ
side_text None = []
side_text (Some database) = canonical database

-- the files one behind the other
abbrev pub sides_text : BothSides → List ℕ
sides_text both =
    ((side_text both.handheld ++ side_text both.rows) ++ side_text both.base)
    ++ side_text both.archive

-- where each of them ends
abbrev pub ends_of : BothSides → HsEnds
ends_of both =
    record {
      handheld = length (side_text both.handheld);
      rows = length (side_text both.handheld ++ side_text both.rows);
      base = length ((side_text both.handheld ++ side_text both.rows) ++ side_text both.base);
      archive = length (sides_text both);
    }

-- the files are those of one database, and the text has those that a session leaves of it
pub record IsMergeOf (handheld rows base archive : List ℕ) (how : HsHow) (ends : HsEnds)
    (text : List ℕ) : Type 0 where
  pub both : BothSides
  pub sides : AreSides handheld rows base archive both
  pub one : is_one both ≡ true
  pub wishes : MergeWishes
  pub asked : wishes_of how ≡ Some wishes
  pub after : BothSides
  pub merged : IsMerged (opened both) wishes after
  pub is : text ≡ sides_text after
  pub ends_are : ends ≡ ends_of after

-- ---- refusals

-- a number for each reason to skip a database
abbrev pub skip_number : Skip → ℕ
skip_number skip.Resource = 0
skip_number skip.ReadOnly = 1
skip_number skip.Stream = 2
skip_number skip.Differs = 3
skip_number skip.Missing = 4
skip_number skip.Nothing = 5
skip_number skip.Blocks = 6

-- the number that C gets: -1 for want of memory, -2, -4 for a limit, and -5 - N where a session
-- skips it
abbrev pub fault_answer : MergeFault → ℤ
fault_answer (Skipped skip) = negsuc (4 + skip_number skip)
fault_answer Full = negsuc 3
fault_answer NoMemory = negsuc 0

abbrev pub merge_answer : MergeRefusal → ℤ
merge_answer Form = negsuc 1
merge_answer (Fault fault) = fault_answer fault

-- the files of two databases, or the desktop has one of resources
pub record AreNotOne (handheld rows base archive : List ℕ) : Type 0 where
  pub both : BothSides
  pub sides : AreSides handheld rows base archive both
  pub several : is_one both ≡ false

-- one is no database's file, or they are not those of one database
abbrev pub AreNoFiles : List ℕ → List ℕ → List ℕ → List ℕ → Type 0
AreNoFiles handheld rows base archive =
    IsNoSide handheld ⊎ (IsNoSide rows ⊎ (IsNoSide base ⊎ (IsNoSide archive
    ⊎ AreNotOne handheld rows base archive)))

-- why the files are not read as those of one database
abbrev pub RefusesSides : List ℕ → List ℕ → List ℕ → List ℕ → MergeRefusal → Type 0
RefusesSides handheld rows base archive Form = AreNoFiles handheld rows base archive
RefusesSides handheld rows base archive (Fault NoMemory) = ⊤
RefusesSides handheld rows base archive (Fault fault) = ⊥

-- a session leaves the database as it is
pub record IsLeftAlone (handheld rows base archive : List ℕ) (how : HsHow)
    (fault : MergeFault) : Type 0 where
  pub both : BothSides
  pub sides : AreSides handheld rows base archive both
  pub one : is_one both ≡ true
  pub wishes : MergeWishes
  pub asked : wishes_of how ≡ Some wishes
  pub why : Refuses (opened both) wishes fault

abbrev pub RefusesMerge : List ℕ → List ℕ → List ℕ → List ℕ → HsHow → MergeRefusal → Type 0
RefusesMerge handheld rows base archive how Form =
    (wishes_of how ≡ None) ⊎ AreNoFiles handheld rows base archive
RefusesMerge handheld rows base archive how (Fault NoMemory) = ⊤
RefusesMerge handheld rows base archive how (Fault fault) =
    IsLeftAlone handheld rows base archive how fault

-- it refuses so, and where the files end is as it was
abbrev pub RefusesAll : List ℕ → List ℕ → List ℕ → List ℕ → HsHow → HsEnds → HsEnds
    → MergeRefusal → Type 0
RefusesAll handheld rows base archive how ends ends_after refusal =
    RefusesMerge handheld rows base archive how refusal × (ends_after ≡ ends)

-- ---- the room

-- the whole text and behind it what stood there before; where it doesn't fit all stays
abbrev pub filled_whole : List ℕ → List ℕ → List ℕ
filled_whole text room =
    if nat_le (length text) (length room) then put_first text room else room

-- the answer is how long the text is, and the room has all of it, or nothing
pub record PutsWhole (text room room_after : List ℕ) (answer : ℤ) : Type 0 where
  pub length_is : answer ≡ pos (length text)
  pub room_is : room_after ≡ filled_whole text room

-- a call that puts such a text whole into the room, or refuses so and leaves the room as it was
abbrev pub AnswersWhole : (List ℕ → Type 0) → (MergeRefusal → Type 0) → List ℕ → List ℕ → ℤ
    → Type 0
AnswersWhole IsText Refuses room room_after answer =
    ((text : List ℕ) × IsText text × PutsWhole text room room_after answer)
    ⊎ ((refusal : MergeRefusal) × Refuses refusal × (answer ≡ merge_answer refusal)
    × (room_after ≡ room))
