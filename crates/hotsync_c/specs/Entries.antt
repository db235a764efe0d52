-- What is answered of all entries of a file.
use Rattle.std.specs.Prelude.{◌≡◌, ◌⊎◌, ◌&&◌, ℕ, Bool, nat_le, List, length, ℤ, pos, if◌then◌else◌}
use Rattle.std.specs.List.{concat}
use Rattle.pdb_values.specs.Databases.{DatabaseValue}
use Rattle.pdb_files.specs.Files.{IsFileText, data_of}
use Rattle.hotsync_c.specs.Answers.{answer_of}
use Rattle.hotsync_c.specs.Parts.{entries_of}
use Rattle.hotsync_c.specs.Rooms.{put_first}
use Rattle.hotsync_c.specs.declared.parts.HsEntry.{HsEntry}
use Rattle.hotsync_c.specs.declared.refusal.Refusal.{Refusal}

-- the memory of a caller that the call may write
pub record EntryRooms : Type 0 where
  pub entries : List HsEntry
  pub bytes : List ℕ
  pub size : ℕ

-- such memory with this in it
abbrev pub rooms_of : List HsEntry → List ℕ → ℕ → EntryRooms
rooms_of entries bytes size = record { entries = entries; bytes = bytes; size = size }

-- the entries and their bytes have room
abbrev pub has_room : List HsEntry → List ℕ → EntryRooms → Bool
has_room entries bytes rooms =
    nat_le (length entries) (length rooms.entries) && nat_le (length bytes) (length rooms.bytes)

-- Both stand at the front of their rooms, or where one has no room neither does. The answer is how
-- many entries there are, and the size how many bytes, in either case.
pub record PutsEntries (entries : List HsEntry) (bytes : List ℕ) (old new : EntryRooms) (answer : ℤ)
    : Type 0 where
  pub answer_is : answer ≡ pos (length entries)
  pub size_is : new.size ≡ length bytes
  pub entries_is : new.entries
      ≡ (if has_room entries bytes old then put_first entries old.entries else old.entries)
  pub bytes_is : new.bytes
      ≡ (if has_room entries bytes old then put_first bytes old.bytes else old.bytes)

-- these are the entries of a file's database and their bytes
pub record AreEntriesOf (file : List ℕ) (entries : List HsEntry) (bytes : List ℕ) : Type 0 where
  pub database : DatabaseValue
  pub read : IsFileText database file
  pub entries_are : entries ≡ entries_of database
  pub bytes_are : bytes ≡ concat (data_of database)

-- a call that puts such entries into the rooms, or refuses so and leaves them as they were
abbrev pub AnswersEntries : (List HsEntry → List ℕ → Type 0) → (Refusal → Type 0) → EntryRooms
    → EntryRooms → ℤ → Type 0
AnswersEntries AreEntries Refuses old new answer =
    ((entries : List HsEntry) × (bytes : List ℕ) × AreEntries entries bytes
    × PutsEntries entries bytes old new answer)
    ⊎ ((refusal : Refusal) × Refuses refusal × (answer ≡ answer_of refusal) × (new ≡ old))
