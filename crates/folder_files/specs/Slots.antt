-- The slots of a desktop, one for each user: what it knows of each, in the order of their numbers.
use Rattle.std.specs.Prelude.{◌≡◌, ◌≢◌, ◌<◌, ◌≤◌, ◌==◌, ◌&&◌, ◌||◌, ℕ, Bool, not, List, [], ◌∷◌, length, map, slice_index}
use Rattle.std.specs.List.{AllByRecursion, list_any}
use Rattle.pdb_values.specs.declared.user.Marks.{Marks}
use Rattle.folder_files.specs.Partings.{PartedRise}
use Rattle.folder_files.specs.declared.parted.Parted.{Parted}

-- what an information file says of a slot: what is known of its user, and its databases that took
-- no part in its last session
pub record SlotInfoValue : Type 0 where
  pub marks : Marks
  pub parted : List Parted

-- what is known of the user of each
abbrev pub all_marks : List SlotInfoValue → List Marks
all_marks infos = map (λ info. info.marks) infos

-- in each slot the stems rise
abbrev pub AllRise : List SlotInfoValue → Type 0
AllRise infos = AllByRecursion (λ info. PartedRise info.parted) infos

-- the desktop's own number, which each slot bears
abbrev pub pc_of : List Marks → ℕ
pc_of [] = 0
pc_of (marks ∷ slots) = marks.pc

-- the users of slots
abbrev pub users_of : List Marks → List ℕ
users_of slots = map (λ marks. marks.user) slots

-- no two users are equal, and only that of slot 0 may be 0, which means that it has none yet
abbrev pub AreUsers : List ℕ → Type 0
AreUsers users =
    (i j : ℕ) → i < j → j < length users
    → (slice_index users j ≢ 0) × (slice_index users i ≢ slice_index users j)

-- 1 to 16 slots of one desktop, whose number isn't 0, with users that differ
pub record AreSlots (slots : List Marks) : Type 0 where
  pub some : 1 ≤ length slots
  pub few : length slots ≤ 16
  pub number : 0 < pc_of slots
  pub one_desktop : AllByRecursion (λ marks. marks.pc ≡ pc_of slots) slots
  pub users : AreUsers (users_of slots)

-- one of the slots has this user
abbrev pub is_user : List Marks → ℕ → Bool
is_user slots user = list_any (λ marks. marks.user == user) slots

-- the next slot behind these may have this user
abbrev pub may_follow : List Marks → ℕ → Bool
may_follow slots user = (length slots == 0) || (not (user == 0) && not (is_user slots user))
