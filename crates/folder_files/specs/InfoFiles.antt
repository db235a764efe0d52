-- The information files of a handheld, `device.inf`, and of a desktop, `desktop.inf`.
use Rattle.std.specs.Prelude.{◌≡◌, ◌==◌, ◌-◌, ◌≤◌, ◌⊎◌, ◌||◌, ℕ, zero, suc, Bool, true, not, nat_eq, List, [], ◌∷◌, ◌++◌, length, codes, if◌then◌else◌}
use Rattle.std.specs.Prelude.{Result, Ok, Err}
use Rattle.std.specs.Fmt.{decimal}
use Rattle.std.specs.List.{AllByRecursion, flat_map, list_any, starts_with}
use Rattle.pdb_values.specs.declared.user.UserInfo.{UserInfo}
use Rattle.pdb_values.specs.declared.user.Marks.{Marks}
use Rattle.folder_files.specs.Lines.{AreLines, Count, Date, LineForm, Name, Number, Password, Positive, SaysDate, SaysName, SaysNumber, SaysStem, Slot, Stem, Title}
use Rattle.folder_files.specs.Lines.{Value, Values, lines_text, text_of}
use Rattle.folder_files.specs.Partings.{follows, most_parted}
use Rattle.folder_files.specs.Reading.{◌>>=◌, line_at, lines_at}
use Rattle.folder_files.specs.Slots.{AllRise, AreSlots, SlotInfoValue, all_marks, may_follow, pc_of}
use Rattle.folder_files.specs.declared.parted.Parted.{Parted}
use Rattle.folder_files.specs.declared.parted.Parting.{Parting}
use Rattle.folder_files.specs.declared.parted.Parting.TheVariants.{Apart, Unmet}
use Rattle.folder_files.specs.declared.unread.Unread.{Unread}
use Rattle.folder_files.specs.declared.bad_line.BadLine.{BadLine}

-- the lines of a handheld's file
abbrev pub device_forms : List LineForm
device_forms =
    record { key = codes "hotsync-device 1"; kind = Title }
    ∷ record { key = codes "user "; kind = Number }
    ∷ record { key = codes "viewer "; kind = Number }
    ∷ record { key = codes "pc "; kind = Number }
    ∷ record { key = codes "good "; kind = Date }
    ∷ record { key = codes "last "; kind = Date }
    ∷ record { key = codes "name "; kind = Name }
    ∷ record { key = codes "password "; kind = Password }
    ∷ []

-- what they say of a user
abbrev pub device_values : UserInfo → Values device_forms
device_values info = (
  tt,
  (
    info.user,
    (
      info.viewer,
      (info.pc, (info.good, (info.last, (info.name, (info.password, tt))))),
    ),
  ),
)

-- the user of whom they say this
abbrev pub device_of : Values device_forms → UserInfo
device_of v =
    record {
      user = v.1.0;
      viewer = v.1.1.0;
      pc = v.1.1.1.0;
      good = v.1.1.1.1.0;
      last = v.1.1.1.1.1.0;
      name = v.1.1.1.1.1.1.0;
      password = v.1.1.1.1.1.1.1.0;
    }

-- the lines of a desktop's file of version 1, which has one user
abbrev pub one_user_forms : List LineForm
one_user_forms =
    record { key = codes "hotsync-desktop 1"; kind = Title }
    ∷ record { key = codes "pc "; kind = Positive }
    ∷ record { key = codes "user "; kind = Number }
    ∷ record { key = codes "last "; kind = Date }
    ∷ record { key = codes "name "; kind = Name }
    ∷ []

-- what they say of a desktop
abbrev pub one_user_values : Marks → Values one_user_forms
one_user_values marks = (tt, (marks.pc, (marks.user, (marks.last, (marks.name, tt)))))

-- a slot without databases that took no part
abbrev pub plain_info : Marks → SlotInfoValue
plain_info marks = record { marks = marks; parted = [] }

-- the desktop of which they say this: its only slot
abbrev pub one_slot_of : Values one_user_forms → List SlotInfoValue
one_slot_of v =
    plain_info (record { pc = v.1.0; user = v.1.1.0; last = v.1.1.1.0; name = v.1.1.1.1.0 }) ∷ []

-- the first lines of a desktop's file: of version 3, which has lines of databases that took no
-- part, or of version 2, which has none
abbrev pub title_form : Bool → LineForm
title_form third = record {
  key = if third then codes "hotsync-desktop 3" else codes "hotsync-desktop 2";
  kind = Title;
}

abbrev pub pc_form : LineForm
pc_form = record { key = codes "pc "; kind = Positive }

abbrev pub count_form : LineForm
count_form = record { key = codes "slots "; kind = Count }

-- how many lines of databases a slot may have in it
abbrev pub room_in : Bool → ℕ
room_in third = if third then most_parted else 0

-- the line of a slot
abbrev pub slot_form : ℕ → LineForm
slot_form number = record { key = codes "slot " ++ (decimal number ++ codes " "); kind = Slot }

-- the word in front of the stem of a database that took no part, and its line
abbrev pub parting_word : Parting → List ℕ
parting_word Apart = codes "apart "
parting_word Unmet = codes "unmet "

abbrev pub parted_form : Parting → LineForm
parted_form how = record { key = parting_word how; kind = Stem }

-- the lines of these databases, with others behind them
abbrev pub with_parted : List Parted → List LineForm → List LineForm
with_parted [] forms = forms
with_parted (one ∷ parted) forms = parted_form one.how ∷ with_parted parted forms

-- the lines of these slots, from this number on: that of each, and those of its databases
abbrev pub slot_forms : ℕ → List SlotInfoValue → List LineForm
slot_forms number [] = []
slot_forms number (info ∷ infos) =
    slot_form number ∷ with_parted info.parted (slot_forms (suc number) infos)

-- what a desktop knows of the user of a slot
abbrev pub said_of : Marks → Value Slot
said_of marks = (marks.user, marks.last, marks.name)

-- what the lines of databases say, and those behind them
abbrev pub parted_values : (parted : List Parted) (forms : List LineForm) → Values forms
    → Values (with_parted parted forms)
parted_values [] forms values = values
parted_values (one ∷ parted) forms values = (one.name, parted_values parted forms values)

-- what the lines of slots say
abbrev pub slot_values : (number : ℕ) (infos : List SlotInfoValue)
    → Values (slot_forms number infos)
slot_values number [] = tt
slot_values number (info ∷ infos) = (
  said_of info.marks,
  parted_values info.parted (slot_forms (suc number) infos) (slot_values (suc number) infos),
)

-- what is written says it: the user of a slot
pub record IsUserSaid (marks : Marks) : Type 0 where
  pub number : SaysNumber marks.user (text_of Number marks.user)
  pub date : SaysDate marks.last (text_of Date marks.last)
  pub name : SaysName marks.name (text_of Name marks.name)

-- a database
abbrev pub IsPartedSaid : Parted → Type 0
IsPartedSaid one = SaysStem one.name (text_of Stem one.name)

-- a slot
pub record IsSlotSaid (info : SlotInfoValue) : Type 0 where
  pub user : IsUserSaid info.marks
  pub parted : AllByRecursion IsPartedSaid info.parted

-- the number of the desktop and each of its slots
pub record AreSaid (infos : List SlotInfoValue) : Type 0 where
  pub number : SaysNumber (pc_of (all_marks infos)) (text_of Positive (pc_of (all_marks infos)))
  pub each : AllByRecursion IsSlotSaid infos

-- the lines that are written of a user, of a database and of a slot
abbrev pub user_line : ℕ → Marks → List ℕ
user_line number marks = (slot_form number).key ++ (text_of Slot (said_of marks) ++ 10 ∷ [])

abbrev pub parted_line : Parted → List ℕ
parted_line one = (parted_form one.how).key ++ (text_of Stem one.name ++ 10 ∷ [])

abbrev pub slot_lines : ℕ → SlotInfoValue → List ℕ
slot_lines number info = user_line number info.marks ++ flat_map parted_line info.parted

-- the lines of a desktop's file, and what they say
abbrev pub desktop_forms : Bool → List SlotInfoValue → List LineForm
desktop_forms third infos = title_form third ∷ pc_form ∷ count_form ∷ slot_forms 0 infos

abbrev pub desktop_values : (third : Bool) (infos : List SlotInfoValue)
    → Values (desktop_forms third infos)
desktop_values third infos =
    (tt, (pc_of (all_marks infos), (length infos, slot_values 0 infos)))

-- some slot has a database that took no part
abbrev pub has_parted : List SlotInfoValue → Bool
has_parted infos = list_any (λ info. not (length info.parted == 0)) infos

-- the bytes are a file of this user
abbrev pub IsDeviceFile : UserInfo → List ℕ → Type 0
IsDeviceFile info bytes = AreLines device_forms (device_values info) bytes

-- the bytes are a file of version 1 of a desktop with these slots
pub record IsOneUserFile (infos : List SlotInfoValue) (bytes : List ℕ) : Type 0 where
  pub marks : Marks
  pub one : infos ≡ plain_info marks ∷ []
  pub lines : AreLines one_user_forms (one_user_values marks) bytes

-- the bytes are a file of version 2 or 3 of a desktop with these slots
pub record IsSlotsFile (infos : List SlotInfoValue) (bytes : List ℕ) : Type 0 where
  pub third : Bool
  pub room : AllByRecursion (λ info. length info.parted ≤ room_in third) infos
  pub lines : AreLines (desktop_forms third infos) (desktop_values third infos) bytes

-- the bytes are a file of a desktop with these slots, of any version
pub record IsDesktopFile (infos : List SlotInfoValue) (bytes : List ℕ) : Type 0 where
  pub formed : AreSlots (all_marks infos)
  pub rise : AllRise infos
  pub lines : IsOneUserFile infos bytes ⊎ IsSlotsFile infos bytes

-- the file that is written of a user
abbrev pub device_text : UserInfo → List ℕ
device_text info = lines_text device_forms (device_values info)

-- the file that is written of a desktop's slots: of version 2 where no database took no part
abbrev pub desktop_text : List SlotInfoValue → List ℕ
desktop_text infos =
    lines_text (desktop_forms (has_parted infos) infos) (desktop_values (has_parted infos) infos)

-- what lines say makes this; else the place is that of the first byte that is left unread
abbrev pub made : {A B : Type 0} → (A → B) → List ℕ → Result A Unread → Result B BadLine
made make bytes (Ok values) = Ok (make values)
made make bytes (Err unread) = Err (record { place = length bytes - unread.0 })

-- the user of a handheld's file, or where its first bad line begins
unfoldable pub device_in : List ℕ → Result UserInfo BadLine
device_in bytes = made device_of bytes (lines_at device_forms bytes)

-- what a desktop with this number knows of the user of a slot
abbrev pub marks_of : ℕ → Value Slot → Marks
marks_of pc said = record { pc = pc; user = said.0; last = said.1; name = said.2 }

-- these marks, where a slot behind those before may have their user; else the bytes from its line on
-- are left unread
abbrev pub if_follows : List SlotInfoValue → Marks → List ℕ → Result Marks Unread
if_follows before marks bytes =
    if may_follow (all_marks before) marks.user then Ok marks
    else Err (record { 0 = length bytes })

-- the line at the front begins with the word of a database that took no part, and with which
abbrev pub is_parted_line : List ℕ → Bool
is_parted_line bytes =
    starts_with nat_eq bytes (parting_word Apart) || starts_with nat_eq bytes (parting_word Unmet)

abbrev pub parting_at : List ℕ → Parting
parting_at bytes = if starts_with nat_eq bytes (parting_word Apart) then Apart else Unmet

-- a database more, where its stem stands behind those before; else the bytes from its line on are
-- left unread
abbrev pub if_behind : List Parted → Parted → List ℕ → Result (List Parted) Unread
if_behind before one bytes =
    if follows before one.name then Ok (before ++ one ∷ []) else Err (record { 0 = length bytes })

-- the databases of a slot behind those before, at most so many, and what stands behind their lines;
-- else the bytes from the first bad line on are left unread
unfoldable pub parted_at : ℕ → List Parted → List ℕ → Result (List Parted × List ℕ) Unread
parted_at zero before bytes = Ok (before, bytes)
parted_at (suc room) before bytes =
    if is_parted_line bytes then
    (line_at (parted_form (parting_at bytes)) bytes >>= λ found. if_behind before
    (record { name = found.0; how = parting_at bytes }) bytes >>= λ parted. parted_at room parted found.1)
    else Ok (before, bytes)

-- so many slots behind those before, each with at most so many such databases, and nothing behind
-- them; else the bytes from the first bad line on are left unread
unfoldable pub slots_at : ℕ → ℕ → ℕ → List SlotInfoValue → List ℕ
    → Result (List SlotInfoValue) Unread
slots_at room pc zero before bytes =
    if length bytes == 0 then Ok before else Err (record { 0 = length bytes })
slots_at room pc (suc count) before bytes =
    line_at (slot_form (length before)) bytes >>= λ found.
    if_follows before (marks_of pc found.0) bytes >>= λ marks. parted_at room [] found.1 >>= λ parted.
    slots_at room pc count (before ++ record { marks = marks; parted = parted.0 } ∷ []) parted.1

-- the slots of a file of version 2 or 3
unfoldable pub many_slots_at : Bool → List ℕ → Result (List SlotInfoValue) Unread
many_slots_at third bytes =
    line_at (title_form third) bytes >>= λ title. line_at pc_form title.1 >>= λ pc.
    line_at count_form pc.1 >>= λ count. slots_at (room_in third) pc.0 count.0 [] count.1

-- the slot of a file of version 1
unfoldable pub one_slot_at : List ℕ → Result (List SlotInfoValue) Unread
one_slot_at bytes = lines_at one_user_forms bytes >>= λ values. Ok (one_slot_of values)

-- files of versions 1 and 3 are told by their first lines
abbrev pub is_one_user : List ℕ → Bool
is_one_user bytes = starts_with nat_eq bytes (codes "hotsync-desktop 1")

abbrev pub is_third : List ℕ → Bool
is_third bytes = starts_with nat_eq bytes (title_form true).key

-- the slots of a desktop's file, or where its first bad line begins
unfoldable pub desktop_in : List ℕ → Result (List SlotInfoValue) BadLine
desktop_in bytes =
    made (λ infos. infos) bytes
    (if is_one_user bytes then one_slot_at bytes else many_slots_at (is_third bytes) bytes)
