-- A handheld of another make. It keeps databases, a user and what is open as ours does; it lists
-- its databases under indices of its own, as many a reply as it likes, opens them under any handle,
-- replies with as many ids and bytes as it likes, and may refuse any request.
use Rattle.std.specs.Prelude.{◌≡◌, ◌⊎◌, ◌+◌, ◌<◌, ◌≤◌, ◌==◌, ◌^◌, ℕ, suc, Bool, true, false, List, [], ◌∷◌, ◌++◌, map, take, Some, Ok, IsPermutation}
use Rattle.std.specs.List.{AllByRecursion}
use Rattle.pdb_values.specs.Databases.{DatabaseValue}
use Rattle.pdb_values.specs.Heads.{has_bit}
use Rattle.pdb_values.specs.NamedDatabases.{database_of}
use Rattle.pdb_values.specs.declared.head.DbHead.{DbHead}
use Rattle.dlp_args.specs.Fields.{Fields}
use Rattle.dlp_requests.specs.Forms as form
use Rattle.dlp_requests.specs.Forms.{Form, kinds_of}
use Rattle.dlp_requests.specs.RequestReading.{request_at}
use Rattle.dlp_requests.specs.RequestTexts.{request_text}
use Rattle.dlp_requests.specs.RequestValues.{RequestValue}
use Rattle.dlp_replies.specs.ReplyReading.{reply_at}
use Rattle.dlp_replies.specs.ReplyValues as reply
use Rattle.dlp_replies.specs.ReplyValues.{ReplyValue}
use Rattle.palm_device.specs.Devices.{Device}
use Rattle.palm_device.specs.Handles.{no_handles}
use Rattle.dlp_commands.specs.DatabaseFunctions as databases
use Rattle.dlp_commands.specs.DeviceSteps.{DeviceStep, function_number}
use Rattle.desktop_session.specs.Orders.{may_find_none}
use Rattle.desktop_session.specs.Tellings.{IsTellable}
use Rattle.desktop_session.specs.Wholes.{is_whole}

-- ---- what it is

-- what it keeps, and what is open, as under handle 1; the index and the name of each database, in
-- the order of its lists; and the handle under which it has opened what is open
pub record Foreign : Type 0 where
  pub device : Device
  pub listed : List (ℕ × List ℕ)
  pub handle : ℕ

-- indices of two bytes rise, from this one on
abbrev pub Rise : ℕ → List (ℕ × List ℕ) → Type 0
Rise start [] = Unit {0}
Rise start (one ∷ later) = (start ≤ one.0) × (one.0 < 2 ^ 16) × Rise (one.0 + 1) later

-- it keeps the bounds of a device, and lists each of its databases once
pub record IsForeign (hand : Foreign) : Type 0 where
  pub proper : IsTellable hand.device
  pub rise : Rise 0 hand.listed
  pub names : IsPermutation (map (λ (one : ℕ × List ℕ). one.1) hand.listed)
      (map (λ (database : DatabaseValue). database.head.name) hand.device.databases)
  pub byte : hand.handle < 2 ^ 8

-- ---- a request under its handle, as one under handle 1

-- the fields of a request under another handle, where it has one
abbrev pub at_handle : ℕ → (f : Form) → Fields (kinds_of f) → Fields (kinds_of f)
at_handle handle form.CloseDb (other, more) = (handle, more)
at_handle handle form.ReadAppBlock (other, more) = (handle, more)
at_handle handle form.WriteAppBlock (other, more) = (handle, more)
at_handle handle form.ReadSortBlock (other, more) = (handle, more)
at_handle handle form.WriteSortBlock (other, more) = (handle, more)
at_handle handle form.ReadNextModifiedRec (other, more) = (handle, more)
at_handle handle form.ReadRecordById (other, more) = (handle, more)
at_handle handle form.ReadRecordByIndex (other, more) = (handle, more)
at_handle handle form.WriteRecord (other, more) = (handle, more)
at_handle handle form.DeleteRecord (other, more) = (handle, more)
at_handle handle form.ReadResourceByIndex (other, more) = (handle, more)
at_handle handle form.ReadResourceByType (other, more) = (handle, more)
at_handle handle form.WriteResource (other, more) = (handle, more)
at_handle handle form.DeleteResource (other, more) = (handle, more)
at_handle handle form.CleanUpDatabase (other, more) = (handle, more)
at_handle handle form.ResetSyncFlags (other, more) = (handle, more)
at_handle handle form.ReadOpenDbInfo (other, more) = (handle, more)
at_handle handle form.MoveCategory (other, more) = (handle, more)
at_handle handle form.ResetRecordIndex (other, more) = (handle, more)
at_handle handle form.ReadRecordIdList (other, more) = (handle, more)
at_handle handle other fields = fields

-- the same request under handle 1
abbrev pub twin : RequestValue → RequestValue
twin request = record {
  form = request.form;
  fields = at_handle 1 request.form request.fields;
}

-- ---- a list of databases

-- an entry is that of a database, under its index
pub record IsEntry (device : Device) (one : ℕ × List ℕ) (entry : ℕ × DbHead) : Type 0 where
  pub database : DatabaseValue
  pub there : database_of one.1 device.databases ≡ Some database
  pub is : entry ≡ (one.0, databases.listed database.head)

-- each at its place
abbrev pub AreEntries : Device → List (ℕ × List ℕ) → List (ℕ × DbHead) → Type 0
AreEntries device [] [] = Unit {0}
AreEntries device [] (entry ∷ entries) = ⊥
AreEntries device (one ∷ later) [] = ⊥
AreEntries device (one ∷ later) (entry ∷ entries) =
    IsEntry device one entry × AreEntries device later entries

-- these heads are those of all databases in the order of its lists, and nothing changed
pub record HasEachHead (old : Foreign) (heads : List DbHead) (new : Foreign) : Type 0 where
  pub entries : List (ℕ × DbHead)
  pub are : AreEntries old.device old.listed entries
  pub is : heads ≡ map (λ (entry : ℕ × DbHead). entry.1) entries
  pub same : new ≡ old

-- the last index of these
abbrev pub last_index : ℕ × List ℕ → List (ℕ × List ℕ) → ℕ
last_index one [] = one.0
last_index one (next ∷ later) = last_index next later

-- none of these has such an index
abbrev pub AreBelow : ℕ → List (ℕ × List ℕ) → Type 0
AreBelow start listed = AllByRecursion (λ (other : ℕ × List ℕ). other.0 < start) listed

abbrev pub is_some_left : {X : Type 0} → List X → Bool
is_some_left [] = false
is_some_left (x ∷ xs) = true

-- some databases, from the first one at or above a start on; flag 0x80 says whether more follow
pub record IsPage (hand : Foreign) (start : ℕ) (value : ReplyValue) : Type 0 where
  pub before : List (ℕ × List ℕ)
  pub first : ℕ × List ℕ
  pub later : List (ℕ × List ℕ)
  pub behind : List (ℕ × List ℕ)
  pub parts : hand.listed ≡ before ++ (first ∷ later) ++ behind
  pub below : AreBelow start before
  pub above : start ≤ first.0
  pub flags : ℕ
  pub entries : List (ℕ × DbHead)
  pub are : AreEntries hand.device (first ∷ later) entries
  pub more : has_bit 0x80 flags ≡ is_some_left behind
  pub is : value ≡ reply.ReadDbList (last_index first later) flags entries

-- error 5, where none is left at or above the start
pub record HasNoneFrom (hand : Foreign) (start : ℕ) (value : ReplyValue) : Type 0 where
  pub below : AreBelow start hand.listed
  pub is : value ≡ reply.Refused 0x16 5

-- ---- replies to the other functions

-- ours opened it under handle 1, and this one under its own; or both were refused
abbrev pub IsOpened : ℕ → ReplyValue → ReplyValue → Type 0
IsOpened handle (reply.OpenDb one) value = (one ≡ 1) × (value ≡ reply.OpenDb handle)
IsOpened handle (reply.CreateDb one) value = (one ≡ 1) × (value ≡ reply.CreateDb handle)
IsOpened handle (reply.Refused number code) value = value ≡ reply.Refused number code
IsOpened handle other value = ⊥

-- of the ids in our reply as many as it likes, but one at least, where there is one
abbrev pub IsPartOf : ReplyValue → ReplyValue → Type 0
IsPartOf (reply.ReadRecordIdList ids) value =
    (count : ℕ) × (value ≡ reply.ReadRecordIdList (take (suc count) ids))
IsPartOf other value = value ≡ other

-- ours, or a record with fewer bytes than the size that is told
abbrev pub IsOursOrCut : ReplyValue → ReplyValue → Type 0
IsOursOrCut ours value = (value ≡ ours) ⊎ (is_whole (Ok value) ≡ false)

-- where our reply to a request is this, its may be that
abbrev pub MayReply : Form → ℕ → ReplyValue → ReplyValue → Type 0
MayReply form.OpenDb handle ours value = IsOpened handle ours value
MayReply form.CreateDb handle ours value = IsOpened handle ours value
MayReply form.ReadRecordIdList handle ours value = IsPartOf ours value
MayReply form.ReadNextModifiedRec handle ours value = IsOursOrCut ours value
MayReply form.ReadRecordById handle ours value = IsOursOrCut ours value
MayReply form.ReadRecordByIndex handle ours value = IsOursOrCut ours value
MayReply other handle ours value = value ≡ ours

-- the handle is another one only where something is opened
abbrev pub KeepsHandle : Form → ℕ → ℕ → Type 0
KeepsHandle form.OpenDb old new = Unit {0}
KeepsHandle form.CreateDb old new = Unit {0}
KeepsHandle other old new = new ≡ old

-- ---- what it does

-- a request is refused with any error; but 5, where that says that there is none, is told only
-- where there is none
pub record Refuses (old : Foreign) (request : RequestValue) (value : ReplyValue) (new : Foreign)
    : Type 0 where
  pub code : ℕ
  pub is : value ≡ reply.Refused (function_number request) code
  pub other : may_find_none request.form ≡ true → (code == 5) ≡ false
  pub same : new ≡ old

-- a request under its handle does what it does to ours under handle 1, and is replied so
pub record Does (old : Foreign) (request : RequestValue) (value : ReplyValue) (new : Foreign)
    : Type 0 where
  pub under : request.fields ≡ at_handle old.handle request.form request.fields
  pub own : List ℕ
  pub step : DeviceStep old.device (request_text (twin request)) own new.device
  pub ours : ReplyValue
  pub told : reply_at (function_number request) own ≡ Ok ours
  pub replies : MayReply request.form new.handle ours value
  pub keeps : KeepsHandle request.form old.handle new.handle

-- its databases are listed, and nothing changes; or it does what ours does
abbrev pub Grants : Foreign → (f : Form) → Fields (kinds_of f) → ReplyValue → Foreign → Type 0
Grants old form.ReadDbList (flags, (card, (start, end))) value new =
    (IsPage old start value ⊎ HasNoneFrom old start value) × (new ≡ old)
Grants old other fields value new =
    Does old (record { form = other; fields = fields }) value new

-- one step: the request is refused or granted, and the bytes of the reply are read so
pub record ForeignStep (old : Foreign) (bytes answer : List ℕ) (new : Foreign) : Type 0 where
  pub request : RequestValue
  pub asked : request_at bytes ≡ Ok request
  pub value : ReplyValue
  pub reads : reply_at (function_number request) answer ≡ Ok value
  pub serves : Refuses old request value new
      ⊎ Grants old request.form request.fields value new
  pub proper : IsForeign new

-- ---- our own device as one

-- its databases under their places, from this one on
abbrev pub listed_from : ℕ → List DatabaseValue → List (ℕ × List ℕ)
listed_from place [] = []
listed_from place (database ∷ later) =
    (place, database.head.name) ∷ listed_from (place + 1) later

-- it gives handle 1
abbrev pub as_foreign : Device → Foreign
as_foreign device = record {
  device = device;
  listed = listed_from 0 device.databases;
  handle = 1;
}

-- the heads of its databases, as they are listed
abbrev pub own_heads : List DatabaseValue → List DbHead
own_heads kept = map (λ (database : DatabaseValue). databases.listed database.head) kept

-- a request of a session that has nothing else open: a list has the flags of a session's, what is
-- opened or made is the only one, and all else is under handle 1, where it has one
abbrev pub IsAskedAlone : Device → (f : Form) → Fields (kinds_of f) → Type 0
IsAskedAlone device form.ReadDbList (flags, (card, more)) = (flags ≡ 0x80) × (card ≡ 0)
IsAskedAlone device form.OpenDb (card, more) = (card ≡ 0) × (device.handles ≡ no_handles)
IsAskedAlone device form.CreateDb (creator, (kind, (card, more))) =
    (card ≡ 0) × (device.handles ≡ no_handles)
IsAskedAlone device other fields = fields ≡ at_handle 1 other fields
