-- The order that a session keeps: what may be asked of a device when, so that it is answered.
use Rattle.std.specs.Prelude.{◌≡◌, ◌≤◌, ◌<◌, ◌^◌, ◌==◌, ℕ, Bool, true, false, List, [], ◌∷◌, length, Option, Some, None, Result, Ok, Err, IsSome, IsSomeAnd}
use Rattle.std.specs.Prelude.{◌&&◌}
use Rattle.std.specs.List.{list_any}
use Rattle.pdb_values.specs.Names.{IsName}
use Rattle.pdb_values.specs.NamedDatabases.{database_of}
use Rattle.pdb_values.specs.PalmDates.{read_wire}
use Rattle.pdb_values.specs.Users.{user_name_of}
use Rattle.pdb_values.specs.declared.user.UserInfo.{UserInfo}
use Rattle.dlp_args.specs.Fields.{Fields}
use Rattle.dlp_requests.specs.Forms as form
use Rattle.dlp_requests.specs.Forms.{Form, kinds_of}
use Rattle.dlp_replies.specs.ReplyValues.{ReplyValue, Refused}
use Rattle.palm_device.specs.Devices.{Device, most_databases}
use Rattle.palm_device.specs.Handles.{Base, base_at, is_open, is_writable, no_handles, opened_at}
use Rattle.palm_device.specs.Heads.{has_bit, is_read_only}
use Rattle.palm_device.specs.Records.{is_new}
use Rattle.palm_device.specs.Resources.{has_room}
use Rattle.dlp_commands.specs.Holding.{on_records, on_resources}
use Rattle.dlp_commands.specs.Talks.{Talk}
use Rattle.dlp_commands.specs.UserFunctions.{name_length, name_or_empty, with_marks}
use Rattle.desktop_session.specs.declared.fault.SessionFault.{SessionFault}
use Rattle.desktop_session.specs.declared.fault.SessionFault.TheVariants as session
use Rattle.desktop_session.specs.Acts.{Act, acted}
use Rattle.desktop_session.specs.Tellings.{IsTellable, IsSayable, told}

-- ---- what may be asked when

-- nothing is open, and a database of this name is there, which may be opened in this mode
pub record CanOpen (device : Device) (card mode : ℕ) (name : List ℕ) : Type 0 where
  pub first : card ≡ 0
  pub named : IsName name
  pub none_open : device.handles ≡ no_handles
  pub there : IsSomeAnd (database_of name device.databases)
      (λ database. (has_bit 0x40 mode && is_read_only database.head.attributes) ≡ false)

-- nothing is open, and there is none of this name, but room for it
pub record CanMake (device : Device) (card : ℕ) (name : List ℕ) : Type 0 where
  pub first : card ≡ 0
  pub named : IsName name
  pub none_open : device.handles ≡ no_handles
  pub none : database_of name device.databases ≡ None
  pub room : length device.databases < most_databases

-- a database of this name is not open, wherever it is
pub record CanDelete (device : Device) (card : ℕ) (name : List ℕ) : Type 0 where
  pub first : card ≡ 0
  pub named : IsName name
  pub closed : is_open name device.handles ≡ false

-- a date, and the name of a user with the length that goes with it
pub record CanMark (date : List ℕ) (name_len : ℕ) (name : Option (List ℕ)) : Type 0 where
  pub dated : IsSome (read_wire date)
  pub counted : name_len ≡ name_length name
  pub named : IsSome (user_name_of (name_or_empty name))

-- the date and the name of a user are what they have to be
pub record IsMark (mark : UserInfo) : Type 0 where
  pub last : mark.last < 2 ^ 32
  pub short : length mark.name ≤ 40
  pub no_zero : list_any (λ byte. byte == 0) mark.name ≡ false

-- the device whose user is marked: what the bits say becomes the mark's
abbrev pub with_mark : UserInfo → ℕ → Device → Device
with_mark mark bits device = record device {
  user = with_marks bits mark.user mark.viewer mark.pc mark.last mark.name device.user;
}

-- a database of records
abbrev pub HasRecords : Base → Type 0
HasRecords base = on_records base.database ≡ true

-- a database of records, which is open for writing
pub record TakesRecords (base : Base) : Type 0 where
  pub writable : is_writable base ≡ true
  pub records : on_records base.database ≡ true

-- a record is there at the index
pub record HasRecordAt (index : ℕ) (base : Base) : Type 0 where
  pub records : on_records base.database ≡ true
  pub there : index < length base.database.records

-- a resource is there at the index
pub record HasResourceAt (index : ℕ) (base : Base) : Type 0 where
  pub resources : on_resources base.database ≡ true
  pub there : index < length base.database.resources

-- a record of this id and category may be written, and where it would be a new one, there is room
-- for it
pub record TakesRecord (id category : ℕ) (base : Base) : Type 0 where
  pub takes : TakesRecords base
  pub bounded : id ≤ 16777215
  pub sorted : category ≤ 15
  pub room : is_new id base.database.records ≡ true → length base.database.records < 65535

-- a resource of this type and id may be written
pub record TakesResource (kind : List ℕ) (id : ℕ) (base : Base) : Type 0 where
  pub writable : is_writable base ≡ true
  pub resources : on_resources base.database ≡ true
  pub room : has_room kind id base.database.resources ≡ true

-- A request of a session may be asked of this device: what it names is as it has to be. Whole
-- blocks, records and resources are read, the databases are listed one by one, one record is taken
-- away. A session has no call for the other functions.
abbrev pub CanAsk : Device → (f : Form) → Fields (kinds_of f) → Type 0
CanAsk device form.ReadUserInfo none = Unit {0}
CanAsk device form.WriteUserInfo (user, (viewer, (pc, (date, (bits, (name_len, (name, end))))))) =
    CanMark date name_len name
CanAsk device form.ReadDbList (flags, (card, more)) = (card ≡ 0) × (has_bit 0x80 flags ≡ true)
CanAsk device form.OpenDb (card, (mode, (name, end))) = CanOpen device card mode name
CanAsk device form.CreateDb (creator, (kind, (card, (pad, (flags, (version, (name, end))))))) =
    CanMake device card name
CanAsk device form.CloseDb (handle, end) = IsSome (opened_at handle device.handles)
CanAsk device form.DeleteDb (card, (pad, (name, end))) = CanDelete device card name
CanAsk device form.ReadAppBlock (handle, (pad, (offset, more))) =
    (offset ≡ 0) × IsSome (base_at device handle)
CanAsk device form.ReadSortBlock (handle, (pad, (offset, more))) =
    (offset ≡ 0) × IsSome (base_at device handle)
CanAsk device form.WriteAppBlock (handle, more) =
    IsSomeAnd (base_at device handle) (λ base. is_writable base ≡ true)
CanAsk device form.WriteSortBlock (handle, more) =
    IsSomeAnd (base_at device handle) (λ base. is_writable base ≡ true)
CanAsk device form.ReadNextModifiedRec (handle, end) = IsSomeAnd (base_at device handle) HasRecords
CanAsk device form.ReadRecordById (handle, (pad, (id, (offset, more)))) =
    (offset ≡ 0) × IsSomeAnd (base_at device handle) HasRecords
CanAsk device form.ReadRecordByIndex (handle, (pad, (index, (offset, more)))) =
    (offset ≡ 0) × IsSomeAnd (base_at device handle) (HasRecordAt index)
CanAsk device form.WriteRecord (handle, (flags, (id, (attributes, (category, more))))) =
    IsSomeAnd (base_at device handle) (TakesRecord id category)
CanAsk device form.DeleteRecord (handle, (flags, more)) =
    (flags ≡ 0) × IsSomeAnd (base_at device handle) TakesRecords
CanAsk device form.ReadResourceByIndex (handle, (pad, (index, (offset, more)))) =
    (offset ≡ 0) × IsSomeAnd (base_at device handle) (HasResourceAt index)
CanAsk device form.WriteResource (handle, (pad, (kind, (id, more)))) =
    IsSomeAnd (base_at device handle) (TakesResource kind id)
CanAsk device form.CleanUpDatabase (handle, end) = IsSomeAnd (base_at device handle) TakesRecords
CanAsk device form.ResetSyncFlags (handle, end) = IsSomeAnd (base_at device handle) TakesRecords
CanAsk device form.ReadOpenDbInfo (handle, end) = IsSome (base_at device handle)
CanAsk device form.OpenConduit none = Unit {0}
CanAsk device form.EndOfSync fields = Unit {0}
CanAsk device form.ReadRecordIdList (handle, more) = IsSomeAnd (base_at device handle) HasRecords
CanAsk device other fields = ⊥

-- an act may be said of a device
unfoldable pub IsPossible : Act → Device → Type 0
IsPossible act device = CanAsk device act.asks.form act.asks.fields

-- each act at its turn
abbrev pub AreInOrder : List Act → Device → Type 0
AreInOrder [] device = Unit {0}
AreInOrder (act ∷ acts) device = IsPossible act device × AreInOrder acts (acted act device).1

-- ---- how it is answered

-- a request whose call has an answer of its own for error 5: that there is none
abbrev pub may_find_none : Form → Bool
may_find_none form.ReadDbList = true
may_find_none form.DeleteDb = true
may_find_none form.ReadAppBlock = true
may_find_none form.ReadSortBlock = true
may_find_none form.ReadNextModifiedRec = true
may_find_none form.ReadRecordById = true
may_find_none form.DeleteRecord = true
may_find_none other = false

-- an act whose call has no answer of its own for error 5
abbrev pub HasToBeFound : Act → Type 0
HasToBeFound one = may_find_none one.asks.form ≡ false

-- a reply that is no error, or error 5 to a request whose call has an answer for it
abbrev pub IsAnswered : Form → ReplyValue → Type 0
IsAnswered f (Refused number code) = (may_find_none f ≡ true) × (code ≡ 5)
IsAnswered f other = Unit {0}

-- each act at its turn
abbrev pub AreAnswered : List Act → Device → Type 0
AreAnswered [] device = Unit {0}
AreAnswered (act ∷ acts) device =
    IsAnswered act.asks.form (told act device) × AreAnswered acts (acted act device).1

-- an answer that is neither an error of the handheld's nor bytes that are no reply
abbrev pub IsUnrefused : {A : Type 0} → Result A SessionFault → Type 0
IsUnrefused (Ok x) = Unit {0}
IsUnrefused (Err (session.Refused function code)) = ⊥
IsUnrefused (Err (session.BadReply function broken)) = ⊥
IsUnrefused (Err other) = Unit {0}

-- a cause to stop that is neither of them
abbrev pub IsNoRefusal : SessionFault → Type 0
IsNoRefusal cause = IsUnrefused {A = Unit {0}} (Err cause)

-- a session over a link that tells its device says an act in its order
pub record SaysInOrder {L : Type 0} (talk : L → Option Talk) (act : Act) (link : L) : Type 0 where
  pub said : Talk
  pub tells : talk link ≡ Some said
  pub proper : IsTellable said.device
  pub sayable : IsSayable act said.device
  pub possible : IsPossible act said.device

-- over a link that tells a device whose values keep their bounds
pub record TellsDevice {L : Type 0} (talk : L → Option Talk) (said : Talk) (link : L)
    : Type 0 where
  pub is : talk link ≡ Some said
  pub proper : IsTellable said.device

-- over such a link a handle stands for an open database of records
pub record TellsRecords {L : Type 0} (talk : L → Option Talk) (handle : ℕ) (link : L)
    : Type 0 where
  pub said : Talk
  pub tells : TellsDevice talk said link
  pub byte : handle < 2 ^ 8
  pub records : IsSomeAnd (base_at said.device handle) HasRecords
