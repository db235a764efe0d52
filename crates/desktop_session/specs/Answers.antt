-- What a call of a session answers: its link's fault, or what the reply says.
use Rattle.std.specs.Prelude.{◌≡◌, ℕ, Bool, true, false, List, [], ◌==◌, Option, None, Some, Result, Ok, Err, if◌then◌else◌}
use Rattle.std.specs.Option.{option_map}
use Rattle.pdb_values.specs.declared.head.DbHead.{DbHead}
use Rattle.pdb_values.specs.declared.user.UserInfo.{UserInfo}
use Rattle.dlp_replies.specs.declared.fault.ReplyFault.{ReplyFault}
use Rattle.dlp_replies.specs.ReplyValues as reply
use Rattle.dlp_replies.specs.ReplyValues.{ReplyValue}
use Rattle.dlp_commands.specs.declared.link.LinkFault.{LinkFault}
use Rattle.desktop_session.specs.declared.fault.SessionFault.{SessionFault}
use Rattle.desktop_session.specs.declared.fault.SessionFault.TheVariants as session
use Rattle.desktop_session.specs.Faults.{fault_of}
use Rattle.desktop_session.specs.Lent.{LentResource, LentValue}

-- the fault of the link, or what was said
abbrev pub answer_by : {A : Type 0} → Option LinkFault → Result A SessionFault
    → Result A SessionFault
answer_by None said = said
answer_by (Some fault) said = Err (fault_of fault)

-- what a reply to a function says, or its error, or the first rule that its bytes break
abbrev pub said_in : {A : Type 0} → ℕ → (ReplyValue → A) → Result ReplyValue ReplyFault
    → Result A SessionFault
said_in function take (Err broken) = Err (session.BadReply function broken)
said_in function take (Ok (reply.Refused number code)) =
    Err (session.Refused function (record { 0 = code }))
said_in function take (Ok value) = Ok (take value)

-- the same, with another value where there is one
abbrev pub mapped : {A B : Type 0} → (A → B) → Result A SessionFault → Result B SessionFault
mapped f (Ok x) = Ok (f x)
mapped f (Err fault) = Err fault

-- error 5 says that there is none
abbrev pub or_none : {A : Type 0} → Result A SessionFault → Result (Option A) SessionFault
or_none (Ok x) = Ok (Some x)
or_none (Err (session.Refused function code)) =
    if code.0 == 5 then Ok None else Err (session.Refused function code)
or_none (Err fault) = Err fault

-- the same of what says nothing more
abbrev pub or_false : Result (Unit {0}) SessionFault → Result Bool SessionFault
or_false (Ok done) = Ok true
or_false (Err (session.Refused function code)) =
    if code.0 == 5 then Ok false else Err (session.Refused function code)
or_false (Err fault) = Err fault

-- a copy of what was found, by its bytes; where there is none nothing is copied, and only a copy
-- wants memory
abbrev pub IsCopy : {X : Type 0} → (X → List ℕ) → Result (Option X) SessionFault
    → Result (Option (List ℕ)) SessionFault → Type 0
IsCopy bytes (Ok copy) said = said ≡ Ok (option_map bytes copy)
IsCopy bytes (Err fault) (Ok (Some found)) = fault ≡ session.NoMemory
IsCopy bytes (Err fault) said = said ≡ Err fault

-- nothing but that it was done
abbrev pub no_more : ReplyValue → Unit {0}
no_more value = tt

-- the handle of a database that is open now
abbrev pub handle_of : ReplyValue → ℕ
handle_of (reply.OpenDb handle) = handle
handle_of (reply.CreateDb handle) = handle
handle_of other = 0

-- a number of entries
abbrev pub count_of : ReplyValue → ℕ
count_of (reply.ReadOpenDbInfo count) = count
count_of other = 0

-- the id of a written record
abbrev pub id_of : ReplyValue → ℕ
id_of (reply.WriteRecord id) = id
id_of other = 0

-- ids of records
abbrev pub ids_of : ReplyValue → List ℕ
ids_of (reply.ReadRecordIdList ids) = ids
ids_of other = []

-- the last index of a list of databases, its flags, and its entries
abbrev pub list_of : ReplyValue → ℕ × ℕ × List (ℕ × DbHead)
list_of (reply.ReadDbList last flags entries) = (last, flags, entries)
list_of other = (0, 0, [])

-- the bytes of a block
abbrev pub block_of : ReplyValue → List ℕ
block_of (reply.ReadAppBlock bytes) = bytes
block_of (reply.ReadSortBlock bytes) = bytes
block_of other = []

-- a record
abbrev pub record_of : ReplyValue → LentValue
record_of (reply.ReadRecord id index size attributes category bytes) = record {
  id = id;
  attributes = attributes;
  category = category;
  bytes = bytes;
}
record_of (reply.ReadNextModifiedRec id index size attributes category bytes) =
    record { id = id; attributes = attributes; category = category; bytes = bytes }
record_of other = record { id = 0; attributes = 0; category = 0; bytes = [] }

-- a resource
abbrev pub resource_of : ReplyValue → LentResource
resource_of (reply.ReadResource kind id index size bytes) = record {
  kind = kind;
  id = id;
  bytes = bytes;
}
resource_of other = record { kind = []; id = 0; bytes = [] }

-- what a handheld knows of its user
abbrev pub user_of : ReplyValue → UserInfo
user_of (reply.ReadUserInfo user viewer pc good last name password) =
    record {
      user = user;
      viewer = viewer;
      pc = pc;
      good = good;
      last = last;
      name = name;
      password = password;
    }
user_of other = record {
  user = 0;
  viewer = 0;
  pc = 0;
  good = 0;
  last = 0;
  name = [];
  password = [];
}
