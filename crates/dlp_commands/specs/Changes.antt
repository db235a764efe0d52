-- Which requests change databases or the user, and which ids were given to new records.
use Rattle.std.specs.Prelude.{◌≡◌, ℕ, Bool, false, List, [], ◌∷◌, Result, Ok, Err, ◌==◌, if◌then◌else◌}
use Rattle.std.specs.List.{list_any}
use Rattle.dlp_requests.specs.declared.fault.RequestFault.{RequestFault}
use Rattle.dlp_args.specs.Fields.{Fields}
use Rattle.dlp_requests.specs.Forms as form
use Rattle.dlp_requests.specs.Forms.{Form, kinds_of, number_of}
use Rattle.dlp_requests.specs.RequestValues.{RequestValue}
use Rattle.dlp_requests.specs.RequestReading.{request_at}
use Rattle.dlp_replies.specs.declared.fault.ReplyFault.{ReplyFault}
use Rattle.dlp_replies.specs.ReplyValues as reply
use Rattle.dlp_replies.specs.ReplyValues.{ReplyValue}
use Rattle.dlp_replies.specs.ReplyReading.{reply_at}
use Rattle.pdb_values.specs.NamedDatabases.{database_of}
use Rattle.palm_device.specs.Devices.{Device}
use Rattle.dlp_commands.specs.DeviceSteps.{first_byte}

-- the functions that write records into the database of a handle
abbrev pub record_writing_forms : List Form
record_writing_forms =
    form.WriteRecord ∷ form.DeleteRecord ∷ form.ResetSyncFlags ∷ form.MoveCategory ∷ []

-- those that write anything into it
abbrev pub writing_forms : List Form
writing_forms =
    form.WriteAppBlock ∷ form.WriteSortBlock ∷ form.CleanUpDatabase ∷ form.WriteResource
    ∷ form.DeleteResource ∷ record_writing_forms

-- the functions by which databases or the user change
abbrev pub changing_forms : List Form
changing_forms = form.WriteUserInfo ∷ form.CreateDb ∷ form.DeleteDb ∷ writing_forms

-- one of these functions has the byte
abbrev pub is_among : List Form → ℕ → Bool
is_among forms number = list_any (λ form. number_of form == number) forms

-- a function by which databases or the user change, by its byte
abbrev pub is_change : ℕ → Bool
is_change number = is_among changing_forms number

-- a request of such a function, by its first byte
unfoldable pub changes : List ℕ → Bool
changes bytes = is_change (first_byte bytes)

-- databases and user stay
abbrev pub KeepsStore : Device → Device → Type 0
KeepsStore old new = (new.databases ≡ old.databases) × (new.user ≡ old.user)

-- the database of a name stays, or there is none still
abbrev pub KeepsNamed : List ℕ → Device → Device → Type 0
KeepsNamed name old new = database_of name new.databases ≡ database_of name old.databases

-- the id in the reply to a new record of id 0
abbrev pub given_by : Result ReplyValue ReplyFault → List ℕ
given_by (Ok (reply.WriteRecord id)) = id ∷ []
given_by (Ok other) = []
given_by (Err fault) = []

-- a request for a new record of id 0
abbrev pub asks_by : (f : Form) → Fields (kinds_of f) → Bool
asks_by form.WriteRecord (handle, (flags, (id, more))) = id == 0
asks_by other fields = false

abbrev pub asks_id : Result RequestValue RequestFault → Bool
asks_id (Ok value) = asks_by value.form value.fields
asks_id (Err fault) = false

-- the id that an exchange gave to a new record, where it was one of id 0 and accepted
unfoldable pub given_in : List ℕ → List ℕ → List ℕ
given_in bytes answer =
    if asks_id (request_at bytes) then given_by (reply_at (number_of form.WriteRecord) answer)
    else []
