-- A database as a handheld's replies tell it (pilot-link, `dlp.c`: dlp_ReadRecordByIndex,
-- dlp_ReadResourceByIndex, dlp_ReadAppBlock).
use Rattle.std.specs.Prelude.{ℕ, zero, suc, Bool, true, false, List, [], ◌∷◌, ◌++◌, Option, None, Result, Ok, Err, if◌then◌else◌}
use Rattle.pdb_values.specs.Databases.{DatabaseValue}
use Rattle.pdb_values.specs.Heads.{has_bit, holds_resources}
use Rattle.pdb_values.specs.declared.head.DbHead.{DbHead}
use Rattle.pdb_values.specs.declared.record.Kind.{Kind}
use Rattle.pdb_values.specs.declared.record.Kind.TheVariants.{Live, Archived, Deleted}
use Rattle.pdb_values.specs.declared.record.Record.{Record}
use Rattle.pdb_values.specs.declared.resource.Resource.{Resource}
use Rattle.palm_device.specs.Devices.{Device}
use Rattle.dlp_replies.specs.declared.fault.ReplyFault.{ReplyFault}
use Rattle.dlp_replies.specs.ReplyReading.{reply_at}
use Rattle.dlp_replies.specs.ReplyValues as reply
use Rattle.dlp_replies.specs.ReplyValues.{ReplyValue}
use Rattle.desktop_session.specs.declared.fault.SessionFault.{SessionFault}
use Rattle.desktop_session.specs.Acts.{Act, acted}
use Rattle.desktop_session.specs.Answers.{block_of, or_none, record_of, resource_of, said_in}
use Rattle.desktop_session.specs.Lent.{LentResource, LentValue, lent_kind}
use Rattle.desktop_session.specs.Requests.{reading_app, reading_at, reading_resource, reading_sort}
use Rattle.mirrors.specs.Reads.{entries_told}

-- the user deleted it, whether it is kept in an archive or not
abbrev pub is_gone : Kind → Bool
is_gone Live = false
is_gone Archived = true
is_gone Deleted = true

-- a record that was lent, with its marks
abbrev pub record_from : LentValue → Record
record_from lent = record {
  id = lent.id;
  deleted = is_gone (lent_kind lent.attributes);
  dirty = has_bit 0x40 lent.attributes;
  busy = false;
  content = record {
    category = lent.category;
    secret = has_bit 0x10 lent.attributes;
    bytes = lent.bytes;
  };
}

-- a resource that was lent
abbrev pub resource_from : LentResource → Resource
resource_from lent = record { kind = record { 0 = lent.kind }; id = lent.id; bytes = lent.bytes }

-- what a reply has; a refusal has nothing
abbrev pub has_in : {X : Type 0} → (ReplyValue → X) → Result ReplyValue ReplyFault → List X
has_in take (Ok (reply.Refused number code)) = []
has_in take (Ok value) = take value ∷ []
has_in take (Err fault) = []

abbrev pub records_in : Result ReplyValue ReplyFault → List Record
records_in read = has_in (λ value. record_from (record_of value)) read

abbrev pub resources_in : Result ReplyValue ReplyFault → List Resource
resources_in read = has_in (λ value. resource_from (resource_of value)) read

-- what the device's replies to acts at so many indexes have
unfoldable pub each_told : {X : Type 0} → (ℕ → Act) → (List ℕ → List X) → Device → ℕ → List X
each_told asks read device zero = []
each_told asks read device (suc count) =
    each_told asks read device count ++ read (acted (asks count) device).0

abbrev pub records_told : Device → ℕ → ℕ → List Record
records_told device handle count =
    each_told (reading_at handle) (λ bytes. records_in (reply_at 0x20 bytes)) device count

abbrev pub resources_told : Device → ℕ → ℕ → List Resource
resources_told device handle count =
    each_told (reading_resource handle) (λ bytes. resources_in (reply_at 0x23 bytes)) device count

-- the block that a reply has; error 5 says that there is none
abbrev pub or_no_block : Result (Option (List ℕ)) SessionFault → Option (List ℕ)
or_no_block (Ok block) = block
or_no_block (Err fault) = None

abbrev pub block_in : ℕ → Result ReplyValue ReplyFault → Option (List ℕ)
block_in function read = or_no_block (or_none (said_in function block_of read))

-- a database of this head with these blocks and no entry
abbrev pub blocked : DbHead → Option (List ℕ) → Option (List ℕ) → DatabaseValue
blocked head app sort = record { head = head; app = app; sort = sort; records = []; resources = [] }

-- with so many entries, as the device's replies have them
abbrev pub with_entries : DatabaseValue → Device → ℕ → ℕ → DatabaseValue
with_entries database device handle count =
    if holds_resources database.head.attributes
    then record database { resources = resources_told device handle count }
    else record database { records = records_told device handle count }

-- the database under a handle, of this head
unfoldable pub copied : DbHead → ℕ → Device → DatabaseValue
copied head handle device =
    with_entries
    (blocked head (block_in 0x1B (reply_at 0x1B (acted (reading_app handle) device).0))
    (block_in 0x1D (reply_at 0x1D (acted (reading_sort handle) device).0)))
    device handle (entries_told device handle)
