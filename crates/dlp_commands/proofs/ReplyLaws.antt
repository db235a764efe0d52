-- The replies of a device within its bounds are replies that are read.
use Rattle.palm_device.specs.Records.{next_changed}
use Rattle.std.proofs.lemmas.Bool.Decides.{nat_tests}
use Rattle.std.proofs.lemmas.Grind.{common_steps}
use Rattle.std.proofs.Common.{◌≡◌, ◌+◌, ◌<◌, ◌≤◌, ◌^◌, ℕ, Bool, true, false, cond, List, [], ◌∷◌, min, length, drop, take, Option, Some, refl, arith, lit<}
use Rattle.std.proofs.Common.{lit≤, slice_get}
use Rattle.std.specs.Prelude.{nat_le, nat_lt}
use Rattle.std.specs.List.{AllByRecursion}
use Rattle.std.proofs.lemmas.List.{length-drop, length-take}
use Rattle.pdb_values.specs.Blocks.{block_length}
use Rattle.pdb_values.specs.Databases.{DatabaseValue}
use Rattle.pdb_values.specs.declared.record.Record.{Record}
use Rattle.pdb_values.specs.declared.user.UserInfo.{UserInfo}
use Rattle.dlp_requests.specs.Forms as form
use Rattle.dlp_requests.specs.Forms.{number_of}
use Rattle.dlp_replies.specs.Frames.{FrameFits, IsReply, ValuesFit, frame, function_byte, name_text, reply_text}
use Rattle.dlp_replies.specs.IdLists.{IsId}
use Rattle.dlp_replies.specs.ReplyValues as reply
use Rattle.dlp_replies.specs.ReplyValues.{ReplyValue, Refused}
use Rattle.palm_device.specs.Bounds.{IsBoundedDatabase, IsBoundedRecord, IsBoundedResource, IsBoundedUser}
use Rattle.palm_device.specs.Soundness.{ids_of}
use Rattle.palm_device.proofs.BoundLaws.{AllByRecursion-drop, AllByRecursion-get, AllByRecursion-take, slice_get-within}
use Rattle.dlp_commands.specs.DatabaseFunctions.{listed, more_flag}
use Rattle.dlp_commands.specs.Holding.{fits, on_records}
use Rattle.dlp_commands.specs.Readings.{next_in, read_in, read_of, record_part, resource_part, wire_attributes}
use Rattle.dlp_commands.specs.UserFunctions.{system_reply, user_reply}
use Rattle.dlp_commands.specs.Writings as writing
use Rattle.dlp_commands.specs.Writings.{WritingValue, write_reply}
use Rattle.dlp_commands.specs.declared.reading.Reading.{Reading}
use Rattle.dlp_commands.specs.declared.reading.Reading.TheVariants as reading
use Rattle.dlp_commands.proofs.Fits.{has_no_zero, ids_fit, list_fits, next_fits, record_fits, resource_fits, user_fits}
use Rattle.dlp_commands.proofs.TriedLaws.{Keeps, keeps_check, keeps_need}
use Rattle.dlp_replies.proofs.EntryWritten.{date_len}

-- a reply of this function that is one
pub record Replies (number : ℕ) (value : ReplyValue) : Type 0 where
  pub is : IsReply value
  pub function : function_byte (frame value) ≡ number

-- the function's byte of a reading
abbrev pub read_number : Reading → ℕ
read_number (reading.AppBlock offset count) = number_of form.ReadAppBlock
read_number (reading.SortBlock offset count) = number_of form.ReadSortBlock
read_number reading.EntryCount = number_of form.ReadOpenDbInfo
read_number (reading.RecordOfId id offset count) = number_of form.ReadRecordById
read_number (reading.RecordAt index offset count) = number_of form.ReadRecordByIndex
read_number (reading.RecordIds start maximum) = number_of form.ReadRecordIdList
read_number (reading.ResourceOfType kind id offset count) = number_of form.ReadResourceByType
read_number (reading.ResourceAt index offset count) = number_of form.ReadResourceByIndex

-- and of a writing
abbrev pub write_number : WritingValue → ℕ
write_number (writing.AppBlock bytes) = number_of form.WriteAppBlock
write_number (writing.SortBlock bytes) = number_of form.WriteSortBlock
write_number (writing.WriteRecord id attributes category bytes) = number_of form.WriteRecord
write_number (writing.DeleteRecord flags id) = number_of form.DeleteRecord
write_number writing.CleanUp = number_of form.CleanUpDatabase
write_number writing.ResetFlags = number_of form.ResetSyncFlags
write_number (writing.MoveCategory from to) = number_of form.MoveCategory
write_number (writing.WriteResource kind id bytes) = number_of form.WriteResource
write_number (writing.DeleteResource flags kind id) = number_of form.DeleteResource

-- ---- replies

pub reply_by : {number : ℕ} {value : ReplyValue} → FrameFits (frame value) → ValuesFit value → length (reply_text value) ≤ 65535
    → function_byte (frame value) ≡ number → Replies number value
reply_by fields values fits function = record { is = record { fields = fields; values = values; fits = fits }; function = function }

pub refused_reply : (number code : ℕ) → 0 < code → code < 2 ^ 16 → Replies number (Refused number code)
refused_reply number code some small = reply_by (some, small) tt (lit≤ tt) refl

-- of functions that write
pub written_reply : (given : ℕ) (asked : WritingValue) → given ≤ 16777215 → Replies (write_number asked) (write_reply given asked)
written_reply given asked small = grind (arith, nat_tests, common_steps)

name_text-few : (name : List ℕ) → length name ≤ 40 → length (name_text name) < 256
name_text-few name short = grind (arith, nat_tests, common_steps)

pub user_is_reply : (user : UserInfo) → IsBoundedUser user → Replies 0x10 (user_reply user)
user_is_reply user bounded = record {
  is = record {
    fields = (
      bounded.number,
      (
        bounded.viewer,
        (
          bounded.pc,
          (date_len user.good, (date_len user.last, (name_text-few user.name bounded.short, let few = bounded.password in omega arith))),
        ),
      ),
    );
    values = (bounded.good, bounded.last, bounded.short, has_no_zero user.name bounded.no_zero, bounded.password);
    fits = (user_fits user.user user.viewer user.pc user.good user.last user.name user.password bounded.short (has_no_zero user.name bounded.no_zero)
        bounded.password).fits;
  };
  function = refl;
}

pub system_is_reply : Replies 0x12 system_reply
system_is_reply = reply_by (lit< tt, (lit< tt, (tt, (lit< tt, tt)))) tt (lit≤ tt) refl

-- ---- parts

part_short : (offset count : ℕ) (bytes : List ℕ) → length bytes ≤ 65500 → length (take count (drop offset bytes)) ≤ 65500
part_short offset count bytes short = simp (length-take, length-drop) (omega arith)

attributes_few : (item : Record) → wire_attributes item < 2 ^ 8
attributes_few item = grind (arith, nat_tests, common_steps)

-- a block of a database within its bounds
block_short : (block : Option (List ℕ)) (bytes : List ℕ) → block_length block ≤ 65500 → block ≡ Some bytes → length bytes ≤ 65500
block_short block bytes short is = grind (arith, nat_tests, common_steps)

record_keeps : (database : DatabaseValue) (index offset count : ℕ)
    → Keeps (λ value. IsBoundedDatabase database → Replies 0x20 value) (record_part database index offset count)
record_keeps database index offset count =
    keeps_need 5 (slice_get database.records index) _ _ refl
    (λ item here. keeps_check 4 (nat_le offset (length item.content.bytes)) _ _ refl (λ within. λ bounded.
    let each = AllByRecursion-get IsBoundedRecord database.records index item bounded.records here in
    let at = slice_get-within database.records index item here in
    let few = bounded.whole.few_records in
    let id = each.id in
    let category = each.category in
    let short = each.short in
    let part = take count (drop offset item.content.bytes) in
    let small : length part ≤ 65500 = part_short offset count item.content.bytes short in
    record {
      is = record {
        fields = (omega arith, (omega arith, (omega arith, (attributes_few item, (omega arith, tt)))));
        values = (id, category, small);
        fits = (record_fits item.id index (length item.content.bytes) (wire_attributes item) item.content.category part small).fits;
      };
      function = refl;
    }))

resource_keeps : (database : DatabaseValue) (index offset count : ℕ)
    → Keeps (λ value. IsBoundedDatabase database → Replies 0x23 value) (resource_part database index offset count)
resource_keeps database index offset count =
    keeps_need 5 (slice_get database.resources index) _ _ refl
    (λ resource here. keeps_check 4 (nat_le offset (length resource.bytes)) _ _ refl (λ within. λ bounded.
    let each = AllByRecursion-get IsBoundedResource database.resources index resource bounded.resources here in
    let at = slice_get-within database.resources index resource here in
    let few = bounded.whole.few_resources in
    let short = each.short in
    let part = take count (drop offset resource.bytes) in
    let small : length part ≤ 65500 = part_short offset count resource.bytes short in
    record {
      is = record {
        fields = (each.kind, (each.id, (omega arith, (omega arith, small))));
        values = tt;
        fits = (resource_fits resource.kind.0 resource.id index (length resource.bytes) part each.kind small).fits;
      };
      function = refl;
    }))

ids_each : (items : List Record) → AllByRecursion IsBoundedRecord items → AllByRecursion IsId (ids_of items)
ids_each [] each = tt
ids_each (item ∷ items) each = (each.0.id, ids_each items each.1)

ids_few : (count : ℕ) (ids : List ℕ) → length (take (min count 16000) ids) ≤ 16000
ids_few count ids = simp length-take (omega arith)

-- ---- functions that read

pub read_keeps : (asked : Reading) (database : DatabaseValue)
    → Keeps (λ value. IsBoundedDatabase database → Replies (read_number asked) value) (read_of asked database)
read_keeps (reading.AppBlock offset count) database = grind (arith, nat_tests, common_steps)
read_keeps (reading.SortBlock offset count) database = grind (arith, nat_tests, common_steps)
read_keeps reading.EntryCount database = grind (arith, nat_tests, common_steps)
read_keeps (reading.RecordOfId id offset count) database = grind (arith, nat_tests, common_steps, keeps_need, record_keeps)
read_keeps (reading.RecordAt index offset count) database = record_keeps database index offset count
read_keeps (reading.RecordIds start maximum) database =
    grind (arith, nat_tests, common_steps, ids_few, AllByRecursion-take, AllByRecursion-drop, ids_each, ids_fit)
read_keeps (reading.ResourceOfType kind id offset count) database = grind (arith, nat_tests, common_steps, keeps_need, resource_keeps)
read_keeps (reading.ResourceAt index offset count) database = resource_keeps database index offset count

pub read_in_keeps : (asked : Reading) (database : DatabaseValue)
    → Keeps (λ value. IsBoundedDatabase database → Replies (read_number asked) value) (read_in asked database)
read_in_keeps asked database = grind (arith, nat_tests, common_steps, keeps_check, read_keeps)

-- the next changed record stands within
pub record NextReplies (database : DatabaseValue) (found : ℕ × ReplyValue) : Type 0 where
  pub within : IsBoundedDatabase database → found.0 < 65535
  pub reply : IsBoundedDatabase database → Replies 0x1F found.1

pub next_keeps : (next : ℕ) (database : DatabaseValue) → Keeps (NextReplies database) (next_in next database)
next_keeps next database =
    keeps_check 13 (on_records database) _ (NextReplies database) refl (λ suited.
    keeps_need 5 (next_changed next database.records) _ (NextReplies database) refl (λ place is.
    keeps_need 5 (slice_get database.records place) _ (NextReplies database) refl (λ item here.
    let at = slice_get-within database.records place item here in
    record {
      within = λ bounded. (let few = bounded.whole.few_records in omega arith);
      reply = λ bounded. (
          let each = AllByRecursion-get IsBoundedRecord database.records place item bounded.records here in
          let few = bounded.whole.few_records in
          let id = each.id in
          let category = each.category in
          let short = each.short in
          record {
            is = record {
              fields = (omega arith, (omega arith, (omega arith, (attributes_few item, (omega arith, tt)))));
              values = (id, category, short);
              fits = (next_fits item.id place (length item.content.bytes) (wire_attributes item) item.content.category item.content.bytes short).fits;
            };
            function = refl;
          });
    })))

-- ---- the list of databases

flag_few : (b : Bool) → cond b 0x80 0 < 2 ^ 8
flag_few true = lit< tt
flag_few false = lit< tt

pub list_is_reply : (databases : List DatabaseValue) (start : ℕ) (database : DatabaseValue) → slice_get databases start ≡ Some database
    → length databases ≤ 200 → AllByRecursion IsBoundedDatabase databases
    → Replies 0x16 (reply.ReadDbList start (more_flag start (length databases)) ((start, listed database.head) ∷ []))
list_is_reply databases start database here few each =
    let bounded = AllByRecursion-get IsBoundedDatabase databases start database each here in
    let at = slice_get-within databases start database here in
    let head = bounded.head in
    let name = head.name.short in
    record {
      is = record {
        fields = (omega arith, (flag_few (nat_lt (start + 1) (length databases)), (lit< tt, tt)));
        values = (
          record {
            index = omega arith;
            attributes = head.attributes;
            version = head.version;
            modnum = head.modnum;
            created = head.created;
            modified = head.modified;
            backup = head.backup;
            kind = head.kind;
            creator = head.creator;
            seed = refl;
            name = head.name;
          },
          tt,
        );
        fits = (list_fits start (more_flag start (length databases)) (start, listed database.head) name refl head.kind head.creator).fits;
      };
      function = refl;
    }
