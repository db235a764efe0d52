-- What a writing makes of a database: its head, ids that differ, and its bounds; and its reply.
use Rattle.std.proofs.lemmas.Bool.Decides.{nat_tests}
use Rattle.std.proofs.lemmas.Grind.{common_steps}
use Rattle.std.proofs.Common.{◌≡◌, ◌<◌, ◌≤◌, ◌^◌, ℕ, Bool, true, false, cond, List, [], length, map, Option, None, Result, Ok, refl, ap, arith, lit≤}
use Rattle.std.specs.Prelude.{filter, is_none, is_some, nat_le, nat_lt, not, ◌%◌, ◌==◌, ◌||◌}
use Rattle.std.proofs.lemmas.Bool.{and_parts, leb-true, not-true}
use Rattle.pdb_values.specs.Contents.{ContentValue}
use Rattle.pdb_values.specs.Databases.{DatabaseValue}
use Rattle.pdb_values.specs.Heads.{holds_resources}
use Rattle.pdb_values.specs.Records.{is_live}
use Rattle.pdb_values.specs.declared.record.Record.{Record}
use Rattle.dlp_replies.specs.ReplyValues.{ReplyValue}
use Rattle.palm_device.specs.Bounds.{IsBoundedDatabase, IsBoundedRecord}
use Rattle.palm_device.specs.Heads.{has_bit}
use Rattle.palm_device.specs.Records as records
use Rattle.palm_device.specs.Records.{IsFree, clean, given_id, has_id, is_in, is_new, moved, place_of_id, with_records}
use Rattle.palm_device.specs.Resources.{place_of_resource, has_room}
use Rattle.palm_device.specs.Soundness.{AreIds, ids_of}
use Rattle.palm_device.proofs.BoundLaws.{AllByRecursion-filter, AllByRecursion-map, AllByRecursion-without, IsBoundedDatabase-put_record}
use Rattle.palm_device.proofs.BoundLaws.{IsBoundedDatabase-put_resource, IsBoundedDatabase-records, IsBoundedDatabase-resources, IsBoundedRecord-clean}
use Rattle.palm_device.proofs.BoundLaws.{IsBoundedRecord-moved, length-filter, length-map, length-without}
use Rattle.palm_device.proofs.IdLaws.{AreIds-filter, AreIds-put, AreIds-without_record, ids_of-map}
use Rattle.dlp_commands.specs.Errors.{◌>>=◌}
use Rattle.dlp_commands.specs.Holding.{fits, on_records, on_resources}
use Rattle.dlp_commands.specs.Writings as writing
use Rattle.dlp_commands.specs.Writings.{IsShortWriting, WritingValue, may_write, write_reply, with_moved, with_resource, without_category, without_record}
use Rattle.dlp_commands.specs.Writings.{without_records, without_resources, written, written_in, written_on, written_record}
use Rattle.dlp_commands.proofs.ReplyLaws.{Replies, write_number, written_reply}
use Rattle.dlp_commands.proofs.TriedLaws.{Keeps, keeps_check, keeps_need, keeps_then}

-- what is written keeps the bounds of its types
abbrev pub WritingFits : WritingValue → Type 0
WritingFits (writing.WriteResource kind id bytes) = (length kind ≡ 4) × (id < 2 ^ 16) × (length bytes ≤ 65500)
WritingFits other = IsShortWriting other

-- a new record of id 0 gets a free id
abbrev pub GivesFree : ℕ → WritingValue → DatabaseValue → Type 0
GivesFree free (writing.WriteRecord id attributes category bytes) database = id ≡ 0 → IsFree free database.records
GivesFree free other database = Unit {0}

-- the database after keeps its head, ids that differ and its bounds
pub record Edits (Fits : Type 0) (old new : DatabaseValue) : Type 0 where
  pub head : new.head ≡ old.head
  pub ids : AreIds (ids_of old.records) → AreIds (ids_of new.records)
  pub bounded : Fits → IsBoundedDatabase old → IsBoundedDatabase new

-- and the reply is the function's
pub record Writes (asked : WritingValue) (old : DatabaseValue) (done : DatabaseValue × ReplyValue) : Type 0 where
  pub edits : Edits (WritingFits asked) old done.0
  pub reply : Replies (write_number asked) done.1

holds_records : (database : DatabaseValue) → on_records database ≡ true → holds_resources database.head.attributes ≡ false
holds_records database suited = not-true (holds_resources database.head.attributes) suited

-- ---- records

given_some : (free id : ℕ) (b : Bool) → (id == 0) ≡ b → (id ≡ 0 → 0 < free) → 0 < cond b free id
given_some free id b is when = grind (arith, nat_tests, common_steps)

given_small : (free id : ℕ) (b : Bool) → (id == 0) ≡ b → (id ≡ 0 → free ≤ 16777215) → id ≤ 16777215 → cond b free id ≤ 16777215
given_small free id b is when small = grind (arith, nat_tests, common_steps)

new_room : (free id : ℕ) (items : List Record) (b : Bool) → (id == 0) ≡ b → (is_new id items ≡ true → length items < 65535)
    → place_of_id (cond b free id) items ≡ None → length items < 65535
new_room free id items true is room none = room (ap (λ b. b || is_none (place_of_id id items)) is)
new_room free id items false is room none = grind (arith, nat_tests, common_steps)

-- a record may be written
record MayWrite (id category : ℕ) (items : List Record) : Type 0 where
  small : id ≤ 16777215
  sorted : category ≤ 15
  room : is_new id items ≡ true → length items < 65535

pub room_of : (new : Bool) (many : ℕ) → (not new || nat_lt many 65535) ≡ true → new ≡ true → many < 65535
room_of new many is asked = grind (arith, nat_tests, common_steps)

may_keeps : (id category : ℕ) (items : List Record) → Keeps (λ (x : Unit {0}). MayWrite id category items) (may_write id category items)
may_keeps id category items = grind (arith, nat_tests, common_steps)

record_writes : (free id attributes category : ℕ) (bytes : List ℕ) (database : DatabaseValue) → on_records database ≡ true
    → (id ≡ 0 → IsFree free database.records)
    → Keeps (Writes (writing.WriteRecord id attributes category bytes) database)
    (written_record free id (has_bit 0x10 attributes) category bytes database)
record_writes free id attributes category bytes database suited gives =
    keeps_then _ _ (λ x. MayWrite id category database.records) (Writes (writing.WriteRecord id attributes category bytes) database)
    (may_keeps id category database.records) (λ x may.
    let content : ContentValue = record { category = category; secret = has_bit 0x10 attributes; bytes = bytes } in
    let small : given_id free id ≤ 16777215 = given_small free id (id == 0) refl (λ zero. (gives zero).bound) may.small in
    record {
      edits = record {
        head = refl;
        ids = λ ids. AreIds-put (given_id free id) content database.records (given_some free id (id == 0) refl (λ zero. (gives zero).some)) ids;
        bounded = λ short. λ bounded. IsBoundedDatabase-put_record (given_id free id) content database (holds_records database suited) small
            may.sorted short (new_room free id database.records (id == 0) refl may.room) bounded;
      };
      reply = written_reply (given_id free id) (writing.WriteRecord id attributes category bytes) small;
    })

-- some records are left out
filter_edits : {Fits : Type 0} (keep : Record → Bool) (database : DatabaseValue) → on_records database ≡ true
    → Edits Fits database (with_records (filter keep database.records) database)
filter_edits keep database suited =
    grind (arith, nat_tests, common_steps, AreIds-filter, IsBoundedDatabase-records, holds_records, length-filter, AllByRecursion-filter)

none_edits : {Fits : Type 0} (database : DatabaseValue) → on_records database ≡ true → Edits Fits database (with_records [] database)
none_edits database suited = grind (arith, nat_tests, common_steps)

-- each record is changed
map_edits : {Fits : Type 0} (change : Record → Record) (database : DatabaseValue) → on_records database ≡ true
    → ((item : Record) → (change item).id ≡ item.id) → (Fits → (item : Record) → IsBoundedRecord item → IsBoundedRecord (change item))
    → Edits Fits database (with_records (map change database.records) database)
map_edits change database suited same keeps =
    grind (arith, nat_tests, common_steps, ids_of-map, IsBoundedDatabase-records, holds_records, length-map, AllByRecursion-map)

gone_edits : (Fits : Type 0) (flags id : ℕ) (database : DatabaseValue) → on_records database ≡ true
    → Keeps (Edits Fits database) (without_records flags id database)
gone_edits Fits flags id database suited = by (has_bit 0x80 flags) (has_bit 0x40 flags)
  where
    category : Keeps (Edits Fits database) (without_category (id % 256) database)
    category = keeps_check 4 (nat_le (id % 256) 15) _ (Edits Fits database) refl
        (λ sorted. filter_edits (λ item. not (is_in (id % 256) item)) database suited)

    one : Keeps (Edits Fits database) (without_record id database)
    one = keeps_need 5 (place_of_id id database.records) _ (Edits Fits database) refl (λ place is. record {
      head = refl;
      ids = λ ids. AreIds-without_record id database.records ids;
      bounded = λ fits. λ bounded. IsBoundedDatabase-records (records.without_record id database.records) database (holds_records database suited)
          (let less = length-without (has_id id) database.records in let few = bounded.whole.few_records in omega arith)
          (AllByRecursion-without IsBoundedRecord (has_id id) database.records bounded.records) bounded;
    })

    by : (all some : Bool)
        → Keeps (Edits Fits database)
        (cond all (Ok (with_records [] database)) (cond some (without_category (id % 256) database) (without_record id database)))
    by true some = none_edits database suited
    by false true = category
    by false false = one

moved_id : (from to : ℕ) (item : Record) → (moved from to item).id ≡ item.id
moved_id from to item = grind (arith, nat_tests, common_steps)

moved_edits : (Fits : Type 0) (from to : ℕ) (database : DatabaseValue) → on_records database ≡ true
    → Keeps (Edits Fits database) (with_moved from to database)
moved_edits Fits from to database suited =
    keeps_check 4 _ _ _ refl (λ sorted.
    map_edits (moved from to) database suited (moved_id from to)
    (λ fits item was. IsBoundedRecord-moved from to item (leb-true to 15 (and_parts (nat_le from 15) (nat_le to 15) sorted).1) was))

-- ---- resources

resource_room : (place : Option ℕ) (many : ℕ) → (is_some place || nat_lt many 65535) ≡ true → place ≡ None → many < 65535
resource_room place many is none = grind (arith, nat_tests, common_steps)

put_edits : (kind : List ℕ) (id : ℕ) (bytes : List ℕ) (database : DatabaseValue) → on_resources database ≡ true
    → Keeps (Edits ((length kind ≡ 4) × (id < 2 ^ 16) × (length bytes ≤ 65500)) database) (with_resource kind id bytes database)
put_edits kind id bytes database suited =
    keeps_check 17 (has_room kind id database.resources) _ (Edits ((length kind ≡ 4) × (id < 2 ^ 16) × (length bytes ≤ 65500)) database) refl (λ room. record {
      head = refl;
      ids = λ ids. ids;
      bounded = λ fits. λ bounded. IsBoundedDatabase-put_resource kind id bytes database suited fits.0 fits.1 fits.2
          (resource_room (place_of_resource kind id database.resources) (length database.resources) room) bounded;
    })

lost_edits : (Fits : Type 0) (flags : ℕ) (kind : List ℕ) (id : ℕ) (database : DatabaseValue) → on_resources database ≡ true
    → Keeps (Edits Fits database) (without_resources flags kind id database)
lost_edits Fits flags kind id database suited =
    grind (arith, nat_tests, common_steps, keeps_need, IsBoundedDatabase-resources, length-without, AllByRecursion-without)

-- ---- every writing

-- a database that was made, and the reply that goes with it
made_writes : (asked : WritingValue) (database : DatabaseValue) (found : Result DatabaseValue ℕ)
    → Keeps (Edits (WritingFits asked) database) found → Keeps (Writes asked database) (found >>= λ made. Ok (made, write_reply 0 asked))
made_writes asked database found edits =
    keeps_then found _ _ (Writes asked database) edits (λ made edit. record { edits = edit; reply = written_reply 0 asked (lit≤ tt) })

written_writes : (free : ℕ) (asked : WritingValue) (database : DatabaseValue) → fits (written_on asked) database ≡ true
    → GivesFree free asked database → Keeps (Writes asked database) (written free asked database)
written_writes free (writing.AppBlock bytes) database suited gives = grind (arith, nat_tests, common_steps)
written_writes free (writing.SortBlock bytes) database suited gives = grind (arith, nat_tests, common_steps)
written_writes free (writing.WriteRecord id attributes category bytes) database suited gives =
    record_writes free id attributes category bytes database suited gives
written_writes free (writing.DeleteRecord flags id) database suited gives =
    made_writes (writing.DeleteRecord flags id) database _ (gone_edits _ flags id database suited)
written_writes free writing.CleanUp database suited gives =
    record { edits = filter_edits is_live database suited; reply = written_reply 0 writing.CleanUp (lit≤ tt) }
written_writes free writing.ResetFlags database suited gives =
    record {
      edits = map_edits clean database suited (λ item. refl) (λ fits item was. IsBoundedRecord-clean item was);
      reply = written_reply 0 writing.ResetFlags (lit≤ tt);
    }
written_writes free (writing.MoveCategory from to) database suited gives =
    made_writes (writing.MoveCategory from to) database _ (moved_edits _ from to database suited)
written_writes free (writing.WriteResource kind id bytes) database suited gives =
    made_writes (writing.WriteResource kind id bytes) database _ (put_edits kind id bytes database suited)
written_writes free (writing.DeleteResource flags kind id) database suited gives =
    made_writes (writing.DeleteResource flags kind id) database _ (lost_edits _ flags kind id database suited)

pub written_in_writes : (free : ℕ) (asked : WritingValue) (database : DatabaseValue) → GivesFree free asked database
    → Keeps (Writes asked database) (written_in free asked database)
written_in_writes free asked database gives = grind (arith, nat_tests, common_steps, keeps_check, written_writes)
