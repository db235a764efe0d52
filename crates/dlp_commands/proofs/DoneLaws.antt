-- What a request that was not refused makes of a device, and its reply.
use Rattle.std.proofs.lemmas.Bool.Decides.{nat_tests}
use Rattle.std.proofs.lemmas.Grind.{common_steps}
use Rattle.std.proofs.Common.{◌≡◌, ◌+◌, ◌-◌, ◌<◌, ◌^◌, ℕ, Bool, true, false, cond, List, length, Option, Some, None, Result, Ok, Err, IfSome, refl, ap, sym}
use Rattle.std.proofs.Common.{◌∙◌, arith}
use Rattle.std.specs.List.{AllByRecursion}
use Rattle.std.specs.Option.{option_map}
use Rattle.std.specs.Str.{bytes_eq}
use Rattle.std.proofs.lemmas.Bool.{cond-false}
use Rattle.std.proofs.lemmas.List.{length-set}
use Rattle.pdb_values.specs.Databases.{DatabaseValue}
use Rattle.pdb_values.specs.NamedDatabases.{database_of, with_new, without_named}
use Rattle.pdb_values.specs.declared.head.DbHead.{DbHead}
use Rattle.pdb_values.specs.declared.user.UserInfo.{UserInfo}
use Rattle.pdb_values.proofs.NamedLaws.{AllByRecursion-database_of, AllByRecursion-replaced, AllByRecursion-with_new, AllByRecursion-without_named}
use Rattle.pdb_values.proofs.NamedLaws.{NamesRise-replaced, NamesRise-with_new, NamesRise-without_named, database_of-name, database_of-replaced}
use Rattle.pdb_values.proofs.NamedLaws.{database_of-with_new, database_of-without_other, length-replaced, length-with_new, length-without_named}
use Rattle.dlp_requests.specs.Forms as form
use Rattle.dlp_requests.specs.RequestValues.{RequestValue}
use Rattle.dlp_replies.specs.ReplyValues.{ReplyValue}
use Rattle.palm_device.specs.Blocks.{empty_database}
use Rattle.palm_device.specs.Bounds.{IsBounded, IsBoundedDatabase, IsBoundedHead, IsBoundedOpened, IsBoundedUser}
use Rattle.palm_device.specs.Devices.{Device, with_database, with_handles}
use Rattle.palm_device.specs.Handles.{Base, base_at, free_handle, is_writable, joined, opened_at, with_handle}
use Rattle.palm_device.specs.Soundness.{AreIds, IsDevice, ids_of}
use Rattle.palm_device.specs.declared.opened.Opened.{Opened}
use Rattle.palm_device.proofs.BoundLaws.{AllByRecursion-get, IsBoundedDatabase-empty}
use Rattle.dlp_commands.specs.Changes.{is_change}
use Rattle.dlp_commands.specs.DeviceSteps.{RequestFits, function_number}
use Rattle.dlp_commands.specs.Reached.{read_next_modified_rec, reads, reset_record_index, with_next, writes}
use Rattle.dlp_commands.specs.Readings.{next_in}
use Rattle.dlp_commands.specs.Targets.{is_name, target, writable_name}
use Rattle.dlp_commands.specs.Writings.{WritingValue}
use Rattle.dlp_commands.specs.declared.reading.Reading.{Reading}
use Rattle.dlp_commands.proofs.ReplyLaws.{NextReplies, Replies, next_keeps, read_in_keeps, read_number, write_number}
use Rattle.dlp_commands.proofs.TriedLaws.{Keeps, keeps_check, keeps_need, keeps_then}
use Rattle.dlp_commands.proofs.WriteLaws.{GivesFree, Writes, WritingFits, written_in_writes}

-- what is open keeps its bounds
abbrev IsBoundedSlot : Option Opened → Type 0
IsBoundedSlot slot = IfSome slot IsBoundedOpened

-- the device after and the reply
pub record Done (old : Device) (value : RequestValue) (done : Device × ReplyValue) : Type 0 where
  pub quiet : is_change (function_number value) ≡ false → (done.0.databases ≡ old.databases) × (done.0.user ≡ old.user)
  pub others : (name : List ℕ) → is_name name (target old value) ≡ false → database_of name done.0.databases ≡ database_of name old.databases
  pub sound : IsDevice old → IsDevice done.0
  pub bounded : RequestFits value → IsDevice old → IsBounded old → IsBounded done.0
  pub reply : IsDevice old → IsBounded old → Replies (function_number value) done.1

-- ---- what may become of a device

-- nothing
pub same_done : {old : Device} {value : RequestValue} {answer : ReplyValue}
    → (IsDevice old → IsBounded old → Replies (function_number value) answer) → Done old value (old, answer)
same_done replies = grind (arith, nat_tests, common_steps)

-- other handles
pub turned_done : {old : Device} {value : RequestValue} {handles : List (Option Opened)} {answer : ReplyValue}
    → (length old.handles ≡ 8 → length handles ≡ 8) → (RequestFits value → IsDevice old → IsBounded old → AllByRecursion IsBoundedSlot handles)
    → (IsDevice old → IsBounded old → Replies (function_number value) answer) → Done old value (with_handles old handles, answer)
turned_done count each replies = grind (arith, nat_tests, common_steps)

no_false : (b : Bool) → b ≡ true → b ≡ false → ⊥
no_false b is other = grind (arith, nat_tests, common_steps)

-- another user
pub marked_done : {old : Device} {value : RequestValue} {user : UserInfo} {answer : ReplyValue} → is_change (function_number value) ≡ true
    → (RequestFits value → IsBounded old → IsBoundedUser user)
    → (IsDevice old → IsBounded old → Replies (function_number value) answer) → Done old value (record old { user = user }, answer)
marked_done changes fits replies = grind (arith, nat_tests, common_steps)

-- another value of a database
edited_done : {old : Device} {value : RequestValue} {name : List ℕ} {database : DatabaseValue} {asked : WritingValue}
    {made : DatabaseValue × ReplyValue} → is_change (function_number value) ≡ true → target old value ≡ Some name
    → database_of name old.databases ≡ Some database → write_number asked ≡ function_number value → (RequestFits value → WritingFits asked)
    → Writes asked database made → Done old value (with_database old made.0, made.1)
edited_done {old} {value} {name} {database} {made} changes names found number fits writes =
    let named : made.0.head.name ≡ name = ap (λ (head : DbHead). head.name) writes.edits.head ∙ database_of-name name old.databases database found in
    let here : database_of made.0.head.name old.databases ≡ Some database = ap (λ n. database_of n old.databases) named ∙ found in
    record {
      quiet = λ is. absurd (no_false (is_change (function_number value)) changes is);
      others = λ other is. (
          let differ : bytes_eq made.0.head.name other ≡ false = ap (λ n. bytes_eq n other) named ∙ sym (ap (is_name other) names) ∙ is in
          database_of-replaced other made.0 database old.databases here
          ∙ cond-false (bytes_eq made.0.head.name other) (Some made.0) (database_of other old.databases) differ);
      sound = λ sound. record {
        names = NamesRise-replaced made.0 old.databases sound.names;
        few = (let many = length-replaced made.0 old.databases in let few = sound.few in omega arith);
        ids = AllByRecursion-replaced (λ d. AreIds (ids_of d.records)) made.0 old.databases
            (writes.edits.ids (AllByRecursion-database_of (λ d. AreIds (ids_of d.records)) name old.databases database sound.ids found)) sound.ids;
        handles = sound.handles;
      };
      bounded = λ small sound bounded. record {
        databases = AllByRecursion-replaced IsBoundedDatabase made.0 old.databases
            (writes.edits.bounded (fits small) (AllByRecursion-database_of IsBoundedDatabase name old.databases database bounded.databases found))
            bounded.databases;
        user = bounded.user;
        handles = bounded.handles;
      };
      reply = λ sound bounded. record { is = writes.reply.is; function = writes.reply.function ∙ number };
    }

-- a new database, with other handles
pub made_done : {old : Device} {value : RequestValue} (head : DbHead) {handles : List (Option Opened)} {answer : ReplyValue}
    → is_change (function_number value) ≡ true → target old value ≡ Some head.name → database_of head.name old.databases ≡ None
    → length old.databases < 200 → (length old.handles ≡ 8 → length handles ≡ 8) → (RequestFits value → IsBoundedHead head)
    → (RequestFits value → IsDevice old → IsBounded old → AllByRecursion IsBoundedSlot handles)
    → (IsDevice old → IsBounded old → Replies (function_number value) answer)
    → Done old value (record old { databases = with_new (empty_database head) old.databases; handles = handles }, answer)
made_done {old} {value} head changes names none room count fits each replies = record {
  quiet = λ is. absurd (no_false (is_change (function_number value)) changes is);
  others = λ other is. (
      let differ : bytes_eq head.name other ≡ false = sym (ap (is_name other) names) ∙ is in
      database_of-with_new other (empty_database head) old.databases none
      ∙ cond-false (bytes_eq head.name other) (Some (empty_database head)) (database_of other old.databases) differ);
  sound = λ sound. record {
    names = NamesRise-with_new (empty_database head) old.databases none sound.names;
    few = (let many = length-with_new (empty_database head) old.databases in omega arith);
    ids = AllByRecursion-with_new (λ d. AreIds (ids_of d.records)) (empty_database head) old.databases tt sound.ids;
    handles = count sound.handles;
  };
  bounded = λ small sound bounded. record {
    databases = AllByRecursion-with_new IsBoundedDatabase (empty_database head) old.databases (IsBoundedDatabase-empty head (fits small))
        bounded.databases;
    user = bounded.user;
    handles = each small sound bounded;
  };
  reply = replies;
}

-- a database less
pub removed_done : {old : Device} {value : RequestValue} {name : List ℕ} {answer : ReplyValue} → is_change (function_number value) ≡ true
    → target old value ≡ Some name
    → (IsDevice old → IsBounded old → Replies (function_number value) answer)
    → Done old value (record old { databases = without_named name old.databases }, answer)
removed_done {old} {value} {name} changes names replies =
    grind (arith, nat_tests, common_steps, no_false, database_of-without_other, NamesRise-without_named, length-without_named, AllByRecursion-without_named)

-- ---- what a handle leads to

map_some : {A B : Type 0} (f : A → B) (o : Option A) (y : B) → option_map f o ≡ Some y → (x : A) × (o ≡ Some x) × (f x ≡ y)
map_some f o y is = grind (arith, nat_tests, common_steps)

base_found : (old : Device) (handle : ℕ) {base : Base} → base_at old handle ≡ Some base
    → database_of base.opened.name old.databases ≡ Some base.database
base_found old handle is = grind (arith, nat_tests, common_steps)

-- what is open keeps its bounds
slot_at : (b : Bool) (o : Option (Option Opened)) → ((slot : Option Opened) → o ≡ Some slot → IsBoundedSlot slot)
    → IsBoundedSlot (cond b None (joined o))
slot_at b o each = grind (arith, nat_tests, common_steps)

opened_bounded : (handle : ℕ) (handles : List (Option Opened)) → AllByRecursion IsBoundedSlot handles → IsBoundedSlot (opened_at handle handles)
opened_bounded handle handles each = grind (arith, nat_tests, common_steps, slot_at, AllByRecursion-get)

next_bounded : (next : ℕ) (slot : Option Opened) → next < 2 ^ 16 → IsBoundedSlot slot → IsBoundedSlot (option_map (with_next next) slot)
next_bounded next slot small bounded = grind (arith, nat_tests, common_steps)

pub handle_count : (handles : List (Option Opened)) (handle : ℕ) (slot : Option Opened) → length handles ≡ 8
    → length (with_handle handle slot handles) ≡ 8
handle_count handles handle slot count = length-set handles (handle - 1) slot ∙ count

pub handle_each : (handles : List (Option Opened)) (handle : ℕ) (slot : Option Opened) → IsBoundedSlot slot → AllByRecursion IsBoundedSlot handles
    → AllByRecursion IsBoundedSlot (with_handle handle slot handles)
handle_each handles handle slot bounded each = grind (arith, nat_tests, common_steps)

-- a free handle is one of eight
pub free_few : (handles : List (Option Opened)) (handle : ℕ) → free_handle handles ≡ Some handle → length handles ≡ 8 → handle < 2 ^ 8
free_few handles handle is count = grind (arith, nat_tests, common_steps)

-- ---- functions with a handle

named_writable : (o : Option Base) (base : Base) → o ≡ Some base → is_writable base ≡ true → writable_name o ≡ Some base.opened.name
named_writable o base is allowed = rw (is, allowed) refl

pub reads_done : (old : Device) (value : RequestValue) (handle : ℕ) (asked : Reading) → read_number asked ≡ function_number value
    → Keeps (Done old value) (reads old handle asked)
reads_done old value handle asked number =
    keeps_need 6 (base_at old handle) _ _ refl (λ base here.
    keeps_then _ _ (λ answer. IsBoundedDatabase base.database → Replies (read_number asked) answer) _ (read_in_keeps asked base.database) (λ answer replies.
    same_done (λ sound bounded.
    let is = replies (AllByRecursion-database_of IsBoundedDatabase base.opened.name old.databases base.database bounded.databases
    (base_found old handle here)) in
    record { is = is.is; function = is.function ∙ number })))

pub writes_done : (free : ℕ) (old : Device) (value : RequestValue) (handle : ℕ) (asked : WritingValue) → is_change (function_number value) ≡ true
    → target old value ≡ writable_name (base_at old handle) → write_number asked ≡ function_number value
    → (RequestFits value → WritingFits asked) → ((base : Base) → base_at old handle ≡ Some base → GivesFree free asked base.database)
    → Keeps (Done old value) (writes free old handle asked)
writes_done free old value handle asked changes names number fits gives =
    keeps_need 6 (base_at old handle) _ _ refl (λ base here.
    keeps_check 15 _ _ _ refl (λ allowed.
    keeps_then _ _ _ _ (written_in_writes free asked base.database (gives base here)) (λ made writes.
    edited_done changes (names ∙ named_writable (base_at old handle) base here allowed) (base_found old handle here) number fits writes)))

pub next_done : (old : Device) (handle : ℕ)
    → Keeps (Done old (record { form = form.ReadNextModifiedRec; fields = (handle, tt) })) (read_next_modified_rec old handle)
unfolding read_next_modified_rec
next_done old handle =
    keeps_then _ _ (λ found. (base : Base) × (base_at old handle ≡ Some base) × NextReplies base.database found) _
    (keeps_need 6 (base_at old handle) _ _ refl (λ base here. with_base base here (next_in base.opened.next base.database)
    (next_keeps base.opened.next base.database)))
    (λ found next.
    let bounded_base : IsBounded old → IsBoundedDatabase next.0.database = λ bounded. AllByRecursion-database_of IsBoundedDatabase next.0.opened.name
    old.databases next.0.database bounded.databases
    (base_found old handle next.1) in
    turned_done (handle_count old.handles handle _)
    (λ fits sound bounded. handle_each old.handles handle _ (next_bounded (found.0 + 1) (opened_at handle old.handles)
    (let within = next.2.within (bounded_base bounded) in omega arith) (opened_bounded handle old.handles bounded.handles)) bounded.handles)
    (λ sound bounded. next.2.reply (bounded_base bounded)))
  where
    with_base : (base : Base) → base_at old handle ≡ Some base → (r : Result (ℕ × ReplyValue) ℕ) → Keeps (NextReplies base.database) r
        → Keeps (λ found. (b : Base) × (base_at old handle ≡ Some b) × NextReplies b.database found) r
    with_base base here (Ok found) is = (base, here, is)
    with_base base here (Err code) is = is

pub reset_done : (old : Device) (handle : ℕ)
    → Keeps (Done old (record { form = form.ResetRecordIndex; fields = (handle, tt) })) (reset_record_index old handle)
unfolding reset_record_index
reset_done old handle =
    grind (arith, nat_tests, common_steps, keeps_need, keeps_check, turned_done, handle_count, handle_each, next_bounded, opened_bounded)
