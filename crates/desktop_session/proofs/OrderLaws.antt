-- What may be asked of a device is answered.
use Rattle.std.proofs.Common.{◌≡◌, ◌≤◌, ◌<◌, refl, ℕ, zero, suc, Bool, true, false, List, [], ◌∷◌, length, arith, ne_eqb, le-ltb}
use Rattle.std.specs.Prelude.{Option, Some, None, Result, Ok, Err, IsSome, IsSomeAnd, ◌==◌, ◌||◌, not, is_none, nat_le, nat_lt, slice_get}
use Rattle.pdb_values.specs.Databases.{DatabaseValue}
use Rattle.pdb_values.specs.Names.{IsName, name_fault}
use Rattle.dlp_args.specs.Fields.{Fields}
use Rattle.dlp_requests.specs.Forms as form
use Rattle.dlp_requests.specs.Forms.{Form, kinds_of}
use Rattle.dlp_replies.specs.ReplyReading.{reply_at}
use Rattle.dlp_replies.specs.ReplyValues.{ReplyValue}
use Rattle.palm_device.specs.Devices.{Device}
use Rattle.palm_device.specs.Handles.{Base, base_at, is_writable, opened_at}
use Rattle.palm_device.specs.Heads.{has_bit}
use Rattle.dlp_commands.specs.declared.link.LinkFault.{LinkFault}
use Rattle.dlp_commands.specs.DatabaseFunctions.{close_db, create_db, delete_db, named, open_db, read_db_list}
use Rattle.dlp_commands.specs.DeviceSteps.{tried, tried_by}
use Rattle.dlp_commands.specs.Errors.{not_found, not_supported, parameter, ◌>>=◌, check, need}
use Rattle.dlp_commands.specs.Reached.{Trial, read_next_modified_rec, reads, writes}
use Rattle.dlp_commands.specs.Readings.{block_part, read_in, record_part}
use Rattle.dlp_commands.specs.Talks.{Talk}
use Rattle.dlp_commands.specs.UserFunctions.{write_user_info}
use Rattle.dlp_commands.specs.Writings as writing
use Rattle.dlp_commands.specs.Writings.{WritingValue, may_write, with_resource, without_record, written_in}
use Rattle.dlp_commands.specs.declared.reading.Reading.{Reading}
use Rattle.dlp_commands.specs.declared.reading.Reading.TheVariants as reading
use Rattle.desktop_session.specs.declared.fault.SessionFault.{SessionFault}
use Rattle.desktop_session.specs.Acts.{Act, acted}
use Rattle.desktop_session.specs.Answers.{answer_by, no_more, or_false, or_none, said_in}
use Rattle.desktop_session.specs.Orders.{AreAnswered, AreInOrder, CanAsk, CanDelete, CanMake, CanMark, CanOpen, HasRecordAt, HasRecords, HasResourceAt}
use Rattle.desktop_session.specs.Orders.{IsAnswered, IsPossible, IsUnrefused, SaysInOrder, TakesRecord, TakesRecords, TakesResource, may_find_none}
use Rattle.desktop_session.specs.Replies.{IsDone}
use Rattle.desktop_session.specs.Sessions.{SessionValue}
use Rattle.desktop_session.specs.Stops.{AsksOne}
use Rattle.desktop_session.specs.Tellings.{number_of, tells, told}
use Rattle.desktop_session.proofs.TellLaws.{acted_reads}
use Rattle.std.proofs.lemmas.Grind.{common_steps}
use Rattle.std.proofs.lemmas.Bool.Decides.{nat_tests}
use Rattle.std.proofs.Common.{rules}

-- ---- steps

-- done, with this of what was done, or error 5 where the call has an answer for it
abbrev Meets : Form → {A : Type 0} → (A → Type 0) → Result A ℕ → Type 0
Meets f P (Ok done) = P done
Meets f P (Err code) = (may_find_none f ≡ true) × (code ≡ 5)

-- nothing of it
abbrev Any : {A : Type 0} → A → Type 0
Any x = Unit {0}

-- a reply that is no error
abbrev Ends : Device × ReplyValue → Type 0
Ends done = IsDone done.1

abbrev Changes : DatabaseValue × ReplyValue → Type 0
Changes changed = IsDone changed.1

meets_then : (f : Form) {A B : Type 0} (P : A → Type 0) (Q : B → Type 0) (r : Result A ℕ) (next : A → Result B ℕ) → Meets f P r
    → ((x : A) → P x → Meets f Q (next x)) → Meets f Q (r >>= next)
meets_then f P Q r next met each = search (rules)

meets_check : (f : Form) (code : ℕ) {B : Type 0} (Q : B → Type 0) {holds : Bool} (next : Unit {0} → Result B ℕ) → holds ≡ true → Meets f Q (next tt)
    → Meets f Q (check code holds >>= next)
meets_check f code Q next is met = rw is met

meets_there : (f : Form) (code : ℕ) {A B : Type 0} (Q : B → Type 0) {o : Option A} {x : A} (next : A → Result B ℕ) → o ≡ Some x → Meets f Q (next x)
    → Meets f Q (need code o >>= next)
meets_there f code Q next is met = rw is met

meets_need : (f : Form) {A B : Type 0} (Q : B → Type 0) (o : Option A) (next : A → Result B ℕ) → may_find_none f ≡ true
    → ((x : A) → Meets f Q (next x)) → Meets f Q (need not_found o >>= next)
meets_need f Q o next finds each = search (rules)

-- what is there
some_of : {A : Type 0} (o : Option A) → IsSome o → (x : A) × (o ≡ Some x)
some_of None is = cc
some_of (Some x) is = (x, refl)

pub some_with : {A : Type 0} (P : A → Type 0) (o : Option A) → IsSomeAnd o P → (x : A) × (o ≡ Some x) × P x
some_with P None is = absurd is
some_with P (Some x) is = (x, refl, is)

pub got_at : {A : Type 0} (xs : List A) (k : ℕ) → k < length xs → (x : A) × (slice_get xs k ≡ Some x)
got_at [] k within = absurd (omega arith)
got_at (x ∷ xs) zero within = (x, refl)
got_at (x ∷ xs) (suc k) within = got_at xs k (omega arith)

pub below_is : (m n : ℕ) → m < n → nat_lt m n ≡ true
below_is m n below = grind arith

pub same_is : {m n : ℕ} → m ≡ n → (m == n) ≡ true
same_is same = grind arith

up_to_is : (m n : ℕ) → m ≤ n → nat_le m n ≡ true
up_to_is m n up_to = grind arith

-- ---- databases

pub name_right : (name : List ℕ) → IsName name → is_none (name_fault name) ≡ true
name_right name is = grind (arith, common_steps, nat_tests, ne_eqb, le-ltb)

named_met : (f : Form) {card : ℕ} {name : List ℕ} → card ≡ 0 → IsName name → Meets f Any (named card name)
named_met f {name} first is = rw (first, name_right name is) tt

open_met : {device : Device} {card mode : ℕ} {name : List ℕ} → CanOpen device card mode name → Meets form.OpenDb Ends (open_db device card mode name)
unfolding open_db
open_met can = search (rules, some_with, meets_then, named_met)

make_met : {device : Device} (creator kind : List ℕ) {card : ℕ} (flags version : ℕ) {name : List ℕ} → CanMake device card name
    → Meets form.CreateDb Ends (create_db device creator kind card flags version name)
unfolding create_db
make_met creator kind flags version can = search (rules, meets_then, named_met, below_is)

delete_met : {device : Device} {card : ℕ} {name : List ℕ} → CanDelete device card name → Meets form.DeleteDb Ends (delete_db device card name)
unfolding delete_db
delete_met can = search (rules, meets_then, named_met, meets_need, meets_check)

list_met : (device : Device) {card : ℕ} (flags start : ℕ) → card ≡ 0 → has_bit 0x80 flags ≡ true
    → Meets form.ReadDbList Ends (read_db_list device flags card start)
unfolding read_db_list
list_met device flags start first asked = search (rules, meets_check, same_is, meets_need)

close_met : (device : Device) (handle : ℕ) → IsSome (opened_at handle device.handles) → Meets form.CloseDb Ends (close_db device handle)
unfolding close_db
close_met device handle can = search (rules, some_of)

mark_met : (device : Device) (user viewer pc : ℕ) {date : List ℕ} {name_len : ℕ} (bits : ℕ) {name : Option (List ℕ)} → CanMark date name_len name
    → Meets form.WriteUserInfo Ends (write_user_info device user viewer pc date bits name_len name)
unfolding write_user_info
mark_met device user viewer pc bits can = search (rules, some_of, meets_then, meets_there, meets_check, same_is)

-- ---- reading

part_met : (f : Form) (block : Option (List ℕ)) {offset : ℕ} (count : ℕ) → may_find_none f ≡ true → offset ≡ 0 → Meets f Any (block_part block offset count)
part_met f block count finds begins = search (rules, meets_need, meets_check, up_to_is)

record_met : (f : Form) (database : DatabaseValue) {offset : ℕ} (index count : ℕ) → may_find_none f ≡ true → offset ≡ 0
    → Meets f IsDone (record_part database index offset count)
record_met f database index count finds begins = search (rules, meets_need, meets_check, up_to_is)

reads_met : (f : Form) (device : Device) (handle : ℕ) (asked : Reading) {base : Base} → base_at device handle ≡ Some base
    → Meets f IsDone (read_in asked base.database) → Meets f Ends (reads device handle asked)
reads_met f device handle asked is met = search (rules, meets_there, meets_then)

app_met : (device : Device) {offset : ℕ} (handle count : ℕ) → offset ≡ 0 → IsSome (base_at device handle)
    → Meets form.ReadAppBlock Ends (reads device handle (reading.AppBlock offset count))
app_met device handle count begins can = search (rules, some_of, reads_met, meets_then, part_met)

sort_met : (device : Device) {offset : ℕ} (handle count : ℕ) → offset ≡ 0 → IsSome (base_at device handle)
    → Meets form.ReadSortBlock Ends (reads device handle (reading.SortBlock offset count))
sort_met device handle count begins can = search (rules, some_of, reads_met, meets_then, part_met)

next_met : (device : Device) (handle : ℕ) → IsSomeAnd (base_at device handle) HasRecords
    → Meets form.ReadNextModifiedRec Ends (read_next_modified_rec device handle)
unfolding read_next_modified_rec
next_met device handle can = search (rules, some_with, meets_then, meets_there, meets_check, meets_need)

of_met : (device : Device) {offset : ℕ} (handle id count : ℕ) → offset ≡ 0 → IsSomeAnd (base_at device handle) HasRecords
    → Meets form.ReadRecordById Ends (reads device handle (reading.RecordOfId id offset count))
of_met device handle id count begins can = search (rules, some_with, reads_met, meets_check, meets_need, record_met)

at_met : (device : Device) {offset : ℕ} (handle index count : ℕ) → offset ≡ 0 → IsSomeAnd (base_at device handle) (HasRecordAt index)
    → Meets form.ReadRecordByIndex Ends (reads device handle (reading.RecordAt index offset count))
at_met device {offset} handle index count begins can =
    let f = form.ReadRecordByIndex in
    let base = some_with (HasRecordAt index) (base_at device handle) can in
    let item = got_at base.0.database.records index base.2.there in
    reads_met f device handle (reading.RecordAt index offset count) base.1
    (meets_check f not_supported IsDone _ base.2.records
    (meets_there f not_found IsDone _ item.1
    (meets_check f parameter IsDone _ (up_to_is offset (length item.0.content.bytes) (omega arith)) tt)))

resource_met : (device : Device) {offset : ℕ} (handle index count : ℕ) → offset ≡ 0 → IsSomeAnd (base_at device handle) (HasResourceAt index)
    → Meets form.ReadResourceByIndex Ends (reads device handle (reading.ResourceAt index offset count))
resource_met device {offset} handle index count begins can =
    let f = form.ReadResourceByIndex in
    let base = some_with (HasResourceAt index) (base_at device handle) can in
    let resource = got_at base.0.database.resources index base.2.there in
    reads_met f device handle (reading.ResourceAt index offset count) base.1
    (meets_check f not_supported IsDone _ base.2.resources
    (meets_there f not_found IsDone _ resource.1
    (meets_check f parameter IsDone _ (up_to_is offset (length resource.0.bytes) (omega arith)) tt)))

ids_met : (device : Device) (handle start maximum : ℕ) → IsSomeAnd (base_at device handle) HasRecords
    → Meets form.ReadRecordIdList Ends (reads device handle (reading.RecordIds start maximum))
ids_met device handle start maximum can = search (rules, some_with, reads_met, meets_check)

count_met : (device : Device) (handle : ℕ) → IsSome (base_at device handle) → Meets form.ReadOpenDbInfo Ends (reads device handle reading.EntryCount)
count_met device handle can = search (rules, some_of, reads_met)

-- ---- writing

writes_met : (f : Form) (free : ℕ) (device : Device) (handle : ℕ) (asked : WritingValue) {base : Base} → base_at device handle ≡ Some base
    → is_writable base ≡ true → Meets f Changes (written_in free asked base.database) → Meets f Ends (writes free device handle asked)
writes_met f free device handle asked is writable met = search (rules, meets_there, meets_check, meets_then)

block_met : (f : Form) (free : ℕ) (device : Device) (handle : ℕ) (bytes : List ℕ) → IsSomeAnd (base_at device handle) (λ base. is_writable base ≡ true)
    → Meets f Ends (writes free device handle (writing.AppBlock bytes)) × Meets f Ends (writes free device handle (writing.SortBlock bytes))
block_met f free device handle bytes can = search (rules, some_with, writes_met)

room_met : (new room : Bool) → (new ≡ true → room ≡ true) → (not new || room) ≡ true
room_met true room has = has refl
room_met false room has = refl

clean_met : (f : Form) (free : ℕ) (device : Device) (handle : ℕ) → IsSomeAnd (base_at device handle) TakesRecords
    → Meets f Ends (writes free device handle writing.CleanUp) × Meets f Ends (writes free device handle writing.ResetFlags)
clean_met f free device handle can = search (rules, some_with, writes_met, meets_check)

done_answers : (f : Form) (value : ReplyValue) → IsDone value → IsAnswered f value
done_answers f value done = search (rules)

told_met : (f : Form) (number : ℕ) (r : Trial) → Meets f Ends r → IsAnswered f (tells number r)
told_met f number r met = search (rules, done_answers)

module _ (free : ℕ) (device : Device) where
  put_met : (handle id attributes category : ℕ) (bytes : List ℕ) → IsSomeAnd (base_at device handle) (TakesRecord id category)
      → Meets form.WriteRecord Ends (writes free device handle (writing.WriteRecord id attributes category bytes))
  put_met handle id attributes category bytes can = search (rules, some_with, writes_met, meets_check, meets_then, up_to_is, room_met, below_is)

  remove_met : {flags : ℕ} (handle id : ℕ) → flags ≡ 0 → IsSomeAnd (base_at device handle) TakesRecords
      → Meets form.DeleteRecord Ends (writes free device handle (writing.DeleteRecord flags id))
  remove_met handle id none can = search (rules, some_with, writes_met, meets_check, meets_then, meets_need)

  put_resource_met : (handle : ℕ) (kind : List ℕ) (id : ℕ) (bytes : List ℕ) → IsSomeAnd (base_at device handle) (TakesResource kind id)
      → Meets form.WriteResource Ends (writes free device handle (writing.WriteResource kind id bytes))
  put_resource_met handle kind id bytes can = search (rules, some_with, writes_met, meets_check, meets_then)

  -- ---- each form

  all_met : (f : Form) (fields : Fields (kinds_of f)) → CanAsk device f fields → Meets f Ends (tried_by free device f fields)
  all_met form.ReadUserInfo fields can = tt
  all_met form.WriteUserInfo (user, (viewer, (pc, (date, (bits, (name_len, (name, end))))))) can =
      mark_met device user viewer pc bits can
  all_met form.ReadDbList (flags, (card, (start, end))) can = list_met device flags start can.0 can.1
  all_met form.OpenDb (card, (mode, (name, end))) can = open_met can
  all_met form.CreateDb (creator, (kind, (card, (pad, (flags, (version, (name, end))))))) can =
      make_met creator kind flags version can
  all_met form.CloseDb (handle, end) can = close_met device handle can
  all_met form.DeleteDb (card, (pad, (name, end))) can = delete_met can
  all_met form.ReadAppBlock (handle, (pad, (offset, (count, end)))) can = app_met device handle count can.0 can.1
  all_met form.ReadSortBlock (handle, (pad, (offset, (count, end)))) can = sort_met device handle count can.0 can.1
  all_met form.WriteAppBlock (handle, (pad, (bytes, end))) can = (block_met form.WriteAppBlock free device handle bytes can).0
  all_met form.WriteSortBlock (handle, (pad, (bytes, end))) can = (block_met form.WriteSortBlock free device handle bytes can).1
  all_met form.ReadNextModifiedRec (handle, end) can = next_met device handle can
  all_met form.ReadRecordById (handle, (pad, (id, (offset, (count, end))))) can = of_met device handle id count can.0 can.1
  all_met form.ReadRecordByIndex (handle, (pad, (index, (offset, (count, end))))) can = at_met device handle index count can.0 can.1
  all_met form.WriteRecord (handle, (flags, (id, (attributes, (category, (bytes, end)))))) can =
      put_met handle id attributes category bytes can
  all_met form.DeleteRecord (handle, (flags, (id, end))) can = remove_met handle id can.0 can.1
  all_met form.ReadResourceByIndex (handle, (pad, (index, (offset, (count, end))))) can =
      resource_met device handle index count can.0 can.1
  all_met form.WriteResource (handle, (pad, (kind, (id, (bytes, end))))) can = put_resource_met handle kind id bytes can
  all_met form.CleanUpDatabase (handle, end) can = (clean_met form.CleanUpDatabase free device handle can).0
  all_met form.ResetSyncFlags (handle, end) can = (clean_met form.ResetSyncFlags free device handle can).1
  all_met form.ReadOpenDbInfo (handle, end) can = count_met device handle can
  all_met form.OpenConduit fields can = tt
  all_met form.EndOfSync fields can = tt
  all_met form.ReadRecordIdList (handle, (flags, (start, (maximum, end)))) can = ids_met device handle start maximum can
  all_met f fields can = absurd can

-- ---- what the reply says

pub possible_answered : (one : Act) (device : Device) → IsPossible one device → IsAnswered one.asks.form (told one device)
unfolding IsPossible told tried
possible_answered one device can = search (rules, told_met, all_met)

pub order_answered : (acts : List Act) (device : Device) → AreInOrder acts device → AreAnswered acts device
order_answered [] device order = tt
order_answered (one ∷ acts) device order = (possible_answered one device order.0, order_answered acts (acted one device).1 order.1)

-- ---- what a call answers

-- the reply is no error, unless its call has an answer for it
said_unrefused : {A : Type 0} (function : ℕ) (f : Form) (take : ReplyValue → A) (value : ReplyValue) → may_find_none f ≡ false → IsAnswered f value
    → IsUnrefused (said_in function take (Ok value))
said_unrefused function f take value none is = search (rules)

none_unrefused : {A : Type 0} (function : ℕ) (f : Form) (take : ReplyValue → A) (value : ReplyValue) → IsAnswered f value
    → IsUnrefused (or_none (said_in function take (Ok value)))
none_unrefused function f take value is = search (rules, same_is)

false_unrefused : (function : ℕ) (f : Form) (value : ReplyValue) → IsAnswered f value → IsUnrefused (or_false (said_in function no_more (Ok value)))
false_unrefused function f value is = search (rules, same_is)

fault_unrefused : {A : Type 0} (fault : Option LinkFault) (said : Result A SessionFault) → (fault ≡ None → IsUnrefused said)
    → IsUnrefused (answer_by fault said)
fault_unrefused fault said each = search (rules)

-- where the link has no fault, the last reply is read as what the device tells
reads_told : {L : Type 0} {talk : L → Option Talk} {since : L → L → Type 0} {fault : L → Option LinkFault} {downs : L → ℕ} {one : Act}
    {old new : SessionValue L}
    → AsksOne talk since fault downs one old new → (order : SaysInOrder talk one old.link) → fault new.link ≡ None
    → reply_at (number_of one) new.reply ≡ Ok (told one order.said.device)
reads_told asked order none = grind (arith, common_steps, nat_tests, acted_reads)

module _ {L : Type 0} (talk : L → Option Talk) (since : L → L → Type 0) (fault : L → Option LinkFault) (downs : L → ℕ) (one : Act)
    (old new : SessionValue L) where
  pub said_in_order : {A : Type 0} (take : ReplyValue → A) → AsksOne talk since fault downs one old new → SaysInOrder talk one old.link
      → may_find_none one.asks.form ≡ false → IsUnrefused (answer_by (fault new.link) (said_in (number_of one) take (reply_at (number_of one) new.reply)))
  said_in_order take asked order none =
      fault_unrefused (fault new.link) (said_in (number_of one) take (reply_at (number_of one) new.reply)) (λ working.
      rw (reads_told asked order working)
      (said_unrefused (number_of one) one.asks.form take (told one order.said.device) none (possible_answered one order.said.device order.possible)))

  pub found_in_order : {A : Type 0} (take : ReplyValue → A) → AsksOne talk since fault downs one old new → SaysInOrder talk one old.link
      → IsUnrefused (answer_by (fault new.link) (or_none (said_in (number_of one) take (reply_at (number_of one) new.reply))))
  found_in_order take asked order =
      fault_unrefused (fault new.link) (or_none (said_in (number_of one) take (reply_at (number_of one) new.reply))) (λ working.
      rw (reads_told asked order working)
      (none_unrefused (number_of one) one.asks.form take (told one order.said.device) (possible_answered one order.said.device order.possible)))

  pub removed_in_order : AsksOne talk since fault downs one old new → SaysInOrder talk one old.link
      → IsUnrefused (answer_by (fault new.link) (or_false (said_in (number_of one) no_more (reply_at (number_of one) new.reply))))
  removed_in_order asked order =
      fault_unrefused (fault new.link) (or_false (said_in (number_of one) no_more (reply_at (number_of one) new.reply))) (λ working.
      rw (reads_told asked order working)
      (false_unrefused (number_of one) one.asks.form (told one order.said.device) (possible_answered one order.said.device order.possible)))
