-- What each request that was not refused makes of a device, and its reply.
use Rattle.std.proofs.lemmas.Bool.Decides.{nat_tests}
use Rattle.std.proofs.lemmas.Grind.{common_steps}
use Rattle.std.proofs.Common.{◌≡◌, ◌<◌, ◌≤◌, ◌^◌, ℕ, Bool, true, false, cond, List, length, Option, Some, None, IfSome, refl, subst, arith, lit<, lit≤}
use Rattle.std.specs.Prelude.{is_none, ◌==◌}
use Rattle.std.specs.List.{list_any}
use Rattle.std.proofs.lemmas.Bool.{ltb-true}
use Rattle.pdb_values.specs.NamedDatabases.{database_of}
use Rattle.pdb_values.specs.Names.{IsName, name_fault}
use Rattle.pdb_values.specs.PalmDates.{counted, is_no_date, on_wire, read_wire}
use Rattle.pdb_values.specs.Users.{user_name_of}
use Rattle.pdb_values.specs.declared.user.UserInfo.{UserInfo}
use Rattle.pdb_values.proofs.DateLaws.{civil_of-counted}
use Rattle.dlp_args.specs.Fields.{Fields}
use Rattle.dlp_requests.specs.Forms as form
use Rattle.dlp_requests.specs.Forms.{Form, kinds_of}
use Rattle.dlp_requests.specs.RequestValues.{RequestValue}
use Rattle.palm_device.specs.Bounds.{IsBounded, IsBoundedHead, IsBoundedUser}
use Rattle.palm_device.specs.Devices.{Device}
use Rattle.palm_device.specs.Handles.{Base, base_at, just_opened}
use Rattle.palm_device.specs.Heads.{new_head}
use Rattle.palm_device.specs.Records.{IsFree}
use Rattle.dlp_commands.specs.DatabaseFunctions.{close_db, create_db, delete_db, named, open_db, read_db_list}
use Rattle.dlp_commands.specs.DeviceSteps.{FormMayGive, RequestFits, tried, tried_by}
use Rattle.dlp_commands.specs.UserFunctions.{name_or_empty, with_marks, write_user_info, name_length}
use Rattle.dlp_commands.specs.Writings as writing
use Rattle.dlp_commands.specs.declared.reading.Reading.TheVariants as reading
use Rattle.dlp_commands.proofs.ReplyLaws.{list_is_reply, reply_by, system_is_reply, user_is_reply}
use Rattle.dlp_commands.proofs.TriedLaws.{Keeps, keeps_check, keeps_need, keeps_then}
use Rattle.dlp_commands.proofs.DoneLaws.{Done, free_few, handle_count, handle_each, made_done, marked_done, next_done, reads_done, removed_done}
use Rattle.dlp_commands.proofs.DoneLaws.{reset_done, same_done, writes_done}

-- ---- functions on databases

name_is : (name : List ℕ) → is_none (name_fault name) ≡ true → IsName name
name_is name none = grind (arith, nat_tests, common_steps)

named_keeps : (card : ℕ) (name : List ℕ) → Keeps (λ (x : Unit {0}). IsName name) (named card name)
named_keeps card name = grind (arith, nat_tests, common_steps)

pub none_is : {A : Type 0} (o : Option A) → is_none o ≡ true → o ≡ None
none_is None is = refl
none_is (Some x) is = absurd cc

open_done : (old : Device) (card mode : ℕ) (name : List ℕ)
    → Keeps (Done old (record { form = form.OpenDb; fields = (card, (mode, (name, tt))) })) (open_db old card mode name)
unfolding open_db
open_done old card mode name = grind (arith, nat_tests, common_steps)

head_bounded : (name kind creator : List ℕ) (flags version : ℕ) → IsName name → length kind ≡ 4 → length creator ≡ 4 → flags < 2 ^ 16
    → version < 2 ^ 16 → IsBoundedHead (new_head name kind creator flags version)
head_bounded name kind creator flags version is four also few small = grind (arith, nat_tests, common_steps)

create_done : (old : Device) (creator kind : List ℕ) (card flags version : ℕ) (name : List ℕ)
    → Keeps (Done old (record { form = form.CreateDb; fields = (creator, (kind, (card, (tt, (flags, (version, (name, tt))))))) }))
    (create_db old creator kind card flags version name)
unfolding create_db
create_done old creator kind card flags version name =
    let value : RequestValue = record { form = form.CreateDb; fields = (creator, (kind, (card, (tt, (flags, (version, (name, tt))))))) } in
    keeps_then _ _ _ _ (named_keeps card name) (λ x is_named.
    keeps_check 9 _ _ _ refl (λ new.
    keeps_need 8 _ _ _ refl (λ handle free.
    keeps_check 17 _ _ _ refl (λ room.
    made_done {value = value} (new_head name kind creator flags version) refl refl (none_is (database_of name old.databases) new)
    (ltb-true (length old.databases) 200 room) (handle_count old.handles handle _)
    (λ fits. head_bounded name kind creator flags version is_named fits.1.0 fits.0 fits.1.1.1.1.0 fits.1.1.1.1.1.0)
    (λ fits sound bounded. handle_each old.handles handle (Some (just_opened name 0xC0))
    (record { name = is_named; mode = lit< tt; next = lit< tt }) bounded.handles)
    (λ sound bounded. reply_by (free_few old.handles handle free sound.handles) tt (lit≤ tt) refl)))))

close_done : (old : Device) (handle : ℕ) → Keeps (Done old (record { form = form.CloseDb; fields = (handle, tt) })) (close_db old handle)
unfolding close_db
close_done old handle = grind (arith, nat_tests, common_steps)

delete_done : (old : Device) (card : ℕ) (name : List ℕ)
    → Keeps (Done old (record { form = form.DeleteDb; fields = (card, (tt, (name, tt))) })) (delete_db old card name)
unfolding delete_db
delete_done old card name = grind (arith, nat_tests, common_steps, keeps_then, named_keeps, keeps_need, keeps_check, removed_done)

list_done : (old : Device) (flags card start : ℕ)
    → Keeps (Done old (record { form = form.ReadDbList; fields = (flags, (card, (start, tt))) })) (read_db_list old flags card start)
unfolding read_db_list
list_done old flags card start = grind (arith, nat_tests, common_steps, keeps_check, keeps_need, same_done, list_is_reply)

-- ---- the user

date_small : (bytes : List ℕ) (seconds : ℕ) → read_wire bytes ≡ Some seconds → seconds < 2 ^ 32
date_small bytes seconds is = by (is_no_date (on_wire bytes)) is
  where
    by : (b : Bool) → cond b (Some 0) (counted (on_wire bytes)) ≡ Some seconds → seconds < 2 ^ 32
    by true is = let zero_is : 0 ≡ seconds = cc in subst (λ n. n < 2 ^ 32) zero_is (lit< tt)
    by false is = (civil_of-counted (on_wire bytes) seconds is).1

user_name_is : (bytes name : List ℕ) → user_name_of bytes ≡ Some name → (length name ≤ 40) × (list_any (λ byte. byte == 0) name ≡ false)
user_name_is bytes name is = grind (arith, nat_tests, common_steps)

marks_bounded : (bits user viewer pc date : ℕ) (name : List ℕ) (old : UserInfo) → user < 2 ^ 32 → viewer < 2 ^ 32 → pc < 2 ^ 32 → date < 2 ^ 32
    → (length name ≤ 40) × (list_any (λ byte. byte == 0) name ≡ false) → IsBoundedUser old
    → IsBoundedUser (with_marks bits user viewer pc date name old)
marks_bounded bits user viewer pc date name old one two three four five was = grind (arith, nat_tests, common_steps)

marks_done : (old : Device) (user viewer pc : ℕ) (date : List ℕ) (bits name_len : ℕ) (name : Option (List ℕ))
    → Keeps (Done old (record { form = form.WriteUserInfo; fields = (user, (viewer, (pc, (date, (bits, (name_len, (name, tt))))))) }))
    (write_user_info old user viewer pc date bits name_len name)
unfolding write_user_info
marks_done old user viewer pc date bits name_len name =
    let asked : RequestValue = record { form = form.WriteUserInfo; fields = (user, (viewer, (pc, (date, (bits, (name_len, (name, tt))))))) } in
    let fits : UserInfo → Type 0 = λ known. RequestFits asked → IsBounded old → IsBoundedUser known in
    keeps_then _ _ fits _
    (keeps_need 4 (read_wire date) _ fits refl (λ seconds dated.
    keeps_check 4 (name_len == name_length name) _ fits refl (λ counts.
    keeps_need 4 (user_name_of (name_or_empty name)) _ fits refl (λ told is.
    λ small bounded. marks_bounded bits user viewer pc seconds told old.user small.0 small.1.0 small.1.1.0 (date_small date seconds dated)
    (user_name_is (name_or_empty name) told is) bounded.user))))
    (λ known bounded. marked_done refl bounded (λ sound bounded. reply_by tt tt (lit≤ tt) refl))

-- ---- every request

given_at : (o : Option Base) (P : Base → Type 0) → IfSome o P → (base : Base) → o ≡ Some base → P base
given_at o P may base is = grind (arith, nat_tests, common_steps)

form_done : (free : ℕ) (old : Device) (f : Form) (fields : Fields (kinds_of f)) → FormMayGive old free f fields
    → Keeps (Done old (record { form = f; fields = fields })) (tried_by free old f fields)
form_done free old form.ReadUserInfo none may = same_done (λ sound bounded. user_is_reply old.user bounded.user)
form_done free old form.WriteUserInfo (user, (viewer, (pc, (date, (bits, (name_len, (name, end))))))) may =
    marks_done old user viewer pc date bits name_len name
form_done free old form.ReadSysInfo none may = same_done (λ sound bounded. system_is_reply)
form_done free old form.ReadSysInfoFor (major, (minor, end)) may = same_done (λ sound bounded. system_is_reply)
form_done free old form.ReadDbList (flags, (card, (start, end))) may = list_done old flags card start
form_done free old form.OpenDb (card, (mode, (name, end))) may = open_done old card mode name
form_done free old form.CreateDb (creator, (kind, (card, (pad, (flags, (version, (name, end))))))) may =
    create_done old creator kind card flags version name
form_done free old form.CloseDb (handle, end) may = close_done old handle
form_done free old form.DeleteDb (card, (pad, (name, end))) may = delete_done old card name
form_done free old form.ReadAppBlock (handle, (pad, (offset, (count, end)))) may = reads_done old _ handle (reading.AppBlock offset count) refl
form_done free old form.ReadSortBlock (handle, (pad, (offset, (count, end)))) may = reads_done old _ handle (reading.SortBlock offset count) refl
form_done free old form.WriteAppBlock (handle, (pad, (bytes, end))) may =
    writes_done free old _ handle (writing.AppBlock bytes) refl refl refl (λ fits. fits.1.1) (λ base is. tt)
form_done free old form.WriteSortBlock (handle, (pad, (bytes, end))) may =
    writes_done free old _ handle (writing.SortBlock bytes) refl refl refl (λ fits. fits.1.1) (λ base is. tt)
form_done free old form.ReadNextModifiedRec (handle, end) may = next_done old handle
form_done free old form.ReadRecordById (handle, (pad, (id, (offset, (count, end))))) may =
    reads_done old _ handle (reading.RecordOfId id offset count) refl
form_done free old form.ReadRecordByIndex (handle, (pad, (index, (offset, (count, end))))) may =
    reads_done old _ handle (reading.RecordAt index offset count) refl
form_done free old form.WriteRecord (handle, (flags, (id, (attributes, (category, (bytes, end)))))) may =
    writes_done free old _ handle (writing.WriteRecord id attributes category bytes) refl refl refl (λ fits. fits.1.1.1.1.1)
    (λ base is. given_at (base_at old handle) (λ b. id ≡ 0 → IsFree free b.database.records) may base is)
form_done free old form.DeleteRecord (handle, (flags, (id, end))) may = writes_done free old _ handle (writing.DeleteRecord flags id) refl refl refl
    (λ fits. tt) (λ base is. tt)
form_done free old form.ReadResourceByIndex (handle, (pad, (index, (offset, (count, end))))) may =
    reads_done old _ handle (reading.ResourceAt index offset count) refl
form_done free old form.ReadResourceByType (handle, (pad, (kind, (id, (offset, (count, end)))))) may = grind (arith, nat_tests, common_steps, reads_done)
form_done free old form.WriteResource (handle, (pad, (kind, (id, (bytes, end))))) may =
    writes_done free old _ handle (writing.WriteResource kind id bytes) refl refl refl (λ fits. (fits.1.1.0, fits.1.1.1.0, fits.1.1.1.1))
    (λ base is. tt)
form_done free old form.DeleteResource (handle, (flags, (kind, (id, end)))) may =
    writes_done free old _ handle (writing.DeleteResource flags kind id) refl refl refl (λ fits. tt) (λ base is. tt)
form_done free old form.CleanUpDatabase (handle, end) may = writes_done free old _ handle writing.CleanUp refl refl refl (λ fits. tt) (λ base is. tt)
form_done free old form.ResetSyncFlags (handle, end) may = writes_done free old _ handle writing.ResetFlags refl refl refl (λ fits. tt)
    (λ base is. tt)
form_done free old form.ResetRecordIndex (handle, end) may = reset_done old handle
form_done free old form.AddSyncLogEntry (text, end) may = grind (arith, nat_tests, common_steps)
form_done free old form.ReadOpenDbInfo (handle, end) may = reads_done old _ handle reading.EntryCount refl
form_done free old form.MoveCategory (handle, (from, (to, (pad, end)))) may =
    writes_done free old _ handle (writing.MoveCategory from to) refl refl refl (λ fits. tt) (λ base is. tt)
form_done free old form.OpenConduit none may = grind (arith, nat_tests, common_steps)
form_done free old form.EndOfSync (status, end) may = grind (arith, nat_tests, common_steps)
form_done free old form.ReadRecordIdList (handle, (flags, (start, (maximum, end)))) may =
    reads_done old _ handle (reading.RecordIds start maximum) refl

-- a request that was not refused
pub tried_done : (free : ℕ) (old : Device) (value : RequestValue) → FormMayGive old free value.form value.fields
    → Keeps (Done old value) (tried free old value)
unfolding tried
tried_done free old value may = form_done free old value.form value.fields may
