-- What a function that writes comes to, by the name that is open under its handle.
use Rattle.std.proofs.Common.{◌≡◌, ◌∙◌, ◌+◌, ◌≤◌, ℕ, zero, suc, Bool, true, false, cond, List, length, map, Option, Some, None, Err, refl, ap, sym}
use Rattle.std.proofs.Common.{eq-eqb, arith}
use Rattle.std.specs.Prelude.{is_some}
use Rattle.std.proofs.lemmas.List.{length-map}
use Rattle.pdb_values.specs.Databases.{DatabaseValue}
use Rattle.pdb_values.specs.NamedDatabases.{database_of}
use Rattle.pdb_values.specs.declared.record.Record.{Record}
use Rattle.pdb_values.specs.declared.user.UserInfo.{UserInfo}
use Rattle.dlp_replies.specs.Frames.{reply_text}
use Rattle.dlp_replies.specs.ReplyValues.{Refused}
use Rattle.palm_device.specs.Devices.{Device}
use Rattle.palm_device.specs.Edits.{edited}
use Rattle.palm_device.specs.FreshIds.{is_among, least_from, least_id}
use Rattle.palm_device.specs.Handles.{Base, base_at, is_writable, opened_at}
use Rattle.palm_device.specs.Records.{IsFree, place_of_id}
use Rattle.palm_device.specs.declared.edit.Edit.{Edit}
use Rattle.palm_device.specs.declared.edit.Edit.TheVariants as edit
use Rattle.palm_device.specs.declared.opened.Opened.{Opened}
use Rattle.dlp_commands.proofs.ReachedLaws.{base_at-closed, base_at-nowhere, base_at-there, writes_done, writes_locked, writes_none, writes_refused}
use Rattle.dlp_commands.specs.Asked.{MayGiveFor}
use Rattle.dlp_commands.specs.DeviceSteps.{outcome}
use Rattle.dlp_commands.specs.Errors.{none_open, read_only, ◌>>=◌, check}
use Rattle.dlp_commands.specs.Reached.{writes}
use Rattle.dlp_commands.specs.Writings as value
use Rattle.dlp_commands.specs.Writings.{WritingValue, asks_free, write_reply, written_in}
use Rattle.handheld_files.proofs.SettledLaws.{least_free}
use Rattle.handheld_store.proofs.IdLaws.{place_among}
use Rattle.handheld_server.specs.Acts.{ActsAt}
use Rattle.handheld_server.specs.Writing.{Refuses, Wrote, written_by}

-- ---- some id is free

least_by : (b : Bool) (more first : ℕ) (taken : List ℕ) → (first ≤ least_from more (suc first) taken) × (least_from more (suc first) taken ≤ suc first + more)
    → (first ≤ cond b (least_from more (suc first) taken) first) × (cond b (least_from more (suc first) taken) first ≤ first + suc more)
least_by true more first taken later = (later.0, omega arith)
least_by false more first taken later = (omega arith, omega arith)

least_bound : (more first : ℕ) (taken : List ℕ) → (first ≤ least_from more first taken) × (least_from more first taken ≤ first + more)
unfolding least_from
least_bound zero first taken = (omega arith, omega arith)
least_bound (suc more) first taken = least_by (is_among first taken) more first taken (let later = least_bound more (suc first) taken in (omega arith, later.1))

nowhere : (o : Option ℕ) → is_some o ≡ false → o ≡ None
nowhere None is = refl
nowhere (Some place) is = absurd cc

-- the least id from 1 that no record has
pub some_free : (items : List Record) → length items ≤ 65535 → IsFree (least_id (map (λ item. item.id) items)) items
some_free items few =
    let ids : List ℕ = map (λ (item : Record). item.id) items in
    let many : length ids ≡ length items = length-map items (λ (item : Record). item.id) in
    let bound = least_bound (length ids) 1 ids in
    record {
      some = omega arith;
      bound = omega arith;
      none = nowhere (place_of_id (least_id ids) items) (place_among (least_id ids) items ∙ least_free ids);
    }

-- ---- the id of a new record

may_give : (old : Device) (handle given : ℕ) (asked : WritingValue) (base : Base)
    → base_at old handle ≡ Some base → (asks_free asked ≡ true → IsFree given base.database.records) → MayGiveFor old given handle asked
may_give old handle given (value.WriteRecord id attributes category bytes) base some free = rw some (λ zero. free (eq-eqb id 0 zero))
may_give old handle given other base some free = tt

may_give_none : (old : Device) (handle given : ℕ) (asked : WritingValue) → base_at old handle ≡ None → MayGiveFor old given handle asked
may_give_none old handle given (value.WriteRecord id attributes category bytes) none = rw none tt
may_give_none old handle given other none = tt

-- ---- what is refused

none_acts : (old : Device) (number handle : ℕ) (asked : WritingValue) → base_at old handle ≡ None
    → ActsAt old number handle asked (reply_text (Refused number none_open)) old
none_acts old number handle asked none = grind (arith, may_give_none, writes_none)

-- nothing is open under the handle
pub closed_acts : (old : Device) (number handle : ℕ) (asked : WritingValue) → opened_at handle old.handles ≡ None
    → ActsAt old number handle asked (reply_text (Refused number none_open)) old
closed_acts old number handle asked none = none_acts old number handle asked (base_at-closed old handle none)

refused_by : (old : Device) (number handle free code : ℕ) (asked : WritingValue) (base : Base) (b : Bool)
    → base_at old handle ≡ Some base → is_writable base ≡ b → (check read_only b >>= λ allowed. written_in free asked base.database) ≡ Err code
    → outcome old number (writes free old handle asked) ≡ (reply_text (Refused number code), old)
refused_by old number handle free code asked base true some allowed refused = grind (arith, writes_refused)
refused_by old number handle free code asked base false some locked refused = grind (arith, writes_locked)

refused_led : (old : Device) (number handle code : ℕ) (asked : WritingValue) (opened : Opened) (o : Option DatabaseValue)
    → opened_at handle old.handles ≡ Some opened → database_of opened.name old.databases ≡ o → Refuses opened.mode asked o code
    → ActsAt old number handle asked (reply_text (Refused number code)) old
refused_led old number handle code asked opened None is found refuses =
    let refused : written_by 0 opened.mode asked None ≡ Err code = refuses.refused 0 in
    let same : none_open ≡ code = cc in
    rw (← same) (none_acts old number handle asked (base_at-nowhere old handle opened is found))
refused_led old number handle code asked opened (Some database) is found refuses =
    let free : ℕ = least_id (map (λ (item : Record). item.id) database.records) in
    let base : Base = record { opened = opened; database = database } in
    let there = base_at-there old handle opened database is found in
    record {
      free = free;
      may = may_give old handle free asked base there (λ asks. some_free database.records refuses.few);
      is = refused_by old number handle free code asked base (is_writable base) there refl (refuses.refused free);
    }

-- the table's refusal, where some id is free
pub refused_acts : (old : Device) (number handle code : ℕ) (asked : WritingValue) (opened : Opened)
    → opened_at handle old.handles ≡ Some opened → Refuses opened.mode asked (database_of opened.name old.databases) code
    → ActsAt old number handle asked (reply_text (Refused number code)) old
refused_acts old number handle code asked opened is refuses =
    refused_led old number handle code asked opened (database_of opened.name old.databases) is refl refuses

-- ---- what is written

pub wrote_acts : (old : Device) (number handle given : ℕ) (asked : WritingValue) (opened : Opened) (databases : List DatabaseValue)
    → opened_at handle old.handles ≡ Some opened → Wrote opened.mode asked opened.name old.databases given databases
    → ActsAt old number handle asked (reply_text (write_reply given asked)) (record old { databases = databases })
wrote_acts old number handle given asked opened databases is wrote =
    let base : Base = record { opened = opened; database = wrote.database } in
    let there = base_at-there old handle opened wrote.database is wrote.there in
    record {
      free = given;
      may = may_give old handle given asked base there wrote.free;
      is = writes_done old number handle given asked base wrote.changed (write_reply given asked) there wrote.allowed wrote.written
          ∙ ap (λ ds. (reply_text (write_reply given asked), record old { databases = ds })) (sym wrote.is);
    }

-- ---- an edit

-- an edit leaves the head
pub edited-head : (free : ℕ) (asked : Edit) (database : DatabaseValue) → (edited free asked database).head ≡ database.head
edited-head free (edit.AppBlock bytes) database = refl
edited-head free other database = refl

-- ---- the same of the reply and the device as the program has them

abbrev device_in : List DatabaseValue → UserInfo → List (Option Opened) → Device
device_in databases user handles = record { databases = databases; user = user; handles = handles }

device_is : (databases databases' : List DatabaseValue) (user user' : UserInfo) (handles handles' : List (Option Opened))
    → databases ≡ databases' → user ≡ user' → handles ≡ handles' → device_in databases user handles ≡ device_in databases' user' handles'
device_is databases databases' user user' handles handles' same_databases same_user same_handles = grind arith

pub acts_as : (old : Device) (number handle : ℕ) (asked : WritingValue) (reply text : List ℕ) (databases databases' : List DatabaseValue)
    (user : UserInfo) (handles : List (Option Opened)) → ActsAt old number handle asked text (record old { databases = databases })
    → reply ≡ text → databases ≡ databases' → old.user ≡ user → old.handles ≡ handles
    → ActsAt old number handle asked reply (record { databases = databases'; user = user; handles = handles })
acts_as old number handle asked reply text databases databases' user handles acts same_reply same_databases same_user same_handles =
    grind (arith, device_is)
