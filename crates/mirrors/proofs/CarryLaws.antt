-- What puts and purges make of the database that is open.
use Rattle.std.proofs.Common.{◌≡◌, ◌∙◌, ◌≤◌, ◌<◌, ◌+◌, ◌==◌, refl, ap, sym, ℕ, Bool, true, false, List, [], ◌∷◌, length, map}
use Rattle.std.proofs.Common.{arith, rules}
use Rattle.std.specs.Prelude.{◌||◌, not, nat_le, nat_lt, Option, Some, None, Ok, Err, option_and_then}
use Rattle.std.specs.Option.{option_map}
use Rattle.std.specs.Str.{bytes_eq}
use Rattle.std.proofs.lemmas.Bool.Decides.{nat_tests}
use Rattle.pdb_values.specs.Contents.{ContentValue}
use Rattle.pdb_values.specs.Databases.{DatabaseValue}
use Rattle.pdb_values.specs.Heads.{has_bit}
use Rattle.pdb_values.specs.NamedDatabases.{database_of}
use Rattle.pdb_values.specs.declared.record.Record.{Record}
use Rattle.pdb_values.proofs.NamedLaws.{bytes_eq-own, database_of-name, database_of-replaced}
use Rattle.dlp_replies.specs.ReplyValues as reply
use Rattle.dlp_replies.specs.ReplyValues.{ReplyValue}
use Rattle.palm_device.specs.Devices.{Device, with_database}
use Rattle.palm_device.specs.Entries.{put_entry}
use Rattle.palm_device.specs.Handles.{Base, base_at, base_of, is_writable, opened_at}
use Rattle.palm_device.specs.Records.{cleaned_up, given_id, has_id, is_new, new_record, place_of_id, put_record, reset_flags, rewritten, with_records}
use Rattle.palm_device.specs.Records.{without_record}
use Rattle.palm_device.specs.declared.opened.Opened.{Opened}
use Rattle.palm_device.proofs.EntryLaws.{without_entry_none}
use Rattle.dlp_commands.specs.DeviceSteps.{outcome, tried}
use Rattle.dlp_commands.specs.Errors.{not_found}
use Rattle.dlp_commands.specs.Holding.{on_records}
use Rattle.dlp_commands.specs.Reached.{writes}
use Rattle.dlp_commands.specs.Writings as writing
use Rattle.dlp_commands.specs.Writings.{WritingValue, written_in}
use Rattle.desktop_session.specs.Acts.{acted}
use Rattle.desktop_session.specs.Requests.{cleaning, putting, removing, resetting, secret_bit}
use Rattle.desktop_session.specs.Tellings.{device_after}
use Rattle.desktop_session.proofs.RowLaws.{writes_row}
use Rattle.mirrors.specs.News.{AreIdsOf, ArePuttable, IsOpenWith, after_purges, after_puts, purge_writes, puts, removed}
use Rattle.std.proofs.lemmas.Grind.{common_steps}
use Rattle.desktop_session.proofs.ListLaws.{after_append}

-- ---- a handle leads to what was written

lead_at : (device : Device) (opened : Opened) {database : DatabaseValue} (rs : List Record) → database_of opened.name device.databases ≡ Some database
    → base_of (with_database device (with_records rs database)) opened ≡ Some (record { opened = opened; database = with_records rs database })
lead_at device opened {database} rs here =
    let named : database.head.name ≡ opened.name = database_of-name opened.name device.databases database here in
    let found : database_of database.head.name device.databases ≡ Some database = cc in
    let own : bytes_eq database.head.name opened.name ≡ true =
    rw (← named) (bytes_eq-own database.head.name) in
    cc (database_of-replaced opened.name (with_records rs database) database device.databases found)

lead_found : (device : Device) {base : Base} (rs : List Record) (opened : Opened) (o : Option DatabaseValue) → database_of opened.name device.databases ≡ o
    → option_map (λ (d : DatabaseValue). let b : Base = record { opened = opened; database = d } in b) o ≡ Some base
    → base_of (with_database device (with_records rs base.database)) opened ≡ Some (record { opened = base.opened; database = with_records rs base.database })
lead_found device rs opened o here is = grind (arith, common_steps, nat_tests, lead_at)

lead_by : (device : Device) {base : Base} (rs : List Record) (o : Option Opened) → option_and_then (base_of device) o ≡ Some base
    → option_and_then (base_of (with_database device (with_records rs base.database))) o ≡ Some
    (record { opened = base.opened; database = with_records rs base.database })
lead_by device rs None is = cc
lead_by device rs (Some opened) is = grind (arith, common_steps, nat_tests, lead_found)

-- a writing that was done
done_open : (device : Device) (handle free number : ℕ) (asked : WritingValue) {base : Base} (rs : List Record) (answer : ReplyValue)
    → base_at device handle ≡ Some base → is_writable base ≡ true → written_in free asked base.database ≡ Ok (with_records rs base.database, answer)
    → IsOpenWith handle base rs (outcome device number (writes free device handle asked)).1
done_open device handle free number asked {base} rs answer is writable done =
    cc (
      writes_row free device handle asked base (with_records rs base.database) answer is writable done,
      lead_by device rs (opened_at handle
          device.handles) is,
    )

-- ---- one put

pub secret_again : (secret : Bool) → has_bit 0x10 (secret_bit secret) ≡ secret
secret_again true = refl
secret_again false = refl

put_written : (free id : ℕ) (content : ContentValue) (database : DatabaseValue) → on_records database ≡ true → nat_le id 16777215 ≡ true
    → nat_le content.category 15 ≡ true → (not (is_new id database.records) || nat_lt (length database.records) 65535) ≡ true
    → written_in free (writing.WriteRecord id (secret_bit content.secret) content.category content.bytes) database
    ≡ Ok (with_records (put_record (given_id free id) content database.records) database, reply.WriteRecord (given_id free id))
put_written free id content database records bounded sorted room = grind (arith, common_steps, nat_tests, secret_again)

pub room_left : (new : Bool) (n : ℕ) → n < 65535 → (not new || nat_lt n 65535) ≡ true
room_left new n few = search (rules)

put_open : (device : Device) (handle free id : ℕ) (content : ContentValue) {base : Base} → base_at device handle ≡ Some base → is_writable base ≡ true
    → on_records base.database ≡ true → id ≤ 16777215 → content.category ≤ 15 → length base.database.records < 65535
    → IsOpenWith handle base (put_record (given_id free id) content base.database.records) (acted (putting free handle id content) device).1
unfolding acted tried
put_open device handle free id content {base} is writable records bounded sorted few =
    done_open device handle free 0x21 (writing.WriteRecord id (secret_bit content.secret) content.category content.bytes)
    (put_record (given_id free id) content base.database.records) (reply.WriteRecord (given_id free id)) is writable
    (put_written free id content base.database records (grind (arith, nat_tests)) (grind (arith, nat_tests))
    (room_left (is_new id base.database.records) (length base.database.records) few))

put_length : {X : Type 0} (test : X → Bool) (change : X → X) (new : X) (xs : List X) → length (put_entry test change new xs) ≤ length xs + 1
unfolding put_entry
put_length test change new [] = omega arith
put_length {X} test change new (x ∷ xs) = grind (arith, common_steps, nat_tests, put_length test change new xs)

pub puts_open : (device : Device) (handle : ℕ) (base : Base) (rs : List Record) (entries : List (ℕ × ContentValue)) (given : List ℕ)
    → IsOpenWith handle base rs device → is_writable base ≡ true → on_records base.database ≡ true → length rs + length entries ≤ 65535
    → ArePuttable entries → AreIdsOf entries given → IsOpenWith handle base (after_puts given entries rs) (device_after (puts handle given entries) device)
unfolding puts
puts_open device handle base rs [] given is writable records few bounded ids = is
puts_open device handle base rs (e ∷ es) [] is writable records few bounded ids = absurd ids
puts_open device handle base rs (e ∷ es) (g ∷ gs) is writable records few bounded ids =
    let now : Base = record { opened = base.opened; database = with_records rs base.database } in
    let within = bounded.0 in
    let more = put_length (has_id (given_id g e.0)) (rewritten e.1) (new_record (given_id g e.0) e.1) rs in
    puts_open (acted (putting g handle e.0 e.1) device).1 handle base (put_record (given_id g e.0) e.1 rs) es gs
    (put_open device handle g e.0 e.1 is writable records within.0 within.1 (omega arith)) writable records (omega arith) bounded.1 ids.1

-- ---- one purge

removed_written : (id : ℕ) (database : DatabaseValue) {place : ℕ} → on_records database ≡ true → place_of_id id database.records ≡ Some place
    → written_in 0 (writing.DeleteRecord 0 id) database ≡ Ok (with_records (without_record id database.records) database, reply.DeleteRecord)
removed_written id database records found = rw (records, found) refl

none_written : (id : ℕ) (database : DatabaseValue) → on_records database ≡ true → place_of_id id database.records ≡ None
    → written_in 0 (writing.DeleteRecord 0 id) database ≡ Err not_found
none_written id database records none = rw (records, none) refl

-- a writing that was refused
refused_same : (device : Device) (handle number : ℕ) (asked : WritingValue) {base : Base} {code : ℕ} → base_at device handle ≡ Some base
    → is_writable base ≡ true → written_in 0 asked base.database ≡ Err code → (outcome device number (writes 0 device handle asked)).1 ≡ device
refused_same device handle number asked is writable refused = grind (arith, common_steps, nat_tests)

remove_open : (device : Device) (handle id : ℕ) {base : Base} → base_at device handle ≡ Some base → is_writable base ≡ true → on_records base.database ≡ true
    → IsOpenWith handle base (without_record id base.database.records) (acted (removing handle id) device).1
unfolding acted tried
remove_open device handle id {base} is writable records = by (place_of_id id base.database.records) refl
  where
    by : (o : Option ℕ) → place_of_id id base.database.records ≡ o
        → IsOpenWith handle base (without_record id base.database.records) (outcome device 0x22 (writes 0 device handle (writing.DeleteRecord 0 id))).1
    by (Some place) found =
        done_open device handle 0 0x22 (writing.DeleteRecord 0 id) (without_record id base.database.records) reply.DeleteRecord is writable
        (removed_written id base.database records found)
    by None none =
        ap (λ (d : Device). base_at d handle)
        (refused_same device handle 0x22 (writing.DeleteRecord 0 id) is writable (none_written id base.database records none))
        ∙ is
        ∙ ap (λ (rs : List Record). let b : Base = record { opened = base.opened; database = with_records rs base.database } in Some b)
        (sym (without_entry_none (λ (r : Record). r.id == id) base.database.records none))

removes_open : (device : Device) (handle : ℕ) (base : Base) (rs : List Record) (ids : List ℕ) → IsOpenWith handle base rs device → is_writable base ≡ true
    → on_records base.database ≡ true → IsOpenWith handle base (removed ids rs) (device_after (map (removing handle) ids) device)
removes_open device handle base rs [] is writable records = is
removes_open device handle base rs (id ∷ ids) is writable records =
    let now : Base = record { opened = base.opened; database = with_records rs base.database } in
    removes_open (acted (removing handle id) device).1 handle base (without_record id rs) ids (remove_open device handle id is writable records) writable
    records

clean_open : (device : Device) (handle : ℕ) {base : Base} → base_at device handle ≡ Some base → is_writable base ≡ true → on_records base.database ≡ true
    → IsOpenWith handle base (cleaned_up base.database.records) (acted (cleaning handle) device).1
unfolding acted tried
clean_open device handle {base} is writable records =
    done_open device handle 0 0x26 writing.CleanUp (cleaned_up base.database.records) reply.CleanUpDatabase is writable (rw records refl)

reset_open : (device : Device) (handle : ℕ) {base : Base} → base_at device handle ≡ Some base → is_writable base ≡ true → on_records base.database ≡ true
    → IsOpenWith handle base (reset_flags base.database.records) (acted (resetting handle) device).1
unfolding acted tried
reset_open device handle {base} is writable records =
    done_open device handle 0 0x27 writing.ResetFlags (reset_flags base.database.records) reply.ResetSyncFlags is writable (rw records refl)

pub purges_open : (device : Device) (handle : ℕ) (base : Base) (rs : List Record) (ids : List ℕ) → IsOpenWith handle base rs device
    → is_writable base ≡ true → on_records base.database ≡ true
    → IsOpenWith handle base (after_purges ids rs) (device_after (purge_writes handle ids) device)
purges_open device handle base rs ids is writable records =
    let gone = removes_open device handle base rs ids is writable records in
    let left : Base = record { opened = base.opened; database = with_records (removed ids rs) base.database } in
    let cleaned = clean_open (device_after (map (removing handle) ids) device) handle gone writable records in
    let clear : Base = record { opened = base.opened; database = with_records (cleaned_up (removed ids rs)) base.database } in
    rw (after_append (map (removing handle) ids) (cleaning handle ∷ resetting handle ∷ []) device)
    (reset_open (acted (cleaning handle) (device_after (map (removing handle) ids) device)).1 handle cleaned writable records)
