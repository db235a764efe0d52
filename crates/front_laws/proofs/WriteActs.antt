-- What writes make of a handheld whose one open database is under handle 1.
use Rattle.std.proofs.Common.{◌≡◌, ◌∙◌, ◌≤◌, refl, ap, sym, subst, cond, ℕ, true, false, List, [], ◌∷◌, length, map, arith}
use Rattle.std.specs.Prelude.{◌||◌, ◌&&◌, not, nat_le, nat_lt, Option, Some, None, Ok, Err}
use Rattle.std.specs.Option.{option_map}
use Rattle.std.specs.Str.{bytes_eq}
use Rattle.std.proofs.lemmas.Bool.Decides.{nat_tests}
use Rattle.pdb_values.specs.Contents.{ContentValue}
use Rattle.pdb_values.specs.Databases.{DatabaseValue}
use Rattle.pdb_values.specs.NamedDatabases.{database_of, replaced}
use Rattle.pdb_values.specs.declared.record.Record.{Record}
use Rattle.pdb_values.specs.declared.user.UserInfo.{UserInfo}
use Rattle.pdb_values.proofs.NamedLaws.{bytes_eq-own, database_of-name, database_of-replaced, replaced-own, replaced-replaced}
use Rattle.dlp_replies.specs.ReplyValues as reply
use Rattle.dlp_replies.specs.ReplyValues.{ReplyValue}
use Rattle.palm_device.specs.Devices.{Device}
use Rattle.palm_device.specs.Handles.{Base, base_at, is_writable}
use Rattle.palm_device.specs.Heads.{has_bit, is_read_only}
use Rattle.palm_device.specs.Records.{cleaned_up, given_id, is_new, place_of_id, put_record, reset_flags, with_records, without_record}
use Rattle.palm_device.specs.declared.opened.Opened.{Opened}
use Rattle.palm_device.proofs.RecordLaws.{without_record_none}
use Rattle.dlp_commands.specs.DeviceSteps.{outcome, tried}
use Rattle.dlp_commands.specs.Errors.{not_found}
use Rattle.dlp_commands.specs.Holding.{on_records}
use Rattle.dlp_commands.specs.Reached.{Trial, writes}
use Rattle.dlp_commands.specs.Writings as writing
use Rattle.dlp_commands.specs.Writings.{WritingValue, written_in}
use Rattle.desktop_session.specs.Acts.{acted}
use Rattle.desktop_session.specs.Requests.{cleaning, putting, removing, resetting, secret_bit}
use Rattle.desktop_session.specs.Tellings.{device_after, tells, told}
use Rattle.desktop_session.proofs.RowLaws.{writes_row}
use Rattle.mirrors.specs.News.{purge_writes}
use Rattle.record_merge.specs.Writes.{after, purges}
use Rattle.front_laws.proofs.OpenActs.{one_open}
use Rattle.mirrors.proofs.CarryLaws.{secret_again}
use Rattle.desktop_session.proofs.ListLaws.{after_append}

-- what is open, over databases of which it has these records
abbrev pub holding : Opened → DatabaseValue → List DatabaseValue → UserInfo → List Record → Device
holding o d databases user rs = one_open o (replaced (with_records rs d) databases) user

-- the open database holds records and may be written
pub record MayWrite (o : Opened) (d : DatabaseValue) (databases : List DatabaseValue) : Type 0 where
  pub here : database_of o.name databases ≡ Some d
  pub mode : has_bit 0x40 o.mode ≡ true
  pub writable : is_read_only d.head.attributes ≡ false
  pub records : on_records d ≡ true

abbrev base_with : Opened → DatabaseValue → List Record → Base
base_with o d rs = record { opened = o; database = with_records rs d }

module _ {o : Opened} {d : DatabaseValue} {databases : List DatabaseValue} (may : MayWrite o d databases) where
  own_name : d.head.name ≡ o.name
  own_name = database_of-name o.name databases d may.here

  -- what was open holds the database as it was
  pub holding_own : (user : UserInfo) → holding o d databases user d.records ≡ one_open o databases user
  holding_own user =
      ap (λ (ds : List DatabaseValue). one_open o ds user)
      (replaced-own (with_records d.records d) databases (ap (λ n. database_of n databases) own_name ∙ may.here))

  pub holding_base : (user : UserInfo) (rs : List Record) → base_at (holding o d databases user rs) 1 ≡ Some (base_with o d rs)
  holding_base user rs =
      let named = own_name in
      let found : database_of d.head.name databases ≡ Some d = ap (λ n. database_of n databases) named ∙ may.here in
      let own : bytes_eq d.head.name o.name ≡ true = subst (λ n. bytes_eq d.head.name n ≡ true) named (bytes_eq-own d.head.name) in
      ap (option_map (λ (x : DatabaseValue). let b : Base = record { opened = o; database = x } in b))
      (database_of-replaced o.name (with_records rs d) d databases found
      ∙ ap (λ b. cond b (Some (with_records rs d)) (database_of o.name databases)) own)

  base_writable : (rs : List Record) → is_writable (base_with o d rs) ≡ true
  base_writable rs = λ k. may.mode k && not (may.writable k)

  -- a writing that was done
  write_done : (user : UserInfo) (rs next : List Record) (free number : ℕ) (asked : WritingValue) (answer : ReplyValue)
      → written_in free asked (with_records rs d) ≡ Ok (with_records next d, answer)
      → (outcome (holding o d databases user rs) number (writes free (holding o d databases user rs) 1 asked)).1 ≡ holding o d databases user next
  write_done user rs next free number asked answer done =
      grind (
        arith,
        holding o d databases user rs,
        writes_row free (holding o d databases user rs) 1 asked (base_with o d rs) (with_records next d) answer (holding_base user rs)
            (base_writable rs) done,
        replaced-replaced (with_records rs d) (with_records next d) databases refl,
      )

-- ---- one put

put_written : (free id : ℕ) (content : ContentValue) (rs : List Record) (d : DatabaseValue) → on_records d ≡ true → nat_le id 16777215 ≡ true
    → nat_le content.category 15 ≡ true → (not (is_new id rs) || nat_lt (length rs) 65535) ≡ true
    → written_in free (writing.WriteRecord id (secret_bit content.secret) content.category content.bytes) (with_records rs d) ≡ Ok
    (with_records (put_record (given_id free id) content rs) d, reply.WriteRecord (given_id free id))
put_written free id content rs d records bounded sorted room = rw (records, bounded, sorted, room, secret_again content.secret) refl

-- one of the sixteen categories, and at most 65,500 bytes
pub record IsSorted (content : ContentValue) : Type 0 where
  pub category : content.category ≤ 15
  pub short : length content.bytes ≤ 65500

-- an id of a record and such a content
pub record CanPut (id : ℕ) (content : ContentValue) : Type 0 where
  pub bounded : id ≤ 16777215
  pub sorted : IsSorted content

pub put_does : {o : Opened} {d : DatabaseValue} {databases : List DatabaseValue} (user : UserInfo) (rs : List Record) (free id : ℕ) (content : ContentValue)
    → MayWrite o d databases → CanPut id content → (not (is_new id rs) || nat_lt (length rs) 65535) ≡ true
    → (acted (putting free 1 id content) (holding o d databases user rs)).1 ≡ holding o d databases user (put_record (given_id free id) content rs)
unfolding acted tried
put_does {d} user rs free id content may can room =
    let bounded : nat_le id 16777215 ≡ true = (let l = can.bounded in grind (arith, nat_tests, l)) in
    let sorted : nat_le content.category 15 ≡ true = (let l = can.sorted.category in grind (arith, nat_tests, l)) in
    write_done may user rs (put_record (given_id free id) content rs) free 0x21
    (writing.WriteRecord id (secret_bit content.secret) content.category content.bytes) (reply.WriteRecord (given_id free id))
    (put_written free id content rs d may.records bounded sorted room)

pub put_tells : (o : Opened) (d : DatabaseValue) {databases : List DatabaseValue} (user : UserInfo) (rs : List Record) (free id : ℕ) (content : ContentValue)
    → MayWrite o d databases → CanPut id content → (not (is_new id rs) || nat_lt (length rs) 65535) ≡ true
    → told (putting free 1 id content) (holding o d databases user rs) ≡ reply.WriteRecord (given_id free id)
unfolding told tried
put_tells o d {databases} user rs free id content may can room =
    let bounded : nat_le id 16777215 ≡ true = (let l = can.bounded in grind (arith, nat_tests, l)) in
    let sorted : nat_le content.category 15 ≡ true = (let l = can.sorted.category in grind (arith, nat_tests, l)) in
    ap (tells 0x21)
    (writes_row free (holding o d databases user rs) 1 (writing.WriteRecord id (secret_bit content.secret) content.category content.bytes) (base_with o d rs)
    (with_records (put_record (given_id free id) content rs) d) (reply.WriteRecord (given_id free id)) (holding_base may user rs)
    (base_writable may rs) (put_written free id content rs d may.records bounded sorted room))

-- ---- what is taken away

removed_written : (id : ℕ) (rs : List Record) (d : DatabaseValue) {place : ℕ} → on_records d ≡ true → place_of_id id rs ≡ Some place
    → written_in 0 (writing.DeleteRecord 0 id) (with_records rs d) ≡ Ok (with_records (without_record id rs) d, reply.DeleteRecord)
removed_written id rs d records found = rw (records, found) refl

none_written : (id : ℕ) (rs : List Record) (d : DatabaseValue) → on_records d ≡ true → place_of_id id rs ≡ None
    → written_in 0 (writing.DeleteRecord 0 id) (with_records rs d) ≡ Err not_found
none_written id rs d records none = rw (records, none) refl

refused : (device : Device) (asked : WritingValue) {base : Base} {code : ℕ} → base_at device 1 ≡ Some base → is_writable base ≡ true
    → written_in 0 asked base.database ≡ Err code → writes 0 device 1 asked ≡ Err code
refused device asked is writable none = rw (is, writable, none) refl

module _ {o : Opened} {d : DatabaseValue} {databases : List DatabaseValue} (user : UserInfo) (may : MayWrite o d databases) where
  pub remove_does : (rs : List Record) (id : ℕ)
      → (acted (removing 1 id) (holding o d databases user rs)).1 ≡ holding o d databases user (without_record id rs)
  unfolding acted tried
  remove_does rs id = by (place_of_id id rs) refl
    where
      by : (p : Option ℕ) → place_of_id id rs ≡ p
          → (outcome (holding o d databases user rs) 0x22 (writes 0 (holding o d databases user rs) 1 (writing.DeleteRecord 0 id))).1
          ≡ holding o d databases user (without_record id rs)
      by (Some place) found =
          write_done may user rs (without_record id rs) 0 0x22 (writing.DeleteRecord 0 id) reply.DeleteRecord
          (removed_written id rs d may.records found)
      by None none =
          ap (λ (r : Trial). (outcome (holding o d databases user rs) 0x22 r).1)
          (refused (holding o d databases user rs) (writing.DeleteRecord 0 id) (holding_base may user rs)
          (base_writable may rs) (none_written id rs d may.records none))
          ∙ ap (holding o d databases user) (sym (without_record_none id rs none))

  pub clean_does : (rs : List Record) → (acted (cleaning 1) (holding o d databases user rs)).1 ≡ holding o d databases user (cleaned_up rs)
  unfolding acted tried
  clean_does rs =
      write_done may user rs (cleaned_up rs) 0 0x26 writing.CleanUp reply.CleanUpDatabase
      (let records = may.records in rw records refl)

  pub reset_does : (rs : List Record) → (acted (resetting 1) (holding o d databases user rs)).1 ≡ holding o d databases user (reset_flags rs)
  unfolding acted tried
  reset_does rs =
      write_done may user rs (reset_flags rs) 0 0x27 writing.ResetFlags reply.ResetSyncFlags
      (let records = may.records in rw records refl)

  pub removes_do : (rs : List Record) (ids : List ℕ)
      → device_after (map (removing 1) ids) (holding o d databases user rs) ≡ holding o d databases user (after (purges ids) rs)
  removes_do rs [] = refl
  removes_do rs (id ∷ ids) = ap (device_after (map (removing 1) ids)) (remove_does rs id) ∙ removes_do (without_record id rs) ids

  -- what goes is taken away, and then all is clean
  pub purges_do : (rs : List Record) (ids : List ℕ)
      → device_after (purge_writes 1 ids) (holding o d databases user rs) ≡ holding o d databases user (reset_flags (cleaned_up (after (purges ids) rs)))
  purges_do rs ids =
      grind (
        arith,
        after_append (map (removing 1) ids) (cleaning 1 ∷ resetting 1 ∷ []) (holding o d databases user rs),
        [],
        removes_do rs ids,
        clean_does (after (purges ids) rs),
        reset_does (cleaned_up (after (purges ids) rs)),
      )
