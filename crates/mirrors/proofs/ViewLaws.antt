-- A fast reading of a device's database is the fast view of its records.
use Rattle.std.proofs.Common.{◌≡◌, ◌∙◌, ◌<◌, ◌^◌, refl, ap, sym, ℕ, suc, Bool, true, false, List, [], ◌∷◌, length, map, drop, option_to_list, not}
use Rattle.std.proofs.Common.{◌&&◌, ◌||◌, ◌==◌, if◌then◌else◌, arith, rules}
use Rattle.std.specs.Prelude.{Option, Some, None, is_some, slice_get, filter, replicate}
use Rattle.std.specs.Option.{option_map}
use Rattle.pdb_values.specs.Databases.{DatabaseValue}
use Rattle.pdb_values.specs.declared.record.Record.{Record}
use Rattle.pdb_values.proofs.NamedLaws.{AllByRecursion-database_of}
use Rattle.pdb_values.proofs.PlaceLaws.{find-position}
use Rattle.dlp_replies.specs.ReplyReading.{reply_at}
use Rattle.palm_device.specs.Bounds.{IsBoundedDatabase}
use Rattle.palm_device.specs.Devices.{Device}
use Rattle.palm_device.specs.FreshIds.{is_among}
use Rattle.palm_device.specs.Handles.{Base, base_at as opened_base}
use Rattle.palm_device.specs.Records.{is_changed, place_of_id}
use Rattle.palm_device.specs.Soundness.{AreIds, ids_of}
use Rattle.dlp_commands.specs.Holding.{on_records}
use Rattle.conduit_rules.specs.ById.{each_id, id_bound}
use Rattle.conduit_rules.specs.States.{BaseState, base_at, first}
use Rattle.conduit_rules.specs.Views.{fast_seen, fast_view, slow_seen, unread_where}
use Rattle.conduit_rules.specs.declared.view.Seen.{Seen}
use Rattle.conduit_rules.proofs.ByIdLaws.{each_below-same, id_bound-is}
use Rattle.desktop_session.specs.Acts.{acted}
use Rattle.desktop_session.specs.Requests.{reading_next, reading_of}
use Rattle.desktop_session.specs.Tellings.{IsTellable, device_after}
use Rattle.desktop_session.proofs.LentLaws.{ids_are, lent_of}
use Rattle.mirrors.proofs.EntryLaws.{lent_seen}
use Rattle.mirrors.proofs.ShownLaws.{lent_is_seen, records_told, first-mapped}
use Rattle.mirrors.specs.FastReads.{asks_of, by_reading, changed_acts, changed_told, fast_asks, fast_reads, fast_shown, ids_told, most_changed, other_reads}
use Rattle.mirrors.specs.FastReads.{other_seen, reads_at, seen_of_id, shown_at}
use Rattle.mirrors.proofs.NextLaws.{IsOpenAt, changed_are, leads}

-- ---- of the changed records the first of an id

pub same_number : (a b : ℕ) → (a == b) ≡ true → a ≡ b
same_number a b is = grind arith

-- a record, where it changed
if_changed : Option Record → Option Record
if_changed None = None
if_changed (Some r) = if is_changed r then Some r else None

none_among : (i : ℕ) (records : List Record) → is_among i (ids_of records) ≡ false → first i (filter is_changed records) ≡ None
none_among i [] none = refl
none_among i (r ∷ records) none = grind (arith, none_among i records)

first_changed : (i : ℕ) (records : List Record) → AreIds (ids_of records) → first i (filter is_changed records) ≡ if_changed (first i records)
unfolding if_changed
first_changed i [] ids = refl
first_changed i (r ∷ records) ids = grind (arith, first_changed i records ids.2, if_changed, same_number, none_among)

-- an id is among those of the records where one has it
among_first : (i : ℕ) (records : List Record) → is_among i (ids_of records) ≡ is_some (first i records)
among_first i [] = refl
among_first i (r ∷ records) = grind (arith, among_first i records)

-- ---- what is lent by an id

pub record FindsRecord (i : ℕ) (records : List Record) (item : Record) : Type 0 where
  pub place : ℕ
  pub found : place_of_id i records ≡ Some place
  pub there : slice_get records place ≡ Some item
  pub id : item.id ≡ i

pub first_id : {i : ℕ} (records : List Record) {item : Record} → first i records ≡ Some item → item.id ≡ i
first_id [] is = cc
first_id {i} (r ∷ records) {item} is = grind (arith, first_id {i = i} records {item = item}, same_number)

finds : (i : ℕ) (records : List Record) {item : Record} → first i records ≡ Some item → FindsRecord i records item
finds i records is = search (rules, find-position, first_id)

own_lent : {device : Device} {i : ℕ} (handle : ℕ) {base : Base} {item : Record} → IsTellable device → handle < 2 ^ 8 → i < id_bound
    → opened_base device handle ≡ Some base → on_records base.database ≡ true → FindsRecord i base.database.records item
    → seen_of_id handle device i ≡ slow_seen item ∷ []
own_lent {device} {i} handle {base} {item} proper byte below is records finds =
    let short : i < 2 ^ 24 = rw (← id_bound-is) below in
    let word : i < 2 ^ 32 = omega arith in
    let lent = lent_of device handle i finds.place base item proper byte word is records finds.found finds.there in
    ap (map (λ (entry : Seen). record entry { id = i }))
    ((lent_seen 0x20 None (reply_at 0x20 (acted (reading_of handle i) device).0) lent).1 ∙ ap (λ (s : Seen). s ∷ []) (lent_is_seen item))
    ∙ ap (λ (k : ℕ). record (slow_seen item) { id = k } ∷ []) (sym finds.id)

-- ---- one id

passed_over : (deleted dirty : Bool) → (deleted || dirty) ≡ false → (not dirty && not deleted) ≡ true
passed_over false false none = refl
passed_over deleted dirty none = cc

read_first : (deleted dirty : Bool) → (deleted || dirty) ≡ true → (not dirty && not deleted) ≡ false
read_first deleted dirty some = grind arith

fast_of_changed : (rows : List Record) (item : Record) → is_changed item ≡ true → fast_seen rows item ≡ slow_seen item
fast_of_changed rows item changed = rw (read_first item.deleted item.dirty changed) refl

fast_of_other : (rows : List Record) (item : Record) → is_changed item ≡ false → fast_seen rows item ≡ unread_where (base_at rows false item.id) item
fast_of_other rows item same = rw (passed_over item.deleted item.dirty same) refl

other_is : {i : ℕ} (handle : ℕ) (device : Device) (based : BaseState) (item : Record) → item.id ≡ i → seen_of_id handle device i ≡ slow_seen item ∷ []
    → other_seen handle device i based ≡ unread_where based item ∷ []
other_is handle device based item id own = search (rules)

shown_by : (rows : List Record) (handle i : ℕ) (device : Device) (found : Option Record)
    → ((item : Record) → found ≡ Some item → (item.id ≡ i) × (seen_of_id handle device i ≡ slow_seen item ∷ []))
    → by_reading (λ entry. entry ∷ []) (other_seen handle device i (base_at rows false i)) (option_map slow_seen (if_changed found)) (is_some found)
    ≡ option_to_list (option_map (fast_seen rows) found)
unfolding if_changed
shown_by rows handle i device found own = grind (arith, fast_of_changed, other_is, fast_of_other)

shown_one : (rows : List Record) (handle i : ℕ) {device : Device} {base : Base} → IsTellable device → handle < 2 ^ 8 → i < id_bound
    → opened_base device handle ≡ Some base → on_records base.database ≡ true → AreIds (ids_of base.database.records)
    → shown_at rows handle device (ids_of base.database.records) (map slow_seen (filter is_changed base.database.records)) i ≡ option_to_list
    (option_map (fast_seen rows) (first i base.database.records))
shown_one rows handle i proper byte below is records ids = grind (arith, first-mapped, first_changed, if_changed, among_first, shown_by, finds, own_lent)

-- ---- all ids

pub ids_count : (records : List Record) → length (ids_of records) ≡ length records
ids_count [] = refl
ids_count (r ∷ records) = cc (ids_count records)

ids_differ : {device : Device} (handle : ℕ) {base : Base} → IsTellable device → opened_base device handle ≡ Some base → AreIds (ids_of base.database.records)
ids_differ {device} handle {base} proper is =
    AllByRecursion-database_of (λ (d : DatabaseValue). AreIds (ids_of d.records)) base.opened.name device.databases base.database proper.sound.ids
    (leads device handle is).found

pub few_records : {device : Device} (handle : ℕ) {base : Base} → IsTellable device → opened_base device handle ≡ Some base → length base.database.records < 2 ^ 16
few_records {device} handle {base} proper is =
    let bounded = AllByRecursion-database_of IsBoundedDatabase base.opened.name device.databases base.database proper.bounded.databases
    (leads device handle is).found in
    omega (arith, bounded.whole.few_records)

told_ids : {device : Device} (handle : ℕ) {base : Base} → IsTellable device → handle < 2 ^ 8 → opened_base device handle ≡ Some base
    → on_records base.database ≡ true → ids_told handle device ≡ ids_of base.database.records
told_ids handle proper byte is records = grind (arith, ids_count, records_told, ids_are, few_records)

shown_there : (rows : List Record) {handle next : ℕ} (i : ℕ) {device : Device} {database : DatabaseValue} → handle < 2 ^ 8 → i < id_bound
    → on_records database ≡ true → AreIds (ids_of database.records) → IsOpenAt device handle next database
    → shown_at rows handle device (ids_of database.records) (map slow_seen (filter is_changed database.records)) i ≡ option_to_list
    (option_map (fast_seen rows) (first i database.records))
shown_there rows i byte below records ids there = grind (arith, shown_one)

pub fast_shown-is : (device : Device) (handle : ℕ) (base : Base) (rows : List Record) → IsTellable device → handle < 2 ^ 8
    → opened_base device handle ≡ Some base → on_records base.database ≡ true → base.opened.next ≡ 0
    → fast_shown rows handle device ≡ fast_view rows base.database.records
unfolding fast_shown
fast_shown-is device handle base rows proper byte is records new =
    let all = base.database.records in
    let listed = told_ids handle proper byte is records in
    let count : length (ids_told handle device) ≡ length all = cc (ids_count all) in
    let within : length (drop base.opened.next all) < most_changed handle device =
    rw new (omega arith) in
    let reaches = changed_are handle (most_changed handle device) byte device base proper is records within in
    let after = device_after (changed_acts handle device) device in
    let told : changed_told handle device ≡ map slow_seen (filter is_changed all) =
    cc in
    cc (each_below-same (shown_at rows handle after (ids_of all) (map slow_seen (filter is_changed all)))
    (λ i. option_to_list (option_map (fast_seen rows) (first i all)))
    id_bound (λ i below. shown_there rows i byte below records (ids_differ handle proper is) reaches.after))

-- ---- what is asked

asked_by : (rows : List Record) (handle i : ℕ) (found : Option Record) → ((item : Record) → found ≡ Some item → item.id ≡ i)
    → by_reading (λ entry. []) (other_reads handle i (base_at rows false i)) (option_map slow_seen (if_changed found)) (is_some found)
    ≡ asks_of rows handle found
unfolding if_changed
asked_by rows handle i found own = grind arith

asked_one : (rows : List Record) (handle i : ℕ) (records : List Record) → AreIds (ids_of records)
    → reads_at rows handle (ids_of records) (map slow_seen (filter is_changed records)) i ≡ asks_of rows handle (first i records)
asked_one rows handle i records ids = grind (arith, first-mapped, first_changed, if_changed, among_first, asked_by, first_id)

count_mapped : (records : List Record) → length (map slow_seen records) ≡ length records
count_mapped [] = refl
count_mapped (r ∷ records) = cc (count_mapped records)

pub fast_reads-are : (device : Device) (handle : ℕ) (base : Base) (rows : List Record) → IsTellable device → handle < 2 ^ 8
    → opened_base device handle ≡ Some base → on_records base.database ≡ true → base.opened.next ≡ 0
    → fast_reads rows handle device ≡ fast_asks rows handle base.database.records
unfolding fast_reads
fast_reads-are device handle base rows proper byte is records new =
    let all = base.database.records in
    let listed = told_ids handle proper byte is records in
    let count : length (ids_told handle device) ≡ length all = cc (ids_count all) in
    let within : length (drop base.opened.next all) < most_changed handle device =
    rw new (omega arith) in
    let reaches = changed_are handle (most_changed handle device) byte device base proper is records within in
    let told : changed_told handle device ≡ map slow_seen (filter is_changed all) =
    cc in
    let said : changed_acts handle device ≡ replicate (suc (length (filter is_changed all))) (reading_next handle) =
    cc (count_mapped (filter is_changed all)) in
    let others : each_id (reads_at rows handle (ids_told handle device) (changed_told handle device)) ≡ each_id (λ i. asks_of rows handle (first i all)) =
    cc (each_below-same (reads_at rows handle (ids_of all) (map slow_seen (filter is_changed all))) (λ i. asks_of rows handle (first i all)) id_bound (λ i
    below. asked_one rows handle i all (ids_differ handle proper is))) in
    cc (records_told device handle base proper byte is records)
