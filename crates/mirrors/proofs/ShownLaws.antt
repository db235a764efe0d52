-- A whole reading of a device's database shows its records.
use Rattle.std.proofs.Common.{◌≡◌, ◌∙◌, ◌≤◌, ◌<◌, ◌+◌, ◌^◌, refl, ap, ℕ, zero, suc, Bool, true, false, List, [], ◌∷◌, ◌++◌, length, map, take}
use Rattle.std.proofs.Common.{not, ◌&&◌, if◌then◌else◌, arith, rules}
use Rattle.std.proofs.lemmas.List.{map-append}
use Rattle.std.specs.Prelude.{Some, None, slice_get}
use Rattle.std.specs.Option.{option_map}
use Rattle.pdb_values.specs.Heads.{has_bit}
use Rattle.pdb_values.specs.declared.record.Kind.TheVariants.{Archived, Deleted, Live}
use Rattle.pdb_values.specs.declared.record.Record.{Record}
use Rattle.dlp_replies.specs.ReplyReading.{reply_at}
use Rattle.dlp_replies.specs.ReplyValues as reply
use Rattle.dlp_replies.specs.ReplyValues.{ReplyValue}
use Rattle.palm_device.specs.Blocks.{entry_count}
use Rattle.palm_device.specs.Devices.{Device}
use Rattle.palm_device.specs.Handles.{Base, base_at}
use Rattle.dlp_commands.specs.Holding.{on_records}
use Rattle.dlp_commands.specs.Readings.{bit_if}
use Rattle.conduit_rules.specs.States.{first}
use Rattle.conduit_rules.specs.Views.{first_seen, slow_seen, slow_view}
use Rattle.conduit_rules.specs.declared.view.Seen.{Seen}
use Rattle.conduit_rules.proofs.ByIdLaws.{each_below-same}
use Rattle.desktop_session.specs.Acts.{acted}
use Rattle.desktop_session.specs.Lent.{lent_kind, record_lent}
use Rattle.desktop_session.specs.Requests.{counting, reading_at}
use Rattle.desktop_session.specs.Tellings.{IsTellable, told}
use Rattle.desktop_session.proofs.LentLaws.{lent_at, base_bounded}
use Rattle.desktop_session.proofs.RequestFits.{count_fits}
use Rattle.desktop_session.proofs.RowLaws.{count_row}
use Rattle.desktop_session.proofs.TellLaws.{act_sayable, acted_reads}
use Rattle.mirrors.specs.Entries.{ordered, seen_in, seen_of}
use Rattle.mirrors.specs.Reads.{entries_told, seen_below, slow_shown}
use Rattle.mirrors.proofs.EntryLaws.{lent_seen}
use Rattle.std.proofs.lemmas.Grind.{common_steps}
use Rattle.std.proofs.lemmas.Bool.Decides.{nat_tests}

-- ---- attributes on the wire

-- those of a deleted, dirty, busy, secret record without bytes
abbrev pub wire : Bool → Bool → Bool → Bool → Bool → ℕ
wire deleted dirty busy secret empty = bit_if 0x80 deleted + bit_if 0x40 dirty + bit_if 0x20 busy + bit_if 0x10 secret + bit_if 0x08 (deleted && not empty)

wire_says : (deleted dirty busy secret empty : Bool)
    → (lent_kind (wire deleted dirty busy secret empty) ≡ (if not deleted then Live else if empty then Deleted else Archived))
    × (has_bit 0x10 (wire deleted dirty busy secret empty) ≡ secret)
wire_says deleted dirty busy secret empty = search (rules)

-- a record that is lent is seen as it is
pub lent_is_seen : (item : Record) → seen_of (record_lent item) ≡ slow_seen item
lent_is_seen item = grind (arith, common_steps, nat_tests, wire_says)

-- ---- records by their indexes

take_one : (records : List Record) (k : ℕ) {item : Record} → slice_get records k ≡ Some item → take (suc k) records ≡ take k records ++ item ∷ []
take_one [] k is = cc
take_one (r ∷ records) zero {item} is = grind (arith, common_steps, nat_tests)
take_one (r ∷ records) (suc k) is = cc (take_one records k is)

pub record GetsRecord (records : List Record) (k : ℕ) : Type 0 where
  pub item : Record
  pub is : slice_get records k ≡ Some item

get_one : (records : List Record) (k : ℕ) → k < length records → GetsRecord records k
get_one [] k below = absurd (omega arith)
get_one (r ∷ records) zero below = record { item = r; is = refl }
get_one (r ∷ records) (suc k) below = let rest = get_one records k (omega arith) in record { item = rest.item; is = rest.is }

take_all : (records : List Record) → take (length records) records ≡ records
take_all [] = refl
take_all (r ∷ records) = cc (take_all records)

one_seen : {device : Device} (handle place : ℕ) {base : Base} {item : Record} → IsTellable device → handle < 2 ^ 8 → place < 2 ^ 16
    → base_at device handle ≡ Some base → on_records base.database ≡ true → slice_get base.database.records place ≡ Some item
    → seen_in (reply_at 0x20 (acted (reading_at handle place) device).0) ≡ slow_seen item ∷ []
one_seen {device} handle place {base} {item} proper byte half is records there =
    (lent_seen 0x20 None (reply_at 0x20 (acted (reading_at handle place) device).0)
    (lent_at device handle place base item proper byte half is records there)).1
    ∙ ap (λ (s : Seen). s ∷ []) (lent_is_seen item)

seen_so_far : {device : Device} (handle k : ℕ) {base : Base} → IsTellable device → handle < 2 ^ 8 → base_at device handle ≡ Some base
    → on_records base.database ≡ true → length base.database.records < 2 ^ 16 → k ≤ length base.database.records
    → seen_below device handle k ≡ map slow_seen (take k base.database.records)
unfolding seen_below
seen_so_far handle zero proper byte is records few within = refl
seen_so_far {device} handle (suc k) {base} proper byte is records few within =
    let all = base.database.records in
    let got = get_one all k within in
    cc (
      seen_so_far handle k proper byte is records few (omega arith),
      one_seen handle k proper byte (omega arith) is records got.is,
      map-append slow_seen
          (take k all) (got.item ∷ []),
      take_one all k got.is,
    )

-- ---- the number of entries

records_counted : (b : Bool) (n m : ℕ) → not b ≡ true → (if b then n else m) ≡ m
records_counted true n m none = cc
records_counted false n m none = refl

told_count : (device : Device) (handle : ℕ) {base : Base} → base_at device handle ≡ Some base
    → told (counting handle) device ≡ reply.ReadOpenDbInfo (entry_count base.database)
unfolding told
told_count device handle is = cc (count_row device handle is)

pub records_told : (device : Device) (handle : ℕ) (base : Base) → IsTellable device → handle < 2 ^ 8 → base_at device handle ≡ Some base
    → on_records base.database ≡ true → entries_told device handle ≡ length base.database.records
records_told device handle base proper byte is records =
    grind (arith, common_steps, nat_tests, acted_reads, act_sayable, count_fits handle byte, told_count device handle is, records_counted)

-- ---- a database keeps its bounds

-- ---- the view

pub first-mapped : (i : ℕ) (records : List Record) → first_seen i (map slow_seen records) ≡ option_map slow_seen (first i records)
first-mapped i [] = refl
first-mapped i (r ∷ records) = grind (arith, common_steps, nat_tests, first-mapped i records)

pub ordered-slow : (records : List Record) → ordered (map slow_seen records) ≡ slow_view records
ordered-slow records = grind (arith, common_steps, nat_tests, each_below-same, first-mapped)

pub slow_shown-is : (device : Device) (handle : ℕ) (base : Base) → IsTellable device → handle < 2 ^ 8 → base_at device handle ≡ Some base
    → on_records base.database ≡ true → slow_shown device handle ≡ slow_view base.database.records
slow_shown-is device handle base proper byte is records =
    let bounded = base_bounded handle proper is in
    let few : length base.database.records < 2 ^ 16 = omega (arith, bounded.whole.few_records) in
    let all = base.database.records in
    cc (
      records_told device handle base proper byte is records,
      seen_so_far handle (length all) proper byte is records few (omega arith),
      take_all all,
      ordered-slow all,
    )
