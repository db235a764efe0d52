-- What is lent of a device's records, and its ids.
use Rattle.std.proofs.Common.{◌≡◌, ◌∙◌, ◌≤◌, ◌<◌, ◌+◌, ◌*◌, ◌/◌, ◌^◌, refl, ap, sym, ℕ, zero, suc, true, List, [], ◌∷◌, ◌++◌, length, take, drop, arith}
use Rattle.std.specs.Prelude.{Option, Some, Result, Ok, nat_le, option_and_then, slice_get}
use Rattle.std.specs.Option.{option_map}
use Rattle.pdb_values.specs.Databases.{DatabaseValue}
use Rattle.pdb_values.specs.NamedDatabases.{database_of}
use Rattle.pdb_values.specs.declared.record.Record.{Record}
use Rattle.pdb_values.specs.declared.resource.Resource.{Resource}
use Rattle.pdb_values.proofs.NamedLaws.{AllByRecursion-database_of}
use Rattle.dlp_replies.specs.ReplyReading.{reply_at}
use Rattle.dlp_replies.specs.ReplyValues as reply
use Rattle.dlp_replies.specs.ReplyValues.{ReplyValue}
use Rattle.palm_device.specs.Bounds.{IsBoundedDatabase, IsBoundedRecord, IsBoundedResource}
use Rattle.palm_device.specs.Devices.{Device}
use Rattle.palm_device.specs.Handles.{Base, base_at, base_of, opened_at}
use Rattle.palm_device.specs.Records.{next_changed, place_of_id}
use Rattle.palm_device.specs.Soundness.{ids_of}
use Rattle.palm_device.specs.declared.opened.Opened.{Opened}
use Rattle.palm_device.proofs.BoundLaws.{AllByRecursion-get}
use Rattle.dlp_commands.specs.DeviceSteps.{tried}
use Rattle.dlp_commands.specs.Holding.{on_records, on_resources}
use Rattle.dlp_commands.specs.Readings.{whole, wire_attributes}
use Rattle.desktop_session.specs.declared.fault.SessionFault.{SessionFault}
use Rattle.desktop_session.specs.Acts.{acted}
use Rattle.desktop_session.specs.Answers.{record_of, resource_of, said_in}
use Rattle.desktop_session.specs.Lent.{LentResource, LentValue, record_lent, resource_lent}
use Rattle.desktop_session.specs.Lists.{id_parts, ids_in, ids_listed}
use Rattle.desktop_session.specs.Requests.{listing_ids, reading_at, reading_next, reading_of, reading_resource}
use Rattle.desktop_session.specs.Tellings.{IsTellable, told}
use Rattle.desktop_session.proofs.GrowLaws.{take_whole}
use Rattle.desktop_session.proofs.RequestFits.{at_fits, ids_fit, next_fits, of_fits, resource_fits}
use Rattle.desktop_session.proofs.RowLaws.{next_row}
use Rattle.desktop_session.proofs.TellLaws.{act_sayable, acted_reads}
use Rattle.std.proofs.lemmas.Grind.{common_steps}
use Rattle.std.proofs.lemmas.Bool.Decides.{nat_tests}
use Rattle.std.proofs.Common.{rules}

-- ---- the database of a handle keeps its bounds

pub found_at : (device : Device) {base : Base} (opened : Opened) (o : Option DatabaseValue) → database_of opened.name device.databases ≡ o
    → option_map (λ database. let b : Base = record { opened = opened; database = database } in b) o ≡ Some base
    → database_of base.opened.name device.databases ≡ Some base.database
found_at device opened o here is = grind (arith, common_steps, nat_tests)

pub led_to : (device : Device) {base : Base} (o : Option Opened) → option_and_then (base_of device) o ≡ Some base
    → database_of base.opened.name device.databases ≡ Some base.database
led_to device o is = grind (arith, common_steps, nat_tests, found_at)

pub base_bounded : {device : Device} (handle : ℕ) {base : Base} → IsTellable device → base_at device handle ≡ Some base → IsBoundedDatabase base.database
base_bounded {device} handle {base} proper is =
    AllByRecursion-database_of IsBoundedDatabase base.opened.name device.databases base.database proper.bounded.databases
    (led_to device (opened_at handle device.handles) is)

record_short : {device : Device} (handle place : ℕ) {base : Base} {item : Record} → IsTellable device → base_at device handle ≡ Some base
    → slice_get base.database.records place ≡ Some item → length item.content.bytes ≤ 65500
record_short handle place {base} {item} proper is there =
    let bounded = base_bounded handle proper is in
    (AllByRecursion-get IsBoundedRecord base.database.records place item bounded.records there).short

resource_short : {device : Device} (handle place : ℕ) {base : Base} {resource : Resource} → IsTellable device → base_at device handle ≡ Some base
    → slice_get base.database.resources place ≡ Some resource → length resource.bytes ≤ 65500
resource_short handle place {base} {resource} proper is there =
    let bounded = base_bounded handle proper is in
    (AllByRecursion-get IsBoundedResource base.database.resources place resource bounded.resources there).short

whole_bytes : (bytes : List ℕ) → length bytes ≤ 65500 → take 65535 (drop 0 bytes) ≡ bytes
whole_bytes bytes short = take_whole bytes 65535 (omega arith)

pub none_past : (n : ℕ) → nat_le 0 n ≡ true
none_past n = grind arith

-- ---- records

record_said : Record → List ℕ → Result LentValue SessionFault
record_said item bytes = Ok (record { id = item.id; attributes = wire_attributes item; category = item.content.category; bytes = bytes })

told_at : (device : Device) (handle place : ℕ) {base : Base} {item : Record} → base_at device handle ≡ Some base → on_records base.database ≡ true
    → slice_get base.database.records place ≡ Some item
    → told (reading_at handle place) device ≡ reply.ReadRecord item.id place (length item.content.bytes) (wire_attributes item) item.content.category
    (take 65535 (drop 0 item.content.bytes))
unfolding told tried
told_at device handle place is records there = search (rules, none_past)

pub lent_at : (device : Device) (handle place : ℕ) (base : Base) (item : Record) → IsTellable device → handle < 2 ^ 8 → place < 2 ^ 16
    → base_at device handle ≡ Some base → on_records base.database ≡ true → slice_get base.database.records place ≡ Some item
    → said_in 0x20 record_of (reply_at 0x20 (acted (reading_at handle place) device).0) ≡ Ok (record_lent item)
unfolding record_said
lent_at device handle place base item proper byte half is records there =
    grind (arith, common_steps, nat_tests, acted_reads, act_sayable, at_fits, told_at, record_said, whole_bytes, record_short)

told_of : (device : Device) {place : ℕ} (handle id : ℕ) {base : Base} {item : Record} → base_at device handle ≡ Some base → on_records base.database ≡ true
    → place_of_id id base.database.records ≡ Some place → slice_get base.database.records place ≡ Some item
    → told (reading_of handle id) device ≡ reply.ReadRecord item.id place (length item.content.bytes) (wire_attributes item) item.content.category
    (take 65535 (drop 0 item.content.bytes))
unfolding told tried
told_of device handle id is records found there = grind (arith, common_steps, nat_tests, none_past)

pub lent_of : (device : Device) (handle id place : ℕ) (base : Base) (item : Record) → IsTellable device → handle < 2 ^ 8 → id < 2 ^ 32
    → base_at device handle ≡ Some base → on_records base.database ≡ true → place_of_id id base.database.records ≡ Some place
    → slice_get base.database.records place ≡ Some item
    → said_in 0x20 record_of (reply_at 0x20 (acted (reading_of handle id) device).0) ≡ Ok (record_lent item)
unfolding record_said
lent_of device handle id place base item proper byte word is records found there =
    grind (arith, common_steps, nat_tests, acted_reads, act_sayable, of_fits, told_of, record_said, whole_bytes, record_short)

told_next : (device : Device) {place : ℕ} (handle : ℕ) {base : Base} {item : Record} → base_at device handle ≡ Some base → on_records base.database ≡ true
    → next_changed base.opened.next base.database.records ≡ Some place → slice_get base.database.records place ≡ Some item
    → told (reading_next handle) device ≡ whole place item
unfolding told
told_next device handle is records first there = cc (next_row device handle is records first there)

pub lent_next : (device : Device) (handle place : ℕ) (base : Base) (item : Record) → IsTellable device → handle < 2 ^ 8
    → base_at device handle ≡ Some base → on_records base.database ≡ true → next_changed base.opened.next base.database.records ≡ Some place
    → slice_get base.database.records place ≡ Some item
    → said_in 0x1F record_of (reply_at 0x1F (acted (reading_next handle) device).0) ≡ Ok (record_lent item)
lent_next device handle place base item proper byte is records first there =
    grind (arith, common_steps, nat_tests, acted_reads, act_sayable, next_fits, told_next)

-- ---- resources

resource_said : Resource → List ℕ → Result LentResource SessionFault
resource_said resource bytes = Ok (record { kind = resource.kind.0; id = resource.id; bytes = bytes })

told_resource : (device : Device) (handle place : ℕ) {base : Base} {resource : Resource} → base_at device handle ≡ Some base → on_resources base.database ≡ true
    → slice_get base.database.resources place ≡ Some resource
    → told (reading_resource handle place) device ≡ reply.ReadResource resource.kind.0 resource.id place (length resource.bytes)
    (take 65535 (drop 0 resource.bytes))
unfolding told tried
told_resource device handle place is resources there = search (rules, none_past)

pub lent_resource_at : (device : Device) (handle place : ℕ) (base : Base) (resource : Resource) → IsTellable device → handle < 2 ^ 8 → place < 2 ^ 16
    → base_at device handle ≡ Some base → on_resources base.database ≡ true → slice_get base.database.resources place ≡ Some resource
    → said_in 0x23 resource_of (reply_at 0x23 (acted (reading_resource handle place) device).0) ≡ Ok (resource_lent resource)
unfolding resource_said
lent_resource_at device handle place base resource proper byte half is resources there =
    grind (
      arith,
      common_steps,
      nat_tests,
      acted_reads,
      act_sayable,
      resource_fits handle place byte half,
      told_resource device handle place is resources there,
      resource_said resource,
      whole_bytes,
      resource_short handle place proper is there,
    )

-- ---- ids

take_nil : {A : Type 0} (n : ℕ) → take n (let none : List A = [] in none) ≡ []
take_nil zero = refl
take_nil (suc n) = refl

take_more : {A : Type 0} (xs : List A) (a b : ℕ) → take a xs ++ take b (drop a xs) ≡ take (a + b) xs
take_more xs zero b = grind (arith, common_steps, nat_tests)
take_more [] (suc a) b = take_nil b ∙ sym (take_nil (suc a + b))
take_more (x ∷ xs) (suc a) b =
    ap (λ ys. x ∷ ys) (take_more xs a b) ∙ ap (λ n. take n (x ∷ xs)) (let same : suc (a + b) ≡ suc a + b = omega arith in same)

told_ids : (device : Device) (handle start : ℕ) {base : Base} → base_at device handle ≡ Some base → on_records base.database ≡ true
    → told (listing_ids handle start) device ≡ reply.ReadRecordIdList (take 8000 (drop start (ids_of base.database.records)))
unfolding told tried
told_ids device handle start is records = rw is (rw records refl)

ids_reply : {device : Device} (handle start : ℕ) {base : Base} → IsTellable device → handle < 2 ^ 8 → start < 2 ^ 16 → base_at device handle ≡ Some base
    → on_records base.database ≡ true
    → ids_in (reply_at 0x31 (acted (listing_ids handle start) device).0) ≡ take 8000 (drop start (ids_of base.database.records))
ids_reply handle start proper byte half is records = grind (arith, common_steps, nat_tests, acted_reads, act_sayable, ids_fit, told_ids)

ids_so_far : {device : Device} (handle parts : ℕ) {base : Base} → IsTellable device → handle < 2 ^ 8 → parts ≤ 9 → base_at device handle ≡ Some base
    → on_records base.database ≡ true → ids_listed device handle parts ≡ take (8000 * parts) (ids_of base.database.records)
unfolding ids_listed
ids_so_far handle zero {base} proper byte few is records = grind (arith, common_steps, nat_tests)
ids_so_far {device} handle (suc parts) {base} proper byte few is records =
    let ids = ids_of base.database.records in
    ap (λ xs. xs ++ ids_in (reply_at 0x31 (acted (listing_ids handle (8000 * parts)) device).0))
    (ids_so_far handle parts proper byte (omega arith) is records)
    ∙ ap (λ ys. take (8000 * parts) ids ++ ys) (ids_reply handle (8000 * parts) proper byte (omega arith) is records)
    ∙ take_more ids (8000 * parts) 8000
    ∙ ap (λ n. take n ids) (let same : 8000 * parts + 8000 ≡ 8000 * suc parts = omega arith in same)

pub ids_are : (device : Device) (handle count : ℕ) (base : Base) → IsTellable device → handle < 2 ^ 8 → count < 2 ^ 16
    → base_at device handle ≡ Some base → on_records base.database ≡ true → length (ids_of base.database.records) ≤ count
    → ids_listed device handle (id_parts count) ≡ ids_of base.database.records
ids_are device handle count base proper byte half is records all =
    let few : (count + 7999) / 8000 ≤ 9 = omega arith in
    let enough : count ≤ 8000 * ((count + 7999) / 8000) = omega arith in
    ids_so_far handle (id_parts count) proper byte few is records
    ∙ take_whole (ids_of base.database.records) (8000 * id_parts count) (omega arith)
