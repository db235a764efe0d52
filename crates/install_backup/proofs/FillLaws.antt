-- The entries of a database that was made, and the whole of it.
use Rattle.std.proofs.lemmas.Bool.{and_parts, or_from, or_parts}
use Rattle.std.proofs.lemmas.Bool.Decides.{nat_tests}
use Rattle.std.proofs.lemmas.Grind.{common_steps}
use Rattle.std.proofs.lemmas.List.{append-nil}
use Rattle.std.proofs.Common.{arith, ◌≡◌, ◌∙◌, ◌≤◌, ◌<◌, ◌+◌, ap, refl, sym, subst, ℕ, ◌==◌, ◌||◌, not, Bool, true, false, List, [], ◌∷◌, ◌++◌, length, map}
use Rattle.std.proofs.Common.{append_assoc, length-append}
use Rattle.std.specs.Prelude.{Ok, is_some, nat_le, nat_lt}
use Rattle.std.specs.List.{AllByRecursion, list_any}
use Rattle.pdb_values.specs.Contents.{ContentValue}
use Rattle.pdb_values.specs.Databases.{DatabaseValue}
use Rattle.pdb_values.specs.NamedDatabases.{NamesRise}
use Rattle.pdb_values.specs.Resources.{with_bytes}
use Rattle.pdb_values.specs.declared.record.Record.{Record}
use Rattle.pdb_values.specs.declared.resource.Resource.{Resource}
use Rattle.dlp_replies.specs.ReplyValues as reply
use Rattle.palm_device.specs.Bounds.{IsBoundedRecord}
use Rattle.palm_device.specs.Devices.{Device}
use Rattle.palm_device.specs.Entries.{put_entry}
use Rattle.palm_device.specs.FreshIds.{is_among}
use Rattle.palm_device.specs.Records.{clean, given_id, has_id, is_new, new_record, reset_flags, with_records}
use Rattle.palm_device.specs.Records as records
use Rattle.palm_device.specs.Resources as resources
use Rattle.palm_device.specs.Resources.{has_room, with_resources}
use Rattle.dlp_commands.specs.DeviceSteps.{tried}
use Rattle.dlp_commands.specs.Holding.{on_records, on_resources}
use Rattle.dlp_commands.specs.Writings as writing
use Rattle.dlp_commands.specs.Writings.{written_in}
use Rattle.desktop_session.specs.Orders.{IsPossible}
use Rattle.desktop_session.specs.Requests.{resetting, secret_bit}
use Rattle.handheld_files.specs.Settled.{are_ids}
use Rattle.install_backup.specs.Installed.{installed_records, untouched}
use Rattle.install_backup.specs.InstallActs as acts
use Rattle.install_backup.specs.Puts.{put_each}
use Rattle.install_backup.proofs.RecordLaws.{installed-bounded, installed-few, installed-ids, installed-live, installed-none_deleted, installed-untouched}
use Rattle.install_backup.proofs.ArriveLaws.{Goes, Writable, filled, goes_none, goes_one, goes_then, leads, writable_base, wrote}
use Rattle.folder_files.proofs.SlotLaws.{not_true}
use Rattle.handheld_files.proofs.SettledLaws.{turned}
use Rattle.mirrors.proofs.CarryLaws.{secret_again, room_left}

-- ---- records

-- a record that has an id which no record has stands behind the others
put_new : (id : ℕ) (content : ContentValue) (stored : List Record) → list_any (has_id id) stored ≡ false
    → records.put_record id content stored ≡ stored ++ new_record id content ∷ []
unfolding put_entry
put_new id content [] e = refl
put_new id content (x ∷ xs) e = grind (arith, put_new id content xs)

-- as it is once it was put
abbrev pub made : Record → Record
made item = new_record item.id item.content

-- each has an id that none of those before it has, and is within its bounds
abbrev pub AreNew : List Record → List Record → Type 0
AreNew stored [] = Unit {0}
AreNew stored (x ∷ xs) = ((x.id == 0) ≡ false) × (list_any (has_id x.id) stored ≡ false) × AreNew (stored ++ made x ∷ []) xs

-- none of these has the id of a record that is stored
abbrev AreOthers : List Record → List Record → Type 0
AreOthers stored items = AllByRecursion (λ (item : Record). list_any (has_id item.id) stored ≡ false) items

any-append : (id : ℕ) (stored : List Record) (x : Record) → list_any (has_id id) stored ≡ false → (x.id == id) ≡ false
    → list_any (has_id id) (stored ++ x ∷ []) ≡ false
any-append id [] x none other = or_from (x.id == id) false other refl
any-append id (y ∷ stored) x none other =
    let both = or_parts (y.id == id) (list_any (has_id id) stored) none in
    or_from (y.id == id) (list_any (has_id id) (stored ++ x ∷ [])) both.0 (any-append id stored x both.1 other)

others_more : (x : Record) (stored items : List Record) → is_among x.id (map (λ (item : Record). item.id) items) ≡ false → AreOthers stored items
    → AreOthers (stored ++ made x ∷ []) items
others_more x stored [] none others = tt
others_more x stored (y ∷ items) none others =
    let both = or_parts (y.id == x.id) (is_among x.id (map (λ (item : Record). item.id) items)) none in
    (any-append y.id stored (made x) others.0 (turned x.id y.id ∙ both.0), others_more x stored items both.1 others.1)

are_new : (stored items : List Record) → are_ids (map (λ (item : Record). item.id) items) ≡ true → AreOthers stored items → AreNew stored items
are_new stored [] are others = tt
are_new stored (x ∷ items) are others =
    let ids = map (λ (item : Record). item.id) items in
    let first = and_parts _ _ are in
    let second = and_parts _ _ first.1 in (
      not_true (x.id == 0) first.0,
      others.0,
      are_new (stored ++ made x ∷ []) items second.1 (others_more x stored items (not_true (is_among x.id ids) second.0) others.1),
    )

no_others : (items : List Record) → AreOthers [] items
no_others [] = tt
no_others (x ∷ items) = (refl, no_others items)

pub new_from_ids : (items : List Record) → are_ids (map (λ (item : Record). item.id) items) ≡ true → AreNew [] items
new_from_ids items are = are_new [] items are (no_others items)

-- they count as unchanged then, as they were to be installed
pub reset_made : (items : List Record) → map untouched items ≡ items → list_any (λ (x : Record). x.deleted) items ≡ false → reset_flags (map made items) ≡ items
reset_made [] same live = refl
reset_made (x ∷ items) same live = grind (arith, reset_made items, same)

put_written : (id : ℕ) (content : ContentValue) (database : DatabaseValue) → on_records database ≡ true → (id == 0) ≡ false → nat_le id 16777215 ≡ true
    → nat_le content.category 15 ≡ true → (not (is_new id database.records) || nat_lt (length database.records) 65535) ≡ true
    → written_in 0 (writing.WriteRecord id (secret_bit content.secret) content.category content.bytes) database
    ≡ Ok (with_records (records.put_record id content database.records) database, reply.WriteRecord id)
put_written id content database holds some bounded sorted room = grind (arith, common_steps, nat_tests, secret_again)

-- ---- resources

resource_written : (kind : List ℕ) (id : ℕ) (bytes : List ℕ) (database : DatabaseValue) → on_resources database ≡ true
    → has_room kind id database.resources ≡ true
    → written_in 0 (writing.WriteResource kind id bytes) database
    ≡ Ok (with_resources (resources.put_resource kind id bytes database.resources) database, reply.WriteResource)
resource_written kind id bytes database holds room = rw (holds, room) refl

pub put_longer : (test : Resource → Bool) (change : Resource → Resource) (new : Resource) (xs : List Resource)
    → length (put_entry test change new xs) ≤ length xs + 1
unfolding put_entry
put_longer test change new [] = omega arith
put_longer test change new (x ∷ xs) = grind (arith, common_steps, nat_tests, put_longer test change new xs)

within : (there : Bool) (n : ℕ) → n < 65535 → (there || nat_lt n 65535) ≡ true
within true n few = refl
within false n few = grind (arith, nat_tests)

module _ (device : Device) (rise : NamesRise device.databases) where
  -- a record more
  pub put_goes : (database : DatabaseValue) (item : Record) → Writable device rise database → on_records database ≡ true → (item.id == 0) ≡ false
      → IsBoundedRecord item → list_any (has_id item.id) database.records ≡ false → length database.records < 65535
      → Goes (acts.put_record 1 item ∷ []) (filled device database) (filled device (with_records (database.records ++ made item ∷ []) database))
  unfolding IsPossible tried
  put_goes database item may holds some bounded new few =
      let low : nat_le item.id 16777215 ≡ true = (let b = bounded.id in grind (arith, nat_tests)) in
      let sorted : nat_le item.content.category 15 ≡ true = (let b = bounded.category in grind (arith, nat_tests)) in
      goes_one (rw (leads device database) (record {
        takes = record { writable = writable_base device rise database may; records = holds };
        bounded = bounded.id;
        sorted = bounded.category;
        room = λ fresh. few;
      }))
      (wrote device rise (acts.put_record 1 item) (writing.WriteRecord item.id (secret_bit item.content.secret) item.content.category item.content.bytes)
      database (with_records (records.put_record item.id item.content database.records) database) (reply.WriteRecord item.id) refl
      (writable_base device rise database may)
      (put_written item.id item.content database holds some low sorted (room_left (is_new item.id database.records) (length database.records) few)) refl
      ∙ ap (λ (items : List Record). filled device (with_records items database)) (put_new item.id item.content database.records new))

  pub puts_go : (database : DatabaseValue) (items : List Record) → Writable device rise database → on_records database ≡ true
      → AllByRecursion IsBoundedRecord items → AreNew database.records items → length database.records + length items ≤ 65535
      → Goes (map (acts.put_record 1) items) (filled device database) (filled device (with_records (database.records ++ map made items) database))
  puts_go database [] may holds bounded new few =
      record { order = tt; after = ap (λ (items : List Record). filled device (with_records items database)) (sym (append-nil database.records)) }
  puts_go database (item ∷ items) may holds bounded new few =
      let more = length-append database.records (made item ∷ []) in
      let first = put_goes database item may holds new.0 bounded.0 new.1 (omega arith) in
      let now = with_records (database.records ++ made item ∷ []) database in
      let rest = puts_go now items may holds bounded.1 new.2 (omega (arith, more, few)) in
      let all = goes_then (acts.put_record 1 item ∷ []) (map (acts.put_record 1) items) first rest in
      record {
        order = all.order;
        after = all.after
            ∙ ap (λ (items : List Record). filled device (with_records items database)) (append_assoc database.records (made item ∷ []) (map made items));
      }

  pub reset_goes : (database : DatabaseValue) → Writable device rise database → on_records database ≡ true
      → Goes (resetting 1 ∷ []) (filled device database) (filled device (with_records (reset_flags database.records) database))
  unfolding IsPossible tried
  reset_goes database may holds =
      goes_one (rw (leads device database) (record { writable = writable_base device rise database may; records = holds }))
      (wrote device rise (resetting 1) writing.ResetFlags database (with_records (reset_flags database.records) database) reply.ResetSyncFlags refl
      (writable_base device rise database may) (rw holds refl) refl)

  pub resource_goes : (database : DatabaseValue) (resource : Resource) → Writable device rise database → on_resources database ≡ true
      → length database.resources < 65535
      → Goes (acts.put_resource 1 resource ∷ []) (filled device database)
      (filled device (with_resources (resources.put_resource resource.kind.0 resource.id resource.bytes database.resources) database))
  unfolding IsPossible tried
  resource_goes database resource may holds few =
      let room : has_room resource.kind.0 resource.id database.resources ≡ true =
      within (is_some (resources.place_of_resource resource.kind.0 resource.id database.resources)) (length database.resources) few in
      goes_one (rw (leads device database) (record { writable = writable_base device rise database may; resources = holds; room = room }))
      (wrote device rise (acts.put_resource 1 resource) (writing.WriteResource resource.kind.0 resource.id resource.bytes) database
      (with_resources (resources.put_resource resource.kind.0 resource.id resource.bytes database.resources) database) reply.WriteResource refl
      (writable_base device rise database may) (resource_written resource.kind.0 resource.id resource.bytes database holds room) refl)

  pub resources_go : (database : DatabaseValue) (items : List Resource) → Writable device rise database → on_resources database ≡ true
      → length database.resources + length items ≤ 65535
      → Goes (map (acts.put_resource 1) items) (filled device database) (filled device (with_resources (put_each items database.resources) database))
  unfolding put_each
  resources_go database [] may holds few = goes_none (filled device database)
  resources_go database (item ∷ items) may holds few =
      let put = resources.put_resource item.kind.0 item.id item.bytes database.resources in
      let more = put_longer (resources.is_resource item.kind.0 item.id) (with_bytes item.bytes)
      (resources.new_resource item.kind.0 item.id item.bytes) database.resources in
      let first = resource_goes database item may holds (omega arith) in
      goes_then (acts.put_resource 1 item ∷ []) (map (acts.put_resource 1) items) first
      (resources_go (with_resources put database) items may holds (omega (arith, more, few)))

  -- ---- records, and then none counts as changed

  pub records_go : (database : DatabaseValue) (file : List Record) → Writable device rise database → on_records database ≡ true
      → database.records ≡ [] → length file ≤ 65535 → AllByRecursion IsBoundedRecord file
      → Goes (acts.record_acts 1 (installed_records file)) (filled device database) (filled device (with_records (installed_records file) database))
  records_go database file may holds none few bounded =
      let items = installed_records file in
      let fewer = installed-few file in
      let new : AreNew database.records items =
      subst (λ (stored : List Record). AreNew stored items) (sym none) (new_from_ids items (installed-ids file)) in
      let zero_length : length database.records ≡ 0 = ap length none in
      let puts = puts_go database items may holds (installed-bounded file few bounded) new
      (omega (arith, fewer, few, zero_length)) in
      let put = with_records (database.records ++ map made items) database in
      let all = goes_then (map (acts.put_record 1) items) (resetting 1 ∷ []) puts (reset_goes put may holds) in
      record {
        order = all.order;
        after = all.after
            ∙ ap (λ (stored : List Record). filled device (with_records (reset_flags (stored ++ map made items)) database)) none
            ∙ ap (λ (items : List Record). filled device (with_records items database)) (reset_made items
            (installed-untouched file)
            (installed-none_deleted items (installed-live file)));
      }
