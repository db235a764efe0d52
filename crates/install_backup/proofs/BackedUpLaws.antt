-- What a backup reads is the handheld's database, without its seed.
use Rattle.std.proofs.lemmas.Grind.{common_steps}
use Rattle.std.proofs.lemmas.Bool.Decides.{nat_tests}
use Rattle.std.proofs.Common.{arith, rules, ◌≡◌, ◌∙◌, ◌+◌, ◌≤◌, ◌<◌, ◌^◌, ap, refl, sym, ℕ, zero, suc, Bool, true, false, not, ◌&&◌, List, [], ◌∷◌, ◌++◌, length, take, lit<}
use Rattle.std.specs.Prelude.{Option, Some, None, Result, Ok, slice_get, if◌then◌else◌}
use Rattle.std.specs.List.{AllByRecursion}
use Rattle.pdb_values.specs.Databases.{DatabaseValue}
use Rattle.pdb_values.specs.Blocks.{block_length}
use Rattle.pdb_values.specs.Heads.{has_bit, holds_resources}
use Rattle.pdb_values.specs.NamedDatabases.{database_of}
use Rattle.pdb_values.specs.declared.record.Record.{Record}
use Rattle.pdb_values.specs.declared.resource.Resource.{Resource}
use Rattle.pdb_values.proofs.NamedLaws.{AllByRecursion-database_of}
use Rattle.dlp_replies.specs.ReplyReading.{reply_at}
use Rattle.dlp_replies.specs.ReplyValues.{ReplyValue}
use Rattle.dlp_replies.specs.declared.fault.ReplyFault.{ReplyFault}
use Rattle.palm_device.specs.Blocks.{entry_count}
use Rattle.palm_device.specs.Bounds.{IsBoundedDatabase}
use Rattle.palm_device.specs.Devices.{Device}
use Rattle.palm_device.proofs.BoundLaws.{AllByRecursion-get}
use Rattle.dlp_commands.specs.DatabaseFunctions.{listed}
use Rattle.dlp_commands.specs.DeviceSteps.{tried}
use Rattle.desktop_session.specs.Acts.{acted}
use Rattle.desktop_session.specs.Answers.{resource_of, said_in}
use Rattle.desktop_session.specs.Lent.{lent_kind, record_lent, resource_lent}
use Rattle.desktop_session.specs.Requests.{reading_app, reading_at, reading_resource, reading_sort}
use Rattle.desktop_session.specs.Tellings.{told}
use Rattle.desktop_session.proofs.GrowLaws.{take_next, take_whole}
use Rattle.desktop_session.proofs.LentLaws.{lent_at, lent_resource_at, none_past}
use Rattle.desktop_session.proofs.RequestFits.{app_fits, sort_fits}
use Rattle.desktop_session.proofs.TellLaws.{act_sayable, acted_reads}
use Rattle.session_parts.specs.Rests.{IsAtRest}
use Rattle.session_parts.proofs.RestLaws.{opened_on}
use Rattle.mirrors.specs.Reads.{entries_told}
use Rattle.mirrors.proofs.ShownLaws.{wire}
use Rattle.install_backup.specs.BackupEnds.{read_of}
use Rattle.install_backup.specs.BackedUp.{backed_up}
use Rattle.install_backup.specs.Copies.{block_in, blocked, copied, each_told, is_gone, record_from, records_in, records_told, resources_in, resources_told, with_entries}
use Rattle.install_backup.proofs.CopyLaws.{lent_record}
use Rattle.install_backup.proofs.ReadWhole.{base, base_here, counts, opens, proper_here}
use Rattle.desktop_session.proofs.OrderLaws.{got_at}

-- ---- a record as it is lent

wire_marks : (deleted dirty busy secret empty : Bool)
    → (is_gone (lent_kind (wire deleted dirty busy secret empty)) ≡ deleted) × (has_bit 0x40 (wire deleted dirty busy secret empty) ≡ dirty)
    × (has_bit 0x10 (wire deleted dirty busy secret empty) ≡ secret)
wire_marks deleted dirty busy secret empty = search (rules)

record_again : (item : Record) → item.busy ≡ false → record_from (record_lent item) ≡ item
record_again item idle = grind (arith, common_steps, nat_tests, wire_marks)

take_one : {A : Type 0} (xs : List A) (k : ℕ) {x : A} → slice_get xs k ≡ Some x → take k xs ++ x ∷ [] ≡ take (suc k) xs
take_one xs k {x} is = sym (take_next xs k is) ∙ ap (λ n. take n xs) (let same : k + 1 ≡ suc k = omega arith in same)

module _ (device : Device) (rests : IsAtRest device) (database : DatabaseValue) (held : database_of database.head.name device.databases ≡ Some database)
    (idle : AllByRecursion (λ (item : Record). item.busy ≡ false) database.records) where
  abbrev here : Device
  here = opened_on device database.head.name 0x90 0

  bounded : IsBoundedDatabase database
  bounded = AllByRecursion-database_of IsBoundedDatabase database.head.name device.databases database rests.proper.bounded.databases held

  one_record : (k : ℕ) {item : Record} → holds_resources database.head.attributes ≡ false → k < 2 ^ 16 → slice_get database.records k ≡ Some item
      → records_in (reply_at 0x20 (acted (reading_at 1 k) here).0) ≡ item ∷ []
  one_record k {item} holds half there =
      lent_record 0x20 None (reply_at 0x20 (acted (reading_at 1 k) here).0)
      (lent_at here 1 k (base device rests database held) item (proper_here device rests database held) (lit< tt) half (base_here device rests database held)
      (ap not holds) there)
      ∙ ap (λ (r : Record). r ∷ [])
      (record_again item (AllByRecursion-get (λ (item : Record). item.busy ≡ false) database.records k item idle there))

  records_so_far : (k : ℕ) → holds_resources database.head.attributes ≡ false → k ≤ length database.records → length database.records ≤ 65535
      → records_told here 1 k ≡ take k database.records
  unfolding each_told
  records_so_far zero holds within few = refl
  records_so_far (suc k) holds within few =
      let at = got_at database.records k (omega arith) in
      ap (λ (rs : List Record). rs ++ records_in (reply_at 0x20 (acted (reading_at 1 k) here).0)) (records_so_far k holds (omega arith) few)
      ∙ ap (λ (rs : List Record). take k database.records ++ rs) (one_record k holds (omega arith) at.1)
      ∙ take_one database.records k at.1

  records_are : holds_resources database.head.attributes ≡ false → records_told here 1 (length database.records) ≡ database.records
  records_are holds =
      let few = bounded.whole.few_records in
      records_so_far (length database.records) holds (omega arith) few ∙ take_whole database.records (length database.records) (omega arith)

  one_resource : (k : ℕ) {item : Resource} → holds_resources database.head.attributes ≡ true → k < 2 ^ 16 → slice_get database.resources k ≡ Some item
      → resources_in (reply_at 0x23 (acted (reading_resource 1 k) here).0) ≡ item ∷ []
  one_resource k {item} holds half there =
      resource_lends (reply_at 0x23 (acted (reading_resource 1 k) here).0)
      (lent_resource_at here 1 k (base device rests database held) item (proper_here device rests database held) (lit< tt) half
      (base_here device rests database held) holds there)
    where
      resource_lends : (read : Result ReplyValue ReplyFault) → said_in 0x23 resource_of read ≡ Ok (resource_lent item) → resources_in read ≡ item ∷ []
      resource_lends read is = grind (arith, common_steps, nat_tests)

  resources_so_far : (k : ℕ) → holds_resources database.head.attributes ≡ true → k ≤ length database.resources → length database.resources ≤ 65535
      → resources_told here 1 k ≡ take k database.resources
  unfolding each_told
  resources_so_far zero holds within few = refl
  resources_so_far (suc k) holds within few =
      let at = got_at database.resources k (omega arith) in
      ap (λ (rs : List Resource). rs ++ resources_in (reply_at 0x23 (acted (reading_resource 1 k) here).0)) (resources_so_far k holds (omega arith) few)
      ∙ ap (λ (rs : List Resource). take k database.resources ++ rs) (one_resource k holds (omega arith) at.1)
      ∙ take_one database.resources k at.1

  resources_are : holds_resources database.head.attributes ≡ true → resources_told here 1 (length database.resources) ≡ database.resources
  resources_are holds =
      let few = bounded.whole.few_resources in
      resources_so_far (length database.resources) holds (omega arith) few ∙ take_whole database.resources (length database.resources) (omega arith)

  -- ---- the blocks

  app_by : (app : Option (List ℕ)) → database.app ≡ app → block_length app ≤ 65500 → block_in 0x1B (Ok (told (reading_app 1) here)) ≡ app
  unfolding told tried
  app_by None is short = rw (base_here device rests database held, is) refl
  app_by (Some bytes) is short =
      rw (base_here device rests database held, is, none_past (length bytes)) (ap (λ b. Some b) (take_whole bytes 65535 (omega arith)))

  sort_by : (sort : Option (List ℕ)) → database.sort ≡ sort → block_length sort ≤ 65500 → block_in 0x1D (Ok (told (reading_sort 1) here)) ≡ sort
  unfolding told tried
  sort_by None is short = rw (base_here device rests database held, is) refl
  sort_by (Some bytes) is short =
      rw (base_here device rests database held, is, none_past (length bytes)) (ap (λ b. Some b) (take_whole bytes 65535 (omega arith)))

  app_is : block_in 0x1B (reply_at 0x1B (acted (reading_app 1) here).0) ≡ database.app
  app_is =
      ap (block_in 0x1B) (acted_reads (reading_app 1) here (proper_here device rests database held)
      (act_sayable (reading_app 1).asks here (app_fits 1 (lit< tt)) refl))
      ∙ app_by database.app refl bounded.whole.short_app

  sort_is : block_in 0x1D (reply_at 0x1D (acted (reading_sort 1) here).0) ≡ database.sort
  sort_is =
      ap (block_in 0x1D) (acted_reads (reading_sort 1) here (proper_here device rests database held)
      (act_sayable (reading_sort 1).asks here (sort_fits 1 (lit< tt)) refl))
      ∙ sort_by database.sort refl bounded.whole.short_sort

  -- ---- the whole

  entries_are : with_entries (blocked (listed database.head) database.app database.sort) here 1 (entry_count database) ≡ backed_up database
  entries_are = by (holds_resources database.head.attributes) refl
    where
      by : (b : Bool) → holds_resources database.head.attributes ≡ b
          → (if b then record (blocked (listed database.head) database.app database.sort)
          { resources = resources_told here 1 (if b then length database.resources else length database.records) }
          else record (blocked (listed database.head) database.app database.sort)
          { records = records_told here 1 (if b then length database.resources else length database.records) }) ≡ backed_up database
      by true holds = λ k. record {
        head = listed database.head;
        app = database.app;
        sort = database.sort;
        records = sym (bounded.whole.no_records holds) k;
        resources = resources_are holds k;
      }
      by false holds = λ k. record {
        head = listed database.head;
        app = database.app;
        sort = database.sort;
        records = records_are holds k;
        resources = sym (bounded.whole.no_resources holds) k;
      }

  pub copies-are : read_of device database ≡ backed_up database
  unfolding copied
  copies-are =
      ap (copied (listed database.head) 1) (opens device rests database held)
      ∙ ap (λ (block : Option (List ℕ)). with_entries (blocked (listed database.head) block (block_in 0x1D (reply_at 0x1D (acted (reading_sort 1) here).0))) here 1
      (entries_told here 1)) app_is
      ∙ ap (λ (block : Option (List ℕ)). with_entries (blocked (listed database.head) database.app block) here 1 (entries_told here 1)) sort_is
      ∙ ap (with_entries (blocked (listed database.head) database.app database.sort) here 1) (counts device rests database held)
      ∙ entries_are
