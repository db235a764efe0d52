-- A database that is installed on a handheld on which nothing is open.
use Rattle.std.proofs.lemmas.Bool.{and_parts, not-true}
use Rattle.std.proofs.lemmas.Bool.Decides.{nat_tests}
use Rattle.std.proofs.Common.{arith, ◌≡◌, ◌∙◌, ◌≤◌, ◌<◌, ap, refl, sym, ℕ, ◌==◌, ◌||◌, ◌&&◌, not, Bool, true, false, cond, List, [], ◌∷◌, ◌++◌, length, map}
use Rattle.std.specs.Prelude.{Option, Some, None, is_some, nat_lt}
use Rattle.pdb_values.specs.Databases.{DatabaseValue}
use Rattle.pdb_values.specs.Heads.{holds_resources, is_read_only}
use Rattle.pdb_values.specs.NamedDatabases.{NamesRise, database_of, with_new, with_put, without_named}
use Rattle.pdb_values.proofs.NamedLaws.{AllByRecursion-with_put, NamesRise-with_put, bytes_eq-own, database_of-without_named, length-replaced, length-with_new, with_put-cases}
use Rattle.palm_device.specs.Blocks.{empty_database}
use Rattle.palm_device.specs.Bounds.{IsBoundedDatabase}
use Rattle.palm_device.specs.Devices.{Device, most_databases}
use Rattle.palm_device.specs.FreshIds.{is_among}
use Rattle.palm_device.specs.Handles.{just_opened, no_handles, with_handle}
use Rattle.palm_device.specs.Soundness.{AreIds, ids_of}
use Rattle.handheld_files.specs.Settled.{are_ids}
use Rattle.desktop_session.specs.Acts.{Act}
use Rattle.desktop_session.specs.Orders.{CanMake, IsPossible}
use Rattle.desktop_session.specs.Requests.{closing, deleting, making, writing_app, writing_sort}
use Rattle.desktop_session.proofs.ChangeRows.{made_does}
use Rattle.session_parts.specs.Rests.{IsAtRest}
use Rattle.session_parts.proofs.RestLaws.{closes_does}
use Rattle.install_backup.specs.Installed.{installed, installed_behind, installed_block, installed_head, installed_records, with_installed}
use Rattle.install_backup.specs.InstallActs as acts
use Rattle.install_backup.specs.InstallActs.{entry_acts, fill_acts, install_one}
use Rattle.install_backup.specs.Rooms.{has_room}
use Rattle.install_backup.proofs.ArriveLaws.{Goes, app_goes, filled, goes_one, goes_then, sort_goes}
use Rattle.install_backup.proofs.FillLaws.{records_go, resources_go}
use Rattle.install_backup.proofs.GoneLaws.{can_delete, deleted, deleted-room, with_databases}
use Rattle.install_backup.proofs.InstalledLaws.{head-again, holds-installed, installed-whole, read_only-installed, resources-none, with_new-without}
use Rattle.install_backup.proofs.RecordLaws.{installed-ids, records-none}
use Rattle.install_backup.proofs.ResourceLaws.{put_each-installed}

goes_to : {acts : List Act} {old mid new : Device} → Goes acts old mid → mid ≡ new → Goes acts old new
goes_to goes is = record { order = goes.order; after = goes.after ∙ is }

-- ---- filled

-- with its blocks alone
abbrev pub blocked : DatabaseValue → DatabaseValue
blocked database = record {
  head = installed_head database.head;
  app = installed_block database.app;
  sort = installed_block database.sort;
  records = [];
  resources = [];
}

module _ (device : Device) (rise : NamesRise device.databases) (database : DatabaseValue) (bounded : IsBoundedDatabase database)
    (may : is_read_only database.head.attributes ≡ false) where
  pub may_write : is_read_only (installed_head database.head).attributes ≡ false
  may_write = read_only-installed database.head ∙ may

  entries_go : Goes (entry_acts 1 database) (filled device (blocked database)) (filled device (installed database))
  unfolding entry_acts installed
  entries_go = by (holds_resources database.head.attributes) refl
    where
      by : (b : Bool) → holds_resources database.head.attributes ≡ b
          → Goes (cond b (map (acts.put_resource 1) database.resources) (acts.record_acts 1 (installed_records database.records)))
          (filled device (blocked database)) (filled device (record {
            head = installed_head database.head;
            app = installed_block database.app;
            sort = installed_block database.sort;
            records = installed_records database.records;
            resources = installed_behind [] database.resources;
          }))
      by true is =
          let few = bounded.whole.few_resources in
          goes_to (resources_go device rise (blocked database) database.resources may_write (holds-installed database.head ∙ is) (omega (arith, few)))
          (λ k. filled device (record {
            head = installed_head database.head;
            app = installed_block database.app;
            sort = installed_block database.sort;
            records = sym (records-none database.records (bounded.whole.no_records is)) k;
            resources = put_each-installed database.resources k;
          }))
      by false is =
          goes_to (records_go device rise (blocked database) database.records may_write (ap not (holds-installed database.head ∙ is)) refl
          bounded.whole.few_records bounded.records)
          (λ k. filled device (record {
            head = installed_head database.head;
            app = installed_block database.app;
            sort = installed_block database.sort;
            records = installed_records database.records;
            resources = sym (resources-none database.resources (bounded.whole.no_resources is)) k;
          }))

  pub fill_goes : Goes (fill_acts database 1 []) (filled device (empty_database (installed_head database.head))) (filled device (installed database))
  unfolding fill_acts
  fill_goes =
      let first = empty_database (installed_head database.head) in
      let second = record first { app = installed_block database.app } in
      goes_then (acts.block_acts writing_app 1 database.app) (acts.block_acts writing_sort 1 database.sort ++ entry_acts 1 database)
      (app_goes device rise first database.app may_write refl)
      (goes_then (acts.block_acts writing_sort 1 database.sort) (entry_acts 1 database) (sort_goes device rise second database.sort may_write refl)
      entries_go)

-- ---- made

below_of : (there : Bool) (n : ℕ) → (there || nat_lt n most_databases) ≡ true → there ≡ false → n < most_databases
below_of true n is none = absurd cc
below_of false n is none = grind (arith, nat_tests)

module _ (device : Device) (rests : IsAtRest device) (database : DatabaseValue) (bounded : IsBoundedDatabase database)
    (room : has_room database.head.name device.databases ≡ true) where
  abbrev pub left : List DatabaseValue
  left = without_named database.head.name device.databases

  pub gone : database_of database.head.name left ≡ None
  gone =
      database_of-without_named database.head.name database.head.name device.databases rests.proper.sound.names
      ∙ ap (λ b. cond b None (database_of database.head.name device.databases)) (bytes_eq-own database.head.name)

  can_make : CanMake (with_databases left device) 0 database.head.name
  can_make =
      let still : has_room database.head.name left ≡ true = deleted-room device database.head.name rests.proper.sound ∙ room in
      record {
        first = refl;
        named = bounded.head.name;
        none_open = rests.closed;
        none = gone;
        room = below_of (is_some (database_of database.head.name left)) (length left) still (ap (λ (o : Option DatabaseValue). is_some o) gone);
      }

  pub make_goes : Goes (making (installed_head database.head) ∷ []) (with_databases left device) (filled device (empty_database (installed_head database.head)))
  unfolding IsPossible
  make_goes =
      goes_one can_make
      (made_does (with_databases left device) (installed_head database.head) can_make
      ∙ (λ k. record device {
        databases = with_new (empty_database (head-again database.head k)) left;
        handles = with_handle 1 (Some (just_opened database.head.name 0xC0)) no_handles;
      })
      ∙ (λ k. record device {
        databases = with_new-without (empty_database (installed_head database.head)) device.databases rests.proper.sound.names k;
        handles = with_handle 1 (Some (just_opened database.head.name 0xC0)) no_handles;
      }))

  pub delete_goes : Goes (deleting database.head.name ∷ []) device (with_databases left device)
  unfolding IsPossible
  delete_goes =
      let can = can_delete device database.head.name bounded.head.name rests.closed in
      goes_one can (deleted device database.head.name can)

  pub close_goes : (closed : DatabaseValue) → Goes (closing 1 ∷ []) (filled device closed) (with_databases (with_put closed device.databases) device)
  unfolding IsPossible
  close_goes closed =
      goes_one refl (closes_does (with_databases (with_put closed device.databases) device) closed.head.name 0xC0 0 rests.closed)

  pub install_goes : is_read_only database.head.attributes ≡ false
      → Goes (install_one database 1 []) device (with_databases (with_installed database device.databases) device)
  unfolding install_one
  install_goes may =
      goes_then (deleting database.head.name ∷ []) (making (installed_head database.head) ∷ (fill_acts database 1 [] ++ closing 1 ∷ [])) delete_goes
      (goes_then (making (installed_head database.head) ∷ []) (fill_acts database 1 [] ++ closing 1 ∷ []) make_goes
      (goes_then (fill_acts database 1 []) (closing 1 ∷ []) (fill_goes device rests.proper.sound.names database bounded may)
      (close_goes (installed database))))

  -- ---- and then

  few_put : length (with_installed database device.databases) ≤ most_databases
  unfolding installed
  few_put =
      let held = rests.proper.sound.few in
      with_put-cases (λ (after : List DatabaseValue). length after ≤ most_databases) (installed database) device.databases
      (λ none. let more = length-with_new (installed database) device.databases in
      let below = below_of (is_some (database_of database.head.name device.databases)) (length device.databases) room
      (ap (λ (o : Option DatabaseValue). is_some o) none) in omega (arith, more, below))
      (λ was there. let same = length-replaced (installed database) device.databases in omega (arith, same, held))

  ids_are : (ids : List ℕ) → are_ids ids ≡ true → AreIds ids
  ids_are [] is = tt
  ids_are (id ∷ ids) is =
      let first = and_parts (not (id == 0)) (not (is_among id ids) && are_ids ids) is in
      let second = and_parts (not (is_among id ids)) (are_ids ids) first.1 in
      (some id (not-true (id == 0) first.0), not-true (is_among id ids) second.0, ids_are ids second.1)
    where
      some : (n : ℕ) → (n == 0) ≡ false → 0 < n
      some n other = grind (arith, nat_tests)

  own_ids : AreIds (ids_of (installed database).records)
  unfolding installed
  own_ids = ids_are (ids_of (installed_records database.records)) (installed-ids database.records)

  pub installed_rests : IsAtRest (with_databases (with_installed database device.databases) device)
  installed_rests =
      let sound = rests.proper.sound in
      record {
        proper = record {
          sound = record {
            names = NamesRise-with_put (installed database) device.databases sound.names;
            few = few_put;
            ids = AllByRecursion-with_put (λ (one : DatabaseValue). AreIds (ids_of one.records)) (installed database) device.databases own_ids sound.ids;
            handles = sound.handles;
          };
          bounded = record {
            databases = AllByRecursion-with_put IsBoundedDatabase (installed database) device.databases (installed-whole database bounded)
                rests.proper.bounded.databases;
            user = rests.proper.bounded.user;
            handles = rests.proper.bounded.handles;
          };
        };
        closed = rests.closed;
      }
