-- Each request of a backup may be asked at its turn of a handheld on which nothing is open.
use Rattle.std.proofs.Common.{arith, ◌≡◌, ◌≤◌, ◌<◌, ap, refl, sym, subst, ℕ, zero, suc, Bool, true, false, not, cond, List, [], ◌∷◌, ◌++◌, length, take, lit<}
use Rattle.std.specs.Prelude.{◌&&◌, Option, Some, IsSomeAnd, flat_map, is_some, max}
use Rattle.std.specs.List.{AllByRecursion}
use Rattle.pdb_values.specs.Databases.{DatabaseValue}
use Rattle.pdb_values.specs.Heads.{has_bit, holds_resources}
use Rattle.pdb_values.specs.Heads.{is_read_only}
use Rattle.pdb_values.specs.NamedDatabases.{database_of}
use Rattle.pdb_values.specs.Names.{IsName}
use Rattle.pdb_values.proofs.NamedLaws.{AllByRecursion-database_of}
use Rattle.palm_device.specs.Blocks.{entry_count}
use Rattle.palm_device.specs.Bounds.{IsBoundedDatabase}
use Rattle.palm_device.specs.Devices.{Device}
use Rattle.dlp_requests.specs.RequestTexts.{IsRequest}
use Rattle.dlp_commands.specs.Holding.{on_records, on_resources}
use Rattle.desktop_session.specs.Acts.{Act, AsksNoId, acted}
use Rattle.desktop_session.specs.Lists.{listings}
use Rattle.desktop_session.specs.Orders.{AreInOrder, CanOpen, HasRecordAt, HasResourceAt, IsPossible}
use Rattle.desktop_session.specs.Requests.{counting, ending, listing, opening_to_read, reading_app, reading_at, reading_resource, reading_sort}
use Rattle.desktop_session.proofs.RequestFits.{app_fits, at_fits, begin_fits, close_fits, count_fits, end_fits, list_fits, open_fits, resource_fits}
use Rattle.desktop_session.proofs.RequestFits.{sort_fits, user_fits}
use Rattle.session_parts.specs.Meets.{greeting}
use Rattle.session_parts.specs.Rests.{IsAtRest}
use Rattle.session_parts.proofs.LinkWords.{closing}
use Rattle.session_parts.proofs.RestLaws.{closes_does, greeting_same, listing_same, opened_on}
use Rattle.install_backup.specs.BackupActs.{backup_acts, backup_of, backup_under, each_read, entry_reads}
use Rattle.install_backup.proofs.ArriveLaws.{Goes, goes_none, goes_one, goes_then}
use Rattle.install_backup.proofs.CopyLaws.{app_same, count_same, sort_same}
use Rattle.install_backup.proofs.EachRead.{AllSame, at_same, resource_same}
use Rattle.install_backup.proofs.ReadWhole.{AreHeld, base_here, held_all, opens}
use Rattle.desk_journal.proofs.StepLaws.{all-append}

-- a beginning of acts that keep their order
pub order-take : (n : ℕ) (acts : List Act) (device : Device) → AreInOrder acts device → AreInOrder (take n acts) device
order-take zero acts device order = tt
order-take (suc n) [] device order = tt
order-take (suc n) (x ∷ xs) device order = (order.0, order-take n xs (acted x device).1 order.1)

and_some : {A : Type 0} (P : A → Type 0) {o : Option A} {x : A} → o ≡ Some x → P x → IsSomeAnd o P
and_some P is has = subst (λ found. IsSomeAnd found P) (sym is) has

-- ---- the greeting and the list

pub greeting_goes : (device : Device) → Goes greeting device device
unfolding IsPossible
greeting_goes device = record { order = (tt, (tt, tt)); after = greeting_same device }

listings_go : (count : ℕ) (device : Device) → Goes (listings count) device device
unfolding listings IsPossible
listings_go zero device = goes_none device
listings_go (suc count) device =
    goes_then (listings count) (listing count ∷ []) (listings_go count device) (goes_one (refl, refl) (listing_same device count))

pub ending_goes : (device : Device) → Goes (ending ∷ []) device (acted ending device).1
unfolding IsPossible
ending_goes device = goes_one tt refl

-- ---- entries

each_goes : (asks : ℕ → Act) → AllSame asks → (count : ℕ) (device : Device) → ((k : ℕ) → k < count → IsPossible (asks k) device)
    → Goes (each_read asks count) device device
unfolding each_read
each_goes asks same zero device can = goes_none device
each_goes asks same (suc count) device can =
    goes_then (each_read asks count) (asks count ∷ []) (each_goes asks same count device (λ k below. can k (omega (arith, below))))
    (goes_one (can count (omega arith)) (same count device))

-- ---- one database

module _ (device : Device) (rests : IsAtRest device) (database : DatabaseValue) (held : database_of database.head.name device.databases ≡ Some database) where
  abbrev name : List ℕ
  name = database.head.name

  abbrev here : Device
  here = opened_on device name 0x90 0

  named : IsName name
  named = (AllByRecursion-database_of IsBoundedDatabase name device.databases database rests.proper.bounded.databases held).head.name

  can_open : CanOpen device 0 0x90 name
  can_open = record {
    first = refl;
    named = named;
    none_open = rests.closed;
    there = and_some (λ (d : DatabaseValue). (has_bit 0x40 0x90 && is_read_only d.head.attributes) ≡ false) held refl;
  }

  records_go : on_records database ≡ true → Goes (each_read (reading_at 1) (length database.records)) here here
  unfolding IsPossible
  records_go records =
      each_goes (reading_at 1) (at_same 1) (length database.records) here (λ k below. (
        refl,
        and_some (HasRecordAt k) (base_here device rests database held) (record { records = records; there = below }),
      ))

  resources_go : on_resources database ≡ true → Goes (each_read (reading_resource 1) (length database.resources)) here here
  unfolding IsPossible
  resources_go resources =
      each_goes (reading_resource 1) (resource_same 1) (length database.resources) here (λ k below. (
        refl,
        and_some (HasResourceAt k) (base_here device rests database held) (record { resources = resources; there = below }),
      ))

  entries_go : Goes (entry_reads (holds_resources database.head.attributes) 1 (entry_count database)) here here
  entries_go = by (holds_resources database.head.attributes) refl
    where
      by : (b : Bool) → holds_resources database.head.attributes ≡ b
          → Goes (entry_reads b 1 (cond b (length database.resources) (length database.records))) here here
      by true is = resources_go is
      by false is = records_go (ap not is)

  under_goes : Goes (backup_under (holds_resources database.head.attributes) (entry_count database) 1) here here
  unfolding IsPossible
  under_goes =
      let there = ap is_some (base_here device rests database held) in
      let entries = entry_reads (holds_resources database.head.attributes) 1 (entry_count database) in
      goes_then (counting 1 ∷ []) (reading_app 1 ∷ (reading_sort 1 ∷ entries)) (goes_one there (count_same 1 here))
      (goes_then (reading_app 1 ∷ []) (reading_sort 1 ∷ entries) (goes_one (refl, there) (app_same 1 here))
      (goes_then (reading_sort 1 ∷ []) entries (goes_one (refl, there) (sort_same 1 here)) entries_go))

  backup_goes : Goes (backup_of database) device device
  unfolding backup_of IsPossible
  backup_goes =
      let under = backup_under (holds_resources database.head.attributes) (entry_count database) 1 in
      goes_then (opening_to_read name ∷ []) (under ++ closing 1 ∷ []) (goes_one can_open (opens device rests database held))
      (goes_then under (closing 1 ∷ []) under_goes (goes_one refl (closes_does device name 0x90 0 rests.closed)))

-- ---- all of them

backups_go : (device : Device) (kept : List DatabaseValue) → IsAtRest device → AreHeld device.databases kept → Goes (flat_map backup_of kept) device device
backups_go device [] rests held = goes_none device
backups_go device (database ∷ kept) rests held =
    goes_then (backup_of database) (flat_map backup_of kept) (backup_goes device rests database held.0) (backups_go device kept rests held.1)

pub backup-order : (device : Device) (n : ℕ) → IsAtRest device → AreInOrder (take n (backup_acts device)) device
unfolding backup_acts
backup-order device n rests =
    let count : ℕ = max 1 (length device.databases) in
    let backups = flat_map backup_of device.databases in
    let goes = goes_then greeting (listings count ++ (backups ++ ending ∷ [])) (greeting_goes device)
    (goes_then (listings count) (backups ++ ending ∷ []) (listings_go count device)
    (goes_then backups (ending ∷ []) (backups_go device device.databases rests (held_all device.databases rests.proper.sound.names)) (ending_goes device))) in
    order-take n (greeting ++ (listings count ++ (backups ++ ending ∷ []))) device goes.order

-- ---- each request fits into a message, and asks for no id

abbrev pub IsPlain : Act → Type 0
IsPlain one = IsRequest one.asks × AsksNoId one.asks

listings_plain : (count : ℕ) → count ≤ 65536 → AllByRecursion IsPlain (listings count)
unfolding listings
listings_plain zero few = tt
listings_plain (suc count) few =
    all-append IsPlain (listings count) (listing count ∷ []) (listings_plain count (omega (arith, few)))
    ((list_fits count (omega (arith, few)), refl), tt)

each_plain : (asks : ℕ → Act) (count : ℕ) → ((k : ℕ) → k < count → IsPlain (asks k)) → AllByRecursion IsPlain (each_read asks count)
unfolding each_read
each_plain asks zero each = tt
each_plain asks (suc count) each =
    all-append IsPlain (each_read asks count) (asks count ∷ []) (each_plain asks count (λ k below. each k (omega (arith, below))))
    (each count (omega arith), tt)

entries_plain : (b : Bool) (count : ℕ) → count ≤ 65535 → AllByRecursion IsPlain (entry_reads b 1 count)
entries_plain true count few = each_plain (reading_resource 1) count (λ k below. (resource_fits 1 k (lit< tt) (omega (arith, few, below)), refl))
entries_plain false count few = each_plain (reading_at 1) count (λ k below. (at_fits 1 k (lit< tt) (omega (arith, few, below)), refl))

few_of : (b : Bool) (m n : ℕ) → m ≤ 65535 → n ≤ 65535 → cond b m n ≤ 65535
few_of true m n first second = first
few_of false m n first second = second

backup_plain : (database : DatabaseValue) → IsBoundedDatabase database → AllByRecursion IsPlain (backup_of database)
unfolding backup_of
backup_plain database bounded =
    let of_resources = holds_resources database.head.attributes in
    let few = few_of of_resources (length database.resources) (length database.records) bounded.whole.few_resources bounded.whole.few_records in (
      (open_fits 0x90 database.head.name (lit< tt) bounded.head.name, refl),
      all-append IsPlain (backup_under of_resources (entry_count database) 1) (closing 1 ∷ []) (
        (count_fits 1 (lit< tt), refl),
        ((app_fits 1 (lit< tt), refl), ((sort_fits 1 (lit< tt), refl), entries_plain of_resources (entry_count database) few)),
      ) ((close_fits 1 (lit< tt), refl), tt),
    )

backups_plain : (databases : List DatabaseValue) → AllByRecursion IsBoundedDatabase databases → AllByRecursion IsPlain (flat_map backup_of databases)
backups_plain [] bounded = tt
backups_plain (database ∷ databases) bounded =
    all-append IsPlain (backup_of database) (flat_map backup_of databases) (backup_plain database bounded.0) (backups_plain databases bounded.1)

pub backup_session_plain : (device : Device) → IsAtRest device → AllByRecursion IsPlain (backup_acts device)
unfolding backup_acts
backup_session_plain device rests =
    let count : ℕ = max 1 (length device.databases) in
    let backups = flat_map backup_of device.databases in
    let few = rests.proper.sound.few in
    all-append IsPlain greeting (listings count ++ (backups ++ ending ∷ [])) ((user_fits, refl), ((begin_fits, refl), tt))
    (all-append IsPlain (listings count) (backups ++ ending ∷ []) (listings_plain count (omega (arith, few)))
    (all-append IsPlain backups (ending ∷ []) (backups_plain device.databases rests.proper.bounded.databases) ((end_fits, refl), tt)))
