-- At each moment of an install the database of its name is as it was, or gone, or begun anew.
use Rattle.std.proofs.lemmas.List.{append-nil}
use Rattle.std.proofs.Common.{arith, ◌≡◌, ◌∙◌, ◌≤◌, ◌+◌, ap, inl, inr, refl, sym, subst, ℕ, zero, suc, not, Bool, true, false, cond, List, [], ◌∷◌, ◌++◌, map, take, length}
use Rattle.std.proofs.Common.{append_assoc, length-append}
use Rattle.std.specs.Prelude.{Option, Some, None}
use Rattle.std.specs.List.{AllByRecursion, list_any}
use Rattle.pdb_values.specs.Databases.{DatabaseValue}
use Rattle.pdb_values.specs.Heads.{holds_resources, is_read_only}
use Rattle.pdb_values.specs.NamedDatabases.{NamesRise, database_of, with_put}
use Rattle.pdb_values.specs.Resources.{with_bytes}
use Rattle.pdb_values.specs.declared.head.DbHead.{DbHead}
use Rattle.pdb_values.specs.declared.record.Record.{Record}
use Rattle.pdb_values.specs.declared.resource.Resource.{Resource}
use Rattle.palm_device.specs.Blocks.{empty_database}
use Rattle.palm_device.specs.Bounds.{IsBoundedDatabase, IsBoundedRecord}
use Rattle.palm_device.specs.Devices.{Device}
use Rattle.palm_device.specs.Records.{reset_flags, with_records}
use Rattle.palm_device.specs.Resources as resources
use Rattle.palm_device.specs.Resources.{with_resources}
use Rattle.dlp_commands.specs.Holding.{on_records, on_resources}
use Rattle.desktop_session.specs.Acts.{Act, acted}
use Rattle.desktop_session.specs.Requests.{closing, deleting, making, resetting, writing_app, writing_sort}
use Rattle.desktop_session.specs.Tellings.{device_after}
use Rattle.session_parts.specs.Rests.{IsAtRest}
use Rattle.install_backup.specs.Installed.{installed, installed_block, installed_head, installed_records, untouched}
use Rattle.install_backup.specs.InstallActs as acts
use Rattle.install_backup.specs.InstallActs.{entry_acts, fill_acts, install_one}
use Rattle.install_backup.specs.InstallFronts.{IsBegun, IsUnderway}
use Rattle.install_backup.specs.Puts.{put_each}
use Rattle.install_backup.specs.Rooms.{has_room}
use Rattle.install_backup.proofs.ArriveLaws.{Goes, Writable, app_goes, filled, found, sort_goes}
use Rattle.install_backup.proofs.FillLaws.{AreNew, made, new_from_ids, put_goes, put_longer, puts_go, reset_goes, reset_made, resource_goes}
use Rattle.install_backup.proofs.GoneLaws.{with_databases}
use Rattle.install_backup.proofs.InstalledLaws.{holds-installed}
use Rattle.install_backup.proofs.OthersLaws.{IsMine, Within, acts_one}
use Rattle.install_backup.proofs.RecordLaws.{installed-bounded, installed-few, installed-ids, installed-live, installed-none_deleted, installed-untouched}
use Rattle.install_backup.proofs.ResourceLaws.{put_each-installed}
use Rattle.install_backup.proofs.WholeLaws.{blocked, close_goes, delete_goes, fill_goes, gone, left, make_goes, may_write}
use Rattle.desktop_session.proofs.GrowLaws.{take_whole}

-- ---- each device on the way

abbrev pub Along : (Device → Type 0) → List Act → Device → Type 0
Along P [] device = P device
Along P (one ∷ acts) device = P device × Along P acts (acted one device).1

along_then : (P : Device → Type 0) (xs ys : List Act) (old : Device) {mid : Device} → Along P xs old → device_after xs old ≡ mid → Along P ys mid
    → Along P (xs ++ ys) old
along_then P [] ys old first is second = subst (Along P ys) (sym is) second
along_then P (x ∷ xs) ys old first is second = (first.0, along_then P xs ys (acted x old).1 first.1 is second)

along_one : (P : Device → Type 0) {one : Act} {old new : Device} → P old → Goes (one ∷ []) old new → P new → Along P (one ∷ []) old
along_one P before goes after = (before, subst P (sym goes.after) after)

along_first : (P : Device → Type 0) (acts : List Act) (old : Device) → Along P acts old → P old
along_first P [] old along = along
along_first P (one ∷ acts) old along = along.0

pub along_within : (mine : List ℕ → Bool) (P : Device → Type 0) (count : ℕ) (acts : List Act) (old new : Device) → AllByRecursion (IsMine mine) acts
    → Along P acts old → Within mine count acts old new → P new
along_within mine P zero acts old new are along ran = subst P (sym ran.1) (along_first P acts old along)
along_within mine P (suc count) [] old new are along ran = subst P (sym ran.1) along
along_within mine P (suc count) (one ∷ acts) old new are along ([], ran) = subst P (sym ran) along.0
along_within mine P (suc count) (one ∷ acts) old new are along (reply ∷ replies, ran) =
    along_within mine P count acts ran.0 new are.1 (subst (Along P acts) (acts_one mine one old ran.0 reply are.0 ran.1) along.1) (replies, ran.2)

-- ---- entries that are written

module _ (device : Device) (rise : NamesRise device.databases) (P : Device → Type 0) where
  app_along : (x : DatabaseValue) (block : Option (List ℕ)) → Writable device rise x → x.app ≡ None → P (filled device x)
      → P (filled device (record x { app = installed_block block })) → Along P (acts.block_acts writing_app 1 block) (filled device x)
  app_along x None may none before after = before
  app_along x (Some []) may none before after = before
  app_along x (Some (byte ∷ bytes)) may none before after = along_one P before (app_goes device rise x (Some (byte ∷ bytes)) may none) after

  sort_along : (x : DatabaseValue) (block : Option (List ℕ)) → Writable device rise x → x.sort ≡ None → P (filled device x)
      → P (filled device (record x { sort = installed_block block })) → Along P (acts.block_acts writing_sort 1 block) (filled device x)
  sort_along x None may none before after = before
  sort_along x (Some []) may none before after = before
  sort_along x (Some (byte ∷ bytes)) may none before after = along_one P before (sort_goes device rise x (Some (byte ∷ bytes)) may none) after

  puts_along : (x : DatabaseValue) (items : List Record) → Writable device rise x → on_records x ≡ true → AllByRecursion IsBoundedRecord items
      → AreNew x.records items → length x.records + length items ≤ 65535
      → ((n : ℕ) → P (filled device (with_records (x.records ++ map made (take n items)) x))) → Along P (map (acts.put_record 1) items) (filled device x)
  puts_along x [] may holds bounded new few each =
      subst (λ (rs : List Record). P (filled device (with_records rs x))) (append-nil x.records) (each 0)
  puts_along x (item ∷ items) may holds bounded new few each =
      let more = length-append x.records (made item ∷ []) in
      let now = with_records (x.records ++ made item ∷ []) x in
      let goes = put_goes device rise x item may holds new.0 bounded.0 new.1 (omega arith) in (
        subst (λ (rs : List Record). P (filled device (with_records rs x))) (append-nil x.records) (each 0),
        subst (Along P (map (acts.put_record 1) items)) (sym goes.after)
            (puts_along now items may holds bounded.1 new.2 (omega (arith, more, few))
            (λ n. subst (λ (rs : List Record). P (filled device (with_records rs x)))
            (sym (append_assoc x.records (made item ∷ []) (map made (take n items)))) (each (suc n)))),
      )

  resources_along : (x : DatabaseValue) (items : List Resource) → Writable device rise x → on_resources x ≡ true
      → length x.resources + length items ≤ 65535
      → ((n : ℕ) → P (filled device (with_resources (put_each (take n items) x.resources) x))) → Along P (map (acts.put_resource 1) items) (filled device x)
  unfolding put_each
  resources_along x [] may holds few each = each 0
  resources_along x (item ∷ items) may holds few each =
      let put = resources.put_resource item.kind.0 item.id item.bytes x.resources in
      let more = put_longer (resources.is_resource item.kind.0 item.id) (with_bytes item.bytes)
      (resources.new_resource item.kind.0 item.id item.bytes) x.resources in
      let goes = resource_goes device rise x item may holds (omega arith) in (
        each 0,
        subst (Along P (map (acts.put_resource 1) items)) (sym goes.after)
            (resources_along (with_resources put x) items may holds (omega (arith, more, few)) (λ n. each (suc n))),
      )

-- ---- what is begun

reset_twice : (items : List Record) → reset_flags (reset_flags items) ≡ reset_flags items
reset_twice [] = refl
reset_twice (item ∷ items) = ap (λ (rs : List Record). (record item { dirty = false }) ∷ rs) (reset_twice items)

reset_take : (n : ℕ) (items : List Record) → map untouched items ≡ items → list_any (λ (x : Record). x.deleted) items ≡ false
    → reset_flags (map made (take n items)) ≡ take n items
reset_take zero items same live = refl
reset_take (suc n) [] same live = refl
reset_take (suc n) (x ∷ items) same live = grind (arith, reset_take n items, same)

module _ (device : Device) (rests : IsAtRest device) (database : DatabaseValue) (bounded : IsBoundedDatabase database)
    (room : has_room database.head.name device.databases ≡ true) (may : is_read_only database.head.attributes ≡ false) where
  abbrev rise : NamesRise device.databases
  rise = rests.proper.sound.names

  abbrev items : List Record
  items = installed_records database.records

  abbrev pub Underway : Device → Type 0
  Underway now = IsUnderway database (database_of database.head.name device.databases) (database_of database.head.name now.databases)

  begun_here : (x : DatabaseValue) → IsBegun database x
      → IsUnderway database (database_of database.head.name device.databases) (database_of database.head.name (with_put x device.databases))
  begun_here x begun =
      inr (inr (x, ap (λ (h : DbHead). database_of h.name (with_put x device.databases)) (sym begun.head) ∙ found x device.databases, begun))

  live : list_any (λ (x : Record). x.deleted) items ≡ false
  live = installed-none_deleted items (installed-live database.records)

  -- records as they are put, and once they count as unchanged
  some_records : (n : ℕ) → reset_flags (map made (take n items)) ≡ take n items
  some_records n = reset_take n items (installed-untouched database.records) live

  all_records : reset_flags items ≡ take (length items) items
  all_records =
      ap reset_flags (sym (reset_made items (installed-untouched database.records) live)) ∙ reset_twice (map made items)
      ∙ reset_made items (installed-untouched database.records) live ∙ sym (take_whole items (length items) (omega arith))

  all_reset : reset_flags (reset_flags (map made items)) ≡ take (length items) items
  all_reset = ap reset_flags (reset_made items (installed-untouched database.records) live) ∙ all_records

  begun_records : (rs : List Record) (n : ℕ) → reset_flags rs ≡ take n items → IsBegun database (with_records rs (blocked database))
  unfolding put_each
  begun_records rs n is = record { head = refl; app = inr refl; sort = inr refl; records = (n, is); resources = (0, refl) }

  begun_resources : (n : ℕ) → IsBegun database (with_resources (put_each (take n database.resources) []) (blocked database))
  begun_resources n = record { head = refl; app = inr refl; sort = inr refl; records = (0, refl); resources = (n, refl) }

  abbrev first : DatabaseValue
  first = empty_database (installed_head database.head)

  abbrev second : DatabaseValue
  second = record first { app = installed_block database.app }

  begun_first : IsBegun database first
  unfolding put_each
  begun_first = record { head = refl; app = inl refl; sort = inl refl; records = (0, refl); resources = (0, refl) }

  begun_second : IsBegun database second
  unfolding put_each
  begun_second = record { head = refl; app = inr refl; sort = inl refl; records = (0, refl); resources = (0, refl) }

  begun_blocked : IsBegun database (blocked database)
  unfolding put_each
  begun_blocked = record { head = refl; app = inr refl; sort = inr refl; records = (0, refl); resources = (0, refl) }

  begun_whole : IsBegun database (installed database)
  unfolding installed
  begun_whole = record {
    head = refl;
    app = inr refl;
    sort = inr refl;
    records = (length items, all_records);
    resources = (
      length database.resources,
      sym (put_each-installed database.resources)
          ∙ ap (λ (rs : List Resource). put_each rs []) (sym (take_whole database.resources (length database.resources) (omega arith))),
    );
  }

  -- ---- along the install

  writes_here : is_read_only (installed_head database.head).attributes ≡ false
  writes_here = may_write device rise database bounded may

  entries_along : Along Underway (entry_acts 1 database) (filled device (blocked database))
  unfolding entry_acts
  entries_along = by (holds_resources database.head.attributes) refl
    where
      by : (b : Bool) → holds_resources database.head.attributes ≡ b
          → Along Underway (cond b (map (acts.put_resource 1) database.resources) (acts.record_acts 1 items)) (filled device (blocked database))
      by true is =
          let few = bounded.whole.few_resources in
          resources_along device rise Underway (blocked database) database.resources writes_here (holds-installed database.head ∙ is) (omega (arith, few))
          (λ n. begun_here (with_resources (put_each (take n database.resources) []) (blocked database)) (begun_resources n))
      by false is =
          let holds : on_records (blocked database) ≡ true = ap not (holds-installed database.head ∙ is) in
          let fewer = installed-few database.records in
          let few = bounded.whole.few_records in
          let small = installed-bounded database.records bounded.whole.few_records bounded.records in
          let new : AreNew [] items = new_from_ids items (installed-ids database.records) in
          let put = with_records (map made items) (blocked database) in
          along_then Underway (map (acts.put_record 1) items) (resetting 1 ∷ []) (filled device (blocked database))
          (puts_along device rise Underway (blocked database) items writes_here holds small new (omega (arith, fewer, few))
          (λ n. begun_here (with_records (map made (take n items)) (blocked database)) (begun_records (map made (take n items)) n (some_records n))))
          (puts_go device rise (blocked database) items writes_here holds small new (omega (arith, fewer, few))).after
          (along_one Underway (begun_here put (begun_records (map made items) (length items)
          (reset_made items (installed-untouched database.records) live ∙ sym (take_whole items (length items) (omega arith)))))
          (reset_goes device rise put writes_here holds)
          (begun_here (with_records (reset_flags (map made items)) (blocked database))
          (begun_records (reset_flags (map made items)) (length items) all_reset)))

  fill_along : Along Underway (fill_acts database 1 []) (filled device first)
  unfolding fill_acts
  fill_along =
      along_then Underway (acts.block_acts writing_app 1 database.app) (acts.block_acts writing_sort 1 database.sort ++ entry_acts 1 database)
      (filled device first) (app_along device rise Underway first database.app writes_here refl (begun_here first begun_first) (begun_here second begun_second))
      (app_goes device rise first database.app writes_here refl).after
      (along_then Underway (acts.block_acts writing_sort 1 database.sort) (entry_acts 1 database) (filled device second)
      (sort_along device rise Underway second database.sort writes_here refl (begun_here second begun_second)
      (begun_here (blocked database) begun_blocked))
      (sort_goes device rise second database.sort writes_here refl).after entries_along)

  pub install_along : Along Underway (install_one database 1 []) device
  unfolding install_one
  install_along =
      let none : Underway (with_databases (left device rests database bounded room) device) = inr (inl (gone device rests database bounded room)) in
      along_then Underway (deleting database.head.name ∷ []) (making (installed_head database.head) ∷ (fill_acts database 1 [] ++ closing 1 ∷ []))
      device (along_one Underway (inl refl) (delete_goes device rests database bounded room) none) (delete_goes device rests database bounded room).after
      (along_then Underway (making (installed_head database.head) ∷ []) (fill_acts database 1 [] ++ closing 1 ∷ [])
      (with_databases (left device rests database bounded room) device)
      (along_one Underway none (make_goes device rests database bounded room) (begun_here first begun_first))
      (make_goes device rests database bounded room).after
      (along_then Underway (fill_acts database 1 []) (closing 1 ∷ []) (filled device first) fill_along (fill_goes device rise database bounded may).after
      (along_one Underway (begun_here (installed database) begun_whole) (close_goes device rests database bounded room (installed database))
      (begun_here (installed database) begun_whole))))
