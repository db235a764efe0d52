-- A session keeps its order up to its first write: what may be asked of a handheld, at each turn.
use Rattle.std.proofs.Common.{◌≡◌, ◌∙◌, ◌≤◌, ◌<◌, ◌+◌, ◌*◌, refl, ap, sym, subst, ℕ, zero, suc, Bool, true, false, List, [], ◌∷◌, ◌++◌, length, take}
use Rattle.std.proofs.Common.{if◌then◌else◌, arith}
use Rattle.std.specs.Prelude.{Option, Some, None, IsSomeAnd, filter, flat_map, is_none, is_some, max, replicate}
use Rattle.std.specs.Option.{option_map}
use Rattle.pdb_values.specs.Databases.{DatabaseValue}
use Rattle.pdb_values.specs.NamedDatabases.{database_of}
use Rattle.pdb_values.specs.Names.{IsName}
use Rattle.pdb_values.specs.declared.record.Record.{Record}
use Rattle.pdb_values.specs.declared.user.UserInfo.{UserInfo}
use Rattle.palm_device.specs.Devices.{Device}
use Rattle.palm_device.specs.Handles.{Base, base_at, just_opened}
use Rattle.palm_device.specs.Heads.{is_read_only}
use Rattle.palm_device.specs.Records.{is_changed}
use Rattle.palm_device.specs.declared.opened.Opened.{Opened}
use Rattle.conduit_rules.specs.ById.{each_id, id_bound, ids_below}
use Rattle.conduit_rules.specs.States.{BaseState, base_at as row_at, first, gone, no_base, row}
use Rattle.dlp_commands.specs.Holding.{on_records}
use Rattle.dlp_commands.specs.Reached.{with_next}
use Rattle.desktop_session.specs.Acts.{Act, acted}
use Rattle.desktop_session.specs.Lists.{id_listings, id_parts, listings}
use Rattle.desktop_session.specs.Orders.{AreInOrder, HasRecordAt, HasRecords, IsPossible}
use Rattle.desktop_session.specs.Requests.{beginning, closing, counting, listing, listing_ids, opening, reading_at, reading_next, reading_of}
use Rattle.desktop_session.specs.Tellings.{device_after}
use Rattle.mirrors.specs.Reads as slow
use Rattle.session_plan.specs.Choosing.{base_rows, is_fast}
use Rattle.session_plan.specs.Merges.{handheld_before}
use Rattle.mirrors.specs.FastReads.{asks_of, fast_asks, other_reads}
use Rattle.sync_session.specs.Reads.{opened, read_acts, reads}
use Rattle.sync_session.specs.Sessions.{before_writes, listing_all}
use Rattle.session_plan.specs.Skips.{active}
use Rattle.session_plan.specs.Tasks.{Meeting, Task, records_of}
use Rattle.sync_session.proofs.QuietLaws.{quiet-before_writes}
use Rattle.front_laws.specs.Given.{GetFreeIds}
use Rattle.front_laws.specs.Sound.{IsSoundMeeting}
use Rattle.front_laws.proofs.AlongLaws.{MayAct, quiet-after, quiet-all}
use Rattle.front_laws.proofs.EachLaws.{AreReady}
use Rattle.front_laws.proofs.MergeActs.{closed_device}
use Rattle.front_laws.proofs.OpenActs.{KeepsOpen, all_closed, at_same, begin_same, count_same, ids_same, keeps-append, keeps-next, keeps-nil, keeps-same}
use Rattle.front_laws.proofs.OpenActs.{lists_same, of_same, one_open, open_does, user_same}
use Rattle.front_laws.proofs.PhaseActs.{Stand, read_one}
use Rattle.front_laws.proofs.ReadyLaws.{ready-all, stand-all}
use Rattle.front_laws.proofs.TaskActs.{IsReady, bare-records, bare-writable, bare_old}

-- each act is possible at its turn, as long as new records get free ids
abbrev pub Orderly : List Act → Device → Type 0
Orderly [] device = Unit {0}
Orderly (act ∷ acts) device = IsPossible act device × (MayAct act device → Orderly acts (acted act device).1)

pub orderly-append : (xs ys : List Act) (device : Device) → Orderly xs device → (GetFreeIds xs device → Orderly ys (device_after xs device))
    → Orderly (xs ++ ys) device
orderly-append [] ys device first second = second tt
orderly-append (x ∷ xs) ys device first second = grind (arith, orderly-append xs ys (acted x device).1)

pub orderly-take : (n : ℕ) (acts : List Act) (device : Device) → Orderly acts device → GetFreeIds (take n acts) device → AreInOrder (take n acts) device
orderly-take zero acts device order free = tt
orderly-take (suc n) [] device order free = tt
orderly-take (suc n) (x ∷ xs) device order free = (order.0, orderly-take n xs (acted x device).1 (order.1 free.0) free.1)

free-take : (n : ℕ) (acts : List Act) (device : Device) → GetFreeIds acts device → GetFreeIds (take n acts) device
free-take zero acts device free = tt
free-take (suc n) [] device free = tt
free-take (suc n) (x ∷ xs) device free = (free.0, free-take n xs (acted x device).1 free.1)

-- ---- while a database is open

pub and_some : {A : Type 0} (P : A → Type 0) {o : Option A} {x : A} → o ≡ Some x → P x → IsSomeAnd o P
and_some P is has = subst (λ found. IsSomeAnd found P) (sym is) has

-- a database of records is open
abbrev pub is_base : Opened → DatabaseValue → Base
is_base o d = record { opened = o; database = d }

base_is : (o : Opened) (databases : List DatabaseValue) (user : UserInfo) {d : DatabaseValue} → database_of o.name databases ≡ Some d
    → base_at (one_open o databases user) 1 ≡ Some (is_base o d)
base_is o databases user here = ap (option_map (is_base o)) here

-- what is read of it, which stays open
unfoldable pub Reads : DatabaseValue → List Act → Type 0
Reads d acts = KeepsOpen acts
    × ((o : Opened) (databases : List DatabaseValue) (user : UserInfo) → database_of o.name databases ≡ Some d → Orderly acts (one_open o databases user))

reads-nil : (d : DatabaseValue) → Reads d []
unfolding Reads
reads-nil d = (keeps-nil, λ o databases user here. tt)

reads-one : (d : DatabaseValue) (act : Act) → KeepsOpen (act ∷ [])
    → ((o : Opened) (device : Device) → base_at device 1 ≡ Some (is_base o d) → IsPossible act device) → Reads d (act ∷ [])
unfolding Reads
reads-one d act keeps can = (keeps, λ o databases user here. (can o (one_open o databases user) (base_is o databases user here), λ may. tt))

reads-append : (d : DatabaseValue) (xs ys : List Act) → Reads d xs → Reads d ys → Reads d (xs ++ ys)
unfolding Reads KeepsOpen
reads-append d xs ys first second = (
  keeps-append xs ys first.0 second.0,
  λ o databases user here.
      let keeps = first.0 o databases user in
      orderly-append xs ys (one_open o databases user) (first.1 o databases user here)
      (λ free. subst (Orderly ys) (sym keeps.1) (second.1 (with_next keeps.0 o) databases user here)),
)

reads-count : (d : DatabaseValue) → Reads d (counting 1 ∷ [])
unfolding IsPossible
reads-count d = reads-one d (counting 1) (keeps-same (counting 1) count_same) (λ o device base. ap is_some base)

module _ (d : DatabaseValue) (records : on_records d ≡ true) where
  reads-next : Reads d (reading_next 1 ∷ [])
  unfolding IsPossible
  reads-next = reads-one d (reading_next 1) keeps-next (λ o device base. and_some HasRecords base records)

  reads-of : (id : ℕ) → Reads d (reading_of 1 id ∷ [])
  unfolding IsPossible
  reads-of id =
      reads-one d (reading_of 1 id) (keeps-same (reading_of 1 id) (of_same id)) (λ o device base. (refl, and_some HasRecords base records))

  reads-at : (index : ℕ) → index < length d.records → Reads d (reading_at 1 index ∷ [])
  unfolding IsPossible
  reads-at index there =
      reads-one d (reading_at 1 index) (keeps-same (reading_at 1 index) (at_same index)) (λ o device base. (
        refl,
        and_some (HasRecordAt index) base (record { records = records; there = there }),
      ))

  reads-ids : (start : ℕ) → Reads d (listing_ids 1 start ∷ [])
  unfolding IsPossible
  reads-ids start =
      reads-one d (listing_ids 1 start) (keeps-same (listing_ids 1 start) (ids_same start)) (λ o device base. and_some HasRecords base records)

  -- ---- one database

  reads-nexts : (n : ℕ) → Reads d (replicate n (reading_next 1))
  reads-nexts zero = reads-nil d
  reads-nexts (suc n) = reads-append d (reading_next 1 ∷ []) (replicate n (reading_next 1)) reads-next (reads-nexts n)

reads-flat_map : {A : Type 0} (d : DatabaseValue) (f : A → List Act) (xs : List A) → ((x : A) → Reads d (f x)) → Reads d (flat_map f xs)
reads-flat_map d f [] each = reads-nil d
reads-flat_map d f (x ∷ xs) each = reads-append d (f x) (flat_map f xs) (each x) (reads-flat_map d f xs each)

module _ (d : DatabaseValue) (records : on_records d ≡ true) where
  reads-listings : (n : ℕ) → Reads d (id_listings 1 n)
  unfolding id_listings
  reads-listings zero = reads-nil d
  reads-listings (suc n) =
      reads-append d (id_listings 1 n) (listing_ids 1 (8000 * n) ∷ []) (reads-listings n) (reads-ids d records (8000 * n))

  reads-each : (n : ℕ) → n ≤ length d.records → Reads d (slow.reads 1 n)
  unfolding slow.reads
  reads-each zero few = reads-nil d
  reads-each (suc n) few =
      reads-append d (slow.reads 1 n) (reading_at 1 n ∷ []) (reads-each n (omega (arith, few))) (reads-at d records n (omega (arith, few)))

  reads-slow : Reads d (slow.slow_reads 1 (length d.records))
  reads-slow =
      reads-append d (counting 1 ∷ []) (slow.reads 1 (length d.records)) (reads-count d) (reads-each (length d.records) (omega arith))

  reads-asks_of : (base : List Record) (r : Option Record) → Reads d (asks_of base 1 r)
  reads-asks_of base None = reads-nil d
  reads-asks_of base (Some r) = by (is_changed r) (row_at base false r.id)
    where
      by : (changed : Bool) (there : BaseState) → Reads d (if changed then [] else other_reads 1 r.id there)
      by true there = reads-nil d
      by false (row content) = reads-nil d
      by false no_base = reads-of d records r.id
      by false (gone content) = reads-of d records r.id

  reads-fast : (base : List Record) → Reads d (fast_asks base 1 d.records)
  reads-fast base =
      let ids = id_listings 1 (id_parts (length d.records)) in
      let nexts = replicate (suc (length (filter is_changed d.records))) (reading_next 1) in
      let others = each_id (λ i. asks_of base 1 (first i d.records)) in
      reads-append d (counting 1 ∷ []) (ids ++ (nexts ++ others)) (reads-count d)
      (reads-append d ids (nexts ++ others) (reads-listings (id_parts (length d.records)))
      (reads-append d nexts others (reads-nexts d records (suc (length (filter is_changed d.records))))
      (reads-flat_map d (λ i. asks_of base 1 (first i d.records)) (ids_below id_bound) (λ i. reads-asks_of base (first i d.records)))))

  reads-task : (m : Meeting) (t : Task) → Reads d (if is_fast m t then fast_asks (base_rows t) 1 d.records else slow.slow_reads 1 (length d.records))
  reads-task m t = by (is_fast m t)
    where
      by : (fast : Bool) → Reads d (if fast then fast_asks (base_rows t) 1 d.records else slow.slow_reads 1 (length d.records))
      by true = reads-fast (base_rows t)
      by false = reads-slow

-- ---- a whole stretch

pub close_possible : (o : Opened) (databases : List DatabaseValue) (user : UserInfo) → Orderly (closing 1 ∷ []) (one_open o databases user)
unfolding IsPossible
close_possible o databases user = (refl, λ may. tt)

pub open_possible : (databases : List DatabaseValue) (user : UserInfo) {name : List ℕ} {d : DatabaseValue} → IsName name
    → database_of name databases ≡ Some d → is_read_only d.head.attributes ≡ false → IsPossible (opening name) (all_closed databases user)
unfolding IsPossible
open_possible databases user named here writable = grind (arith, false)

-- what is open in the end
abbrev pub EndsOpen : Device → UserInfo → Type 0
EndsOpen device user = (p : Opened) × (after : List DatabaseValue) × (device ≡ one_open p after user)

-- what is done while a database is open
module _ (databases : List DatabaseValue) (user : UserInfo) where
  pub orderly-around : (first : Act) (acts : List Act) (old : Device) (o : Opened) → (acted first old).1 ≡ one_open o databases user
      → IsPossible first old → Orderly acts (one_open o databases user)
      → (GetFreeIds acts (one_open o databases user) → EndsOpen (device_after acts (one_open o databases user)) user)
      → Orderly (first ∷ (acts ++ closing 1 ∷ [])) old
  orderly-around first acts old o opens possible order ends = (
    possible,
    λ may. subst (Orderly (acts ++ closing 1 ∷ [])) (sym opens) (orderly-append acts (closing 1 ∷ []) (one_open o databases user) order
        (λ free. let end = ends free in subst (Orderly (closing 1 ∷ [])) (sym end.2) (close_possible end.0 end.1 user))),
  )

  opened_orderly : (acts : List Act) {name : List ℕ} {d : DatabaseValue} → Reads d acts → IsName name → database_of name databases ≡ Some d
      → is_read_only d.head.attributes ≡ false → Orderly (opened name acts) (all_closed databases user)
  unfolding Reads KeepsOpen
  opened_orderly acts {name} both named here writable =
      let o = just_opened name 0xD0 in
      let keeps = both.0 o databases user in
      orderly-around (opening name) acts (all_closed databases user) o (open_does databases user named here writable)
      (open_possible databases user named here writable) (both.1 o databases user here) (λ free. (with_next keeps.0 o, databases, keeps.1))

  -- ---- the reading

  read_orderly : (m : Meeting) (t : Task) → IsReady m t → database_of t.name databases ≡ t.handheld
      → Orderly (read_acts m t) (all_closed databases user)
  unfolding read_acts
  read_orderly m t is here = by t.handheld refl
    where
      by : (h : Option DatabaseValue) → t.handheld ≡ h → Orderly (if is_none h then [] else opened t.name (reads m t)) (all_closed databases user)
      by None none = tt
      by (Some d) old =
          let bare = bare_old is old in
          let records : on_records d ≡ true = bare-records is bare in
          let own : d.records ≡ records_of t.handheld = sym (ap records_of old) in
          opened_orderly (reads m t)
          (subst (λ (rs : List Record). Reads d (if is_fast m t then fast_asks (base_rows t) 1 rs else slow.slow_reads 1 (length rs))) own
          (reads-task d records m t)) is.named (here ∙ old) (bare-writable is bare)

  reading_orderly : (m : Meeting) (ts : List Task) → AreReady m ts → Stand ts databases
      → Orderly (flat_map (read_acts m) ts) (all_closed databases user)
  reading_orderly m [] ready stand = tt
  reading_orderly m (t ∷ ts) ready stand =
      orderly-append (read_acts m t) (flat_map (read_acts m) ts) (all_closed databases user) (read_orderly m t ready.0 stand.0)
      (λ free. subst (Orderly (flat_map (read_acts m) ts)) (sym (read_one m t ready.0 databases user stand.0)) (reading_orderly m ts ready.1 stand.1))

lists_orderly : (device : Device) (count : ℕ) → Orderly (listings count) device
unfolding listings IsPossible
lists_orderly device zero = tt
lists_orderly device (suc count) =
    orderly-append (listings count) (listing count ∷ []) device (lists_orderly device count) (λ free. ((refl, refl), λ may. tt))

-- ---- up to the first write

pub before_orderly : (m : Meeting) → IsSoundMeeting m → Orderly (before_writes m) m.device
unfolding before_writes listing_all IsPossible
before_orderly m sound =
    let count = max 1 (length m.device.databases) in
    let reading = flat_map (read_acts m) (active m) in
    let closed = closed_device sound in
    let all = orderly-append (listings count) reading m.device (lists_orderly m.device count)
    (λ free. subst (Orderly reading) (sym (lists_same m.device count ∙ closed))
    (reading_orderly m.device.databases m.device.user m (active m) (ready-all sound) (stand-all m))) in (
      tt,
      λ may. (
        tt,
        λ may_begin. subst (Orderly (listings count ++ reading))
            (sym (ap (λ (d : Device). (acted beginning d).1) (user_same m.device) ∙ begin_same m.device)) all,
      ),
    )

pub read-order : (m : Meeting) (n : ℕ) → IsSoundMeeting m → AreInOrder (take n (before_writes m)) m.device
read-order m n sound =
    let free = (quiet-after (before_writes m) m.device (quiet-all (before_writes m) (quiet-before_writes m))).0 in
    orderly-take n (before_writes m) m.device (before_orderly m sound) (free-take n (before_writes m) m.device free)
