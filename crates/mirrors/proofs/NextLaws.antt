-- The changed records of an open database: a device lends each of them, in order.
use Rattle.std.proofs.Common.{◌≡◌, ◌∙◌, ◌<◌, ◌+◌, ◌^◌, refl, ap, sym, subst, ℕ, zero, suc, Bool, true, false, cond, List, [], ◌∷◌, length, map}
use Rattle.std.proofs.Common.{drop, arith, rules}
use Rattle.std.specs.Prelude.{Option, Some, None, option_and_then, position, replicate, slice_get, slice_set, filter}
use Rattle.std.specs.Option.{option_map}
use Rattle.pdb_values.specs.Databases.{DatabaseValue}
use Rattle.pdb_values.specs.NamedDatabases.{database_of}
use Rattle.pdb_values.specs.declared.record.Record.{Record}
use Rattle.pdb_values.proofs.PlaceLaws.{position-cons}
use Rattle.dlp_replies.specs.ReplyReading.{reply_at}
use Rattle.dlp_replies.specs.ReplyValues as reply
use Rattle.palm_device.specs.Devices.{Device}
use Rattle.palm_device.specs.Handles.{Base, base_at, base_of, joined, opened_at, with_handle}
use Rattle.palm_device.specs.Records.{is_changed, next_changed}
use Rattle.palm_device.specs.declared.opened.Opened.{Opened}
use Rattle.dlp_commands.specs.Holding.{on_records}
use Rattle.dlp_commands.specs.Reached.{with_index, with_next}
use Rattle.conduit_rules.specs.Views.{slow_seen}
use Rattle.conduit_rules.specs.declared.view.Seen.{Seen}
use Rattle.desktop_session.specs.Acts.{acted}
use Rattle.desktop_session.specs.Requests.{reading_next}
use Rattle.desktop_session.specs.Tellings.{IsTellable, device_after, told}
use Rattle.desktop_session.proofs.LentLaws.{lent_next, found_at}
use Rattle.desktop_session.proofs.RequestFits.{next_fits}
use Rattle.desktop_session.proofs.RowLaws.{next_row, no_next_row}
use Rattle.desktop_session.proofs.TellLaws.{act_sayable, acted_proper, acted_reads}
use Rattle.mirrors.proofs.EntryLaws.{lent_seen}
use Rattle.mirrors.proofs.ShownLaws.{lent_is_seen}
use Rattle.mirrors.specs.FastReads.{changed_reads, changed_seen, next_seen}
use Rattle.desktop_session.proofs.OpenLaws.{opened_suc, with_suc}

-- ---- lists

pub record Splits {A : Type 0} (test : A → Bool) (xs : List A) (p : ℕ) : Type 0 where
  pub item : A
  pub there : slice_get xs p ≡ Some item
  pub kept : filter test xs ≡ item ∷ filter test (drop (suc p) xs)

splits_on : {A : Type 0} {test : A → Bool} {x : A} {xs : List A} {p : ℕ} → ((q : ℕ) → position test xs ≡ Some q → Splits test xs q) → (b : Bool) → test x ≡ b
    → (o : Option ℕ) → position test xs ≡ o → cond b (Some 0) (option_map (λ place. suc place) o) ≡ Some p → Splits test (x ∷ xs) p
splits_on {test} {x} {xs} {p} later true this o at is =
    let same : 0 ≡ p = cc in
    rw (← same) (record { item = x; there = refl; kept = rw this refl })
splits_on later false other None at is = cc
splits_on {test} {x} {xs} {p} later false other (Some q) at is =
    let rest = later q at in
    let same : suc q ≡ p = cc in
    rw (← same) (record { item = rest.item; there = rest.there; kept = rw other rest.kept })

splits : {A : Type 0} (test : A → Bool) (xs : List A) {p : ℕ} → position test xs ≡ Some p → Splits test xs p
splits test [] is = cc
splits test (x ∷ xs) is =
    splits_on (λ q at. splits test xs at) (test x) refl (position test xs) refl (sym (position-cons test x xs) ∙ is)

none_on : {A : Type 0} (test : A → Bool) (x : A) (xs : List A) → (position test xs ≡ None → filter test xs ≡ []) → (b : Bool)
    → test x ≡ b → (o : Option ℕ) → position test xs ≡ o → cond b (Some 0) (option_map (λ place. suc place) o) ≡ None → filter test (x ∷ xs) ≡ []
none_on test x xs later b other o at is = search (rules)

none_kept : {A : Type 0} (test : A → Bool) (xs : List A) → position test xs ≡ None → filter test xs ≡ []
none_kept test [] is = refl
none_kept test (x ∷ xs) is = none_on test x xs (λ at. none_kept test xs at) (test x) refl (position test xs) refl (sym (position-cons test x xs) ∙ is)

get_nil : {A : Type 0} (k : ℕ) → ◌≡◌ {A = Option A} (slice_get [] k) None
get_nil zero = refl
get_nil (suc k) = refl

get_drop : {A : Type 0} (n p : ℕ) (xs : List A) → slice_get (drop n xs) p ≡ slice_get xs (n + p)
get_drop zero p xs = grind arith
get_drop (suc n) zero [] = sym (get_nil (suc n + 0))
get_drop (suc n) (suc p) [] = sym (get_nil (suc n + suc p))
get_drop (suc n) p (x ∷ xs) = grind (arith, get_drop n p xs)

drop_nil : {A : Type 0} (k : ℕ) → ◌≡◌ {A = List A} (drop k []) []
drop_nil zero = refl
drop_nil (suc k) = refl

drop_drop : {A : Type 0} (n p : ℕ) (xs : List A) → drop p (drop n xs) ≡ drop (n + p) xs
drop_drop zero p xs = grind arith
drop_drop (suc n) p [] = drop_nil p ∙ sym (drop_nil (suc n + p))
drop_drop (suc n) p (x ∷ xs) = drop_drop n p xs ∙ ap (λ k. drop k (x ∷ xs)) (let same : suc (n + p) ≡ suc n + p = omega arith in same)

drop_less : {A : Type 0} (xs : List A) (p : ℕ) {x : A} → slice_get xs p ≡ Some x → length (drop (suc p) xs) < length xs
drop_less [] p is = cc
drop_less (y ∷ ys) zero is = omega arith
drop_less (y ∷ ys) (suc p) is = let less = drop_less ys p is in omega arith

-- ---- the record index moves

moved_at : (handles : List (Option Opened)) (k : ℕ) {opened : Opened} (slot : Option Opened) → joined (slice_get handles k) ≡ Some opened
    → joined (slice_get (slice_set handles k slot) k) ≡ slot
moved_at [] k slot is = cc
moved_at (y ∷ ys) zero slot is = refl
moved_at (y ∷ ys) (suc k) slot is = moved_at ys k slot is

moved : (handles : List (Option Opened)) (handle : ℕ) {opened : Opened} (slot : Option Opened) → opened_at handle handles ≡ Some opened
    → opened_at handle (with_handle handle slot handles) ≡ slot
moved handles handle slot is = grind (arith, opened_suc, with_suc, moved_at)

-- what a handle leads to
pub record Leads (device : Device) (handle : ℕ) (base : Base) : Type 0 where
  pub opened : opened_at handle device.handles ≡ Some base.opened
  pub found : database_of base.opened.name device.databases ≡ Some base.database

leads_by : {device : Device} {handle : ℕ} {base : Base} (o : Option Opened) → opened_at handle device.handles ≡ o
    → option_and_then (base_of device) o ≡ Some base → Leads device handle base
leads_by o at is = search (rules, found_at)

pub leads : (device : Device) (handle : ℕ) {base : Base} → base_at device handle ≡ Some base → Leads device handle base
leads device handle is = leads_by (opened_at handle device.handles) refl is

at_index : Base → ℕ → Base
at_index base next = record { opened = with_next next base.opened; database = base.database }

index_moved : (device : Device) (handle next : ℕ) {base : Base} → base_at device handle ≡ Some base
    → base_at (with_index device handle next) handle ≡ Some (at_index base next)
unfolding at_index
index_moved device handle next is = grind (arith, leads, moved)

-- ---- one request

-- the database is open under the handle, with this record index
pub record IsOpenAt (device : Device) (handle next : ℕ) (database : DatabaseValue) : Type 0 where
  pub proper : IsTellable device
  pub base : Base
  pub is : base_at device handle ≡ Some base
  pub index : base.opened.next ≡ next
  pub same : base.database ≡ database

next_proper : {device : Device} (handle : ℕ) → IsTellable device → handle < 2 ^ 8 → IsTellable (acted (reading_next handle) device).1
next_proper handle proper byte = search (rules, acted_proper, act_sayable, next_fits)

lent_device : (device : Device) {place : ℕ} (handle : ℕ) {base : Base} {item : Record} → base_at device handle ≡ Some base → on_records base.database ≡ true
    → next_changed base.opened.next base.database.records ≡ Some place → slice_get base.database.records place ≡ Some item
    → (acted (reading_next handle) device).1 ≡ with_index device handle (place + 1)
unfolding acted
lent_device device handle is records first there =
    cc (next_row device handle is records first there)

none_device : (device : Device) (handle : ℕ) {base : Base} → base_at device handle ≡ Some base → on_records base.database ≡ true
    → next_changed base.opened.next base.database.records ≡ None → (acted (reading_next handle) device).1 ≡ device
unfolding acted
none_device device handle is records none = search (rules, no_next_row)

none_told : (device : Device) (handle : ℕ) {base : Base} → base_at device handle ≡ Some base → on_records base.database ≡ true
    → next_changed base.opened.next base.database.records ≡ None → told (reading_next handle) device ≡ reply.Refused 0x1F 5
unfolding told
none_told device handle is records none = cc (no_next_row device handle is records none)

pub record Steps (device : Device) (handle next : ℕ) (database : DatabaseValue) (lent : List Seen) : Type 0 where
  pub lends : next_seen handle device ≡ lent
  pub after : IsOpenAt (acted (reading_next handle) device).1 handle next database

lent_step : {device : Device} {place : ℕ} (handle : ℕ) {base : Base} {item : Record} → IsTellable device → handle < 2 ^ 8 → base_at device handle ≡ Some base
    → on_records base.database ≡ true → next_changed base.opened.next base.database.records ≡ Some place → slice_get base.database.records place ≡ Some item
    → Steps device handle (place + 1) base.database (slow_seen item ∷ [])
unfolding at_index
lent_step {device} {place} handle {base} {item} proper byte is records first there = record {
  lends = (lent_seen 0x1F None (reply_at 0x1F (acted (reading_next handle) device).0)
      (lent_next device handle place base item proper byte is records first there)).1 ∙ ap (λ (s : Seen). s ∷ []) (lent_is_seen item);
  after = record {
    proper = next_proper handle proper byte;
    base = at_index base (place + 1);
    is = cc (lent_device device handle is records first there, index_moved device handle (place + 1) is);
    index = refl;
    same = refl;
  };
}

none_step : {device : Device} (handle : ℕ) {base : Base} → IsTellable device → handle < 2 ^ 8 → base_at device handle ≡ Some base
    → on_records base.database ≡ true → next_changed base.opened.next base.database.records ≡ None → Steps device handle base.opened.next base.database []
none_step handle proper byte is records none = search (rules, acted_reads, act_sayable, next_fits, none_told, next_proper, none_device)

-- ---- all of them

pub record Reaches (device : Device) (handle most : ℕ) (database : DatabaseValue) (lent : List Seen) : Type 0 where
  pub seen : changed_seen handle most device ≡ lent
  pub asked : changed_reads handle most device ≡ replicate (suc (length lent)) (reading_next handle)
  pub next : ℕ
  pub after : IsOpenAt (device_after (changed_reads handle most device) device) handle next database

reaches_on : {device : Device} {handle most next : ℕ} {database : DatabaseValue} {entry : Seen} {lent : List Seen}
    → Steps device handle next database (entry ∷ []) → Reaches (acted (reading_next handle) device).1 handle most database lent
    → Reaches device handle (suc most) database (entry ∷ lent)
unfolding changed_seen changed_reads
reaches_on step rest = search (rules)

reaches_end : {device : Device} {handle next : ℕ} (most : ℕ) {database : DatabaseValue} → Steps device handle next database []
    → Reaches device handle (suc most) database []
unfolding changed_seen changed_reads
reaches_end {device} {handle} {next} most {database} step =
    let after = (acted (reading_next handle) device).1 in
    record {
      seen = cc;
      asked = cc;
      next = next;
      after = rw step.lends step.after;
    }

abbrev changed_in : Base → List Seen
changed_in base = map slow_seen (filter is_changed (drop base.opened.next base.database.records))

abbrev AreChanged : ℕ → ℕ → Type 0
AreChanged handle most =
    (device : Device) (base : Base) → IsTellable device → base_at device handle ≡ Some base → on_records base.database ≡ true
    → length (drop base.opened.next base.database.records) < most → Reaches device handle most base.database (changed_in base)

changed_by : {handle : ℕ} (most : ℕ) {device : Device} {base : Base} → handle < 2 ^ 8 → IsTellable device → base_at device handle ≡ Some base
    → on_records base.database ≡ true → length (drop base.opened.next base.database.records) < suc most → AreChanged handle most → (o : Option ℕ)
    → position is_changed (drop base.opened.next base.database.records) ≡ o → Reaches device handle (suc most) base.database (changed_in base)
changed_by {handle} most {device} {base} byte proper is records within later None at =
    let left = drop base.opened.next base.database.records in
    let step = none_step handle proper byte is records (ap (option_map (λ place. base.opened.next + place)) at) in
    rw (none_kept is_changed left at) (reaches_end most step)
changed_by {handle} most {device} {base} byte proper is records within later (Some p) at =
    let all = base.database.records in
    let left = drop base.opened.next all in
    let split = splits is_changed left at in
    let place = base.opened.next + p in
    let there : slice_get all place ≡ Some split.item = cc (get_drop base.opened.next p all) in
    let step = lent_step handle proper byte is records (ap (option_map (λ place. base.opened.next + place)) at) there in
    let rest_is : drop (suc p) left ≡ drop (place + 1) all =
    drop_drop base.opened.next (suc p) all ∙ ap (λ k. drop k all) (let same : base.opened.next + suc p ≡ place + 1 = omega arith in same) in
    let less : length (drop (suc p) left) < length left = drop_less left p split.there in
    let fewer : length (drop (suc p) left) < most = omega arith in
    let few : length (drop (place + 1) all) < most = subst (λ (xs : List Record). length xs < most) rest_is fewer in
    let after = step.after in
    let few_there : length (drop after.base.opened.next after.base.database.records) < most =
    subst (λ (k : ℕ). length (drop k after.base.database.records) < most) (sym after.index)
    (subst (λ (d : DatabaseValue). length (drop (place + 1) d.records) < most) (sym after.same) few) in
    let rest = later (acted (reading_next handle) device).1 after.base after.proper after.is
    (subst (λ (d : DatabaseValue). on_records d ≡ true) (sym after.same) records) few_there in
    let here : Reaches (acted (reading_next handle) device).1 handle most base.database (map slow_seen (filter is_changed (drop (place + 1) all))) =
    subst (λ (k : ℕ). Reaches (acted (reading_next handle) device).1 handle most base.database (map slow_seen (filter is_changed (drop k all)))) after.index
    (subst (λ (d : DatabaseValue). Reaches (acted (reading_next handle) device).1 handle most d
    (map slow_seen (filter is_changed (drop after.base.opened.next d.records)))) after.same rest) in
    subst (λ (xs : List Record). Reaches device handle (suc most) base.database (map slow_seen xs))
    (ap (λ (xs : List Record). split.item ∷ filter is_changed xs) (sym rest_is) ∙ sym split.kept)
    (reaches_on step here)

pub changed_are : (handle most : ℕ) → handle < 2 ^ 8 → AreChanged handle most
changed_are handle zero byte device base proper is records within = absurd (omega arith)
changed_are handle (suc most) byte device base proper is records within =
    changed_by most byte proper is records within (changed_are handle most byte)
    (position is_changed (drop base.opened.next base.database.records)) refl
