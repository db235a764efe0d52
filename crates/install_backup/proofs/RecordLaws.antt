-- The records that are installed: live and untouched, each under an id of its own.
use Rattle.std.proofs.lemmas.Bool.{and_parts}
use Rattle.std.proofs.lemmas.Bool.Decides.{nat_tests}
use Rattle.std.proofs.lemmas.List.{length-map}
use Rattle.std.proofs.Common.{arith, ◌≡◌, ◌∙◌, ◌≤◌, ◌<◌, ap, refl, sym, ℕ, ◌==◌, ◌&&◌, not, Bool, true, false, cond, List, [], ◌∷◌, map, length}
use Rattle.std.specs.Prelude.{filter}
use Rattle.std.specs.List.{AllByRecursion, list_all, list_any}
use Rattle.pdb_values.specs.Databases.{DatabaseValue}
use Rattle.pdb_values.specs.Records.{is_live}
use Rattle.pdb_values.specs.declared.head.DbHead.{DbHead}
use Rattle.pdb_values.specs.declared.record.Record.{Record}
use Rattle.palm_device.specs.Blocks.{empty_database}
use Rattle.palm_device.specs.Bounds.{IsBoundedRecord}
use Rattle.palm_device.specs.FreshIds.{fresh_ids, is_among, with_fresh_ids, with_ids}
use Rattle.palm_device.specs.Heads.{new_head}
use Rattle.palm_device.specs.Records.{with_records}
use Rattle.palm_device.proofs.BoundLaws.{AllByRecursion-filter, length-filter}
use Rattle.palm_device.proofs.EntryLaws.{filter_all}
use Rattle.handheld_files.specs.Settled.{are_ids, are_settled, as_opened, idle}
use Rattle.handheld_files.proofs.GivenLaws.{fresh-have, with-each, with-length}
use Rattle.handheld_files.proofs.SettledLaws.{as_opened-settled, settled_as_opened}
use Rattle.install_backup.specs.Installed.{installed_records, untouched}

-- ---- marks and ids are apart

with_ids-untouched : (ids : List ℕ) (items : List Record) → with_ids ids (map untouched items) ≡ map untouched (with_ids ids items)
unfolding with_ids
with_ids-untouched [] items = refl
with_ids-untouched (id ∷ ids) [] = refl
with_ids-untouched (id ∷ ids) (item ∷ items) =
    ap (λ (rest : List Record). untouched (record item { id = id }) ∷ rest) (with_ids-untouched ids items)

ids-untouched : (items : List Record) → map (λ (item : Record). item.id) (map untouched items) ≡ map (λ (item : Record). item.id) items
ids-untouched [] = refl
ids-untouched (item ∷ items) = ap (λ (rest : List ℕ). item.id ∷ rest) (ids-untouched items)

idle-untouched : (items : List Record) → map idle (map untouched items) ≡ map untouched items
idle-untouched [] = refl
idle-untouched (item ∷ items) = ap (λ (rest : List Record). untouched item ∷ rest) (idle-untouched items)

untouched-untouched : (items : List Record) → map untouched (map untouched items) ≡ map untouched items
untouched-untouched [] = refl
untouched-untouched (item ∷ items) = ap (λ (rest : List Record). untouched item ∷ rest) (untouched-untouched items)

untouched-idle : (items : List Record) → map untouched (map idle items) ≡ map untouched items
untouched-idle [] = refl
untouched-idle (item ∷ items) = ap (λ (rest : List Record). untouched item ∷ rest) (untouched-idle items)

fresh-untouched : (items : List Record) → with_fresh_ids (map untouched items) ≡ map untouched (with_fresh_ids items)
fresh-untouched items =
    ap (λ (ids : List ℕ). with_ids (fresh_ids ids) (map untouched items)) (ids-untouched items)
    ∙ with_ids-untouched (fresh_ids (map (λ (item : Record). item.id) items)) items

-- ---- settled records

-- what settling makes of the live records
pub settled-installed : (records : List Record) (database : DatabaseValue)
    → (as_opened (with_records (map untouched (filter is_live records)) database)).records ≡ installed_records records
unfolding as_opened installed_records
settled-installed records database =
    ap (map idle) (fresh-untouched (filter is_live records)) ∙ idle-untouched (with_fresh_ids (filter is_live records))

abbrev some_head : DbHead
some_head = new_head [] [] [] 0 0

pub installed-settled : (records : List Record) → are_settled (installed_records records) ≡ true
installed-settled records =
    ap are_settled (sym (settled-installed records (empty_database some_head)))
    ∙ settled_as_opened (with_records (map untouched (filter is_live records)) (empty_database some_head))

pub installed-ids : (records : List Record) → are_ids (map (λ (item : Record). item.id) (installed_records records)) ≡ true
installed-ids records =
    (and_parts (list_all (λ (item : Record). not item.busy) (installed_records records))
    (are_ids (map (λ (item : Record). item.id) (installed_records records))) (installed-settled records)).1

ids_some : (items : List Record) → are_ids (map (λ (item : Record). item.id) items) ≡ true → AllByRecursion (λ (item : Record). 0 < item.id) items
ids_some [] are = tt
ids_some (item ∷ items) are =
    let ids = map (λ (item : Record). item.id) items in
    let parts = and_parts (not (item.id == 0)) (not (is_among item.id ids) && are_ids ids) are in
    let more = and_parts (not (is_among item.id ids)) (are_ids ids) parts.1 in
    (some item.id parts.0, ids_some items more.1)
  where
    some : (n : ℕ) → not (n == 0) ≡ true → 0 < n
    some n is = grind (arith, nat_tests)

-- each has an id
pub installed-numbered : (records : List Record) → AllByRecursion (λ (item : Record). 0 < item.id) (installed_records records)
installed-numbered records = ids_some (installed_records records) (installed-ids records)

pub installed-untouched : (records : List Record) → map untouched (installed_records records) ≡ installed_records records
unfolding installed_records
installed-untouched records = untouched-untouched (with_fresh_ids (filter is_live records))

-- ---- live records

all_live : (ids : List ℕ) (items : List Record) → list_all is_live (map untouched (with_ids ids items)) ≡ list_all is_live items
unfolding with_ids
all_live [] [] = refl
all_live [] (item ∷ items) = ap (λ b. is_live item && b) (all_live [] items)
all_live (id ∷ ids) [] = refl
all_live (id ∷ ids) (item ∷ items) = ap (λ b. is_live item && b) (all_live ids items)

live_all : (items : List Record) → list_all is_live (filter is_live items) ≡ true
live_all [] = refl
live_all (item ∷ items) = by (is_live item) refl (live_all items)
  where
    by : (b : Bool) → is_live item ≡ b → list_all is_live (filter is_live items) ≡ true
        → list_all is_live (cond (is_live item) (item ∷ filter is_live items) (filter is_live items)) ≡ true
    by true is rest = rw is (rw is rest)
    by false is rest = rw is rest

pub installed-live : (records : List Record) → list_all is_live (installed_records records) ≡ true
unfolding installed_records
installed-live records = all_live (fresh_ids (map (λ (item : Record). item.id) (filter is_live records))) (filter is_live records) ∙ live_all records

pub installed-none_deleted : (items : List Record) → list_all is_live items ≡ true → list_any (λ (item : Record). item.deleted) items ≡ false
installed-none_deleted [] live = refl
installed-none_deleted (item ∷ items) live = grind (arith, and_parts, installed-none_deleted items)

-- ---- bounds

pub installed-few : (records : List Record) → length (installed_records records) ≤ length records
unfolding installed_records
installed-few records =
    let live = filter is_live records in
    let ids = fresh_ids (map (λ (item : Record). item.id) live) in
    let same : length (map untouched (with_ids ids live)) ≡ length (with_ids ids live) = length-map (with_ids ids live) untouched in
    let fewer = with-length ids live in
    let few = length-filter is_live records in
    omega (arith, same, fewer, few)

untouched-bounded : (items : List Record) → AllByRecursion IsBoundedRecord items → AllByRecursion IsBoundedRecord (map untouched items)
untouched-bounded [] all = tt
untouched-bounded (item ∷ items) all =
    (record { id = all.0.id; category = all.0.category; short = all.0.short }, untouched-bounded items all.1)

ids-bounded : (items : List Record) → AllByRecursion IsBoundedRecord items
    → AllByRecursion (λ (id : ℕ). id ≤ 16777215) (map (λ (item : Record). item.id) items)
ids-bounded [] all = tt
ids-bounded (item ∷ items) all = (all.0.id, ids-bounded items all.1)

pub installed-bounded : (records : List Record) → length records ≤ 65535 → AllByRecursion IsBoundedRecord records
    → AllByRecursion IsBoundedRecord (installed_records records)
unfolding installed_records
installed-bounded records few all =
    let live = filter is_live records in
    let bounded = AllByRecursion-filter IsBoundedRecord is_live records all in
    let fewer = length-filter is_live records in
    let same : length (map (λ (item : Record). item.id) live) ≡ length live = length-map live (λ (item : Record). item.id) in
    let ids = fresh_ids (map (λ (item : Record). item.id) live) in
    untouched-bounded (with_ids ids live)
    (with-each IsBoundedRecord IsBoundedRecord ids live
    (λ id item bound is. record { id = bound; category = is.category; short = is.short })
    (λ item is. is)
    (fresh-have (map (λ (item : Record). item.id) live) (omega (arith, same, fewer, few)) (ids-bounded live bounded)) bounded)

length-none : (items : List Record) → length items ≤ 0 → items ≡ []
length-none [] few = refl
length-none (item ∷ items) few = absurd (omega (arith, few))

-- no records
pub records-none : (records : List Record) → records ≡ [] → installed_records records ≡ []
records-none records none = length-none (installed_records records)
    (let few = installed-few records in let zero_length : length records ≡ 0 = ap length none in omega (arith, few, zero_length))

-- ---- records that are settled already

-- live ones under settled ids stay, but for their marks
pub installed-own : (records : List Record) → list_all is_live records ≡ true → are_settled records ≡ true
    → installed_records records ≡ map untouched records
unfolding installed_records as_opened
installed-own records live settled =
    ap (λ (items : List Record). map untouched (with_fresh_ids items)) (filter_all is_live records live)
    ∙ sym (untouched-idle (with_fresh_ids records))
    ∙ ap (λ (database : DatabaseValue). map untouched database.records)
    (as_opened-settled (with_records records (empty_database some_head)) settled)

pub installed_records-again : (records : List Record) → installed_records (installed_records records) ≡ installed_records records
installed_records-again records =
    installed-own (installed_records records) (installed-live records) (installed-settled records) ∙ installed-untouched records
