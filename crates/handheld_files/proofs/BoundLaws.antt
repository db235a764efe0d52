-- What files of a handheld say keeps the bounds of its types.
use Rattle.std.proofs.Common.{◌≡◌, ◌∙◌, ◌≤◌, ◌<◌, ◌^◌, ◌==◌, ◌&&◌, not, refl, ap, sym, subst, ℕ, suc, Bool, true, false, List, [], ◌∷◌, ◌++◌, length, map}
use Rattle.std.proofs.Common.{nat_lt, arith, inl, inr, lit<, rules}
use Rattle.std.specs.Prelude.{Option, Some, None, IfSome, MatchBool}
use Rattle.std.specs.List.{AllByRecursion, list_all, list_any}
use Rattle.std.proofs.lemmas.Bool.Decides.{nat_tests}
use Rattle.pdb_values.specs.Blocks.{block_length}
use Rattle.pdb_values.specs.Databases.{DatabaseValue, IsShortResource}
use Rattle.pdb_values.specs.PalmDates.{counted}
use Rattle.pdb_values.specs.Users.{password_of, user_name_of}
use Rattle.pdb_values.specs.declared.civil.CivilTime.{CivilTime}
use Rattle.pdb_values.specs.declared.record.Record.{Record}
use Rattle.pdb_values.specs.declared.resource.Resource.{Resource}
use Rattle.pdb_values.specs.declared.user.UserInfo.{UserInfo}
use Rattle.pdb_values.proofs.NamedLaws.{All-AllByRecursion, AllByRecursion-with_new}
use Rattle.pdb_files.specs.Blocks.{AreShort, block_list}
use Rattle.pdb_files.specs.Entries.{record_data, resource_data}
use Rattle.pdb_files.specs.Files.{FitsRecord, FitsResource, IsFileText, data_of}
use Rattle.hs_folders.specs.FileMaps.{FileMap}
use Rattle.palm_device.specs.Bounds.{IsBounded, IsBoundedDatabase, IsBoundedOpened, IsBoundedRecord, IsBoundedResource, IsBoundedUser}
use Rattle.palm_device.specs.FreshIds.{fresh_ids, is_among, with_fresh_ids, with_ids}
use Rattle.palm_device.specs.Handles.{no_handles}
use Rattle.palm_device.specs.Soundness.{AreIds, IsDevice, ids_of}
use Rattle.folder_files.specs.InfoFiles.{IsDeviceFile}
use Rattle.folder_files.specs.Lines.{SaysDate}
use Rattle.handheld_files.specs.Adding.{AddsDatabase}
use Rattle.handheld_files.specs.Handhelds.{is_database_file, no_user}
use Rattle.handheld_files.specs.Openings.{AreKept, opened_device}
use Rattle.handheld_files.specs.Reading.{ReadsOn}
use Rattle.handheld_files.specs.Settled.{are_ids, are_settled, as_opened, idle}
use Rattle.handheld_files.proofs.GivenLaws.{fresh-have, with-each, with-length, with-none}
use Rattle.std.proofs.lemmas.Bool.{and_parts, not-true}
use Rattle.std.proofs.lemmas.Grind.{common_steps}

-- ---- lists

all-front : {A : Type 0} (P : A → Type 0) (xs ys : List A) → AllByRecursion P (xs ++ ys) → AllByRecursion P xs
all-front P [] ys all = tt
all-front P (x ∷ xs) ys all = (all.0, all-front P xs ys all.1)

pub all-back : {A : Type 0} (P : A → Type 0) (xs ys : List A) → AllByRecursion P (xs ++ ys) → AllByRecursion P ys
all-back P [] ys all = all
all-back P (x ∷ xs) ys all = all-back P xs ys all.1

pub map-length : {A B : Type 0} (f : A → B) (xs : List A) → length (map f xs) ≡ length xs
map-length f [] = refl
map-length f (x ∷ xs) = ap suc (map-length f xs)

-- ---- the database of a file

-- an entry within its bounds and its bytes
record FitsAll (item : Record) : Type 0 where
  fits : FitsRecord item
  short : length item.content.bytes ≤ 65500

records_fit : (items : List Record) → AllByRecursion FitsRecord items → AreShort (record_data items) → AllByRecursion FitsAll items
records_fit [] fits short = tt
records_fit (item ∷ items) fits short = (record { fits = fits.0; short = short.0 }, records_fit items fits.1 short.1)

ids_have : (items : List Record) → AllByRecursion FitsAll items → AllByRecursion (λ (id : ℕ). id ≤ 16777215) (map (λ (item : Record). item.id) items)
ids_have [] fits = tt
ids_have (item ∷ items) fits = ((let l = fits.0.fits.id in omega (arith, l)), ids_have items fits.1)

idle_bounded : (items : List Record) → AllByRecursion IsBoundedRecord items → AllByRecursion IsBoundedRecord (map idle items)
idle_bounded [] all = tt
idle_bounded (item ∷ items) all = (record { id = all.0.id; category = all.0.category; short = all.0.short }, idle_bounded items all.1)

opened_bounded : (items : List Record) → length items ≤ 65535 → AllByRecursion FitsAll items
    → AllByRecursion IsBoundedRecord (map idle (with_fresh_ids items))
opened_bounded items few fits =
    let ids : List ℕ = fresh_ids (map (λ (item : Record). item.id) items) in
    idle_bounded (with_ids ids items)
    (with-each FitsAll IsBoundedRecord ids items
    (λ id item bound is. record { id = bound; category = (let l = is.fits.category in omega (arith, l)); short = is.short })
    (λ item is. record { id = (let l = is.fits.id in omega (arith, l)); category = (let l = is.fits.category in omega (arith, l)); short = is.short })
    (fresh-have (map (λ (item : Record). item.id) items) (let same = map-length (λ (item : Record). item.id) items in omega (arith, same, few))
    (ids_have items fits)) fits)

pub resources_bounded : (items : List Resource) → AllByRecursion FitsResource items → AreShort (resource_data items) → AllByRecursion IsBoundedResource items
resources_bounded [] fits short = tt
resources_bounded (item ∷ items) fits short =
    (record { kind = fits.0.kind; id = fits.0.id; short = short.0 }, resources_bounded items fits.1 short.1)

pub resources_short : (items : List Resource) → AllByRecursion IsBoundedResource items → AllByRecursion IsShortResource items
resources_short [] all = tt
resources_short (item ∷ items) all = (all.0.short, resources_short items all.1)

pub block_short : (block : Option (List ℕ)) → AreShort (block_list block) → block_length block ≤ 65500
block_short None short = omega arith
block_short (Some bytes) short = short.0

-- what a file says of its entries, of whichever sort they are
record HasEntries (stored : DatabaseValue) : Type 0 where
  records : AllByRecursion FitsAll stored.records
  resources : AllByRecursion IsBoundedResource stored.resources
  few_records : length stored.records ≤ 65535
  few_resources : length stored.resources ≤ 65535

entries_of : (stored : DatabaseValue) (bytes : List ℕ) → IsFileText stored bytes → HasEntries stored
entries_of stored bytes text = search (rules, all-back, resources_bounded, records_fit)

pub opened_database : (stored : DatabaseValue) (bytes : List ℕ) → IsFileText stored bytes → IsBoundedDatabase (as_opened stored)
unfolding as_opened
opened_database stored bytes text =
    let entries = entries_of stored bytes text in
    let short = text.short in
    let ids : List ℕ = fresh_ids (map (λ (item : Record). item.id) stored.records) in
    let shorter = with-length ids stored.records in
    let same = map-length idle (with_ids ids stored.records) in
    let few = entries.few_records in
    record {
      whole = record {
        few_records = omega (arith, shorter, same, few);
        few_resources = entries.few_resources;
        no_records = λ is. ap (λ (items : List Record). map idle (with_fresh_ids items)) (text.no_records is)
            ∙ ap (map idle) (with-none (fresh_ids []));
        no_resources = text.no_resources;
        short_app = block_short stored.app
            (all-front (λ (block : List ℕ). length block ≤ 65500) (block_list stored.app) (block_list stored.sort ++ data_of stored) short);
        short_sort = block_short stored.sort
            (all-front (λ (block : List ℕ). length block ≤ 65500) (block_list stored.sort) (data_of stored)
            (all-back (λ (block : List ℕ). length block ≤ 65500) (block_list stored.app) (block_list stored.sort ++ data_of stored) short));
        short_resources = All-AllByRecursion IsShortResource stored.resources (resources_short stored.resources entries.resources);
      };
      head = record {
        name = text.head.name;
        attributes = text.head.attributes;
        version = text.head.version;
        created = text.head.created;
        modified = text.head.modified;
        backup = text.head.backup;
        modnum = text.head.modnum;
        seed = text.head.seed;
        kind = text.head.kind;
        creator = text.head.creator;
      };
      records = opened_bounded stored.records entries.few_records entries.records;
      resources = entries.resources;
    }

-- ---- the user

counted_few : (time : CivilTime) (seconds : ℕ) → counted time ≡ Some seconds → seconds < 2 ^ 32
unfolding counted
counted_few time seconds is = grind (arith, common_steps, nat_tests, nat_lt)

date_few : (seconds : ℕ) (text : List ℕ) → SaysDate seconds text → seconds < 2 ^ 32
date_few seconds text says = grind (arith, common_steps, nat_tests, lit<, counted_few)

name_fits : (name : List ℕ) → user_name_of name ≡ Some name → (length name ≤ 40) × (list_any (λ byte. byte == 0) name ≡ false)
name_fits name is = grind (arith, common_steps, nat_tests, nat_lt)

password_fits : (password : List ℕ) → password_of password ≡ Some password → length password ≤ 40
password_fits password is = grind (arith, common_steps, nat_tests, nat_lt)

file_user : (user : UserInfo) (bytes : List ℕ) → IsDeviceFile user bytes → IsBoundedUser user
file_user user bytes (
  t0,
  r0,
  e0,
  s0,
  (
    t1,
    r1,
    e1,
    number,
    (
      t2,
      r2,
      e2,
      viewer,
      (
        t3,
        r3,
        e3,
        pc,
        (
          t4,
          r4,
          e4,
          good,
          (
            t5,
            r5,
            e5,
            last,
            (
              t6,
              r6,
              e6,
              name,
              (t7, r7, e7, password, end),
            ),
          ),
        ),
      ),
    ),
  ),
) =
    record {
      number = number.1;
      viewer = viewer.1;
      pc = pc.1;
      good = date_few user.good t4 good;
      last = date_few user.last t5 last;
      short = (name_fits user.name name.2).0;
      no_zero = (name_fits user.name name.2).1;
      password = password_fits user.password password.2;
    }

none_bounded : IsBoundedUser no_user
none_bounded = search (rules, lit<)

-- ---- one file after the other

closed : AllByRecursion (λ slot. IfSome slot IsBoundedOpened) no_handles
closed = (tt, (tt, (tt, (tt, (tt, (tt, (tt, (tt, tt))))))))

-- behind no file
pub bounded_begin : (databases : List DatabaseValue) (user : UserInfo) → databases ≡ [] → user ≡ no_user → IsBounded (opened_device databases user)
bounded_begin databases user none nobody = search (rules, none_bounded, closed)

-- behind one more
pub bounded_on : (told : Option FileMap) (name : List ℕ) (old new : List DatabaseValue) (user user' : UserInfo) → IsBounded (opened_device old user)
    → ReadsOn told name old user new user'
    → IsBounded (opened_device new user')
bounded_on told name old new user user' bounded (inl past) = record {
  databases = subst (AllByRecursion IsBoundedDatabase) (sym past.1.databases) bounded.databases;
  user = subst IsBoundedUser (sym past.1.owner) bounded.user;
  handles = closed;
}
bounded_on told name old new user user' bounded (inr did) = by (is_database_file name) did.2
  where
    by : (b : Bool) → MatchBool b (AddsDatabase old name did.0 new × (user' ≡ user)) (IsDeviceFile user' did.0 × (new ≡ old))
        → IsBounded (opened_device new user')
    by true adds = record {
      databases = subst (AllByRecursion IsBoundedDatabase) (sym adds.0.made)
          (AllByRecursion-with_new IsBoundedDatabase (as_opened adds.0.stored) old (opened_database adds.0.stored did.0 adds.0.file.text) bounded.databases);
      user = subst IsBoundedUser (sym adds.1) bounded.user;
      handles = closed;
    }
    by false adds = record {
      databases = subst (AllByRecursion IsBoundedDatabase) (sym adds.1) bounded.databases;
      user = file_user user' did.0 adds.0;
      handles = closed;
    }

-- ---- a store's databases

pub ids_are : (ids : List ℕ) → are_ids ids ≡ true → AreIds ids
ids_are [] is = tt
ids_are (id ∷ ids) is =
    let first = and_parts (not (id == 0)) (not (is_among id ids) && are_ids ids) is in
    let second = and_parts (not (is_among id ids)) (are_ids ids) first.1 in
    let other : (id == 0) ≡ false = not-true (id == 0) first.0 in
    (grind (arith, nat_tests, other), not-true (is_among id ids) second.0, ids_are ids second.1)

settled_ids : (databases : List DatabaseValue) → AllByRecursion (λ (database : DatabaseValue). are_settled database.records ≡ true) databases
    → AllByRecursion (λ (database : DatabaseValue). AreIds (ids_of database.records)) databases
settled_ids [] all = tt
settled_ids (database ∷ databases) all = (
  ids_are (ids_of database.records) (and_parts (list_all (λ item. not item.busy) database.records) (are_ids (ids_of database.records)) all.0).1,
  settled_ids databases all.1,
)

-- databases as a store keeps them are those of a device
pub opened-device : (databases : List DatabaseValue) (user : UserInfo) → AreKept databases → IsDevice (opened_device databases user)
opened-device databases user kept = search (rules, settled_ids)
