-- The database of the parts of a file is the file's.
use Rattle.std.proofs.Common.{◌≡◌, ◌∙◌, ℕ, zero, suc, ◌+◌, ◌*◌, ◌^◌, ◌<◌, ◌≤◌, ◌==◌, ◌&&◌, eqb, nat_le, Bool, true, false, List, [], ◌∷◌, ◌++◌, length, take, drop, map}
use Rattle.std.proofs.Common.{cond, refl, sym, ap, append_assoc, append-nil, arith, get_or, slice_get, rules, subst}
use Rattle.std.specs.Prelude.{Option, Some, None, All, is_none}
use Rattle.std.specs.Option.{option_map}
use Rattle.std.specs.List.{AllByRecursion, concat, list_all}
use Rattle.std.proofs.lemmas.Bool.Decides.{nat_tests}
use Rattle.std.proofs.lemmas.Grind.{common_steps}
use Rattle.std.proofs.lemmas.List.{take_at, drop_at, drop_all, length-append}
use Rattle.byteorder.specs.Endian.{big_bytes, big_number}
use Rattle.pdb_values.specs.Blocks.{block_length}
use Rattle.pdb_values.specs.Databases.{DatabaseValue}
use Rattle.pdb_values.specs.Heads.{holds_resources}
use Rattle.pdb_values.specs.Names.{IsName, name_fault}
use Rattle.pdb_values.specs.declared.four_cc.FourCc.{FourCc}
use Rattle.pdb_values.specs.declared.head.DbHead.{DbHead}
use Rattle.pdb_values.specs.declared.record.Record.{Record}
use Rattle.pdb_values.specs.declared.resource.Resource.{Resource}
use Rattle.pdb_files.specs.Blocks.{AreShort, begins_from, block_list, block_offset}
use Rattle.pdb_files.specs.Entries.{bit_where, record_data, resource_data, resource_entries, resource_entry as resource_text}
use Rattle.pdb_files.specs.Fields.{number_at}
use Rattle.pdb_files.specs.Files.{FitsRecord, FitsResource, IsFileText, app_begin, canonical, data_begin, data_of, entries_text, entry_count, file_text, has_resources}
use Rattle.pdb_files.specs.Files.{sort_begin}
use Rattle.pdb_files.specs.Headers.{header_text}
use Rattle.pdb_files.specs.Reading.{record_of}
use Rattle.pdb_files.proofs.Numbers.{IsBytes, cut_number}
use Rattle.hotsync_c.specs.Building.{IsBuilt, are_parts, block_in, database_in, front_length, front_size, has_front, has_head, head_in, is_block, is_cut, is_entry}
use Rattle.hotsync_c.specs.Building.{is_name, is_record_entry, is_resource_entry, items_in, record_in, resource_in}
use Rattle.hotsync_c.specs.Parts.{absent_size, block_bytes, block_size, bytes_at, code_number, entries_of, entry_at, front_of, head_of, packed_of, record_entry}
use Rattle.hotsync_c.specs.Parts.{resource_entry}
use Rattle.hotsync_c.specs.declared.parts.HsEntry.{HsEntry}
use Rattle.pdb_files.proofs.EntryLaws.{bits_back}
use Rattle.pdb_files.proofs.FileLaws.{bytes_from_all}
use Rattle.handheld_files.proofs.BoundLaws.{map-length, block_short}

-- ---- bytes

bytes-front : (xs ys : List ℕ) → IsBytes (xs ++ ys) → IsBytes xs
bytes-front [] ys h i = omega arith
bytes-front (x ∷ xs) ys h zero = h 0
bytes-front (x ∷ xs) ys h (suc i) = bytes-front xs ys (λ k. h (suc k)) i

bytes-back : (xs ys : List ℕ) → IsBytes (xs ++ ys) → IsBytes ys
bytes-back [] ys h = h
bytes-back (x ∷ xs) ys h = bytes-back xs ys (λ k. h (suc k))

-- four bytes are those of their number
code_again : (code : FourCc) → length code.0 ≡ 4 → IsBytes code.0 → big_bytes 4 (code_number code) ≡ code.0
unfolding number_at
code_again code four fits =
    let cut = cut_number 4 0 code.0 fits (omega arith) in
    let none : drop 4 code.0 ≡ [] = drop_all 4 code.0 (omega arith) in
    sym (cut ∙ ap (λ rest. big_bytes 4 (code_number code) ++ rest) none ∙ append-nil (big_bytes 4 (code_number code)))

-- ---- blocks

block_again : (block : Option (List ℕ)) (rest : List ℕ) → block_length block ≤ 65500 → block_in (block_size block) (block_bytes block ++ rest) ≡ block
block_again None rest short = refl
block_again (Some bytes) rest short =
    let other : (length bytes == absent_size) ≡ false = grind (arith, nat_tests) in
    rw other (ap (λ (found : List ℕ). Some found) (take_at bytes rest (length bytes) refl))

size_again : (block : Option (List ℕ)) → block_length block ≤ 65500 → front_size (block_size block) ≡ length (block_bytes block)
size_again None short = refl
size_again (Some bytes) short =
    let other : (length bytes == absent_size) ≡ false = grind (arith, nat_tests) in
    rw other refl

is_block_size : (block : Option (List ℕ)) → block_length block ≤ 65500 → is_block (block_size block) ≡ true
is_block_size None short = refl
is_block_size (Some bytes) short = grind (arith, nat_tests)

-- ---- one record

abbrev flag_of : Bool → ℕ
flag_of flag = bit_where flag 1

weighed : (flag : Bool) (weight : ℕ) → (bit_where flag weight ≡ flag_of flag * weight) × (flag_of flag ≤ 1)
weighed true weight = (omega arith, omega arith)
weighed false weight = (omega arith, omega arith)

is_one : (flag : Bool) (number : ℕ) → number ≡ flag_of flag → eqb number 1 ≡ flag
is_one true number e = rw e refl
is_one false number e = rw e refl

record_again : (item : Record) → FitsRecord item → record_in (record_entry item) item.content.bytes ≡ item
unfolding record_in record_of
record_again item fits =
    let bits = bits_back item fits.category in
    λ i. record {
      id = item.id;
      deleted = bits.0 i;
      dirty = bits.1 i;
      busy = bits.2 i;
      content = record { category = bits.4 i; secret = bits.3 i; bytes = item.content.bytes };
    }

record_fits : (item : Record) → FitsRecord item → length item.content.bytes ≤ 65500 → is_record_entry (record_entry item) ≡ true
record_fits item fits short =
    let bits = (bits_back item fits.category).5 in
    let id = fits.id in
    grind (arith, nat_tests, bits, id, short)

-- ---- one resource

resource_again : (item : Resource) → FitsResource item → IsBytes item.kind.0 → resource_in (resource_entry item) item.bytes ≡ item
unfolding resource_in
resource_again item fits bytes = λ i. record { kind = record { 0 = code_again item.kind fits.kind bytes i }; id = item.id; bytes = item.bytes }

resource_fits : (item : Resource) → FitsResource item → length item.bytes ≤ 65500 → is_resource_entry (resource_entry item) ≡ true
resource_fits item fits short = let id = fits.id in grind (arith, nat_tests, id, short)

-- ---- all entries

module _ {A : Type 0} (entry : A → HsEntry) (contents : A → List ℕ) (item : HsEntry → List ℕ → A) (Good : A → Type 0) (test : HsEntry → Bool)
    (sizes : (x : A) → (entry x).size ≡ length (contents x)) (again : (x : A) → Good x → item (entry x) (contents x) ≡ x)
    (fits : (x : A) → Good x → test (entry x) ≡ true) where
  items-again : (xs : List A) → AllByRecursion Good xs → items_in item (map entry xs) (concat (map contents xs)) ≡ xs
  items-again [] all = refl
  items-again (x ∷ xs) all =
      let front = take_at (contents x) (concat (map contents xs)) (entry x).size (sym (sizes x)) in
      let rest = drop_at (contents x) (concat (map contents xs)) (entry x).size (sym (sizes x)) in
      let first : item (entry x) (take (entry x).size (contents x ++ concat (map contents xs))) ≡ x = ap (item (entry x)) front ∙ again x all.0 in
      let others : items_in item (map entry xs) (drop (entry x).size (contents x ++ concat (map contents xs))) ≡ xs =
      ap (items_in item (map entry xs)) rest ∙ items-again xs all.1 in
      λ i. first i ∷ others i

  items-cut : (xs : List A) → is_cut (map entry xs) (concat (map contents xs)) ≡ true
  items-cut [] = refl
  items-cut (x ∷ xs) =
      let rest = drop_at (contents x) (concat (map contents xs)) (entry x).size (sym (sizes x)) in
      let long : nat_le (entry x).size (length (contents x ++ concat (map contents xs))) ≡ true =
      grind (arith, nat_tests, length-append (contents x) (concat (map contents xs)), sizes x) in
      rw long (ap (is_cut (map entry xs)) rest ∙ items-cut xs)

  items-fit : (xs : List A) → AllByRecursion Good xs → list_all test (map entry xs) ≡ true
  items-fit [] all = refl
  items-fit (x ∷ xs) all = rw (fits x all.0) (items-fit xs all.1)

-- ---- what a file says of them

short-front : (xs ys : List (List ℕ)) → AreShort (xs ++ ys) → AreShort xs
short-front [] ys all = tt
short-front (x ∷ xs) ys all = (all.0, short-front xs ys all.1)

short-back : (xs ys : List (List ℕ)) → AreShort (xs ++ ys) → AreShort ys
short-back [] ys all = all
short-back (x ∷ xs) ys all = short-back xs ys all.1

record GoodRecord (item : Record) : Type 0 where
  fits : FitsRecord item
  short : length item.content.bytes ≤ 65500

record GoodResource (item : Resource) : Type 0 where
  fits : FitsResource item
  short : length item.bytes ≤ 65500
  bytes : IsBytes item.kind.0

good_records : (items : List Record) → AllByRecursion FitsRecord items → AreShort (record_data items) → AllByRecursion GoodRecord items
good_records [] fits short = tt
good_records (item ∷ items) fits short = (record { fits = fits.0; short = short.0 }, good_records items fits.1 short.1)

good_resources : (items : List Resource) → AllByRecursion FitsResource items → AreShort (resource_data items)
    → AllByRecursion (λ (item : Resource). IsBytes item.kind.0) items → AllByRecursion GoodResource items
good_resources [] fits short bytes = tt
good_resources (item ∷ items) fits short bytes =
    (record { fits = fits.0; short = short.0; bytes = bytes.0 }, good_resources items fits.1 short.1 bytes.1)

-- the types of resources in the text of their entries
kind_bytes : (begin : ℕ) (items : List Resource) → IsBytes (resource_entries (begins_from begin (resource_data items)) items)
    → AllByRecursion (λ (item : Resource). IsBytes item.kind.0) items
unfolding resource_text
kind_bytes begin [] bytes = tt
kind_bytes begin (item ∷ items) bytes =
    let next = begin + length item.bytes in
    let rest = resource_entries (begins_from next (resource_data items)) items in
    let entry = bytes-front (resource_text begin item) rest bytes in
    let code = bytes-front (item.kind.0 ++ big_bytes 2 item.id) (big_bytes 4 begin) entry in
    (bytes-front item.kind.0 (big_bytes 2 item.id) code, kind_bytes next items (bytes-back (resource_text begin item) rest bytes))

-- both codes of a head in the text of its header
record HasCodes (head : DbHead) : Type 0 where
  kind : IsBytes head.kind.0
  creator : IsBytes head.creator.0

codes_of : (head : DbHead) (after_name : List ℕ) (app sort count : ℕ) → IsBytes (header_text head after_name app sort count) → HasCodes head
unfolding header_text
codes_of head after_name app sort count bytes =
    let front = head.name ++ 0 ∷ after_name ++ big_bytes 2 head.attributes ++ big_bytes 2 head.version ++ big_bytes 4 head.created
    ++ big_bytes 4 head.modified ++ big_bytes 4 head.backup ++ big_bytes 4 head.modnum ++ big_bytes 4 app ++ big_bytes 4 sort in
    let one = bytes-front (front ++ head.kind.0 ++ head.creator.0 ++ big_bytes 4 head.seed ++ big_bytes 4 0) (big_bytes 2 count) bytes in
    let two = bytes-front (front ++ head.kind.0 ++ head.creator.0 ++ big_bytes 4 head.seed) (big_bytes 4 0) one in
    let both = bytes-front (front ++ head.kind.0 ++ head.creator.0) (big_bytes 4 head.seed) two in
    record {
      kind = bytes-back front head.kind.0 (bytes-front (front ++ head.kind.0) head.creator.0 both);
      creator = bytes-back (front ++ head.kind.0) head.creator.0 both;
    }

-- a database whose parts are those of a file
record IsGood (database : DatabaseValue) : Type 0 where
  codes : HasCodes database.head
  app : block_length database.app ≤ 65500
  sort : block_length database.sort ≤ 65500
  records : AllByRecursion GoodRecord database.records
  resources : AllByRecursion GoodResource database.resources

data_short : (database : DatabaseValue) (b : Bool) → has_resources database ≡ b → (b ≡ true → database.records ≡ []) → (b ≡ false → database.resources ≡ [])
    → AreShort (data_of database) → AreShort (record_data database.records) × AreShort (resource_data database.resources)
data_short database true is no_records no_resources short =
    (rw (no_records refl) tt, (rw is at short))
data_short database false is no_records no_resources short =
    ((rw is at short), rw (no_resources refl) tt)

resource_bytes : (database : DatabaseValue) (b : Bool) (begin : ℕ) → has_resources database ≡ b → (b ≡ false → database.resources ≡ [])
    → IsBytes (entries_text (begins_from begin (data_of database)) database) → AllByRecursion (λ (item : Resource). IsBytes item.kind.0) database.resources
resource_bytes database true begin is none bytes = kind_bytes begin database.resources (rw is at bytes)
resource_bytes database false begin is none bytes = rw (none refl) tt

good_file : (bytes : List ℕ) (database : DatabaseValue) → IsBytes bytes → IsFileText database bytes → IsGood database
unfolding file_text
good_file bytes database each text =
    let app = app_begin database text.filler in
    let sort = sort_begin database text.filler in
    let header = header_text database.head text.after_name (block_offset database.app app) (block_offset database.sort sort) (entry_count database) in
    let begin = data_begin database text.filler in
    let entries = entries_text (begins_from begin (data_of database)) database in
    let whole : IsBytes (header ++ entries ++ text.filler ++ concat (block_list database.app ++ (block_list database.sort ++ data_of database))) =
    subst IsBytes text.text each in
    let front = bytes-front (header ++ entries) text.filler (bytes-front (header ++ entries ++ text.filler) _ whole) in
    let short = text.short in
    let behind = short-back (block_list database.app) (block_list database.sort ++ data_of database) short in
    let contents = data_short database (has_resources database) refl text.no_records text.no_resources
    (short-back (block_list database.sort) (data_of database) behind) in
    let kinds = resource_bytes database (has_resources database) begin refl text.no_resources (bytes-back header entries front) in
    record {
      codes = codes_of database.head text.after_name (block_offset database.app app) (block_offset database.sort sort) (entry_count database)
          (bytes-front header entries front);
      app = block_short database.app (short-front (block_list database.app) (block_list database.sort ++ data_of database) short);
      sort = block_short database.sort (short-front (block_list database.sort) (data_of database) behind);
      records = good_records database.records text.records contents.0;
      resources = good_resources database.resources text.resources contents.1 kinds;
    }

-- ---- the whole

name_good : (name : List ℕ) → IsName name → is_name name ≡ true
name_good name is = let some = is.some in let short = is.short in let nonzero = is.nonzero in grind (arith, nat_tests, common_steps, some, short, nonzero)

-- the packed bytes, from the name on
packed_is : (database : DatabaseValue) → packed_of database
    ≡ database.head.name ++ (block_bytes database.app ++ (block_bytes database.sort ++ concat (data_of database)))
packed_is database = simp append_assoc

behind_name : (database : DatabaseValue) → drop (length database.head.name) (packed_of database)
    ≡ block_bytes database.app ++ (block_bytes database.sort ++ concat (data_of database))
behind_name database = ap (drop (length database.head.name)) (packed_is database) ∙ drop_at database.head.name _ (length database.head.name) refl

behind_app : (database : DatabaseValue) → drop (length database.head.name + length (block_bytes database.app)) (packed_of database)
    ≡ block_bytes database.sort ++ concat (data_of database)
behind_app database =
    let front = database.head.name ++ block_bytes database.app in
    let long = length-append database.head.name (block_bytes database.app) in
    ap (drop (length database.head.name + length (block_bytes database.app))) (append_assoc front (block_bytes database.sort) (concat (data_of database)))
    ∙ drop_at front _ _ long

behind_front : (database : DatabaseValue)
    → drop (length database.head.name + length (block_bytes database.app) + length (block_bytes database.sort)) (packed_of database) ≡ concat (data_of database)
behind_front database =
    let long = length-append database.head.name (block_bytes database.app) in
    let whole = length-append (database.head.name ++ block_bytes database.app) (block_bytes database.sort) in
    drop_at (front_of database) (concat (data_of database)) _ (omega (arith, long, whole))

front_is : (database : DatabaseValue) → IsGood database
    → front_length (head_of database) ≡ length database.head.name + length (block_bytes database.app) + length (block_bytes database.sort)
unfolding head_of
front_is database good = let app = size_again database.app good.app in let sort = size_again database.sort good.sort in omega arith

-- the parts of either sort of entries
record Entries (database : DatabaseValue) : Type 0 where
  fit : list_all (is_entry (holds_resources database.head.attributes)) (entries_of database) ≡ true
  cut : is_cut (entries_of database) (concat (data_of database)) ≡ true
  few : length (entries_of database) ≡ entry_count database
  records : cond (holds_resources database.head.attributes) [] (items_in record_in (entries_of database) (concat (data_of database))) ≡ database.records
  resources : cond (holds_resources database.head.attributes) (items_in resource_in (entries_of database) (concat (data_of database))) [] ≡ database.resources

entries_by : (database : DatabaseValue) (b : Bool) → holds_resources database.head.attributes ≡ b → (b ≡ true → database.records ≡ [])
    → (b ≡ false → database.resources ≡ []) → IsGood database → Entries database
entries_by database true is no_records no_resources good =
    let contents = λ (item : Resource). item.bytes in
    record {
      fit = rw is (items-fit resource_entry contents resource_in GoodResource is_resource_entry (λ item. refl)
          (λ item has. resource_again item has.fits has.bytes) (λ item has. resource_fits item has.fits has.short) database.resources good.resources);
      cut = rw is (items-cut resource_entry contents resource_in GoodResource is_resource_entry (λ item. refl)
          (λ item has. resource_again item has.fits has.bytes) (λ item has. resource_fits item has.fits has.short) database.resources);
      few = rw is (map-length resource_entry database.resources);
      records = rw is (sym (no_records refl));
      resources = rw is (items-again resource_entry contents resource_in GoodResource is_resource_entry (λ item. refl)
          (λ item has. resource_again item has.fits has.bytes) (λ item has. resource_fits item has.fits has.short) database.resources good.resources);
    }
entries_by database false is no_records no_resources good =
    let contents = λ (item : Record). item.content.bytes in
    record {
      fit = rw is (items-fit record_entry contents record_in GoodRecord is_record_entry (λ item. refl)
          (λ item has. record_again item has.fits) (λ item has. record_fits item has.fits has.short) database.records good.records);
      cut = rw is (items-cut record_entry contents record_in GoodRecord is_record_entry (λ item. refl)
          (λ item has. record_again item has.fits) (λ item has. record_fits item has.fits has.short) database.records);
      few = rw is (map-length record_entry database.records);
      records = rw is (items-again record_entry contents record_in GoodRecord is_record_entry (λ item. refl)
          (λ item has. record_again item has.fits) (λ item has. record_fits item has.fits has.short) database.records good.records);
      resources = rw is (sym (no_resources refl));
    }

head_again : (database : DatabaseValue) (bytes : List ℕ) → IsFileText database bytes → IsGood database
    → head_in (head_of database) database.head.name ≡ database.head
unfolding head_in head_of
head_again database bytes text good =
    let head = database.head in
    λ i. record {
      name = head.name;
      attributes = head.attributes;
      version = head.version;
      created = head.created;
      modified = head.modified;
      backup = head.backup;
      modnum = head.modnum;
      seed = head.seed;
      kind = record { 0 = code_again head.kind text.head.kind good.codes.kind i };
      creator = record { 0 = code_again head.creator text.head.creator good.codes.creator i };
    }

head_fits : (database : DatabaseValue) (bytes : List ℕ) → IsFileText database bytes → IsGood database → has_head (head_of database) ≡ true
unfolding head_of
head_fits database bytes text good =
    let attributes = text.head.attributes in
    let version = text.head.version in
    let app = is_block_size database.app good.app in
    let sort = is_block_size database.sort good.sort in
    rw (app, sort) (grind (arith, nat_tests, attributes, version))

front_fits : (database : DatabaseValue) (bytes : List ℕ) → IsFileText database bytes → IsGood database
    → has_front (head_of database) (packed_of database) ≡ true
unfolding head_of
front_fits database bytes text good =
    let long = length-append database.head.name (block_bytes database.app) in
    let whole = length-append (database.head.name ++ block_bytes database.app) (block_bytes database.sort) in
    let all = length-append (front_of database) (concat (data_of database)) in
    let front = front_is database good in
    let fits : nat_le (front_length (head_of database)) (length (packed_of database)) ≡ true = grind (arith, nat_tests, long, whole, all, front) in
    let name : take (length database.head.name) (packed_of database) ≡ database.head.name =
    ap (take (length database.head.name)) (packed_is database) ∙ take_at database.head.name _ (length database.head.name) refl in
    rw (fits, name) (name_good database.head.name text.head.name)

parts_are : (database : DatabaseValue) (bytes : List ℕ) → IsFileText database bytes → IsGood database → Entries database
    → are_parts (head_of database) (entries_of database) (packed_of database) ≡ true
unfolding head_of
parts_are database bytes text good entries =
    let head = head_fits database bytes text good in
    let front = front_fits database bytes text good in
    let count = text.count in
    let few : nat_le (length (entries_of database)) 65535 ≡ true = let is = entries.few in grind (arith, nat_tests, is, count) in
    let rest : drop (front_length (head_of database)) (packed_of database) ≡ concat (data_of database) =
    ap (λ n. drop n (packed_of database)) (front_is database good) ∙ behind_front database in
    rw (head, front, few, entries.fit, rest) entries.cut

parts_same : (database : DatabaseValue) (bytes : List ℕ) → IsFileText database bytes → IsGood database → Entries database
    → database_in (head_of database) (entries_of database) (packed_of database) ≡ database
unfolding database_in head_of
parts_same database bytes text good entries =
    let n = length database.head.name in
    let packed = packed_of database in
    let rest : drop (front_length (head_of database)) packed ≡ concat (data_of database) =
    ap (λ n. drop n packed) (front_is database good) ∙ behind_front database in
    let name : take n packed ≡ database.head.name = ap (take n) (packed_is database) ∙ take_at database.head.name _ n refl in
    let head = ap (head_in (head_of database)) name ∙ head_again database bytes text good in
    let app : block_in (block_size database.app) (drop n packed) ≡ database.app = ap (block_in (block_size database.app)) (behind_name database)
    ∙ block_again database.app (block_bytes database.sort ++ concat (data_of database)) good.app in
    let sort : block_in (block_size database.sort) (drop (n + front_size (block_size database.app)) packed) ≡ database.sort =
    ap (λ m. block_in (block_size database.sort) (drop (n + m) packed)) (size_again database.app good.app)
    ∙ ap (block_in (block_size database.sort)) (behind_app database) ∙ block_again database.sort (concat (data_of database)) good.sort in
    let b = holds_resources database.head.attributes in
    let records = ap (λ contents. cond b [] (items_in record_in (entries_of database) contents)) rest ∙ entries.records in
    let resources = ap (λ contents. cond b (items_in resource_in (entries_of database) contents) []) rest ∙ entries.resources in
    λ i. record { head = head i; app = app i; sort = sort i; records = records i; resources = resources i }

pub build-parts : (bytes : List ℕ) (database : DatabaseValue) → All (λ byte. byte < 256) bytes → IsFileText database bytes
    → IsBuilt (head_of database) (entries_of database) (packed_of database) (canonical database)
build-parts bytes database each text =
    let good = good_file bytes database (bytes_from_all bytes each) text in
    let entries = entries_by database (holds_resources database.head.attributes) refl text.no_records text.no_resources good in
    record {
      fit = parts_are database bytes text good entries;
      is = ap canonical (sym (parts_same database bytes text good entries));
    }

-- ---- one by one

get-map : {A B : Type 0} (f : A → B) (xs : List A) (index : ℕ) → slice_get (map f xs) index ≡ option_map f (slice_get xs index)
get-map f [] index = refl
get-map f (x ∷ xs) zero = refl
get-map f (x ∷ xs) (suc index) = get-map f xs index

entries_are : (database : DatabaseValue) (index : ℕ) (b : Bool) → has_resources database ≡ b → slice_get (entries_of database) index ≡ entry_at database index
entries_are database index true is = rw is (get-map resource_entry database.resources index)
entries_are database index false is = rw is (get-map record_entry database.records index)

contents_are : (database : DatabaseValue) (index : ℕ) (b : Bool) → has_resources database ≡ b → slice_get (data_of database) index ≡ bytes_at database index
contents_are database index true is = rw is (get-map (λ (item : Resource). item.bytes) database.resources index)
contents_are database index false is = rw is (get-map (λ (item : Record). item.content.bytes) database.records index)

pub each-entry : (database : DatabaseValue) (index : ℕ) → slice_get (entries_of database) index ≡ entry_at database index
each-entry database index = entries_are database index (has_resources database) refl

pub each-content : (database : DatabaseValue) (index : ℕ) → slice_get (data_of database) index ≡ bytes_at database index
each-content database index = contents_are database index (has_resources database) refl
