-- Entries: what is read of one that was written, and what is written of one that was read.
use Rattle.std.proofs.Common.{◌≡◌, ℕ, zero, suc, ◌+◌, ◌*◌, ◌%◌, ◌^◌, ◌<◌, ◌≤◌, eqb, Bool, true, false, List, [], ◌∷◌, ◌++◌, length, drop, map, cond, refl}
use Rattle.std.proofs.Common.{sym, ap, ◌∙◌, append_assoc, arith}
use Rattle.std.specs.Prelude.{slice_index}
use Rattle.std.specs.List.{AllByRecursion, flat_map, zip}
use Rattle.std.proofs.Math.Nat.{mul-suc}
use Rattle.std.proofs.lemmas.List.{drop-drop, length-append, length-drop, drop_more}
use Rattle.byteorder.specs.Endian.{big_bytes}
use Rattle.pdb_values.specs.declared.record.Record.{Record}
use Rattle.pdb_values.specs.declared.resource.Resource.{Resource}
use Rattle.pdb_files.specs.declared.entry.Entry.{Entry}
use Rattle.pdb_files.specs.Fields.{number_at, code_at}
use Rattle.pdb_files.specs.Entries.{attributes_of, begin_place, begins_in, bit_where, entry_length, record_data, record_entries, record_entry, resource_data}
use Rattle.pdb_files.specs.Entries.{resource_entries, resource_entry}
use Rattle.pdb_files.specs.Reading.{entry_in, has_bit, items_in, record_of, records_in, resource_of, resources_in}
use Rattle.pdb_files.specs.Files.{FitsRecord, FitsResource}
use Rattle.pdb_files.specs.Blocks.{begins_from}
use Rattle.pdb_files.proofs.Numbers.{IsBytes, IsBytes-drop, behind, cut_code, cut_number, code_at-written, length-code_at, number_at-written, number_at-fits}

-- a flag as a number
abbrev flag_of : Bool → ℕ
flag_of flag = bit_where flag 1

weighed : (flag : Bool) (weight : ℕ) → (bit_where flag weight ≡ flag_of flag * weight) × (flag_of flag ≤ 1)
weighed true weight = (omega arith, omega arith)
weighed false weight = (omega arith, omega arith)

is_one : (flag : Bool) (number : ℕ) → number ≡ flag_of flag → eqb number 1 ≡ flag
is_one true number e = rw e refl
is_one false number e = rw e refl

one_is : (number : ℕ) → number < 2 → flag_of (eqb number 1) ≡ number
one_is zero lt = refl
one_is (suc zero) lt = refl
one_is (suc (suc n)) lt = absurd (omega arith)

-- the bits of a record's attributes, and its category
pub bits_back : (item : Record) → item.content.category < 16
    → (has_bit 128 (attributes_of item) ≡ item.deleted)
    × (has_bit 64 (attributes_of item) ≡ item.dirty) × (has_bit 32 (attributes_of item) ≡ item.busy) × (has_bit 16 (attributes_of item) ≡ item.content.secret)
    × (attributes_of item % 16 ≡ item.content.category) × (attributes_of item < 256)
bits_back item small = grind (arith, weighed, is_one)

-- the attributes of a record of these attributes
bits_again : (entry : Entry) (bytes : List ℕ) → entry.attributes < 256 → attributes_of (record_of entry bytes) ≡ entry.attributes
unfolding record_of
bits_again entry bytes small = grind (arith, weighed, one_is)

-- ---- entries of one sort

-- the text of entries, by where the data of each begins
abbrev pub text_from : {A : Type 0} → (ℕ → A → List ℕ) → List ℕ → List A → List ℕ
text_from text_of begins items = flat_map (λ entry. text_of entry.0 entry.1) (zip begins items)

module _ {A : Type 0} (size place : ℕ) (item : List ℕ → List ℕ → A) (text_of : ℕ → A → List ℕ) (data_of : A → List ℕ) (Fits : A → Type 0) where
  -- what is read of bytes that begin with the entry of an item
  pub record ReadsEntry (begin : ℕ) (value : A) (bytes rest : List ℕ) : Type 0 where
    pub reads_begin : number_at 4 place bytes ≡ begin
    pub reads_item : item bytes (data_of value) ≡ value
    pub behind : drop size bytes ≡ rest
    pub long : length bytes ≡ size + length rest

  -- what is written of bytes that begin with an entry, with the data of its item
  pub record WritesEntry (bytes block : List ℕ) : Type 0 where
    pub text : bytes ≡ text_of (number_at 4 place bytes) (item bytes block) ++ drop size bytes
    pub fits : Fits (item bytes block)
    pub holds : data_of (item bytes block) ≡ block

  -- entries that are written and read in this way
  record AreEntries : Type 0 where
    written : (begin : ℕ) (value : A) (bytes rest : List ℕ)
        → bytes ≡ text_of begin value ++ rest → begin < 2 ^ 32 → Fits value → ReadsEntry begin value bytes rest
    read : (bytes block : List ℕ) → IsBytes bytes → size ≤ length bytes → WritesEntry bytes block

  record WritesEntries (bytes : List ℕ) (blocks : List (List ℕ)) : Type 0 where
    text : bytes ≡ text_from text_of (begins_in size place (length blocks) bytes) (items_in size item bytes blocks) ++ drop (size * length blocks) bytes
    fits : AllByRecursion Fits (items_in size item bytes blocks)
    holds : map data_of (items_in size item bytes blocks) ≡ blocks
    long : length (items_in size item bytes blocks) ≡ length blocks

  entries-read : AreEntries → (bytes : List ℕ) (blocks : List (List ℕ)) → IsBytes bytes → size * length blocks ≤ length bytes → WritesEntries bytes blocks
  entries-read are bytes [] fits long =
      let none : 0 ≡ size * 0 = omega arith in
      record { text = ap (λ place. drop place bytes) none; fits = tt; holds = refl; long = refl }
  entries-read are bytes (block ∷ blocks) fits long =
      grind (
        arith,
        mul-suc,
        IsBytes-drop,
        length-drop,
        behind,
        drop-drop,
        append_assoc,
        entries-read are (drop size bytes) blocks (IsBytes-drop size bytes fits) (omega (arith, length-drop size bytes)),
      )

  record ReadsEntries (begin : ℕ) (items : List A) (bytes rest : List ℕ) : Type 0 where
    reads_begins : begins_in size place (length items) bytes ≡ begins_from begin (map data_of items)
    reads_items : items_in size item bytes (map data_of items) ≡ items
    behind : drop (size * length items) bytes ≡ rest
    long : length bytes ≡ size * length items + length rest

  entries-written : AreEntries
      → (begin : ℕ) (items : List A) (bytes rest : List ℕ) → bytes ≡ text_from text_of (begins_from begin (map data_of items)) items ++ rest
      → AllByRecursion (λ begin. begin < 2 ^ 32) (begins_from begin (map data_of items))
      → AllByRecursion Fits items → ReadsEntries begin items bytes rest
  entries-written are begin [] bytes rest text small fits = grind (arith, behind)
  entries-written are begin (value ∷ items) bytes rest text small fits =
      let next = begin + length (data_of value) in
      let later = text_from text_of (begins_from next (map data_of items)) items in
      let first = are.written begin value bytes (later ++ rest) (text ∙ append_assoc (text_of begin value) later rest) small.0 fits.0 in
      let others = entries-written are next items (drop size bytes) rest first.behind small.1 fits.1 in
      let more = mul-suc size (length items) in
      let end : size + size * length items ≡ size * suc (length items) = omega arith in
      record {
        reads_begins = λ i. first.reads_begin i ∷ others.reads_begins i;
        reads_items = λ i. first.reads_item i ∷ others.reads_items i;
        behind = ap (λ place. drop place bytes) (sym end) ∙ sym (drop-drop (size * length items) size bytes) ∙ others.behind;
        long = omega (arith, first.long, others.long, ap length first.behind);
      }

-- ---- one entry

-- the record of an entry and its data
abbrev pub read_record : List ℕ → List ℕ → Record
read_record entry block = record_of (entry_in entry) block

abbrev pub bytes_of_record : Record → List ℕ
bytes_of_record item = item.content.bytes

abbrev pub bytes_of_resource : Resource → List ℕ
bytes_of_resource resource = resource.bytes

record-written : (begin : ℕ) (item : Record) (bytes rest : List ℕ)
    → bytes ≡ record_entry begin item ++ rest
    → begin < 2 ^ 32 → FitsRecord item → ReadsEntry 8 0 read_record record_entry bytes_of_record FitsRecord begin item bytes rest
unfolding record_entry entry_in record_of
record-written begin item bytes rest text small fits =
    let d0 = text in
    let d4 = behind 0 4 bytes (big_bytes 4 begin) _ d0 refl in
    let d5 = behind 4 1 bytes (attributes_of item ∷ []) _ d4 refl in
    let d8 = behind 5 3 bytes (big_bytes 3 item.id) rest d5 refl in
    let flags : slice_index bytes 4 ≡ attributes_of item = ap (λ bytes. slice_index bytes 4) d0 in
    let id = number_at-written 3 5 item.id bytes rest d5 fits.id in
    let bits = bits_back item fits.category in
    record {
      reads_begin = number_at-written 4 0 begin bytes _ d0 small;
      reads_item =
          (λ i. record {
            id = id i;
            deleted = has_bit 128 (flags i);
            dirty = has_bit 64 (flags i);
            busy = has_bit 32 (flags i);
            content = record { category = flags i % 16; secret = has_bit 16 (flags i); bytes = item.content.bytes };
          })
          ∙ (λ i. record {
            id = item.id;
            deleted = bits.0 i;
            dirty = bits.1 i;
            busy = bits.2 i;
            content = record { category = bits.4 i; secret = bits.3 i; bytes = item.content.bytes };
          });
      behind = d8;
      long = ap length d0 ∙ omega arith;
    }

record-read : (bytes block : List ℕ) → IsBytes bytes → 8 ≤ length bytes → WritesEntry 8 0 read_record record_entry bytes_of_record FitsRecord bytes block
unfolding record_entry entry_in record_of
record-read bytes block fits long =
    let entry : Entry = record { attributes = slice_index bytes 4; id = number_at 3 5 bytes } in
    let bits = bits_again entry block (fits 4) in
    let t5 = cut_number 3 5 bytes fits long in
    let t4 : drop 4 bytes ≡ slice_index bytes 4 ∷ drop 5 bytes = drop_more bytes 4 0 (omega arith) in
    let t0 = cut_number 4 0 bytes fits (omega arith) in
    record {
      text = t0 ∙ ap (λ rest. big_bytes 4 (number_at 4 0 bytes) ++ rest) (t4
          ∙ ap (λ rest. slice_index bytes 4 ∷ rest) t5 ∙ ap (λ bits. bits ∷ (big_bytes 3 (number_at 3 5 bytes) ++ drop 8 bytes)) (sym bits));
      fits = record { id = number_at-fits 3 5 bytes fits; category = omega arith };
      holds = refl;
    }

resource-written : (begin : ℕ) (resource : Resource) (bytes rest : List ℕ) → bytes ≡ resource_entry begin resource ++ rest
    → begin < 2 ^ 32 → FitsResource resource → ReadsEntry 10 6 resource_of resource_entry bytes_of_resource FitsResource begin resource bytes rest
unfolding resource_entry resource_of
resource-written begin resource bytes rest text small fits =
    let d0 = text ∙ append_assoc (resource.kind.0 ++ big_bytes 2 resource.id) (big_bytes 4 begin) rest
    ∙ append_assoc resource.kind.0 (big_bytes 2 resource.id) (big_bytes 4 begin ++ rest) in
    let d4 = behind 0 4 bytes resource.kind.0 _ d0 fits.kind in
    let d6 = behind 4 2 bytes (big_bytes 2 resource.id) _ d4 refl in
    let d10 = behind 6 4 bytes (big_bytes 4 begin) rest d6 refl in
    let kind = code_at-written 0 bytes resource.kind.0 _ d0 fits.kind in
    let id = number_at-written 2 4 resource.id bytes _ d4 fits.id in
    record {
      reads_begin = number_at-written 4 6 begin bytes rest d6 small;
      reads_item = λ i. record { kind = record { 0 = kind i }; id = id i; bytes = resource.bytes };
      behind = d10;
      long = ap length d0 ∙ omega (arith, length-append resource.kind.0 (big_bytes 2 resource.id ++ (big_bytes 4 begin ++ rest)), fits.kind);
    }

resource-read : (bytes block : List ℕ)
    → IsBytes bytes → 10 ≤ length bytes → WritesEntry 10 6 resource_of resource_entry bytes_of_resource FitsResource bytes block
unfolding resource_entry resource_of
resource-read bytes block fits long =
    let t6 = cut_number 4 6 bytes fits long in
    let t4 = cut_number 2 4 bytes fits (omega arith) ∙ ap (λ rest. big_bytes 2 (number_at 2 4 bytes) ++ rest) t6 in
    let t0 = cut_code 0 bytes ∙ ap (λ rest. code_at 0 bytes ++ rest) t4 in
    let id = big_bytes 2 (number_at 2 4 bytes) in
    let begin = big_bytes 4 (number_at 4 6 bytes) in
    record {
      text = t0 ∙ sym (append_assoc (code_at 0 bytes) id (begin ++ drop 10 bytes)) ∙ sym (append_assoc (code_at 0 bytes ++ id) begin (drop 10 bytes));
      fits = record { kind = length-code_at 0 bytes (omega arith); id = number_at-fits 2 4 bytes fits };
      holds = refl;
    }

are_records : AreEntries 8 0 read_record record_entry bytes_of_record FitsRecord
are_records = record { written = record-written; read = record-read }

are_resources : AreEntries 10 6 resource_of resource_entry bytes_of_resource FitsResource
are_resources = record { written = resource-written; read = resource-read }

-- ---- the entries of a file, of resources or else of records

-- the records and the resources that are read
abbrev pub records_read : Bool → List ℕ → List (List ℕ) → List Record
records_read of_resources bytes blocks = cond of_resources [] (records_in bytes blocks)

abbrev pub resources_read : Bool → List ℕ → List (List ℕ) → List Resource
resources_read of_resources bytes blocks = cond of_resources (resources_in bytes blocks) []

abbrev pub count_either : Bool → List Record → List Resource → ℕ
count_either of_resources items resources = cond of_resources (length resources) (length items)

abbrev pub data_either : Bool → List Record → List Resource → List (List ℕ)
data_either of_resources items resources = cond of_resources (resource_data resources) (record_data items)

abbrev pub text_either : Bool → List ℕ → List Record → List Resource → List ℕ
text_either of_resources begins items resources = cond of_resources (resource_entries begins resources) (record_entries begins items)

-- what is written of bytes that begin with entries, with the data of each
pub record WritesEither (b : Bool) (bytes : List ℕ) (blocks : List (List ℕ)) : Type 0 where
  pub text : bytes ≡ text_either b (begins_in (entry_length b) (begin_place b) (length blocks) bytes)
      (records_read b bytes blocks) (resources_read b bytes blocks) ++ drop (entry_length b * length blocks) bytes
  pub records : AllByRecursion FitsRecord (records_read b bytes blocks)
  pub resources : AllByRecursion FitsResource (resources_read b bytes blocks)
  pub holds : data_either b (records_read b bytes blocks) (resources_read b bytes blocks) ≡ blocks
  pub count : count_either b (records_read b bytes blocks) (resources_read b bytes blocks) ≡ length blocks
  pub no_records : b ≡ true → records_read b bytes blocks ≡ []
  pub no_resources : b ≡ false → resources_read b bytes blocks ≡ []

pub either-read : (b : Bool) (bytes : List ℕ) (blocks : List (List ℕ))
    → IsBytes bytes → entry_length b * length blocks ≤ length bytes → WritesEither b bytes blocks
either-read true bytes blocks fits long =
    let all = entries-read 10 6 resource_of resource_entry bytes_of_resource FitsResource are_resources bytes blocks fits long in
    record { text = all.text; records = tt; resources = all.fits; holds = all.holds; count = all.long; no_records = λ e. refl; no_resources = λ e. absurd cc }
either-read false bytes blocks fits long =
    let all = entries-read 8 0 read_record record_entry bytes_of_record FitsRecord are_records bytes blocks fits long in
    record { text = all.text; records = all.fits; resources = tt; holds = all.holds; count = all.long; no_records = λ e. absurd cc; no_resources = λ e. refl }

-- what is read of bytes that begin with entries, whose data stands one behind the other from a place on
pub record ReadsEither (b : Bool) (begin : ℕ) (items : List Record) (resources : List Resource) (bytes rest : List ℕ) : Type 0 where
  pub reads_begins : begins_in (entry_length b) (begin_place b) (count_either b items resources) bytes ≡ begins_from begin (data_either b items resources)
  pub reads_records : records_read b bytes (data_either b items resources) ≡ items
  pub reads_resources : resources_read b bytes (data_either b items resources) ≡ resources
  pub behind : drop (entry_length b * count_either b items resources) bytes ≡ rest
  pub long : length bytes ≡ entry_length b * count_either b items resources + length rest

pub either-written : (b : Bool) (begin : ℕ) (items : List Record) (resources : List Resource) (bytes rest : List ℕ)
    → bytes ≡ text_either b (begins_from begin (data_either b items resources)) items resources ++ rest
    → AllByRecursion (λ begin. begin < 2 ^ 32) (begins_from begin (data_either b items resources))
    → AllByRecursion FitsRecord items → AllByRecursion FitsResource resources
    → (b ≡ true → items ≡ []) → (b ≡ false → resources ≡ []) → ReadsEither b begin items resources bytes rest
either-written true begin items resources bytes rest text small fits short no_records no_resources =
    let all = entries-written 10 6 resource_of resource_entry bytes_of_resource FitsResource are_resources begin resources bytes rest text small short in
    record { reads_begins = all.reads_begins; reads_records = sym (no_records refl); reads_resources = all.reads_items; behind = all.behind; long = all.long }
either-written false begin items resources bytes rest text small fits short no_records no_resources =
    let all = entries-written 8 0 read_record record_entry bytes_of_record FitsRecord are_records begin items bytes rest text small fits in
    record { reads_begins = all.reads_begins; reads_records = all.reads_items; reads_resources = sym (no_resources refl); behind = all.behind; long = all.long }
