-- How the steps of a writing make its bytes.
use Rattle.std.proofs.Common.{◌≡◌, ℕ, suc, ◌+◌, ◌-◌, ◌*◌, ◌^◌, ◌<◌, ◌≤◌, Bool, true, false, List, [], ◌∷◌, ◌++◌, length, get_or, take, drop, map, replicate}
use Rattle.std.proofs.Common.{Option, Some, None, refl, ap, ◌∙◌, append_assoc, arith}
use Rattle.std.specs.List.{AllByRecursion, concat}
use Rattle.std.proofs.lemmas.List.{append-nil, at_drop_more, drop-replicate, length-append, length-map, length-replicate, take_more}
use Rattle.pdb_values.specs.declared.record.Record.{Record}
use Rattle.pdb_values.specs.declared.resource.Resource.{Resource}
use Rattle.pdb_values.specs.Blocks.{block_length}
use Rattle.pdb_values.specs.Databases.{DatabaseValue, IsDatabase}
use Rattle.pdb_files.specs.Blocks.{AreShort, begins_from, block_list}
use Rattle.pdb_files.specs.Files.{FitsHeader, FitsRecord, FitsResource, IsFileText, app_begin, blocks_of, canonical, data_of, entries_end, entry_count}
use Rattle.pdb_files.specs.Files.{has_resources}
use Rattle.pdb_files.specs.Headers.{zeros_behind}
use Rattle.pdb_files.proofs.EntryLaws.{count_either, data_either, text_from}

-- fourteen fields behind what was written before
pub fields_behind : (out a b c d e f g h i j k l m n : List ℕ)
    → out ++ a ++ b ++ c ++ d ++ e ++ f ++ g ++ h ++ i ++ j ++ k ++ l ++ m ++ n ≡ out ++ (a ++ b ++ c ++ d ++ e ++ f ++ g ++ h ++ i ++ j ++ k ++ l ++ m ++ n)
fields_behind out a b c d e f g h i j k l m n = simp append_assoc

-- the zeros that fill the field of a name
pub zeros_left : (size : ℕ) → size ≤ 31 → drop {A = ℕ} size (replicate 32 0) ≡ 0 ∷ replicate (32 - (size + 1)) 0
zeros_left size le =
    let left : 32 - size ≡ suc (32 - (size + 1)) = omega arith in
    drop-replicate {X = ℕ} size 32 0 ∙ ap (λ n. replicate n 0) left

pub length-zeros_behind : (name : List ℕ) → length name ≤ 31 → length name + 1 + length (zeros_behind name) ≡ 32
length-zeros_behind name le = grind (arith, length-replicate)

-- ---- the loops over the entries

pub one_more_text : {A : Type 0} (text_of : ℕ → A → List ℕ) (data_of : A → List ℕ) (out : List ℕ) (place : ℕ) (items : List A) (i : ℕ) {item : A}
    → i < length items → item ≡ get_or items i item → (out ++ text_of place item) ++ text_from text_of (begins_from (place + length (data_of item))
    (map data_of (drop (i + 1) items))) (drop (i + 1) items) ≡ out ++ text_from text_of (begins_from place (map data_of (drop i items))) (drop i items)
one_more_text text_of data_of out place items i {item} lt is =
    let text : List _ → List ℕ = λ items. text_from text_of (begins_from place (map data_of items)) items in
    cc (append_assoc out (text_of place item) _, at_drop_more text items i item lt)

pub one_more_block : {A : Type 0} (data_of : A → List ℕ) (out : List ℕ) (items : List A) (i : ℕ) {item : A} → i < length items
    → item ≡ get_or items i item → (out ++ data_of item) ++ concat (map data_of (drop (i + 1) items)) ≡ out ++ concat (map data_of (drop i items))
one_more_block data_of out items i {item} lt is =
    let text : List _ → List ℕ = λ items. concat (map data_of items) in
    cc (append_assoc out (data_of item) _, at_drop_more text items i item lt)

pub all_behind : {X : Type 0} (P : X → Type 0) (xs : List X) (x : X) → AllByRecursion P xs → P x → AllByRecursion P (xs ++ x ∷ [])
all_behind P [] x each here = (here, tt)
all_behind P (y ∷ ys) x each here = (each.0, all_behind P ys x each.1 here)

pub all_of_more : {X : Type 0} (P : X → Type 0) (items : List X) (i : ℕ) {item : X}
    → i < length items → item ≡ get_or items i item → AllByRecursion P (take i items) → P item → AllByRecursion P (take (i + 1) items)
all_of_more P items i {item} lt is each here = rw (take_more items i item lt, ← is) (all_behind P (take i items) item each here)

pub all_short : {X : Type 0} (data_of : X → List ℕ) (items : List X)
    → AllByRecursion (λ item. length (data_of item) ≤ 65500) items → AreShort (map data_of items)
all_short data_of [] short = tt
all_short data_of (item ∷ items) short = (short.0, all_short data_of items short.1)

-- a block that can be absent, in front of others
block_in_front : (out : List ℕ) (block : Option (List ℕ)) (blocks : List (List ℕ))
    → (out ++ concat (block_list block)) ++ concat blocks ≡ out ++ concat (block_list block ++ blocks)
block_in_front out None blocks = rw (append-nil out)
block_in_front out (Some block) blocks = grind (arith, append-nil, append_assoc)

pub blocks_behind : (out : List ℕ) (app sort : Option (List ℕ)) (blocks : List (List ℕ))
    → ((out ++ concat (block_list app)) ++ concat (block_list sort)) ++ concat blocks ≡ out ++ concat (block_list app ++ (block_list sort ++ blocks))
blocks_behind out app sort blocks = grind (arith, block_in_front)

-- ---- what is written is a text of the database

-- the offsets of short blocks
begins_small : (place : ℕ) (blocks : List (List ℕ))
    → AreShort blocks → place + 65500 * length blocks < 2 ^ 32 → AllByRecursion (λ begin. begin < 2 ^ 32) (begins_from place blocks)
begins_small place [] short lt = tt
begins_small place (block ∷ blocks) short lt = (omega arith, begins_small (place + length block) blocks short.1 (omega (arith, short.0)))

short_more : (block : Option (List ℕ)) (blocks : List (List ℕ)) → block_length block ≤ 65500 → AreShort blocks → AreShort (block_list block ++ blocks)
short_more None blocks le short = short
short_more (Some block) blocks le short = (le, short)

pub length-block_list : (block : Option (List ℕ)) → length (block_list block) ≤ 1
length-block_list None = omega arith
length-block_list (Some block) = omega arith

length-data : (b : Bool) (items : List Record) (resources : List Resource) → length (data_either b items resources) ≡ count_either b items resources
length-data true items resources = grind (arith, length-map)
length-data false items resources = grind (arith, length-map)

most_entries : (b : Bool) (count : ℕ) → count ≤ 65535 → entries_end b count ≤ 655428
most_entries true count le = omega arith
most_entries false count le = omega arith

pub canonical_is_text : (database : DatabaseValue) → IsDatabase database
    → FitsHeader database.head → entry_count database ≤ 65535 → AllByRecursion FitsRecord database.records → AllByRecursion FitsResource database.resources
    → AreShort (data_of database) → IsFileText database (canonical database)
canonical_is_text database is head few records resources contents =
    let short = short_more database.app
    (block_list database.sort ++ data_of database) is.short_app (short_more database.sort (data_of database) is.short_sort contents) in
    let count = length-data (has_resources database) database.records database.resources in
    let first = most_entries (has_resources database) (entry_count database) few in
    let size : length (blocks_of database) ≤ 65537 =
    omega (
      arith,
      length-append (block_list database.app) (block_list database.sort ++ data_of database),
      length-append (block_list database.sort) (data_of database),
      length-block_list database.app,
      length-block_list database.sort,
    ) in
    record {
      after_name = zeros_behind database.head.name;
      filler = 0 ∷ 0 ∷ [];
      text = refl;
      name_field = length-zeros_behind database.head.name head.name.short;
      begins = begins_small (app_begin database (0 ∷ 0 ∷ [])) (blocks_of database) short (omega arith);
      head = head;
      count = omega arith;
      records = records;
      resources = resources;
      no_records = is.no_records;
      no_resources = is.no_resources;
      short = short;
    }
