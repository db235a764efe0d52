-- How the steps of a reading make its answer.
use Rattle.std.proofs.Common.{◌≡◌, ℕ, zero, suc, ◌+◌, ◌-◌, ◌*◌, ◌<◌, ◌≤◌, Bool, true, false, List, [], ◌∷◌, ◌++◌, length, take, drop, Option, Some, None}
use Rattle.std.proofs.Common.{Result, Ok, Err, refl, sym, ap, subst, ◌∙◌, append_assoc, arith}
use Rattle.std.specs.Prelude.{◌↔◌, IfOk, IsErr, IsOk, IsOkUnless, MatchResult, position, slice_index, slice_range}
use Rattle.std.specs.Result.{result_err}
use Rattle.std.specs.Option.{option_or}
use Rattle.std.proofs.lemmas.Bool.{le-ltb, lt-ltb, ne_eqb}
use Rattle.std.proofs.lemmas.List.{append-nil, drop_more, length-append, length-drop, length-take, take-take}
use Rattle.std.proofs.lemmas.List.Quantifiers.{position-Some}
use Rattle.pdb_values.specs.Blocks.{block_length}
use Rattle.pdb_values.specs.Databases.{DatabaseValue}
use Rattle.pdb_values.specs.Heads.{holds_resources}
use Rattle.pdb_values.specs.Names.{IsName, name_fault}
use Rattle.pdb_files.specs.declared.header.Header.{Header}
use Rattle.pdb_files.specs.declared.fault.FileFault.{FileFault}
use Rattle.pdb_files.specs.declared.fault.FileFault.TheVariants.{Short, NoMemory}
use Rattle.pdb_files.specs.Fields.{number_at}
use Rattle.pdb_files.specs.Headers.{app_place, is_zero, sort_place}
use Rattle.pdb_files.specs.Reading.{Gives, database_in, database_of, head_in, header_in, items_in, resource_of}
use Rattle.pdb_files.specs.Entries.{begin_place, begins_in, entry_length}
use Rattle.pdb_files.specs.Blocks.{AreInOrder, AreShort, begin_list, behind_front, blocks_in, front_block, next_begin}
use Rattle.pdb_files.specs.Files.{entries_end, IsFileText}
use Rattle.pdb_files.specs.Faults.{Refuses, header_fault, too_short, blocks_fault, count_in, first_place, of_resources, block_begins, file_fault}
use Rattle.pdb_files.proofs.BlockLaws.{blocks_in-cons, in_order_earlier}
use Rattle.pdb_files.proofs.EntryLaws.{records_read, resources_read}
use Rattle.pdb_files.proofs.FrontLaws.{begins-behind, blocks-behind, front_there, order-behind, short-behind, short-front}
use Rattle.pdb_files.proofs.NameLaws.{name_before}
use Rattle.pdb_files.proofs.Numbers.{IsBytes, number_at-fits}
use Rattle.pdb_files.proofs.FileLaws.{file-read, file-written, length-begins_in, sound_from_none}

-- a fault that is the first one is the answer
pub refuses_fault : (A : Type 0) (fault : FileFault) (first : Option FileFault) → first ≡ Some fault → Refuses {A = A} (Err fault) first
refuses_fault A NoMemory first e = tt
refuses_fault A other first e = e

-- and so is one that is the answer to a part
pub gives_refusal : (A : Type 0) {B : Type 0} (fault : FileFault) (first : Option FileFault) (expected : B) → Refuses {A = A} (Err fault) first
    → Gives (Err fault) first expected
gives_refusal A NoMemory first expected e = tt
gives_refusal A other first expected e = e

pub refuses_alike : (A B : Type 0) (fault : FileFault) (first : Option FileFault) → Refuses {A = A} (Err fault) first → Refuses {A = B} (Err fault) first
refuses_alike A B NoMemory first e = tt
refuses_alike A B other first e = e

-- ---- the first fault

pub of_header : (bytes : List ℕ) {fault : FileFault} → header_fault bytes ≡ Some fault → file_fault bytes ≡ Some fault
unfolding file_fault
of_header bytes e = rw e refl

pub of_rest : (bytes : List ℕ) → header_fault bytes ≡ None
    → file_fault bytes ≡ option_or (too_short (first_place bytes) bytes) (blocks_fault (first_place bytes) (length bytes) (block_begins bytes))
unfolding file_fault
of_rest bytes a = rw a refl

pub of_short : (bytes : List ℕ) {first : ℕ}
    → header_fault bytes ≡ None → first ≡ first_place bytes → length bytes < first → file_fault bytes ≡ Some (Short (length bytes))
of_short bytes {first} a is lt = grind (arith, lt-ltb, of_rest)

-- the fault of bytes that only their blocks can make bad
pub of_blocks : (bytes : List ℕ) {first : ℕ} {begins : List ℕ} → header_fault bytes ≡ None
    → first ≡ first_place bytes → first ≤ length bytes → begins ≡ block_begins bytes → file_fault bytes ≡ blocks_fault first (length bytes) begins
of_blocks bytes {first} a is le begins-are = grind (arith, le-ltb, of_rest)

-- ---- the header

-- where the entries end that a header counts
pub first_is : {header : Header} (bytes : List ℕ) {first : ℕ}
    → header ≡ header_in bytes → first ≡ entries_end (holds_resources header.head.attributes) header.count → first ≡ first_place bytes
unfolding header_in head_in
first_is {header} bytes is ends = grind arith

-- ---- the answer

pub is_found : (bytes : List ℕ) (answer : Result DatabaseValue FileFault)
    → IsBytes bytes → Gives answer (file_fault bytes) (database_in bytes) → IfOk answer (λ database. IsFileText database bytes)
is_found bytes (Ok database) fits given = rw given.1 (file-read bytes fits given.0)
is_found bytes (Err fault) fits given = tt

no_refusal : (bytes : List ℕ) (fault : FileFault) (database : DatabaseValue)
    → file_fault bytes ≡ None → Gives {A = DatabaseValue} (Err fault) (file_fault bytes) (database_in bytes) → fault ≡ NoMemory
no_refusal bytes NoMemory database none given = refl
no_refusal bytes other database none given = absurd cc

pub only_it : (bytes : List ℕ) (answer : Result DatabaseValue FileFault) → Gives answer (file_fault bytes) (database_in bytes)
    → (database : DatabaseValue) → IsFileText database bytes → MatchResult answer (λ found. found ≡ database) (λ fault. fault ≡ NoMemory)
only_it bytes (Ok found) given database is = given.1 ∙ (file-written database bytes is).reads
only_it bytes (Err fault) given database is = no_refusal bytes fault database (file-written database bytes is).none given

-- the entries that a header counts are there
pub entries_room : {header : Header} (bytes : List ℕ) → header ≡ header_in bytes
    → first_place bytes ≤ length bytes → entry_length (holds_resources header.head.attributes) * header.count ≤ length (drop 78 bytes)
entries_room bytes is le =
    let first = first_is bytes is refl in
    omega (arith, first, le, length-drop 78 bytes)

-- ---- where the blocks begin

pub begins_are : {header : Header} (bytes : List ℕ) {begins : List ℕ} → header ≡ header_in bytes → begins ≡ begin_list header.app ++ (begin_list header.sort
    ++ begins_in (entry_length (holds_resources header.head.attributes)) (begin_place (holds_resources header.head.attributes)) header.count (drop 78 bytes))
    → begins ≡ block_begins bytes
unfolding header_in head_in
begins_are {header} bytes is are = grind arith

length-begin_list : (offset : ℕ) → length (begin_list offset) ≤ 1
length-begin_list zero = omega arith
length-begin_list (suc offset) = omega arith

-- a file has few blocks
pub begins_few : (bytes : List ℕ) → IsBytes bytes → length (block_begins bytes) ≤ 65537
begins_few bytes fits = grind (arith, length-append, length-begin_list, length-begins_in, number_at-fits)

-- what the reading of blocks that break no rule asks for, and what it gives
pub record ReadsBlocks (header : Header) (bytes begins : List ℕ) : Type 0 where
  pub app_there : length (begin_list header.app) ≤ length begins
  pub sort_there : length (begin_list header.sort) ≤ length (behind_front header.app begins)
  pub order : AreInOrder 0 (length bytes) begins
  pub sort_order : AreInOrder 0 (length bytes) (behind_front header.app begins)
  pub data_order : AreInOrder 0 (length bytes) (behind_front header.sort (behind_front header.app begins))
  pub short_app : block_length (front_block header.app (blocks_in begins bytes)) ≤ 65500
  pub short_sort : block_length (front_block header.sort (blocks_in (behind_front header.app begins) bytes)) ≤ 65500
  pub data_short : AreShort (blocks_in (behind_front header.sort (behind_front header.app begins)) bytes)
  pub long : 78 + entry_length (holds_resources header.head.attributes) * length (behind_front header.sort (behind_front header.app begins)) ≤ length bytes
  pub few : length (behind_front header.sort (behind_front header.app begins)) ≤ 65535
  pub database : record {
    head = header.head;
    app = front_block header.app (blocks_in begins bytes);
    sort = front_block header.sort (blocks_in (behind_front header.app begins) bytes);
    records = records_read (holds_resources header.head.attributes)
        (drop 78 bytes) (blocks_in (behind_front header.sort (behind_front header.app begins)) bytes);
    resources = resources_read
        (holds_resources header.head.attributes) (drop 78 bytes) (blocks_in (behind_front header.sort (behind_front header.app begins)) bytes);
  } ≡ database_in bytes

blocks_read_of : (bytes : List ℕ) → IsBytes bytes → file_fault bytes ≡ None → ReadsBlocks (header_in bytes) bytes (block_begins bytes)
unfolding header_in head_in database_in database_of
blocks_read_of bytes fits none =
    let sound = sound_from_none bytes none in
    let b = of_resources bytes in
    let app = number_at 4 app_place bytes in
    let sort = number_at 4 sort_place bytes in
    let places = begins_in (entry_length b) (begin_place b) (count_in bytes) (drop 78 bytes) in
    let begins = block_begins bytes in
    let blocks = blocks_in begins bytes in
    let behind_app : behind_front app begins ≡ begin_list sort ++ places = begins-behind app (begin_list sort ++ places) begins refl in
    let contents = begins-behind sort places (behind_front app begins) behind_app in
    let few : length (behind_front sort (behind_front app begins)) ≡ count_in bytes = ap length contents
    ∙ length-begins_in (entry_length b) (begin_place b) (count_in bytes) (drop 78 bytes) in
    let order = in_order_earlier 0 (length bytes) (first_place bytes) begins (omega arith) sound.order in
    let order' = order-behind app (length bytes) begins order in
    let app-blocks = blocks-behind app begins bytes in
    let data-blocks =
    blocks-behind sort (behind_front app begins) bytes ∙ ap (behind_front sort) app-blocks in
    record {
      app_there = front_there app (begin_list sort ++ places) begins refl;
      sort_there = front_there sort places (behind_front app begins) behind_app;
      order = order;
      sort_order = order';
      data_order = order-behind sort (length bytes) (behind_front app begins) order';
      short_app = short-front app blocks sound.short;
      short_sort = short-front sort (blocks_in (behind_front app begins) bytes) (subst AreShort (sym app-blocks) (short-behind app blocks sound.short));
      data_short = subst AreShort (sym data-blocks) (short-behind sort (behind_front app blocks) (short-behind app blocks sound.short));
      long = subst (λ count. 78 + entry_length b * count ≤ length bytes) (sym few) sound.entries;
      few = omega (arith, few, number_at-fits 2 76 bytes fits);
      database = λ i. record {
        head = head_in bytes;
        app = front_block app blocks;
        sort = front_block sort (app-blocks i);
        records = records_read b (drop 78 bytes) (data-blocks i);
        resources = resources_read b (drop 78 bytes) (data-blocks i);
      };
    }

pub blocks_read : {header : Header} {begins : List ℕ} (bytes : List ℕ)
    → IsBytes bytes → file_fault bytes ≡ None → header ≡ header_in bytes → begins ≡ block_begins bytes → ReadsBlocks header bytes begins
blocks_read bytes fits none is are = rw (is, are) (blocks_read_of bytes fits none)

-- a value that is the expected one is the answer, and so is want of memory
pub gives_value : {A : Type 0} (answer : Result A FileFault) {first : Option FileFault} {value expected : A}
    → first ≡ None → IfOk answer (λ found. found ≡ value) → IsOkUnless answer NoMemory → value ≡ expected → Gives answer first expected
gives_value (Ok found) none is memory same = (none, is ∙ same)
gives_value (Err NoMemory) none is memory same = tt
gives_value (Err other) none is memory same = absurd cc

-- ---- the loops over the entries

-- the offset stands in the entry
pub place_fits : (b : Bool) (size : ℕ) → entry_length b ≤ size → begin_place b + 4 ≤ size
place_fits true size le = omega arith
place_fits false size le = omega arith

-- room for one more entry
pub one_more_fits : (b : Bool) (count read : ℕ) (entries : List ℕ) → read < count → entry_length b * (count - read) ≤ length entries
    → (entry_length b ≤ length entries) × (entry_length b * (count - (read + 1)) ≤ length (drop (entry_length b) entries))
one_more_fits true count read entries lt le = (omega arith, omega (arith, length-drop 10 entries))
one_more_fits false count read entries lt le = (omega arith, omega (arith, length-drop 8 entries))

pub one_more_begin : (front : List ℕ) (size place count read : ℕ) (bytes : List ℕ) {all : List ℕ} → read < count → front ++ begins_in size place
    (count - read) bytes ≡ all → (front ++ number_at 4 place bytes ∷ []) ++ begins_in size place (count - (read + 1)) (drop size bytes) ≡ all
one_more_begin front size place count read bytes lt so_far =
    let left : count - read ≡ suc (count - (read + 1)) = omega arith in
    cc (append_assoc front (number_at 4 place bytes ∷ []) (begins_in size place (count - (read + 1)) (drop size bytes)), left)

pub no_more_begins : (front : List ℕ) (size place count read : ℕ) (bytes : List ℕ) {all : List ℕ}
    → count ≤ read → front ++ begins_in size place (count - read) bytes ≡ all → front ≡ all
no_more_begins front size place count read bytes le so_far = grind (arith, append-nil)

-- the next block of those that are left
pub at_block : (begins bytes : List ℕ) (place : ℕ) → place < length begins
    → blocks_in (drop place begins) bytes
    ≡ slice_range bytes (slice_index begins place) (next_begin (drop (place + 1) begins) (length bytes)) ∷ blocks_in (drop (place + 1) begins) bytes
at_block begins bytes place lt = grind (arith, drop_more, blocks_in-cons)

-- one more item of an entry and its block
pub one_more_item : {A : Type 0} (size : ℕ) (item : List ℕ → List ℕ → A) (front : List A) (begins bytes entries : List ℕ) (place : ℕ) {all : List A}
    → place < length begins → front ++ items_in size item entries (blocks_in (drop place begins) bytes) ≡ all
    → (front ++ item entries (slice_range bytes (slice_index begins place) (next_begin (drop (place + 1) begins) (length bytes))) ∷ [])
    ++ items_in size item (drop size entries) (blocks_in (drop (place + 1) begins) bytes) ≡ all
one_more_item size item front begins bytes entries place lt so_far = grind (arith, append_assoc, at_block)

pub begin_some : (offset : ℕ) → 0 < offset → begin_list offset ≡ offset ∷ []
begin_some zero some = absurd (omega arith)
begin_some (suc offset) some = refl

-- what is left of blocks in their order, and of short ones
pub order_left : (end : ℕ) (begins : List ℕ) (place : ℕ)
    → place < length begins → AreInOrder 0 end (drop place begins) → AreInOrder 0 end (drop (place + 1) begins)
order_left end begins place lt order =
    let here : AreInOrder 0 end (slice_index begins place ∷ drop (place + 1) begins) = subst (AreInOrder 0 end) (drop_more begins place 0 lt) order in
    in_order_earlier 0 end (slice_index begins place) (drop (place + 1) begins) (omega arith) here.2

pub short_left : (begins bytes : List ℕ) (place : ℕ) → place < length begins → AreShort (blocks_in (drop place begins) bytes)
    → (length (slice_range bytes (slice_index begins place) (next_begin (drop (place + 1) begins) (length bytes))) ≤ 65500)
    × AreShort (blocks_in (drop (place + 1) begins) bytes)
short_left begins bytes place lt short = subst AreShort (at_block begins bytes place lt) short

pub short_of : (entry block : List ℕ) → length block ≤ 65500 → length (resource_of entry block).bytes ≤ 65500
unfolding resource_of
short_of entry block le = le

pub ok_within : {A E : Type 0} (answer : Result A E) (size : ℕ) → (IsErr answer ↔ (65500 < size)) → size ≤ 65500 → IsOk answer
ok_within (Ok value) size only le = refl
ok_within (Err fault) size only le = absurd (omega (arith, only.0 refl, le))

-- ---- names

no_name_fault : (name : List ℕ) → IsName name → name_fault name ≡ None
no_name_fault name is = grind (arith, ne_eqb, le-ltb)

-- the bytes in front of a zero that isn't the first byte are a name
pub name_accepted : (bytes : List ℕ) (size : ℕ)
    → 32 ≤ length bytes → position is_zero (take 32 bytes) ≡ Some size → 0 < size → name_fault (take size bytes) ≡ None
name_accepted bytes zero long end lt = absurd (omega arith)
name_accepted bytes (suc place) long end lt =
    let found = position-Some is_zero (take 32 bytes) (suc place) 0 end in
    let size = length-take 32 bytes in
    rw (← take-take (suc place) 32 bytes (omega (arith, found.0))) (no_name_fault _ (name_before (take 32 bytes) place (omega arith) end))

pub ok_without_fault : {A E : Type 0} (answer : Result A E) → result_err answer ≡ None → IsOk answer
ok_without_fault (Ok value) e = refl
ok_without_fault (Err fault) e = absurd cc
