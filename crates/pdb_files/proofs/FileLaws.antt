-- Files: bytes that break no rule are a text of the database that is read, and a text of a database breaks no rule and is read as it.
use Rattle.std.proofs.Common.{◌≡◌, ℕ, zero, suc, ◌+◌, ◌-◌, ◌*◌, ◌^◌, ◌<◌, ◌≤◌, eqb, Bool, true, false, cond, List, [], ◌∷◌, ◌++◌, length, take, drop, Option}
use Rattle.std.proofs.Common.{Some, None, refl, sym, ap, subst, ◌∙◌, append_assoc, arith, All, inl, inr}
use Rattle.std.specs.Prelude.{nat_lt}
use Rattle.std.specs.Option.{option_map, option_or}
use Rattle.std.specs.List.{AllByRecursion, concat}
use Rattle.std.proofs.lemmas.Bool.{cases_lt, le-ltb, ltb-false, eqb-true}
use Rattle.std.proofs.lemmas.List.{append-nil, drop-drop, drop_at, get_or_past, length-append, length-drop, length-take, take-append-drop}
use Rattle.pdb_values.specs.Blocks.{block_length}
use Rattle.pdb_values.specs.Databases.{DatabaseValue}
use Rattle.pdb_values.specs.Heads.{holds_resources}
use Rattle.pdb_files.specs.declared.fault.FileFault.{FileFault}
use Rattle.pdb_files.specs.declared.fault.FileFault.TheVariants.{Short, BadOffset, TooLarge, Chained}
use Rattle.pdb_files.specs.Fields.{number_at}
use Rattle.pdb_files.specs.Headers.{name_end, header_text, header_length, app_place, sort_place, next_list_place}
use Rattle.pdb_files.specs.Reading.{database_in, database_of, head_in, header_in}
use Rattle.pdb_files.specs.Entries.{begin_place, begins_in, entry_length}
use Rattle.pdb_files.specs.Blocks.{begin_list, behind_front, begins_from, block_list, block_offset, spans, blocks_in, front_block, is_oversized}
use Rattle.pdb_files.specs.Blocks.{first_misplaced, AreInOrder, AreShort}
use Rattle.pdb_files.specs.Files.{app_begin, blocks_of, data_begin, data_of, entries_end, entries_text, entry_count, file_text, has_resources, IsFileText}
use Rattle.pdb_files.specs.Files.{sort_begin}
use Rattle.pdb_files.specs.Faults.{too_short, bad_name, chained, header_fault, count_in, first_place, of_resources, block_begins, blocks_fault, file_fault}
use Rattle.pdb_files.proofs.Numbers.{IsBytes, IsBytes-drop, number_at-fits}
use Rattle.pdb_files.proofs.HeaderLaws.{header-written, header-read}
use Rattle.pdb_files.proofs.EntryLaws.{count_either, data_either, either-read, either-written, records_read, resources_read, text_either}
use Rattle.pdb_files.proofs.FrontLaws.{begins_fit, front-read, front-written, length-behind, offset_small}
use Rattle.pdb_files.proofs.BlockLaws.{none_passes, no_first, in_order_from_none, none_from_in_order, in_order_earlier, blocks_short, length-blocks_in}
use Rattle.pdb_files.proofs.BlockLaws.{concat-blocks_in, begins_from-blocks_in, begins_in_order, blocks_in-begins_from, none_oversized}

-- ---- rules that aren't broken

pub or_none : {X : Type 0} (a b : Option X) → option_or a b ≡ None → (a ≡ None) × (b ≡ None)
or_none None b e = (refl, e)
or_none (Some x) b e = absurd cc

pub map_none : {X Y : Type 0} (f : X → Y) (a : Option X) → option_map f a ≡ None → a ≡ None
map_none f None e = refl
map_none f (Some x) e = absurd cc

if_none : (b : Bool) (fault : FileFault) → cond b (Some fault) None ≡ None → b ≡ false
if_none true fault e = absurd cc
if_none false fault e = refl

unless_none : (b : Bool) (fault : FileFault) → cond b None (Some fault) ≡ None → b ≡ true
unless_none true fault e = refl
unless_none false fault e = absurd cc

name_there : (end : Option ℕ) → bad_name end ≡ None → (place : ℕ) × (end ≡ Some (suc place))
name_there (Some (suc place)) e = (place, refl)
name_there other e = absurd cc

-- what each rule says of bytes that break none
pub record IsSound (bytes : List ℕ) : Type 0 where
  pub long : 78 ≤ length bytes
  pub name : ℕ
  pub named : name_end bytes ≡ Some (suc name)
  pub alone : number_at 4 next_list_place bytes ≡ 0
  pub entries : first_place bytes ≤ length bytes
  pub order : AreInOrder (first_place bytes) (length bytes) (block_begins bytes)
  pub short : AreShort (blocks_in (block_begins bytes) bytes)

pub sound_from_none : (bytes : List ℕ) → file_fault bytes ≡ None → IsSound bytes
unfolding file_fault
sound_from_none bytes e =
    let first = first_place bytes in
    let a = or_none (header_fault bytes) _ e in
    let header = or_none (too_short header_length bytes) _ a.0 in
    let names = or_none (bad_name (name_end bytes)) (chained bytes) header.1 in
    let c = or_none (too_short first bytes) _ a.1 in
    let blocks = or_none (option_map BadOffset (first_misplaced first (length bytes) (block_begins bytes))) _ c.1 in
    let name = name_there (name_end bytes) names.0 in
    let order = in_order_from_none first (length bytes) (block_begins bytes) (map_none BadOffset _ blocks.0) in
    record {
      long = ltb-false _ _ (if_none (nat_lt (length bytes) header_length) (Short (length bytes)) header.0);
      name = name.0;
      named = name.1;
      alone = eqb-true _ _ (unless_none (eqb (number_at 4 next_list_place bytes) 0) Chained names.1);
      entries = ltb-false _ _ (if_none (nat_lt (length bytes) first) (Short (length bytes)) c.0);
      order = order;
      short = blocks_short first
          (block_begins bytes) bytes order (none_passes is_oversized 0 (spans (block_begins bytes) (length bytes)) (map_none TooLarge _ blocks.1));
    }

-- ---- what is read is a text of it

-- what stands behind the entries, as filler and blocks
record Filled (first : ℕ) (begins bytes : List ℕ) : Type 0 where
  filler : List ℕ
  parts : drop first bytes ≡ filler ++ concat (blocks_in begins bytes)
  places : begins_from (first + length filler) (blocks_in begins bytes) ≡ begins

filled : (first : ℕ) (begins bytes : List ℕ) → AreInOrder first (length bytes) begins → Filled first begins bytes
filled first [] bytes order = record { filler = drop first bytes; parts = sym (append-nil (drop first bytes)); places = refl }
filled first (begin ∷ begins) bytes order =
    let filler : List ℕ = take (begin - first) (drop first bytes) in
    let sum : first + (begin - first) ≡ begin = omega (arith, order.0) in
    let size : first + length filler ≡ begin = omega (arith, order.0, order.1, length-take (begin - first) (drop first bytes), length-drop first bytes) in
    record {
      filler = filler;
      parts =
          sym (take-append-drop (begin - first) (drop first bytes))
          ∙ ap (λ (rest : List ℕ). filler ++ rest) (drop-drop (begin - first) first bytes
          ∙ ap (λ (place : ℕ). drop place bytes) sum ∙ sym (concat-blocks_in first begin begins bytes order));
      places = ap (λ (place : ℕ). begins_from place (blocks_in (begin ∷ begins) bytes)) size ∙ begins_from-blocks_in first begin begins bytes order;
    }

pub length-begins_in : (size place count : ℕ) (bytes : List ℕ) → length (begins_in size place count bytes) ≡ count
length-begins_in size place zero bytes = refl
length-begins_in size place (suc count) bytes = ap suc (length-begins_in size place count (drop size bytes))

begins_in_fit : (size place count : ℕ) (bytes : List ℕ) → IsBytes bytes → AllByRecursion (λ begin. begin < 2 ^ 32) (begins_in size place count bytes)
begins_in_fit size place zero bytes fits = tt
begins_in_fit size place (suc count) bytes fits =
    (number_at-fits 4 place bytes fits, begins_in_fit size place count (drop size bytes) (IsBytes-drop size bytes fits))

pub file-read : (bytes : List ℕ) → IsBytes bytes → file_fault bytes ≡ None → IsFileText (database_in bytes) bytes
unfolding database_in database_of header_in head_in file_text
file-read bytes fits none =
    let sound = sound_from_none bytes none in
    let b = of_resources bytes in
    let size = entry_length b in
    let count = count_in bytes in
    let behind_header = drop 78 bytes in
    let app = number_at 4 app_place bytes in
    let sort = number_at 4 sort_place bytes in
    let places = begins_in size (begin_place b) count behind_header in
    let begins = block_begins bytes in
    let blocks = blocks_in begins bytes in
    let behind_app = behind_front app blocks in
    let contents = behind_front sort behind_app in
    let items = records_read b behind_header contents in
    let resources = resources_read b behind_header contents in
    let header = header-read bytes sound.name fits sound.long sound.named sound.alone in
    let few = length-behind sort behind_app places
    (length-behind app blocks (begin_list sort ++ places) (length-blocks_in begins bytes)) ∙ length-begins_in size (begin_place b) count behind_header in
    let room : size * count ≤ length behind_header = omega (arith, sound.entries, length-drop 78 bytes) in
    let long : size * length contents ≤ length behind_header = subst (λ count. size * count ≤ length behind_header) (sym few) room in
    let entries = either-read b behind_header contents (IsBytes-drop 78 bytes fits) long in
    let same_count = entries.count ∙ few in
    let rest = filled (first_place bytes) begins bytes sound.order in
    let place = entries_end b (count_either b items resources) + length rest.filler in
    let place-is : entries_end b count + length rest.filler ≡ place = λ i. entries_end b (sym same_count i) + length rest.filler in
    let begins-are : begins_from place blocks ≡ begins = ap (λ place. begins_from place blocks) (sym place-is) ∙ rest.places in
    let front = front-read app place blocks (begin_list sort ++ places) begins-are in
    let second = front-read sort (place + block_length (front_block app blocks)) behind_app places front.behind in
    let all : block_list (front_block app blocks) ++ (block_list (front_block sort behind_app) ++ data_either b items resources) ≡ blocks =
    ap (λ rest. block_list (front_block app blocks) ++ rest)
    (ap (λ contents. block_list (front_block sort behind_app) ++ contents) entries.holds ∙ second.parts) ∙ front.parts in
    let data_place = place + block_length (front_block app blocks) + block_length (front_block sort behind_app) in
    let data-begins : places ≡ begins_from data_place (data_either b items resources) = sym second.behind ∙ ap (begins_from data_place) (sym entries.holds) in
    let top = header_text (head_in bytes) header.after_name app sort count in
    let middle = text_either b places items resources in
    let behind : drop (size * length contents) behind_header ≡ rest.filler ++ concat blocks = ap (λ count. drop (size * count) behind_header) few
    ∙ drop-drop (size * count) 78 bytes ∙ rest.parts in
    let texts : behind_header ≡ middle ++ (rest.filler ++ concat blocks) =
    entries.text ∙ (λ i. text_either b (begins_in size (begin_place b) (few i) behind_header) items resources ++ behind i) in
    let pieces : bytes ≡ top ++ middle ++ rest.filler ++ concat blocks =
    header.text ∙ ap (λ rest. top ++ rest) texts
    ∙ sym (append_assoc top middle (rest.filler ++ concat blocks)) ∙ sym (append_assoc (top ++ middle) rest.filler (concat blocks)) in
    record {
      after_name = header.after_name;
      filler = rest.filler;
      text = pieces ∙ (λ i. header_text (head_in bytes) header.after_name (sym front.says i) (sym second.says i) (sym same_count i)
          ++ text_either b (data-begins i) items resources ++ rest.filler ++ concat (sym all i));
      name_field = header.field;
      begins = subst (AllByRecursion (λ begin. begin < 2 ^ 32)) (sym begins-are
          ∙ ap (begins_from place) (sym all)) (begins_fit app _ (number_at-fits 4 app_place bytes fits)
          (begins_fit sort _ (number_at-fits 4 sort_place bytes fits) (begins_in_fit size (begin_place b) count behind_header (IsBytes-drop 78 bytes fits))));
      head = header.fits;
      count = subst (λ n. n < 2 ^ 16) (sym same_count) (number_at-fits 2 76 bytes fits);
      records = entries.records;
      resources = entries.resources;
      no_records = entries.no_records;
      no_resources = entries.no_resources;
      short = subst AreShort (sym all) sound.short;
    }

-- ---- a text of a database breaks no rule, and is read as it

none_short : (wanted : ℕ) (bytes : List ℕ) → wanted ≤ length bytes → too_short wanted bytes ≡ None
none_short wanted bytes le = rw (le-ltb (length bytes) wanted le) refl

none_bad : (end : Option ℕ) (size : ℕ) → end ≡ Some size → 0 < size → bad_name end ≡ None
none_bad end zero e lt = absurd (omega arith)
none_bad end (suc size) e lt = ap bad_name e

none_chained : (bytes : List ℕ) → number_at 4 next_list_place bytes ≡ 0 → chained bytes ≡ None
none_chained bytes e = rw e refl

none_of_blocks : (first place end : ℕ) (blocks : List (List ℕ))
    → first ≤ place → end ≡ place + length (concat blocks) → AreShort blocks → blocks_fault first end (begins_from place blocks) ≡ None
none_of_blocks first place end blocks le e short =
    let order = none_from_in_order first end
    (begins_from place blocks) (in_order_earlier first end place (begins_from place blocks) le (begins_in_order place end blocks e)) in
    let sizes = no_first is_oversized 0 (spans (begins_from place blocks) end) (none_oversized place end blocks e short) in
    rw (order, sizes) refl

both_none : {X : Type 0} (a b : Option X) → a ≡ None → b ≡ None → option_or a b ≡ None
both_none a b e h = rw (e, h) refl

-- what a file's text says where it is read
pub record ReadsFile (database : DatabaseValue) (bytes : List ℕ) : Type 0 where
  pub none : file_fault bytes ≡ None
  pub reads : database_in bytes ≡ database
  pub sort : of_resources bytes ≡ has_resources database
  pub count : count_in bytes ≡ entry_count database

pub file-written : (database : DatabaseValue) (bytes : List ℕ) → IsFileText database bytes → ReadsFile database bytes
unfolding database_in database_of header_in file_text file_fault
file-written database bytes is =
    let b = has_resources database in
    let size = entry_length b in
    let count = entry_count database in
    let first = entries_end b count in
    let place = app_begin database is.filler in
    let second = sort_begin database is.filler in
    let third = data_begin database is.filler in
    let contents = data_of database in
    let behind_app = block_list database.sort ++ contents in
    let blocks = blocks_of database in
    let app = block_offset database.app place in
    let sort = block_offset database.sort second in
    let behind_header = drop 78 bytes in
    let small = offset_small database.app place behind_app is.begins in
    let later = offset_small database.sort second contents small.1 in
    let front = front-written database.app place behind_app (omega arith) in
    let next = front-written database.sort second contents (omega arith) in
    let top = header_text database.head is.after_name app sort count in
    let middle = entries_text (begins_from third contents) database in
    let tail = is.filler ++ concat blocks in
    let parts = is.text ∙ append_assoc (top ++ middle) is.filler (concat blocks) ∙ append_assoc top middle tail in
    let header = header-written database.head is.after_name app sort count bytes (middle ++ tail) parts is.name_field is.head small.0 later.0 is.count in
    let entries = either-written
    b third database.records database.resources behind_header tail header.behind later.1 is.records is.resources is.no_records is.no_resources in
    let sort-is : of_resources bytes ≡ b = ap holds_resources header.reads_attributes in
    let at_filler : drop first bytes ≡ tail = sym (drop-drop (size * count) 78 bytes) ∙ entries.behind in
    let at_blocks : drop place bytes ≡ concat blocks = sym (drop-drop (length is.filler) first bytes)
    ∙ ap (drop (length is.filler)) at_filler ∙ drop_at is.filler (concat blocks) (length is.filler) refl in
    let end : length bytes ≡ place + length (concat blocks) =
    omega (arith, header.long, entries.long, length-drop 78 bytes, length-append is.filler (concat blocks)) in
    let begins : block_begins bytes ≡ begins_from place blocks =
    (λ i. begin_list (header.reads_app i)
    ++ (begin_list (header.reads_sort i) ++ begins_in (entry_length (sort-is i)) (begin_place (sort-is i)) (header.reads_count i) behind_header))
    ∙ ap (λ begins. begin_list app ++ (begin_list sort ++ begins)) entries.reads_begins
    ∙ ap (λ begins. begin_list app ++ begins) next.begins ∙ front.begins in
    let cut : blocks_in (block_begins bytes) bytes ≡ blocks = ap (λ begins. blocks_in begins bytes) begins
    ∙ blocks_in-begins_from place blocks bytes at_blocks end in
    let data-is : behind_front sort (behind_front app blocks) ≡ contents = ap (behind_front sort) front.behind ∙ next.behind in
    let first-is : first_place bytes ≡ first = λ i. entries_end (sort-is i) (header.reads_count i) in
    let header_none : header_fault bytes ≡ None = both_none (too_short header_length bytes) _ (none_short 78 bytes header.long)
    (both_none (bad_name (name_end bytes)) (chained bytes) (none_bad _ _ header.ends_name is.head.name.some) (none_chained bytes header.alone)) in
    let entries_none : too_short (first_place bytes) bytes ≡ None = ap (λ first. too_short first bytes) first-is ∙ none_short first bytes (omega arith) in
    let blocks_none : blocks_fault (first_place bytes) (length bytes) (block_begins bytes) ≡ None =
    (λ i. blocks_fault (first-is i) (length bytes) (begins i)) ∙ none_of_blocks first place (length bytes) blocks (omega arith) end is.short in
    record {
      none = both_none (header_fault bytes) _ header_none (both_none _ _ entries_none blocks_none);
      reads =
          (λ i. database_of (record {
            head = header.reads_head i;
            app = header.reads_app i;
            sort = header.reads_sort i;
            count = header.reads_count i;
          }) behind_header (cut i))
          ∙ (λ i. record {
            head = database.head;
            app = front.reads i;
            sort = (ap (front_block sort) front.behind ∙ next.reads) i;
            records = (ap (records_read b behind_header) data-is ∙ entries.reads_records) i;
            resources = (ap (resources_read b behind_header) data-is ∙ entries.reads_resources) i;
          });
      sort = sort-is;
      count = header.reads_count;
    }

-- ---- laws of texts

pub one_database : (bytes : List ℕ) (one other : DatabaseValue) → IsFileText one bytes → IsFileText other bytes → one ≡ other
one_database bytes one other is is' = sym (file-written one bytes is).reads ∙ (file-written other bytes is').reads

pub bytes_from_all : (bytes : List ℕ) → All (λ byte. byte < 256) bytes → IsBytes bytes
bytes_from_all bytes each i =
    elim (cases_lt i (length bytes)) [
      | inl lt ↦ each i 0 lt
      | inr past ↦ rw (get_or_past bytes i 0 past) (omega arith)
    ]

pub text_without_fault : (bytes : List ℕ) → All (λ byte. byte < 256) bytes → file_fault bytes ≡ None → (database : DatabaseValue) × IsFileText database bytes
text_without_fault bytes each none = (database_in bytes, file-read bytes (bytes_from_all bytes each) none)
