-- What a folder of listed files holds, and the list of what a folder holds.
use Rattle.std.proofs.Common.{◌≡◌, ◌∙◌, ◌≢◌, ◌<◌, ℕ, zero, suc, Bool, true, false, cond, List, [], ◌∷◌, ◌++◌, length, get_or, map, ap, arith, refl, subst, sym}
use Rattle.std.specs.Prelude.{All, AllPairs, Contains, None, Option, Some, String, is_some, string_bytes, Vec, ◌&&◌, T}
use Rattle.std.specs.Cmp.{tied_itself, eq_by_cmp_equiv}
use Rattle.std.specs.Cmp.Lexicographic.{nat_list_cmp_total, slice_cmp}
use Rattle.std.specs.FinMap as finmap
use Rattle.std.specs.FinMap.{contains_key-keys, entries_sorted, find, from_entries_push, get-entries, get-from_entries, is_sorted, same_map}
use Rattle.std.specs.FinMap.{nat_cmp-IsAntisymmetric, slice_cmp-IsAntisymmetric}
use Rattle.std.specs.FinMap.Entries.{below_all}
use Rattle.std.specs.declared.alloc.Global.{Global}
use Rattle.std.specs.Ordering.{eq_by_cmp, is_eq, is_lt, nat_cmp}
use Rattle.std.specs.Str.{is_utf8}
use Rattle.std.proofs.lemmas.Bool.{false_from_ne_true}
use Rattle.std.proofs.lemmas.List.{map-append}
use Rattle.std.proofs.lemmas.List.Elements.{All-cons, All-contains, All-head, All-nil, All-push, All-tail, Contains-append_right}
use Rattle.std.proofs.lemmas.List.Kept.{AllPairs-cons}
use Rattle.std.proofs.lemmas.List.Quantifiers.{all_pairs_push}
use Rattle.std.proofs.lemmas.Map.Views.{All-from_any, tells_apart}
use Rattle.std.proofs.lemmas.Str.{IsUtf8-string_bytes, is_utf8-from_IsUtf8}
use Rattle.hs_folders.specs.FileMaps.{FileMap}
use Rattle.hs_folders.specs.FileTrees.{FileTree, file_map, named}
use Rattle.device_state.specs.Lists.{IsFileList, NamedFile, files_of, held_of}

-- ---- names

-- whether the order of names does not tell two of them apart
abbrev pub is_name : List ℕ → List ℕ → Bool
is_name name other = eq_by_cmp (slice_cmp nat_cmp) name other

pub same_name : (name other : List ℕ) → is_name name other ≡ true → name ≡ other
same_name = tells_apart (slice_cmp-IsAntisymmetric nat_cmp-IsAntisymmetric)

is_name-same : (name : List ℕ) → is_name name name ≡ true
is_name-same name = ap is_eq (tied_itself nat_list_cmp_total name)

is_name-other : (name other : List ℕ) → name ≢ other → is_name name other ≡ false
is_name-other name other differ = false_from_ne_true (is_name name other) (λ same. differ (same_name name other same))

-- two files have different names
abbrev pub Differ : NamedFile → NamedFile → Type 0
Differ file other = file.name ≢ other.name

AllPairs-head : (file : NamedFile) (files : List NamedFile) → AllPairs Differ (file ∷ files) → All (Differ file) files
AllPairs-head file files once = λ k d less. once 0 (suc k) d (omega arith) (omega arith)

AllPairs-tail : (file : NamedFile) (files : List NamedFile) → AllPairs Differ (file ∷ files) → AllPairs Differ files
AllPairs-tail file files once = λ i j d less within. once (suc i) (suc j) d (omega arith) (omega arith)

-- ---- what a folder of listed files holds

-- the names with their bytes
abbrev pub entries_of : List NamedFile → List (List ℕ × List ℕ)
entries_of files = map (λ file. (file.name, file.bytes)) files

-- the bytes of the first file of a name
abbrev pub bytes_of : List NamedFile → List ℕ → Option (List ℕ)
bytes_of files name = find (slice_cmp nat_cmp) name (entries_of files)

-- a folder has the bytes of each name that the list has for it
pub get-held_of : (files : List NamedFile) (name : List ℕ) → finmap.get (held_of files) name ≡ bytes_of files name
get-held_of files name = get-from_entries nat_list_cmp_total (entries_of files) name

-- a name that is no file's, one way and the other
pub bytes_of-none : (files : List NamedFile) (name : List ℕ) → All (λ file. file.name ≢ name) files → bytes_of files name ≡ None
bytes_of-none [] name others = refl
bytes_of-none (file ∷ files) name others =
    let other = is_name-other name file.name (λ same. All-head (λ f. f.name ≢ name) file files others (sym same)) in
    ap (λ b. cond b (Some file.bytes) (bytes_of files name)) other ∙ bytes_of-none files name (All-tail (λ f. f.name ≢ name) file files others)

pub none_of-bytes_of : (files : List NamedFile) (name : List ℕ) → bytes_of files name ≡ None → All (λ file. file.name ≢ name) files
none_of-bytes_of [] name none = All-nil (λ (file : NamedFile). file.name ≢ name)
none_of-bytes_of (file ∷ files) name none =
    elim (is_name name file.name) as (λ b. is_name name file.name ≡ b → cond b (Some file.bytes) (bytes_of files name) ≡ None
    → All (λ (f : NamedFile). f.name ≢ name) (file ∷ files)) [
      | true ↦ λ is found. absurd cc
      | false ↦ λ is found. All-cons (λ (f : NamedFile). f.name ≢ name) file files
          (λ same. let own : is_name name file.name ≡ true = subst (λ n. is_name name n ≡ true) (sym same) (is_name-same name) in cc)
          (none_of-bytes_of files name found)
    ] refl none

-- a name that stands once is none of those before
pub bytes_of-before : (files more : List NamedFile) (file : NamedFile) → AllPairs Differ (files ++ file ∷ more) → bytes_of files file.name ≡ None
bytes_of-before [] more file once = refl
bytes_of-before (first ∷ files) more file once =
    let later : Contains (files ++ file ∷ more) file = Contains-append_right files (file ∷ more) file (0, omega arith, refl) in
    let differ = All-contains (Differ first) (files ++ file ∷ more) file (AllPairs-head first (files ++ file ∷ more) once) later in
    ap (λ b. cond b (Some first.bytes) (bytes_of files file.name)) (is_name-other file.name first.name (λ same. differ (sym same)))
    ∙ bytes_of-before files more file (AllPairs-tail first (files ++ file ∷ more) once)

-- a file of the list is found
pub bytes_of-file : (files : List NamedFile) (k : ℕ) (d : NamedFile) → AllPairs Differ files → k < length files
    → bytes_of files (get_or files k d).name ≡ Some (get_or files k d).bytes
bytes_of-file [] k d once less = absurd (omega arith)
bytes_of-file (file ∷ files) zero d once less = ap (λ b. cond b (Some file.bytes) (bytes_of files file.name)) (is_name-same file.name)
bytes_of-file (file ∷ files) (suc k) d once less =
    let differ = AllPairs-head file files once k d (omega arith) in
    ap (λ b. cond b (Some file.bytes) (bytes_of files (get_or files k d).name)) (is_name-other (get_or files k d).name file.name (λ same. differ (sym same)))
    ∙ bytes_of-file files k d (AllPairs-tail file files once) (omega arith)

-- each file of the list is held
pub get-held_of_file : (files : List NamedFile) (file : NamedFile) → AllPairs Differ files → Contains files file
    → finmap.get (held_of files) file.name ≡ Some file.bytes
get-held_of_file files file once listed =
    get-held_of files file.name
    ∙ subst (λ (f : NamedFile). bytes_of files f.name ≡ Some f.bytes) listed.2 (bytes_of-file files listed.0 file once listed.1)

-- with one more file, of another name
pub held_of-push : (files : List NamedFile) (file : NamedFile) → bytes_of files file.name ≡ None
    → held_of (files ++ file ∷ []) ≡ finmap.insert (held_of files) file.name file.bytes
held_of-push files file new =
    ap finmap.from_entries (map-append (λ (f : NamedFile). (f.name, f.bytes)) files (file ∷ []))
    ∙ from_entries_push nat_list_cmp_total (slice_cmp-IsAntisymmetric nat_cmp-IsAntisymmetric) (entries_of files) file.name file.bytes new

pub IsFileList-push : (files : List NamedFile) (file : NamedFile) → IsFileList files → is_utf8 file.name ≡ true → bytes_of files file.name ≡ None
    → IsFileList (files ++ file ∷ [])
IsFileList-push files file form text new = record {
  utf8 = All-push (λ (f : NamedFile). is_utf8 f.name ≡ true) files file form.utf8 text;
  once = all_pairs_push Differ files file form.once (none_of-bytes_of files file.name new);
}

-- ---- the list of what a folder holds

-- a file by its entry in a folder
abbrev pub file_of : List ℕ × List ℕ → NamedFile
file_of entry = record { name = entry.0; bytes = entry.1 }

entries_of-file_of : (entries : List (List ℕ × List ℕ)) → entries_of (map file_of entries) ≡ entries
entries_of-file_of [] = refl
entries_of-file_of (entry ∷ entries) = ap (λ rest. entry ∷ rest) (entries_of-file_of entries)

-- a folder of a folder's files holds the same
pub held_of-files_of : (held : FileMap) → held_of (files_of held) ≡ held
held_of-files_of held =
    same_map nat_list_cmp_total (slice_cmp-IsAntisymmetric nat_cmp-IsAntisymmetric) (held_of (files_of held)) held
    (λ name. get-held_of (files_of held) name ∙ ap (find (slice_cmp nat_cmp) name) (entries_of-file_of (finmap.entries held)) ∙ sym (get-entries held name))

both : (a b : Bool) → T (a && b) → T a × T b
both true b is = (tt, is)
both false b is = absurd is

below : (name other : List ℕ) → T (is_lt (slice_cmp nat_cmp name other)) → name ≢ other
below name other less same = grind (arith, less, same, tied_itself nat_list_cmp_total other)

-- a name below those of entries is none of them
below_others : (file : NamedFile) (entries : List (List ℕ × List ℕ)) → T (below_all (slice_cmp nat_cmp) file.name entries)
    → All (Differ file) (map file_of entries)
below_others file [] less = All-nil (Differ file)
below_others file (entry ∷ entries) less =
    let two = both _ _ less in
    All-cons (Differ file) (file_of entry) (map file_of entries)
    (below file.name entry.0 two.0) (below_others file entries two.1)

once_of-entries : (entries : List (List ℕ × List ℕ)) → T (is_sorted (slice_cmp nat_cmp) entries)
    → AllPairs Differ (map file_of entries)
once_of-entries [] sorted = λ i j d less within. absurd (omega arith)
once_of-entries (entry ∷ entries) sorted =
    let two = both _ _ sorted in
    AllPairs-cons Differ (file_of entry) (map file_of entries) (below_others (file_of entry) entries two.0)
    (once_of-entries entries two.1)

-- no name of a folder stands twice
pub once_of-files_of : (held : FileMap) → AllPairs Differ (files_of held)
once_of-files_of held = once_of-entries (finmap.entries held) (entries_sorted held)

utf8_of-entries : (entries : List (List ℕ × List ℕ)) → All (λ name. is_utf8 name ≡ true) (map (λ entry. entry.0) entries)
    → All (λ (file : NamedFile). is_utf8 file.name ≡ true) (map file_of entries)
utf8_of-entries [] texts = All-nil (λ (file : NamedFile). is_utf8 file.name ≡ true)
utf8_of-entries (entry ∷ entries) texts =
    All-cons (λ (file : NamedFile). is_utf8 file.name ≡ true) (file_of entry)
    (map file_of entries)
    (All-head (λ name. is_utf8 name ≡ true) entry.0 (map (λ (e : List ℕ × List ℕ). e.0) entries) texts)
    (utf8_of-entries entries (All-tail (λ name. is_utf8 name ≡ true) entry.0 (map (λ (e : List ℕ × List ℕ). e.0) entries) texts))

-- the files of a folder are a list, where its names are text
pub IsFileList-files_of : (held : FileMap) → All (λ name. is_utf8 name ≡ true) (finmap.keys held) → IsFileList (files_of held)
IsFileList-files_of held texts = record { utf8 = utf8_of-entries (finmap.entries held) texts; once = once_of-files_of held }

-- a folder's file is found under its name
pub get-files_of : (held : FileMap) (k : ℕ) (d : NamedFile) → k < length (files_of held)
    → finmap.get held (get_or (files_of held) k d).name ≡ Some (get_or (files_of held) k d).bytes
get-files_of held k d less =
    ap (λ (m : FileMap). finmap.get m (get_or (files_of held) k d).name) (sym (held_of-files_of held))
    ∙ get-held_of (files_of held) (get_or (files_of held) k d).name ∙ bytes_of-file (files_of held) k d (once_of-files_of held) less

-- ---- a folder in memory

some_text : (name : List ℕ) (entries : List (String Global × Vec ℕ Global)) → is_some (find (slice_cmp nat_cmp) name (named entries)) ≡ true
    → is_utf8 name ≡ true
some_text name [] found = absurd cc
some_text name (entry ∷ entries) found =
    elim (is_name name (string_bytes entry.0)) as (λ b. is_name name (string_bytes entry.0) ≡ b
    → is_some (cond b (Some entry.1.items) (find (slice_cmp nat_cmp) name (named entries))) ≡ true → is_utf8 name ≡ true) [
      | true ↦ λ is later. subst (λ text. is_utf8 text ≡ true) (sym (same_name name (string_bytes entry.0) is))
          (is_utf8-from_IsUtf8 (string_bytes entry.0) (IsUtf8-string_bytes entry.0))
      | false ↦ λ is later. some_text name entries later
    ] refl found

-- its names are strings
pub utf8_of-file_map : (files : FileTree) → All (λ name. is_utf8 name ≡ true) (finmap.keys (file_map files))
utf8_of-file_map files =
    All-from_any (eq_by_cmp_equiv nat_list_cmp_total) (λ name. is_utf8 name ≡ true) (finmap.keys (file_map files))
    (λ name listed. some_text name files.entries
    (sym (ap is_some (get-from_entries nat_list_cmp_total (named files.entries) name)) ∙ contains_key-keys (file_map files) name ∙ listed))
