-- A tree of files against the map that it stands for.
use lib.Dec.{T}
use Rattle.std.proofs.Common.{◌≡◌, ℕ, List, [], ◌∷◌, refl, sym, ap, ◌∙◌, subst, Bool, true, false, cond}
use Rattle.std.specs.Prelude.{Option, Some, None, Vec, String, string_bytes, map, ◌&&◌, vec_len, is_some, slice_get, ◌++◌, option_and_then}
use Rattle.std.specs.Option.{option_map}
use Rattle.std.specs.List.{AllByRecursion, AllZip}
use Rattle.std.specs.List.Sorted.{IsStrictlySortedBy}
use Rattle.std.specs.declared.cmp.Ordering.TheVariants.{Less}
use Rattle.std.specs.Ordering.{nat_cmp, eq_by_cmp, is_eq, is_lt}
use Rattle.std.specs.Cmp.{eq_by_cmp_equiv}
use Rattle.std.specs.Cmp.Lexicographic.{slice_cmp, nat_list_cmp_total}
use Rattle.std.specs.FinMap.{find, is_sorted, from_sorted, get-from_entries, get-from_sorted, get-insert, get-remove, entries-from_sorted, same_map}
use Rattle.std.specs.FinMap.{slice_cmp-IsAntisymmetric, nat_cmp-IsAntisymmetric}
use Rattle.std.specs.FinMap.Entries.{below_all}
use Rattle.std.specs.FinMap as finmap
use Rattle.std.specs.BTreeMap as tree
use Rattle.std.specs.declared.alloc.Global.{Global}
use Rattle.std.specs.Map.{lookup, keys_of}
use Rattle.std.specs.Str.{bytes_eq}
use Rattle.std.specs.String.{string_cmp}
use Rattle.std.proofs.lemmas.Map.Text.{is_eq-slice_cmp, btree_map_updates_text}
use Rattle.std.proofs.lemmas.List.{map-append}
use Rattle.std.proofs.lemmas.Option.{slice_get-map}
use Rattle.std.proofs.lemmas.List.Elements.{same_from_all_zip}
use Rattle.hs_folders.specs.Changes.{moments_of}
use Rattle.hs_folders.specs.FileMaps.{FileMap}
use Rattle.hs_folders.specs.FileTrees.{FileTree, named, file_map}
use Rattle.hs_folders.specs.declared.changes.Changes.{Changes}
use Rattle.hs_folders.specs.declared.changes.Changes.TheVariants.{Kept}

-- a look-up in the map finds what the tree's own finds
find-named : (q : List ℕ) (es : List (String Global × Vec ℕ Global))
    → find (slice_cmp nat_cmp) q (named es) ≡ option_map (λ v. v.items) (lookup (λ k. is_eq (slice_cmp nat_cmp q (string_bytes k))) es)
find-named q [] = refl
find-named q (e ∷ es) =
    elim (is_eq (slice_cmp nat_cmp q (string_bytes e.0))) as (λ b. cond b (Some e.1.items) (find (slice_cmp nat_cmp) q (named es))
    ≡ option_map (λ v. v.items) (cond b (Some e.1) (lookup (λ k. is_eq (slice_cmp nat_cmp q (string_bytes k))) es))) [
      | true ↦ refl
      | false ↦ find-named q es
    ]

pub get-file_map : (m : FileTree) (q : List ℕ) → finmap.get (file_map m) q ≡ option_map (λ v. v.items) (tree.get_by_text m q)
get-file_map m q = get-from_entries nat_list_cmp_total (named m.entries) q ∙ find-named q m.entries

pub same_files : (m n : FileMap) → ((q : List ℕ) → finmap.get m q ≡ finmap.get n q) → m ≡ n
same_files = same_map nat_list_cmp_total (slice_cmp-IsAntisymmetric nat_cmp-IsAntisymmetric)

pushed : {A B : Type 0} (f : A → B) (b : Bool) (x y : Option A) → option_map f (cond b x y) ≡ cond b (option_map f x) (option_map f y)
pushed f true x y = refl
pushed f false x y = refl

tied : (bs q : List ℕ) → bytes_eq bs q ≡ eq_by_cmp (slice_cmp nat_cmp) q bs
tied bs q = sym (is_eq-slice_cmp bs q) ∙ (eq_by_cmp_equiv nat_list_cmp_total).symm bs q

-- what the tree has at other names stays
get-updated : (m n : FileTree) (bs : List ℕ) (w : Option (Vec ℕ Global)) → tree.UpdatesBy string_cmp (λ k. slice_cmp nat_cmp bs (string_bytes k)) m n w
    → (q : List ℕ) → finmap.get (file_map n) q ≡ cond (eq_by_cmp (slice_cmp nat_cmp) q bs) (option_map (λ v. v.items) w) (finmap.get (file_map m) q)
get-updated m n bs w changed q =
    get-file_map n q ∙ ap (option_map (λ v. v.items)) (btree_map_updates_text bs m n w changed q)
    ∙ pushed (λ v. v.items) (bytes_eq bs q) w (tree.get_by_text m q)
    ∙ ap (λ b. cond b (option_map (λ v. v.items) w) (option_map (λ v. v.items) (tree.get_by_text m q))) (tied bs q)
    ∙ ap (cond (eq_by_cmp (slice_cmp nat_cmp) q bs) (option_map (λ v. v.items) w)) (sym (get-file_map m q))

pub file_map-insert : (m n : FileTree) (k : String Global) (v : Vec ℕ Global)
    → tree.Updates string_cmp m n k (Some v) → file_map n ≡ finmap.insert (file_map m) (string_bytes k) v.items
file_map-insert m n k v changed =
    same_files _ _ (λ q. get-updated m n (string_bytes k) (Some v) changed q ∙ sym (get-insert nat_list_cmp_total (file_map m) (string_bytes k) v.items q))

pub file_map-remove : (m n : FileTree) (bs : List ℕ)
    → tree.UpdatesBy string_cmp (λ k. slice_cmp nat_cmp bs (string_bytes k)) m n None → file_map n ≡ finmap.remove (file_map m) bs
file_map-remove m n bs changed = same_files _ _ (λ q. get-updated m n bs None changed q ∙ sym (get-remove nat_list_cmp_total (file_map m) bs q))

-- entries with the same names and bytes
pub named-clone : (es fs : List (String Global × Vec ℕ Global)) → AllZip
    (λ p q. (string_bytes q.0 ≡ string_bytes p.0) × (AllZip (λ x y. y ≡ x) p.1.items q.1.items × (vec_len q.1 ≡ vec_len p.1))) es fs → named fs ≡ named es
named-clone [] [] same = refl
named-clone [] (f ∷ fs) same = absurd same
named-clone (e ∷ es) [] same = absurd same
named-clone (e ∷ es) (f ∷ fs) same =
    let bytes : f.1.items ≡ e.1.items = same_from_all_zip _ _ _ same.0.1.0 (λ x y h. h) in
    λ i. (same.0.0 i, bytes i) ∷ named-clone es fs same.1 i

pub is_some-option_map : {A B : Type 0} (f : A → B) (o : Option A) → is_some (option_map f o) ≡ is_some o
is_some-option_map f None = refl
is_some-option_map f (Some x) = refl

pub contains_key-file_map : (m : FileTree) (q : List ℕ) → finmap.contains_key (file_map m) q ≡ is_some (tree.get_by_text m q)
contains_key-file_map m q = ap is_some (get-file_map m q) ∙ is_some-option_map (λ v. v.items) (tree.get_by_text m q)

both : (a b : Bool) → T a → T b → T (a && b)
both true b p q = q
both false b p q = p

below_named : (k : String Global) (es : List (String Global × Vec ℕ Global))
    → AllByRecursion (λ y. string_cmp k y ≡ Less) (keys_of es) → T (below_all (slice_cmp nat_cmp) (string_bytes k) (named es))
below_named k [] h = tt
below_named k (e ∷ es) h = both _ _ (subst (λ o. T (is_lt o)) (sym h.0) tt) (below_named k es h.1)

is_sorted-named : (es : List (String Global × Vec ℕ Global)) → IsStrictlySortedBy string_cmp (keys_of es) → T (is_sorted (slice_cmp nat_cmp) (named es))
unfolding IsStrictlySortedBy
is_sorted-named [] h = tt
is_sorted-named (e ∷ es) h = both _ _ (below_named e.0 es h.0) (is_sorted-named es h.1)

names-named : (es : List (String Global × Vec ℕ Global)) → map (λ e. e.0) (named es) ≡ map string_bytes (keys_of es)
names-named [] = refl
names-named (e ∷ es) = ap (λ names. string_bytes e.0 ∷ names) (names-named es)

-- the map's names are the tree's keys, in their order
pub keys-file_map : (m : FileTree) → tree.IsOrdered string_cmp m → finmap.keys (file_map m) ≡ map string_bytes (tree.keys m)
keys-file_map m ordered =
    let sorted = is_sorted-named m.entries ordered in
    let same : file_map m ≡ from_sorted (named m.entries) =
    same_files _ _ (λ q. get-from_entries nat_list_cmp_total (named m.entries) q ∙ sym (get-from_sorted (slice_cmp nat_cmp) (named m.entries) q sorted)) in
    ap finmap.keys same ∙ ap (map (λ e. e.0)) (entries-from_sorted (slice_cmp nat_cmp) (named m.entries) sorted) ∙ names-named m.entries

-- what was told at a moment is what the tree kept of it stands for
pub slice_get-kept : (changes : Changes) (past : Vec FileTree Global) (files : FileTree) (k : ℕ) → changes ≡ Kept past
    → option_and_then (λ moments. slice_get moments k) (moments_of changes files)
    ≡ option_map (λ tree. Some (file_map tree)) (slice_get (past.items ++ files ∷ []) k)
slice_get-kept changes past files k kept =
    ap (λ made. option_and_then (λ moments. slice_get moments k) (moments_of made files)) kept
    ∙ ap (λ moments. slice_get moments k) (sym (map-append (λ tree. Some (file_map tree)) past.items (files ∷ [])))
    ∙ slice_get-map (λ tree. Some (file_map tree)) (past.items ++ files ∷ []) k
