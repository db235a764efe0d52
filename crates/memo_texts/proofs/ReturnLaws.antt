-- The memos of the database of memos are these memos.
use Rattle.std.proofs.lemmas.Bool.Decides.{nat_tests}
use Rattle.std.proofs.lemmas.List.{length-append, nil_from_length}
use Rattle.std.proofs.lemmas.List.Elements.{All-cons, All-head, All-nil, All-push, All-tail}
use Rattle.std.proofs.lemmas.List.Quantifiers.{position-Some}
use Rattle.std.proofs.lemmas.List.Sums.{fails_before_first, position_or_len_is}
use Rattle.std.proofs.lemmas.Slice.Eq.{bytes_eq-Decides}
use Rattle.std.proofs.Math.ListN.{get_or-append, length-replicate}
use Rattle.std.proofs.Math.Seq.{drop-append-add, get_or-append_seam, take-append_seam}
use Rattle.std.proofs.Common.{arith, ◌≡◌, ◌<◌, ◌≤◌, ◌++◌, ◌∷◌, [], ◌∙◌, ◌+◌, ◌-◌, ◌*◌, ◌==◌, ◌||◌, ap, refl, sym, ℕ, zero, suc, Bool, true, false, List, cond, append_assoc, drop, get_or, length, map, take, Option, None, Some}
use Rattle.std.specs.Prelude.{All, codes, filter, nat_lt, position, replicate}
use Rattle.std.specs.List.{flat_map, position_or_len}
use Rattle.std.specs.Option.{is_some}
use Rattle.std.specs.Str.{bytes_eq}
use Rattle.palm_records.specs.Categories.{label_in}
use Rattle.palm_records.specs.Strings.{first_zero, until_zero}
use Rattle.palm_records.specs.Choices.{is_exported, shown_label}
use Rattle.palm_records.specs.declared.choice.Privacy.TheVariants as privacy
use Rattle.memo_texts.specs.Exports.{exported_memos, memo_of}
use Rattle.memo_texts.specs.Memos.{MemoValue}
use Rattle.memo_texts.specs.Databases.{category_at, category_ids, label_field, labels_from, labels_of, memo_block, memo_database, place_of, record_of, with_label}
use Rattle.memo_texts.specs.KeptMemos.{IsKept}
use Rattle.pdb_values.proofs.NamedLaws.{bytes_eq-own}

-- ---- places

position_is : {X : Type 0} (p : X → Bool) (xs : List X) (i : ℕ) (d : X) → i < length xs → p (get_or xs i d) ≡ true → ((k : ℕ) → k < i → p (get_or xs k d) ≡ false)
    → position p xs ≡ Some i
position_is p xs i d inside is before =
    let at = position_or_len_is p xs i d (omega (arith, inside)) before (λ _. is) in
    let small : nat_lt i (length xs) ≡ true = grind (arith, nat_tests, inside) in
    rw (at, small) refl

pub position_none : {X : Type 0} (p : X → Bool) (xs : List X) (d : X) → position p xs ≡ None → (k : ℕ) → k < length xs → p (get_or xs k d) ≡ false
position_none p xs d none k inside =
    let far : length xs ≤ position_or_len p xs = grind (arith, nat_tests, none) in
    fails_before_first p xs k d (omega (arith, inside, far))

-- ---- texts up to their zero byte

zero_behind : (text rest : List ℕ) → first_zero text ≡ None → first_zero (text ++ 0 ∷ rest) ≡ Some (length text)
zero_behind text rest none =
    let is_zero : ℕ → Bool = λ b. b == 0 in
    let inside : length text < length (text ++ 0 ∷ rest) = omega (arith, length-append text (0 ∷ rest)) in
    let seam : is_zero (get_or (text ++ 0 ∷ rest) (length text) 0) ≡ true = ap is_zero (get_or-append_seam text 0 rest 0) in
    position_is is_zero (text ++ 0 ∷ rest) (length text) 0 inside seam
    (λ k below. ap is_zero (get_or-append text (0 ∷ rest) 0 k below) ∙ position_none is_zero text 0 none k below)

until_zero-behind : (text rest : List ℕ) → first_zero text ≡ None → until_zero (text ++ 0 ∷ rest) ≡ text
until_zero-behind text rest none = rw (zero_behind text rest none) (take-append_seam text (0 ∷ rest))

-- ---- the labels in the block

abbrev pub IsShort : List ℕ → Type 0
IsShort label = length label ≤ 15

length-label_field : (label : List ℕ) → IsShort label → length (label_field label) ≡ 16
length-label_field label short =
    omega (arith, length-append label (replicate (16 - length label) 0), length-replicate {A = ℕ} (16 - length label) 0)

length-fields : (labels : List (List ℕ)) → All IsShort labels → length (flat_map label_field labels) ≡ 16 * length labels
length-fields [] all = refl
length-fields (label ∷ labels) all =
    let own = length-label_field label (All-head IsShort label labels all) in
    let rest = length-fields labels (All-tail IsShort label labels all) in
    omega (arith, length-append (label_field label) (flat_map label_field labels), own, rest)

field_at : (labels : List (List ℕ)) (rest : List ℕ) (k : ℕ) → All IsShort labels → k < length labels
    → take 16 (drop (16 * k) (flat_map label_field labels ++ rest)) ≡ label_field (get_or labels k [])
field_at [] rest k all inside = absurd (omega (arith, inside))
field_at (label ∷ labels) rest zero all inside =
    let own = length-label_field label (All-head IsShort label labels all) in
    ap (take 16) (append_assoc (label_field label) (flat_map label_field labels) rest)
    ∙ (ap (λ n. take n (label_field label ++ (flat_map label_field labels ++ rest))) (sym own) ∙ take-append_seam (label_field label) (flat_map label_field labels ++ rest))
field_at (label ∷ labels) rest (suc k) all inside =
    let own = length-label_field label (All-head IsShort label labels all) in
    let more = flat_map label_field labels ++ rest in
    let moved : 16 * suc k ≡ length (label_field label) + 16 * k = omega (arith, own) in
    ap (λ l. take 16 (drop (16 * suc k) l)) (append_assoc (label_field label) (flat_map label_field labels) rest)
    ∙ (ap (λ n. take 16 (drop n (label_field label ++ more))) moved
    ∙ (ap (take 16) (drop-append-add (label_field label) more (16 * k)) ∙ field_at labels rest k (All-tail IsShort label labels all) (omega (arith, inside))))

-- what stands behind the labels
abbrev pub block_rest : List (List ℕ) → List ℕ
block_rest labels = replicate (256 - 16 * length labels) 0 ++ (category_ids ++ replicate 7 0)

block_parts : (labels : List (List ℕ)) → memo_block labels ≡ 0 ∷ 0 ∷ (flat_map label_field (codes "Unfiled" ∷ labels) ++ block_rest (codes "Unfiled" ∷ labels))
block_parts labels =
    ap (λ l. 0 ∷ 0 ∷ l)
    (append_assoc (flat_map label_field (codes "Unfiled" ∷ labels)) (replicate (256 - 16 * length (codes "Unfiled" ∷ labels)) 0) (category_ids ++ replicate 7 0))

all_short : (labels : List (List ℕ)) → All IsShort labels → All IsShort (codes "Unfiled" ∷ labels)
all_short labels all = All-cons IsShort (codes "Unfiled") labels (omega arith) all

block_long : (labels : List (List ℕ)) → All IsShort labels → length labels ≤ 15 → nat_lt (length (memo_block labels)) 276 ≡ false
block_long labels all few =
    let named = codes "Unfiled" ∷ labels in
    let size = length-fields named (all_short labels all) in
    let filled = length-replicate {A = ℕ} (256 - 16 * length named) 0 in
    let behind : length (category_ids ++ replicate 7 0) ≡ 24 = refl in
    let rest = length-append (replicate (256 - 16 * length named) 0) (category_ids ++ replicate 7 0) in
    let whole = length-append (flat_map label_field named) (block_rest named) in
    let parts = ap length (block_parts labels) in
    let long : 276 ≤ length (memo_block labels) = omega (arith, size, filled, behind, rest, whole, parts) in
    grind (arith, nat_tests, long)

field_whole : (label : List ℕ) → IsShort label → first_zero label ≡ None → until_zero (label_field label) ≡ label
field_whole label short none =
    let some : 16 - length label ≡ suc (15 - length label) = omega (arith, short) in
    ap (λ n. until_zero (label ++ replicate n 0)) some ∙ until_zero-behind label (replicate (15 - length label) 0) none

label_in-block : (labels : List (List ℕ)) (k : ℕ) (label : List ℕ) → All IsShort labels → length labels ≤ 15 → k < length labels → get_or labels k [] ≡ label
    → IsShort label → first_zero label ≡ None → label_in (memo_block labels) (suc k) ≡ label
label_in-block labels k label all few inside is short none =
    let named = codes "Unfiled" ∷ labels in
    let place : 2 + 16 * suc k ≡ suc (suc (16 * suc k)) = omega arith in
    let field = field_at named (block_rest named) (suc k) (all_short labels all) (omega (arith, inside)) in
    rw (block_long labels all few)
    (ap (λ n. until_zero (take 16 (drop n (memo_block labels)))) place
    ∙ (ap (λ l. until_zero (take 16 (drop (suc (suc (16 * suc k))) l))) (block_parts labels)
    ∙ (ap until_zero (field ∙ ap label_field is) ∙ field_whole label short none)))

-- ---- each memo's label is one of them

-- a label that is none of these is empty
abbrev pub IsKnown : List (List ℕ) → List ℕ → Type 0
IsKnown labels label = place_of labels label ≡ None → label ≡ []

place_front : (o : Option ℕ) (labels : List (List ℕ)) (other label : List ℕ) → place_of labels label ≡ o → place_of (labels ++ other ∷ []) label ≡ None → place_of labels label ≡ None
place_front None labels other label is none = is
place_front (Some k) labels other label is none =
    let test : List ℕ → Bool = λ known. bytes_eq known label in
    let at = position-Some test labels k [] is in
    let here = ap test (get_or-append labels (other ∷ []) [] k at.0) ∙ at.1 in
    let found = position_is test (labels ++ other ∷ []) k [] (omega (arith, at.0, length-append labels (other ∷ []))) here
    (λ j below. ap test (get_or-append labels (other ∷ []) [] j (omega (arith, below, at.0))) ∙ at.2 j below) in
    absurd (cc (sym found ∙ none))

known_stays : (t : Bool) (labels : List (List ℕ)) (other label : List ℕ) → IsKnown labels label → IsKnown (cond t labels (labels ++ other ∷ [])) label
known_stays true labels other label known = known
known_stays false labels other label known = λ none. known (place_front (place_of labels label) labels other label refl none)

some_place : (o : Option ℕ) (label : List ℕ) → length label == 0 || is_some o ≡ true → o ≡ None → label ≡ []
some_place (Some k) label e none = absurd (cc none)
some_place None label e none = nil_from_length label (grind (arith, nat_tests, e))

known_new : (t : Bool) (labels : List (List ℕ)) (label : List ℕ) → (length label == 0 || is_some (place_of labels label)) ≡ t → IsKnown (cond t labels (labels ++ label ∷ [])) label
known_new true labels label is = some_place (place_of labels label) label is
known_new false labels label is = λ none.
    let test : List ℕ → Bool = λ known. bytes_eq known label in
    let fails = position_none test (labels ++ label ∷ []) [] none (length labels) (omega (arith, length-append labels (label ∷ []))) in
    let passes = ap test (get_or-append_seam labels label [] []) ∙ bytes_eq-own label in
    absurd (cc (sym passes ∙ fails))

known_later : (labels : List (List ℕ)) (memos : List MemoValue) (label : List ℕ) → IsKnown labels label → IsKnown (labels_from labels memos) label
unfolding labels_from
known_later labels [] label known = known
known_later labels (memo ∷ memos) label known =
    known_later (with_label labels memo.label) memos label
    (known_stays (length memo.label == 0 || is_some (place_of labels memo.label)) labels memo.label label known)

abbrev pub HasLabel : List (List ℕ) → MemoValue → Type 0
HasLabel labels memo = IsKnown labels memo.label

all_known : (labels : List (List ℕ)) (memos : List MemoValue) → All (HasLabel (labels_from labels memos)) memos
unfolding labels_from
all_known labels [] = All-nil (HasLabel labels)
all_known labels (memo ∷ memos) =
    let more = with_label labels memo.label in
    let whole = labels_from more memos in
    let own = known_new (length memo.label == 0 || is_some (place_of labels memo.label)) labels memo.label refl in
    All-cons (HasLabel whole) memo memos (known_later more memos memo.label own) (all_known more memos)

short_with : (t : Bool) (labels : List (List ℕ)) (label : List ℕ) → All IsShort labels → IsShort label → All IsShort (cond t labels (labels ++ label ∷ []))
short_with true labels label all short = all
short_with false labels label all short = All-push IsShort labels label all short

short_labels : (labels : List (List ℕ)) (memos : List MemoValue) → All IsShort labels → All IsKept memos → All IsShort (labels_from labels memos)
unfolding labels_from
short_labels labels [] all kept = all
short_labels labels (memo ∷ memos) all kept =
    short_labels (with_label labels memo.label) memos
    (short_with (length memo.label == 0 || is_some (place_of labels memo.label)) labels memo.label all (All-head IsKept memo memos kept).short_label)
    (All-tail IsKept memo memos kept)

-- ---- the memo of a record

shown_label-suc : (block : List ℕ) (k : ℕ) → shown_label (Some block) (suc k) ≡ label_in block (suc k)
shown_label-suc block k =
    let other : (suc k == 0) ≡ false = grind (arith, nat_tests) in
    rw other refl

label_back : (o : Option ℕ) (labels : List (List ℕ)) (memo : MemoValue) → place_of labels memo.label ≡ o → All IsShort labels → length labels ≤ 15 → IsKept memo → HasLabel labels memo
    → shown_label (Some (memo_block labels)) (category_at o) ≡ memo.label
label_back None labels memo is all few kept known = sym (known is)
label_back (Some k) labels memo is all few kept known =
    let test : List ℕ → Bool = λ one. bytes_eq one memo.label in
    let at = position-Some test labels k [] is in
    let same = (bytes_eq-Decides (get_or labels k []) memo.label).0 at.1 in
    shown_label-suc (memo_block labels) k ∙ label_in-block labels k memo.label all few at.0 same kept.short_label kept.whole_label

memo_back : (labels : List (List ℕ)) (memo : MemoValue) → All IsShort labels → length labels ≤ 15 → IsKept memo → HasLabel labels memo
    → memo_of (Some (memo_block labels)) (record_of labels memo) ≡ memo
memo_back labels memo all few kept known =
    let label = label_back (place_of labels memo.label) labels memo refl all few kept known in
    let text = until_zero-behind memo.text [] kept.whole_text in
    λ i. record { id = memo.id; secret = memo.secret; label = label i; text = text i }

memos_back : (labels : List (List ℕ)) (memos : List MemoValue) → All IsShort labels → length labels ≤ 15 → All IsKept memos → All (HasLabel labels) memos
    → map (memo_of (Some (memo_block labels))) (filter (is_exported privacy.All) (map (record_of labels) memos)) ≡ memos
memos_back labels [] all few kept known = refl
memos_back labels (memo ∷ memos) all few kept known =
    let own = memo_back labels memo all few (All-head IsKept memo memos kept) (All-head (HasLabel labels) memo memos known) in
    let rest = memos_back labels memos all few (All-tail IsKept memo memos kept) (All-tail (HasLabel labels) memo memos known) in
    λ i. own i ∷ rest i

pub exported_memos-database : (memos : List MemoValue) → All IsKept memos → length (labels_of memos) ≤ 15
    → exported_memos privacy.All (memo_database (labels_of memos) memos) ≡ memos
exported_memos-database memos kept few =
    memos_back (labels_of memos) memos (short_labels [] memos (All-nil IsShort) kept) few kept (all_known [] memos)
