-- A table's bytes are read as the table.
use Rattle.std.proofs.Common.{arith, append_assoc, ◌≡◌, ◌∙◌, ap, refl, sym, subst, ℕ, zero, suc, ◌+◌, ◌-◌, ◌*◌, ◌/◌, ◌%◌, ◌<◌, ◌==◌, true, List, [], ◌∷◌, ◌++◌}
use Rattle.std.proofs.Common.{drop, get_or, length, length-append, map, replicate, take, Option}
use Rattle.std.proofs.lemmas.List.{get_or-append-add, get_or-map, get_or_append_left, length-map, length-replicate, take-append-le, take_all}
use Rattle.std.proofs.lemmas.List.Elements.{All-get_or}
use Rattle.std.proofs.lemmas.List.FromFn.{fill_by_all}
use Rattle.std.proofs.Math.Seq.{drop-append-add, take-append_seam}
use Rattle.category_tables.proofs.FoundLaws.{position_is, position_none}
use Rattle.std.specs.List.{flat_map}
use Rattle.palm_records.specs.Strings.{front, until_zero}
use Rattle.category_tables.specs.Tables.{CategoryValue, IsTable, TableValue, entry_at, no_entry}
use Rattle.category_tables.specs.Texts.{HasText, HoldsTable, IsLabel, entry_in, id_of, label_bytes, label_text, table_in, table_text}

-- each label is short
abbrev pub AreShort : List CategoryValue → Type 0
AreShort entries = (k : ℕ) → k < length entries → length (entry_at entries k).label < 16

-- each is a label
abbrev AreLabels : List CategoryValue → Type 0
AreLabels entries = (k : ℕ) → k < length entries → IsLabel (entry_at entries k)

short_of : (entries : List CategoryValue) → AreLabels entries → AreShort entries
short_of entries are k less = (are k less).short

pub length-label : (entry : CategoryValue) → length entry.label < 16 → length (label_text entry) ≡ 16
length-label entry less =
    omega (arith, length-append entry.label (replicate {A = ℕ} (16 - length entry.label) 0), length-replicate {A = ℕ} (16 - length entry.label) 0)

later : (entry : CategoryValue) (entries : List CategoryValue) → AreShort (entry ∷ entries) → AreShort entries
later entry entries are k less = are (suc k) (omega arith)

length-labels : (entries : List CategoryValue) → AreShort entries → length (flat_map label_text entries) ≡ 16 * length entries
length-labels [] are = refl
length-labels (entry ∷ entries) are =
    let whole = length-label entry (are 0 (omega arith)) in
    let rest = length-labels entries (later entry entries are) in
    omega (arith, length-append (label_text entry) (flat_map label_text entries), whole, rest)

-- the n-th label among all
label-at : (entries : List CategoryValue) (n : ℕ) (rest : List ℕ) → AreShort entries → n < length entries
    → take 16 (drop (16 * n) (flat_map label_text entries ++ rest)) ≡ label_text (entry_at entries n)
label-at [] n rest are less = absurd (omega arith)
label-at (entry ∷ entries) zero rest are less =
    let whole = length-label entry (are 0 (omega arith)) in
    rw append_assoc (take-append-le 16 (label_text entry) (flat_map label_text entries ++ rest) (omega (arith, whole))
    ∙ take_all 16 (label_text entry) (omega (arith, whole)))
label-at (entry ∷ entries) (suc n) rest are less =
    let whole = length-label entry (are 0 (omega arith)) in
    let far : 16 * suc n ≡ length (label_text entry) + 16 * n = omega (arith, whole) in
    ap (λ k. take 16 (drop k (flat_map label_text (entry ∷ entries) ++ rest))) far
    ∙ ap (λ (l : List ℕ). take 16 (drop (length (label_text entry) + 16 * n) l)) (append_assoc (label_text entry) (flat_map label_text entries) rest)
    ∙ ap (take {A = ℕ} 16) (drop-append-add (label_text entry) (flat_map label_text entries ++ rest) (16 * n))
    ∙ label-at entries n rest (later entry entries are) (omega arith)

first_zero-of : (n : ℕ) → 0 < n → get_or (replicate {A = ℕ} n 0) 0 1 ≡ 0
first_zero-of zero some = absurd (omega arith)
first_zero-of (suc n) some = refl

-- a label behind which there are zero bytes
label-read : (entry : CategoryValue) → IsLabel entry → until_zero (label_text entry) ≡ entry.label
label-read entry is =
    let zeros : List ℕ = replicate (16 - length entry.label) 0 in
    let long = length-label entry is.short in
    let at = position_is (λ byte. byte == 0) (label_text entry) (length entry.label) 1 (omega (arith, long, is.short)) (zero_behind entry is.short)
    (λ k below. ap (λ byte. byte == 0) (get_or_append_left entry.label zeros 1 k below) ∙ position_none (λ byte. byte == 0) entry.label 1 is.whole k below) in
    ap (λ (place : Option ℕ). front place (label_text entry)) at ∙ take-append_seam entry.label zeros
  where
    zero_behind : (entry : CategoryValue) → length entry.label < 16 → (get_or (label_text entry) (length entry.label) 1 == 0) ≡ true
    zero_behind entry less =
        let far : length entry.label ≡ length entry.label + 0 = omega arith in
        let some : 0 < 16 - length entry.label = omega arith in
        ap (λ byte. byte == 0) (ap (λ n. get_or (label_text entry) n 1) far
        ∙ get_or-append-add entry.label (replicate {A = ℕ} (16 - length entry.label) 0) 0 1 ∙ first_zero-of (16 - length entry.label) some)

-- ---- the whole text

labels_of : TableValue → List ℕ
labels_of table = flat_map label_text table.entries

behind : TableValue → List ℕ
behind table = map id_of table.entries ++ table.last ∷ 0 ∷ []

pub label-in : (table : TableValue) (n : ℕ) → AreShort table.entries → length table.entries ≡ 16 → n < 16
    → label_bytes (table_text table) n ≡ label_text (entry_at table.entries n)
unfolding table_text
label-in table n are whole less =
    ap (take {A = ℕ} 16) (drop-append-add ((table.flags / 256) ∷ (table.flags % 256) ∷ []) (flat_map label_text table.entries ++ (map id_of table.entries ++ table.last ∷ 0 ∷ [])) (16 * n))
    ∙ label-at table.entries n (map id_of table.entries ++ table.last ∷ 0 ∷ []) are (omega arith)

pub id-in : (table : TableValue) (n : ℕ) → AreShort table.entries → length table.entries ≡ 16 → n < 16
    → get_or (table_text table) (258 + n) 0 ≡ (entry_at table.entries n).id
unfolding table_text
id-in table n are whole less =
    let head : List ℕ = (table.flags / 256) ∷ (table.flags % 256) ∷ flat_map label_text table.entries in
    let long = length-labels table.entries are in
    let at : 258 + n ≡ length head + n = omega (arith, long, whole) in
    ap (λ k. get_or (head ++ (map id_of table.entries ++ table.last ∷ 0 ∷ [])) k 0) at
    ∙ get_or-append-add head (map id_of table.entries ++ table.last ∷ 0 ∷ []) n 0
    ∙ get_or_append_left (map id_of table.entries) (table.last ∷ 0 ∷ []) 0 n (omega (arith, whole, length-map table.entries id_of))
    ∙ get_or-map id_of table.entries n no_entry 0 (omega arith)

pub last-in : (table : TableValue) → AreShort table.entries → length table.entries ≡ 16 → get_or (table_text table) 274 0 ≡ table.last
unfolding table_text
last-in table are whole =
    let head : List ℕ = (table.flags / 256) ∷ (table.flags % 256) ∷ flat_map label_text table.entries in
    let long = length-labels table.entries are in
    let ids = length-map table.entries id_of in
    let at : 274 ≡ length head + 16 = omega (arith, long, whole) in
    let far : 16 ≡ length (map id_of table.entries) + 0 = omega (arith, whole, ids) in
    ap (λ k. get_or (head ++ (map id_of table.entries ++ table.last ∷ 0 ∷ [])) k 0) at
    ∙ get_or-append-add head (map id_of table.entries ++ table.last ∷ 0 ∷ []) 16 0
    ∙ ap (λ k. get_or (map id_of table.entries ++ table.last ∷ 0 ∷ []) k 0) far
    ∙ get_or-append-add (map id_of table.entries) (table.last ∷ 0 ∷ []) 0 0

flags-in : (table : TableValue) → get_or (table_text table) 0 0 * 256 + get_or (table_text table) 1 0 ≡ table.flags
unfolding table_text
flags-in table = omega arith

pub length-text : (table : TableValue) → AreShort table.entries → length table.entries ≡ 16 → length (table_text table) ≡ 276
unfolding table_text
length-text table are whole =
    let long = length-labels table.entries are in
    let ids = length-map table.entries id_of in
    omega (
      arith,
      long,
      whole,
      ids,
      length-append (flat_map label_text table.entries) (map id_of table.entries ++ table.last ∷ 0 ∷ []),
      length-append (map id_of table.entries) (table.last ∷ 0 ∷ []),
    )

same_entry : (entry : CategoryValue) (label : List ℕ) (id : ℕ) → label ≡ entry.label → id ≡ entry.id → record { label = label; id = id } ≡ entry
same_entry entry label id e f = rw (e, f) refl

entry-in : (table : TableValue) (n : ℕ) → AreLabels table.entries → length table.entries ≡ 16 → n < 16
    → entry_in (table_text table) n ≡ entry_at table.entries n
entry-in table n are whole less =
    same_entry (entry_at table.entries n) _ _ (ap until_zero (label-in table n (short_of table.entries are) whole less) ∙ label-read (entry_at table.entries n) (are n (omega arith)))
    (id-in table n (short_of table.entries are) whole less)

same_table : (table : TableValue) (flags last : ℕ) (entries : List CategoryValue) → flags ≡ table.flags → entries ≡ table.entries → last ≡ table.last
    → record { flags = flags; entries = entries; last = last } ≡ table
same_table table flags last entries e f g = rw (e, f, g) refl

labels : (table : TableValue) → HasText table → AreLabels table.entries
labels table has k less = All-get_or IsLabel table.entries k no_entry less has.labels

pub table-read : (table : TableValue) → HasText table → table_in (table_text table) ≡ table
unfolding table_in
table-read table has =
    let are = labels table has in
    let whole = has.table_is.whole in
    same_table table _ _ _ (flags-in table)
    (sym (fill_by_all (entry_in (table_text table)) table.entries 16 no_entry whole (λ k less. sym (entry-in table k are whole less))))
    (last-in table (short_of table.entries are) whole)

pub text_holds : (table : TableValue) → HasText table → HoldsTable (table_text table)
text_holds table has =
    let are = labels table has in
    let whole = has.table_is.whole in
    record {
      long = omega (arith, length-text table (short_of table.entries are) whole);
      ended = λ n less. subst (λ (e : CategoryValue). length e.label < 16) (sym (entry-in table n are whole less)) (are n (omega arith)).short;
      table = subst IsTable (sym (table-read table has)) has.table_is;
    }
