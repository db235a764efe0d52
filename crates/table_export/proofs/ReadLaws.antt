-- The rows of a table are read again.
use Rattle.std.proofs.Common.{◌≡◌, ◌∙◌, ◌≤◌, ◌+◌, ◌==◌, append_assoc, arith, length, ap, inl, inr, refl, subst, sym, map, ℕ, zero, suc, Bool, true, false, List, [], ◌∷◌, ◌++◌, Some}
use Rattle.std.proofs.Common.{length-append}
use Rattle.std.specs.Prelude.{All, if◌then◌else◌, slice_index_or}
use Rattle.std.proofs.lemmas.Bool.Decides.{nat_tests}
use Rattle.std.specs.List.{flat_map, list_any}
use Rattle.std.proofs.lemmas.List.{length-map}
use Rattle.std.proofs.lemmas.Bool.{cases_Bool, or_parts}
use Rattle.std.proofs.lemmas.List.Elements.{All-head, All-map, All-tail}
use Rattle.csv.proofs.RoundTrip.{field-run, record-same}
use Rattle.csv.specs.Machine.{next_record}
use Rattle.csv.specs.Reading.{default_config, records_from}
use Rattle.csv.specs.Writing.{default_writer, escaped, field_text, fields_text, is_blank, needs_byte, row_body, row_text}
use Rattle.csv.specs.declared.parser.State.TheVariants as st
use Rattle.table_export.specs.Tables.{IsRow, line_of, marked, needs_mark, rows_in, shown_row, table_text, table_writer}
use Rattle.table_export.specs.declared.kind.Marks.{Marks}
use Rattle.table_export.specs.declared.kind.Marks.TheVariants.{Absent, Formulas}

-- ---- how a row ends does not change its fields' texts

escaped-same : (bytes : List ℕ) → escaped table_writer bytes ≡ escaped default_writer bytes
unfolding escaped
escaped-same [] = refl
escaped-same (b ∷ rest) = rw (escaped-same rest) refl

field_text-same : (field : List ℕ) → field_text table_writer field ≡ field_text default_writer field
field_text-same field = rw (escaped-same field) refl

fields_text-same : (fields : List (List ℕ)) → fields_text table_writer fields ≡ fields_text default_writer fields
unfolding fields_text
fields_text-same [] = refl
fields_text-same (field ∷ rest) = rw (field_text-same field, fields_text-same rest) refl

-- the text of a row of two fields or more, and what is behind it
row_text-on : (x y : List ℕ) (ys : List (List ℕ)) (tail : List ℕ)
    → row_text table_writer (x ∷ y ∷ ys) ++ tail ≡ field_text default_writer x ++ (fields_text default_writer (y ∷ ys) ++ 13 ∷ 10 ∷ tail)
unfolding is_blank
row_text-on x y ys tail =
    append_assoc (row_body table_writer (x ∷ y ∷ ys)) (13 ∷ 10 ∷ []) tail
    ∙ (append_assoc (field_text table_writer x) (fields_text table_writer (y ∷ ys)) (13 ∷ 10 ∷ tail)
    ∙ rw (field_text-same x, fields_text-same (y ∷ ys)) refl)

-- ---- fields

-- what is behind a field: its first byte is no quote
abbrev behind-head : List (List ℕ) → ℕ
behind-head [] = 13
behind-head (z ∷ zs) = 44

abbrev behind-rest : List (List ℕ) → List ℕ → List ℕ
behind-rest [] tail = tail
behind-rest (z ∷ zs) tail = (field_text default_writer z ++ fields_text default_writer zs) ++ 13 ∷ tail

behind : (fields : List (List ℕ)) (tail : List ℕ) → fields_text default_writer fields ++ 13 ∷ tail ≡ behind-head fields ∷ behind-rest fields tail
unfolding fields_text
behind [] tail = refl
behind (z ∷ zs) tail = refl

behind-plain : (fields : List (List ℕ)) → (behind-head fields == 34) ≡ false
behind-plain [] = refl
behind-plain (z ∷ zs) = refl

-- a comma ends the field
field-ended : (fields : List (List ℕ)) (x u : List ℕ)
    → next_record default_config st.InField fields x (44 ∷ u) ≡ next_record default_config st.StartField (fields ++ x ∷ []) [] u
unfolding next_record
field-ended fields x u = refl

-- the rest of a row behind a field, up to the carriage return
next_record-rest : (fields : List (List ℕ)) (x : List ℕ) (rest : List (List ℕ)) (tail : List ℕ)
    → next_record default_config st.InField fields x (fields_text default_writer rest ++ 13 ∷ tail) ≡ Some (fields ++ x ∷ rest, st.AfterCr, tail)
unfolding next_record fields_text
next_record-rest fields x [] tail = refl
next_record-rest fields x (y ∷ ys) tail =
    let there = behind ys tail in
    let first = field_text default_writer y in
    let text : (first ++ fields_text default_writer ys) ++ 13 ∷ tail ≡ first ++ behind-head ys ∷ behind-rest ys tail =
    append_assoc first (fields_text default_writer ys) (13 ∷ tail) ∙ ap (λ (t : List ℕ). first ++ t) there in
    let run = field-run (fields ++ x ∷ []) y (behind-head ys) (behind-rest ys tail) (behind-plain ys) in
    let more = next_record-rest (fields ++ x ∷ []) y ys tail in
    let front = fields ++ x ∷ [] in
    let back = subst (λ (t : List ℕ). next_record default_config st.InField front y t ≡ Some (front ++ y ∷ ys, st.AfterCr, tail)) there more in
    rw (field-ended fields x _, text) (run ∙ (back ∙ rw (append_assoc fields (x ∷ []) (y ∷ ys)) refl))

-- ---- rows

-- a byte that needs no quotes ends no line
not-return : (b : ℕ) → needs_byte default_writer b ≡ false → (b == 13) ≡ false
not-return b e = grind (arith, nat_tests)

not-feed : (b : ℕ) → needs_byte default_writer b ≡ false → (b == 10) ≡ false
not-feed b e = grind (arith, nat_tests)

-- a row begins as a field does, where a comma is behind its first field
plain-begun : (x tail : List ℕ) → list_any (needs_byte default_writer) x ≡ false
    → next_record default_config st.StartRecord [] [] (x ++ 44 ∷ tail) ≡ next_record default_config st.StartField [] [] (x ++ 44 ∷ tail)
plain-begun [] tail plain = record-same [] [] 44 tail refl refl
plain-begun (b ∷ rest) tail plain =
    let first = (or_parts (needs_byte default_writer b) (list_any (needs_byte default_writer) rest) plain).0 in
    record-same [] [] b (rest ++ 44 ∷ tail) (not-return b first) (not-feed b first)

row-begun : (x tail : List ℕ)
    → next_record default_config st.StartRecord [] [] (field_text default_writer x ++ 44 ∷ tail)
    ≡ next_record default_config st.StartField [] [] (field_text default_writer x ++ 44 ∷ tail)
row-begun x tail = elim (cases_Bool (list_any (needs_byte default_writer) x)) [
  | inl needs ↦ rw needs (record-same [] [] 34 _ refl refl)
  | inr plain ↦ rw plain (plain-begun x tail plain)
]

next_record-row : (row : List (List ℕ)) (tail : List ℕ) → IsRow row
    → next_record default_config st.StartRecord [] [] (row_text table_writer row ++ tail) ≡ Some (row, st.AfterCr, 10 ∷ tail)
next_record-row [] tail is = absurd (omega (arith, is))
next_record-row (x ∷ []) tail is = absurd (omega (arith, is))
next_record-row (x ∷ y ∷ ys) tail is =
    let rest : List ℕ = 10 ∷ tail in
    let there = behind (y ∷ ys) rest in
    let text : row_text table_writer (x ∷ y ∷ ys) ++ tail ≡ field_text default_writer x ++ 44 ∷ behind-rest (y ∷ ys) rest =
    row_text-on x y ys tail ∙ ap (λ (t : List ℕ). field_text default_writer x ++ t) there in
    let run = field-run [] x 44 (behind-rest (y ∷ ys) rest) refl in
    let more = next_record-rest [] x (y ∷ ys) rest in
    let back = subst (λ (t : List ℕ). next_record default_config st.InField [] x t ≡ Some ([] ++ x ∷ y ∷ ys, st.AfterCr, rest)) there more in
    rw text (row-begun x (behind-rest (y ∷ ys) rest) ∙ (run ∙ back))

-- ---- tables

-- the text of rows without marks
abbrev plain_text : List (List (List ℕ)) → List ℕ
plain_text rows = flat_map (row_text table_writer) rows

-- the line feed behind a row belongs to it
feed-skipped : (text : List ℕ) → next_record default_config st.AfterCr [] [] (10 ∷ text) ≡ next_record default_config st.StartRecord [] [] text
unfolding next_record
feed-skipped text = refl

records_from-feed : (n : ℕ) (text : List ℕ) → records_from default_config n st.AfterCr (10 ∷ text) ≡ records_from default_config n st.StartRecord text
unfolding records_from
records_from-feed zero text = refl
records_from-feed (suc n) text = rw (feed-skipped text) refl

records_from-table : (n : ℕ) (rows : List (List (List ℕ))) → All IsRow rows → length rows ≤ n
    → records_from default_config n st.StartRecord (plain_text rows) ≡ rows
unfolding records_from next_record
records_from-table zero [] all few = refl
records_from-table zero (row ∷ rows) all few = absurd (omega arith)
records_from-table (suc n) [] all few = refl
records_from-table (suc n) (row ∷ rows) all few =
    rw (next_record-row row (plain_text rows) (All-head IsRow row rows all))
    (ap (λ (later : List (List (List ℕ))). row ∷ later)
    (records_from-feed n (plain_text rows) ∙ records_from-table n rows (All-tail IsRow row rows all) (omega arith)))

-- a table has at least as many bytes as rows
length-ended : (body blank : List ℕ) → 1 ≤ length (body ++ (blank ++ 13 ∷ 10 ∷ []))
length-ended body blank = omega (arith, length-append body (blank ++ 13 ∷ 10 ∷ []), length-append blank (13 ∷ 10 ∷ []))

length-row : (row : List (List ℕ)) → 1 ≤ length (row_text table_writer row)
length-row row = length-ended (row_body table_writer row) (if is_blank table_writer row then 34 ∷ 34 ∷ [] else [])

length-table : (rows : List (List (List ℕ))) → length rows ≤ length (plain_text rows)
length-table [] = omega arith
length-table (row ∷ rows) = omega (arith, length-table rows, length-row row, length-append (row_text table_writer row) (plain_text rows))

rows_in-plain_text : (rows : List (List (List ℕ))) → All IsRow rows → rows_in (plain_text rows) ≡ rows
rows_in-plain_text rows all = records_from-table (length (plain_text rows) + 1) rows all (omega (arith, length-table rows))

-- ---- marks

table_text-shown : (marks : Marks) (rows : List (List (List ℕ))) → table_text marks rows ≡ plain_text (map (shown_row marks) rows)
table_text-shown marks [] = refl
table_text-shown marks (row ∷ rows) = ap (λ t. line_of marks row ++ t) (table_text-shown marks rows)

IsRow-shown : (marks : Marks) (row : List (List ℕ)) → IsRow row → IsRow (shown_row marks row)
IsRow-shown Absent row is = is
IsRow-shown Formulas row is = omega (arith, length-map row marked, is)

All-shown : (marks : Marks) (rows : List (List (List ℕ))) → All IsRow rows → All IsRow (map (shown_row marks) rows)
All-shown marks rows all = All-map IsRow (shown_row marks) rows (λ k d inside. IsRow-shown marks (slice_index_or rows k d) (all k d inside))

pub rows_in-table_text : (marks : Marks) (rows : List (List (List ℕ))) → All IsRow rows → rows_in (table_text marks rows) ≡ map (shown_row marks) rows
rows_in-table_text marks rows all =
    ap rows_in (table_text-shown marks rows) ∙ rows_in-plain_text (map (shown_row marks) rows) (All-shown marks rows all)

-- a field that begins with the mark has one more, so a field is told from a marked one
mark_step : (p q : Bool) (a b : List ℕ) → needs_mark a ≡ p → needs_mark b ≡ q → (if p then 39 ∷ a else a) ≡ (if q then 39 ∷ b else b) → a ≡ b
mark_step true true a b p_is q_is same = cc
mark_step false false a b p_is q_is same = same
mark_step true false a b p_is q_is same = let no : true ≡ false = ap needs_mark same ∙ q_is in cc
mark_step false true a b p_is q_is same = let no : true ≡ false = ap needs_mark (sym same) ∙ p_is in cc

marked_injective : (a b : List ℕ) → marked a ≡ marked b → a ≡ b
marked_injective a b same = mark_step (needs_mark a) (needs_mark b) a b refl refl same

map_injective : {A B : Type 0} (f : A → B) → ((x y : A) → f x ≡ f y → x ≡ y) → (a b : List A) → map f a ≡ map f b → a ≡ b
map_injective f one [] [] same = refl
map_injective f one [] (y ∷ ys) same = cc
map_injective f one (x ∷ xs) [] same = cc
map_injective f one (x ∷ xs) (y ∷ ys) same =
    let first : f x ≡ f y = cc in
    let rest : map f xs ≡ map f ys = cc in
    let here = one x y first in
    let behind = map_injective f one xs ys rest in
    cc

shown_row_injective : (marks : Marks) (a b : List (List ℕ)) → shown_row marks a ≡ shown_row marks b → a ≡ b
shown_row_injective Absent a b same = same
shown_row_injective Formulas a b same = map_injective marked marked_injective a b same

pub table_text_injective : (marks : Marks) (a b : List (List (List ℕ))) → All IsRow a → All IsRow b → table_text marks a ≡ table_text marks b → a ≡ b
table_text_injective marks a b is_a is_b same =
    map_injective (shown_row marks) (shown_row_injective marks) a b
    (sym (rows_in-table_text marks a is_a) ∙ (ap rows_in same ∙ rows_in-table_text marks b is_b))
