-- The line of a row of texts is text.
use Rattle.std.proofs.Common.{◌≡◌, ℕ, suc, ◌<◌, ◌≤◌, ◌==◌, Bool, true, false, List, [], ◌∷◌, ◌++◌, length, get_or, IsUtf8, inl, inr, refl, sym, ap, subst, arith, append-nil}
use Rattle.std.proofs.lemmas.Bool.{and_parts, cases_Bool, cases_lt, eqb-true}
use Rattle.std.proofs.lemmas.Str.{IsUtf8-append, IsUtf8-nil, IsUtf8-encode, encode_ascii, inside_one}
use lib.Utf8.{scalar, scalars, encode, encodes, low_scalar}
use Rattle.csv.specs.Records.{AllText}
use Rattle.csv.specs.Writing.{escaped, field_text, fields_text, is_blank, needs_quotes, quoted, row_body, row_text}
use Rattle.std.specs.Prelude.{if◌then◌else◌}
use Rattle.table_export.specs.Tables.{table_writer}

ascii : (x : ℕ) → x < 128 → IsUtf8 (x ∷ [])
ascii x small = subst IsUtf8 (encode_ascii x small) (IsUtf8-encode x (low_scalar x (omega arith)))

ascii_then : (x : ℕ) (xs : List ℕ) → x < 128 → IsUtf8 xs → IsUtf8 (x ∷ xs)
ascii_then x xs small u = IsUtf8-append (x ∷ []) xs (ascii x small) u

escaped-append : (xs ys : List ℕ) → escaped table_writer (xs ++ ys) ≡ escaped table_writer xs ++ escaped table_writer ys
unfolding escaped
escaped-append [] ys = refl
escaped-append (x ∷ xs) ys = elim (cases_Bool (x == 34)) [
  | inl is ↦ rw is (ap (λ l. 34 ∷ x ∷ l) (escaped-append xs ys))
  | inr other ↦ rw other (ap (λ l. x ∷ l) (escaped-append xs ys))
]

escaped_high : (xs : List ℕ) → ((k : ℕ) → k < length xs → 128 ≤ get_or xs k 0) → escaped table_writer xs ≡ xs
unfolding escaped
escaped_high [] h = refl
escaped_high (x ∷ xs) h =
    let high : 128 ≤ x = h 0 (omega arith) in
    let rest : escaped table_writer xs ≡ xs = escaped_high xs (λ k below. h (suc k) (omega arith)) in
    elim (cases_Bool (x == 34)) [
      | inl is ↦ let quote : x ≡ 34 = eqb-true x 34 is in absurd (omega arith)
      | inr other ↦ rw other (ap (λ l. x ∷ l) rest)
    ]

escaped_low : (x : ℕ) → x < 128 → IsUtf8 (escaped table_writer (x ∷ []))
unfolding escaped
escaped_low x small = elim (cases_Bool (x == 34)) [
  | inl is ↦ rw is (ascii_then 34 (x ∷ []) (omega arith) (ascii x small))
  | inr other ↦ rw other (ascii x small)
]

one_char : (c : ℕ) → scalar c ≡ true → IsUtf8 (escaped table_writer (encode c))
one_char c ok = elim (cases_lt c 128) [
  | inl small ↦ rw (encode_ascii c small) (escaped_low c small)
  | inr big ↦
      let high : (k : ℕ) → k < length (encode c) → 128 ≤ get_or (encode c) k 0 = λ k below. elim (cases_lt (get_or (encode c) k 0) 128) [
        | inl low ↦ absurd (omega (arith, inside_one c [] (encode c) k (sym (append-nil _)) below low))
        | inr h ↦ h
      ] in
      subst IsUtf8 (sym (escaped_high (encode c) high)) (IsUtf8-encode c ok)
]

all_chars : (cs : List ℕ) → scalars cs ≡ true → IsUtf8 (escaped table_writer (encodes cs))
unfolding escaped
all_chars [] e = IsUtf8-nil
all_chars (c ∷ cs) e =
    let both = and_parts _ _ e in
    subst IsUtf8 (sym (escaped-append (encode c) (encodes cs)))
    (IsUtf8-append (escaped table_writer (encode c)) (escaped table_writer (encodes cs)) (one_char c both.0) (all_chars cs both.1))

escaped_text : (field : List ℕ) → IsUtf8 field → IsUtf8 (escaped table_writer field)
escaped_text field u = subst (λ f. IsUtf8 (escaped table_writer f)) u.1.1 (all_chars u.0 u.1.0)

quoted_text : (field : List ℕ) → IsUtf8 field → IsUtf8 (quoted table_writer field)
quoted_text field u =
    ascii_then 34 (escaped table_writer field ++ 34 ∷ []) (omega arith)
    (IsUtf8-append (escaped table_writer field) (34 ∷ []) (escaped_text field u) (ascii 34 (omega arith)))

by_need : (b : Bool) (field : List ℕ) → IsUtf8 field → IsUtf8 (if b then quoted table_writer field else field)
by_need true field u = quoted_text field u
by_need false field u = u

one_field : (field : List ℕ) → IsUtf8 field → IsUtf8 (field_text table_writer field)
one_field field u = by_need (needs_quotes table_writer field) field u

more_fields : (fields : List (List ℕ)) → AllText fields → IsUtf8 (fields_text table_writer fields)
unfolding fields_text AllText
more_fields [] all = IsUtf8-nil
more_fields (field ∷ rest) all =
    ascii_then 44 (field_text table_writer field ++ fields_text table_writer rest) (omega arith)
    (IsUtf8-append (field_text table_writer field) (fields_text table_writer rest) (one_field field all.0) (more_fields rest all.1))

body_text : (fields : List (List ℕ)) → AllText fields → IsUtf8 (row_body table_writer fields)
unfolding AllText
body_text [] all = IsUtf8-nil
body_text (field ∷ rest) all =
    IsUtf8-append (field_text table_writer field) (fields_text table_writer rest) (one_field field all.0) (more_fields rest all.1)

line_end : IsUtf8 (13 ∷ 10 ∷ [])
line_end = ascii_then 13 (10 ∷ []) (omega arith) (ascii 10 (omega arith))

row_end : (b : Bool) → IsUtf8 ((if b then 34 ∷ 34 ∷ [] else []) ++ 13 ∷ 10 ∷ [])
row_end true = ascii_then 34 (34 ∷ 13 ∷ 10 ∷ []) (omega arith) (ascii_then 34 (13 ∷ 10 ∷ []) (omega arith) line_end)
row_end false = line_end

pub IsUtf8-row_text : (fields : List (List ℕ)) → AllText fields → IsUtf8 (row_text table_writer fields)
IsUtf8-row_text fields all =
    IsUtf8-append (row_body table_writer fields) _ (body_text fields all) (row_end (is_blank table_writer fields))
