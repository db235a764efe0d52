-- The table that bytes hold is written as these bytes.
use Rattle.std.proofs.Common.{arith, ◌≡◌, ◌⊎◌, ◌∙◌, ap, inl, inr, refl, sym, ℕ, zero, suc, ◌+◌, ◌-◌, ◌*◌, ◌/◌, ◌%◌, ◌<◌, ◌≤◌, List, [], ◌∷◌, ◌++◌}
use Rattle.std.proofs.Common.{drop, get_or, length, length-drop, replicate, take, Option, None, Some}
use Rattle.std.proofs.lemmas.Bool.{cases_lt}
use Rattle.std.proofs.lemmas.List.{ext_get_or, get_or-drop, get_or-replicate, get_or-take, length-replicate, length-take-le}
use Rattle.std.proofs.lemmas.List.Elements.{All-get_or}
use Rattle.std.proofs.lemmas.List.FromFn.{get_or-map-range_with_len}
use Rattle.std.specs.List.{All}
use Rattle.palm_records.specs.Strings.{first_zero, front}
use Rattle.category_tables.specs.Tables.{CategoryValue, entry_at, no_entry}
use Rattle.category_tables.specs.Texts.{AreFilled, HoldsTable, entry_in, label_bytes, label_text, table_in, table_text}
use Rattle.category_tables.proofs.TextLaws.{AreShort, id-in, label-in, last-in, length-text}

-- ---- a label that is filled with zero bytes

all_zeros : (bytes : List ℕ) → All (λ byte. byte ≡ 0) bytes → bytes ≡ replicate (length bytes) 0
all_zeros bytes all =
    ext_get_or 0 bytes (replicate (length bytes) 0) (sym (length-replicate {A = ℕ} (length bytes) 0))
    (λ i less. All-get_or (λ byte. byte ≡ 0) bytes i 0 less all ∙ sym (get_or-replicate (length bytes) i 0 0 less))

take_and_drop : (n : ℕ) (bytes : List ℕ) → take n bytes ++ drop (length (take n bytes)) bytes ≡ bytes
take_and_drop zero bytes = refl
take_and_drop (suc n) [] = refl
take_and_drop (suc n) (byte ∷ bytes) = ap (λ (l : List ℕ). byte ∷ l) (take_and_drop n bytes)

all_and_none : (bytes : List ℕ) → bytes ++ drop (length bytes) bytes ≡ bytes
all_and_none [] = refl
all_and_none (byte ∷ bytes) = ap (λ (l : List ℕ). byte ∷ l) (all_and_none bytes)

front_and_rest : (place : Option ℕ) (bytes : List ℕ) → front place bytes ++ drop (length (front place bytes)) bytes ≡ bytes
front_and_rest None bytes = all_and_none bytes
front_and_rest (Some place) bytes = take_and_drop place bytes

filled_front : (place : Option ℕ) (bytes : List ℕ) → length bytes ≡ 16 → All (λ byte. byte ≡ 0) (drop (length (front place bytes)) bytes)
    → front place bytes ++ replicate (16 - length (front place bytes)) 0 ≡ bytes
filled_front place bytes whole all =
    let some : length (drop (length (front place bytes)) bytes) ≡ 16 - length (front place bytes) = simp length-drop (omega (arith, whole)) in
    ap (λ n. front place bytes ++ replicate n 0) (sym some)
    ∙ ap (λ (l : List ℕ). front place bytes ++ l) (sym (all_zeros (drop (length (front place bytes)) bytes) all)) ∙ front_and_rest place bytes

-- ---- the bytes of a table, each by its place

module _ (bytes : List ℕ) (each : All (λ byte. byte < 256) bytes) (holds : HoldsTable bytes) (filled : AreFilled bytes) where
  entry-is : (n : ℕ) → n < 16 → entry_at (table_in bytes).entries n ≡ entry_in bytes n
  unfolding table_in
  entry-is n less = get_or-map-range_with_len (entry_in bytes) 0 16 n n no_entry less (omega arith)

  are_short : AreShort (table_in bytes).entries
  are_short n less =
      let few : n < 16 = omega (arith, holds.table.whole) in
      rw (entry-is n few) (holds.ended n few)

  length-bytes : (n : ℕ) → n < 16 → length (label_bytes bytes n) ≡ 16
  length-bytes n less =
      length-take-le 16 (drop (2 + 16 * n) bytes) (omega (arith, holds.long, length-drop (2 + 16 * n) bytes))

  label-same : (n : ℕ) → n < 16 → label_bytes (table_text (table_in bytes)) n ≡ label_bytes bytes n
  label-same n less =
      label-in (table_in bytes) n are_short holds.table.whole less ∙ ap label_text (entry-is n less)
      ∙ filled_front (first_zero (label_bytes bytes n)) (label_bytes bytes n) (length-bytes n less) (filled n less)

  -- a byte of a label
  byte-in : (text : List ℕ) (n j : ℕ) → j < 16 → get_or (label_bytes text n) j 0 ≡ get_or text (2 + 16 * n + j) 0
  byte-in text n j less = get_or-take 16 (drop (2 + 16 * n) text) j 0 less ∙ get_or-drop (2 + 16 * n) text j 0

  in_labels : (k : ℕ) → 2 ≤ k → k < 258 → get_or (table_text (table_in bytes)) k 0 ≡ get_or bytes k 0
  in_labels k some few =
      let at : k ≡ 2 + 16 * ((k - 2) / 16) + (k - 2) % 16 = omega arith in
      let one : (k - 2) / 16 < 16 = omega arith in
      let two : (k - 2) % 16 < 16 = omega arith in
      by ((k - 2) / 16) ((k - 2) % 16) one two at
    where
      by : (n j : ℕ) → n < 16 → j < 16 → k ≡ 2 + 16 * n + j → get_or (table_text (table_in bytes)) k 0 ≡ get_or bytes k 0
      by n j one two at =
          ap (λ i. get_or (table_text (table_in bytes)) i 0) at ∙ sym (byte-in (table_text (table_in bytes)) n j two)
          ∙ ap (λ (l : List ℕ). get_or l j 0) (label-same n one) ∙ byte-in bytes n j two ∙ ap (λ i. get_or bytes i 0) (sym at)

  in_ids : (k : ℕ) → 258 ≤ k → k < 274 → get_or (table_text (table_in bytes)) k 0 ≡ get_or bytes k 0
  in_ids k some few =
      let less : k - 258 < 16 = omega arith in
      let at : k ≡ 258 + (k - 258) = omega arith in
      ap (λ i. get_or (table_text (table_in bytes)) i 0) at ∙ id-in (table_in bytes) (k - 258) are_short holds.table.whole less
      ∙ ap (λ (e : CategoryValue). e.id) (entry-is (k - 258) less) ∙ ap (λ i. get_or bytes i 0) (sym at)

  last-is : get_or (table_text (table_in bytes)) 274 0 ≡ get_or bytes 274 0
  unfolding table_in
  last-is = last-in (table_in bytes) are_short holds.table.whole

  flags-same : (k : ℕ) → k < 2 → get_or (table_text (table_in bytes)) k 0 ≡ get_or bytes k 0
  unfolding table_in table_text
  flags-same zero less =
      let low = All-get_or (λ byte. byte < 256) bytes 1 0 (omega (arith, holds.long)) each in
      omega arith
  flags-same (suc zero) less =
      let low = All-get_or (λ byte. byte < 256) bytes 1 0 (omega (arith, holds.long)) each in
      omega arith
  flags-same (suc (suc k)) less = absurd (omega arith)

  byte-same : (k : ℕ) → k < 275 → get_or (table_text (table_in bytes)) k 0 ≡ get_or bytes k 0
  byte-same k less = by_flags (cases_lt k 2)
    where
      last_one : (k < 274) ⊎ (274 ≤ k) → 258 ≤ k → get_or (table_text (table_in bytes)) k 0 ≡ get_or bytes k 0
      last_one (inl few) some = in_ids k some few
      last_one (inr far) some =
          let is : k ≡ 274 = omega arith in
          ap (λ i. get_or (table_text (table_in bytes)) i 0) is ∙ last-is ∙ ap (λ i. get_or bytes i 0) (sym is)

      by_labels : (k < 258) ⊎ (258 ≤ k) → 2 ≤ k → get_or (table_text (table_in bytes)) k 0 ≡ get_or bytes k 0
      by_labels (inl few) some = in_labels k some few
      by_labels (inr far) some = last_one (cases_lt k 274) far

      by_flags : (k < 2) ⊎ (2 ≤ k) → get_or (table_text (table_in bytes)) k 0 ≡ get_or bytes k 0
      by_flags (inl few) = flags-same k few
      by_flags (inr far) = by_labels (cases_lt k 258) far

  length-same : length (take 275 (table_text (table_in bytes))) ≡ length (take 275 bytes)
  length-same =
      length-take-le 275 (table_text (table_in bytes)) (omega (arith, length-text (table_in bytes) are_short holds.table.whole))
      ∙ sym (length-take-le 275 bytes (omega (arith, holds.long)))

  pub table-written : take 275 (table_text (table_in bytes)) ≡ take 275 bytes
  table-written =
      ext_get_or 0 (take 275 (table_text (table_in bytes))) (take 275 bytes) length-same
      (λ k below. let less : k < 275 = omega (arith, length-same, length-take-le 275 bytes (omega (arith, holds.long))) in
      get_or-take 275 (table_text (table_in bytes)) k 0 less ∙ byte-same k less ∙ sym (get_or-take 275 bytes k 0 less))
