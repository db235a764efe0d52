-- Fields, one after the other.
use Rattle.std.proofs.Common.{◌≡◌, ◌∙◌, ◌+◌, append-nil, append_assoc, arith, ap, refl, sym, ℕ, List, [], ◌∷◌, ◌++◌, map}
use Rattle.std.specs.Prelude.{replicate}
use Rattle.std.specs.List.{flat_map, range_with_len}
use Rattle.std.proofs.lemmas.List.{replicate-append-replicate}
use Rattle.std.proofs.lemmas.List.FromFn.{map-range_with_len_more}
use Rattle.std.proofs.lemmas.Grind.{flat_map-append}
use Rattle.palm_records.specs.Addresses.{AddressValue}
use Rattle.table_export.specs.Addresses.{columns_before, field_columns}

-- ---- fields

-- the numbers from 0 on, and one more
range-more : (n : ℕ) → range_with_len 0 (n + 1) ≡ range_with_len 0 n ++ n ∷ []
range-more n =
    sym (map-id (range_with_len 0 (n + 1)))
    ∙ (map-range_with_len_more (λ x. x) 0 n n (omega arith) ∙ ap (λ l. l ++ n ∷ []) (map-id (range_with_len 0 n)))
  where
    map-id : (l : List ℕ) → map (λ x. x) l ≡ l
    map-id [] = refl
    map-id (x ∷ l) = ap (λ r. x ∷ r) (map-id l)

columns-more : (address : AddressValue) (n : ℕ) → columns_before (n + 1) address ≡ columns_before n address ++ field_columns address n
unfolding columns_before
columns-more address n =
    ap (flat_map (field_columns address)) (range-more n)
    ∙ (flat_map-append (field_columns address) (range_with_len 0 n) (n ∷ [])
    ∙ ap (λ l. flat_map (field_columns address) (range_with_len 0 n) ++ l) (append-nil (field_columns address n)))

pub columns-none : (old : List (List ℕ)) (address : AddressValue) → old ≡ old ++ columns_before 0 address
unfolding columns_before
columns-none old address = sym (append-nil old)

pub columns-grown : (old mid new : List (List ℕ)) (address : AddressValue) (n : ℕ) → mid ≡ old ++ columns_before n address
    → new ≡ mid ++ field_columns address n → new ≡ old ++ columns_before (n + 1) address
columns-grown old mid new address n before behind =
    behind ∙ (ap (λ l. l ++ field_columns address n) before
    ∙ (append_assoc old (columns_before n address) (field_columns address n) ∙ ap (λ l. old ++ l) (sym (columns-more address n))))

pub empty-grown : (old mid new : List (List ℕ)) (n : ℕ) → mid ≡ old ++ replicate n [] → new ≡ mid ++ [] ∷ []
    → new ≡ old ++ replicate (n + 1) []
empty-grown old mid new n before behind =
    behind ∙ (ap (λ l. l ++ [] ∷ []) before
    ∙ (append_assoc old (replicate n []) ([] ∷ []) ∙ ap (λ l. old ++ l) (replicate-append-replicate n 1 [])))
