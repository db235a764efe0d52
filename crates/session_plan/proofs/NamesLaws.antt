-- Names, one after another.
use Rattle.std.proofs.Common.{◌≡◌, ◌∙◌, ◌<◌, ◌≤◌, ◌+◌, ap, refl, sym, inl, inr, ℕ, List, [], ◌∷◌, ◌++◌, map, take, length, get_or, arith}
use Rattle.std.proofs.lemmas.List.{map-append}
use Rattle.std.proofs.lemmas.Option.{slice_get_cases}
use Rattle.std.specs.Prelude.{◌⊎◌, Some, None, slice_get}
use Rattle.std.specs.Option.{option_map}
use Rattle.session_plan.proofs.PlanWords.{DatabaseValue, DbHead, names_of, with_name, with_names}
use Rattle.mirrors.proofs.NewsLaws.{split_at}

with_names-append : (first second names : List (List ℕ)) → with_names (first ++ second) names ≡ with_names second (with_names first names)
with_names-append [] second names = refl
with_names-append (name ∷ first) second names = with_names-append first second (with_name name names)

-- the names of one more of a list
more : {A : Type 0} (f : A → List ℕ) (xs : List A) (k : ℕ) (x : A) (names : List (List ℕ)) → k < length xs → x ≡ get_or xs k x
    → with_names (map f (take (k + 1) xs)) names ≡ with_name (f x) (with_names (map f (take k xs)) names)
more f xs k x names within is =
    rw ((split_at xs k x within is).next, map-append f (take k xs) (x ∷ []), with_names-append (map f (take k xs)) (f x ∷ []) names)

pub heads_more : (heads : List DbHead) (k : ℕ) (head : DbHead) (names : List (List ℕ)) → k < length heads → head ≡ get_or heads k head
    → with_names (map (λ (h : DbHead). h.name) (take (k + 1) heads)) names
    ≡ with_name head.name (with_names (map (λ (h : DbHead). h.name) (take k heads)) names)
heads_more heads k head names within is = more (λ (h : DbHead). h.name) heads k head names within is

-- the name at a place that a slot tells
pub rows_more : (rows : List DatabaseValue) (k : ℕ) (name : List ℕ) (names : List (List ℕ))
    → Some name ≡ option_map (λ (database : DatabaseValue). database.head.name) (slice_get rows k)
    → with_names (names_of (take (k + 1) rows)) names ≡ with_name name (with_names (names_of (take k rows)) names)
rows_more rows k name names told = by (slice_get_cases rows k).1
  where
    by : ((x : DatabaseValue) × (k < length rows) × (slice_get rows k ≡ Some x) × (get_or rows k x ≡ x)) ⊎ ((length rows ≤ k) × (slice_get rows k ≡ None))
        → with_names (names_of (take (k + 1) rows)) names ≡ with_name name (with_names (names_of (take k rows)) names)
    by (inl (x, within, is, got)) =
        let same : name ≡ x.head.name = (let one = told in let two = ap (option_map (λ (database : DatabaseValue). database.head.name)) is in cc) in
        more (λ (database : DatabaseValue). database.head.name) rows k x names within (sym got)
        ∙ ap (λ n. with_name n (with_names (names_of (take k rows)) names)) (sym same)
    by (inr (past, is)) = absurd (let one = told in let two = ap (option_map (λ (database : DatabaseValue). database.head.name)) is in cc)

pub rows_end : (rows : List DatabaseValue) (k : ℕ) → k < length rows
    → None ≡ option_map (λ (database : DatabaseValue). database.head.name) (slice_get rows k) → ⊥
rows_end rows k within told = by (slice_get_cases rows k).1
  where
    by : ((x : DatabaseValue) × (k < length rows) × (slice_get rows k ≡ Some x) × (get_or rows k x ≡ x)) ⊎ ((length rows ≤ k) × (slice_get rows k ≡ None)) → ⊥
    by (inl (x, less, is, got)) = let one = told in let two = ap (option_map (λ (database : DatabaseValue). database.head.name)) is in cc
    by (inr (past, is)) = omega arith
