-- Ids that are taken, and free ones.
use Rattle.std.proofs.Common.{◌≡◌, ℕ, ◌+◌, ◌<◌, ◌≤◌, Bool, true, false, List, [], ◌∷◌, map, length, refl, sym, subst, arith}
use Rattle.std.specs.Prelude.{is_none, find, is_some, nat_lt}
use Rattle.std.specs.List.{list_any}
use Rattle.std.proofs.lemmas.List.{length-map}
use Rattle.std.proofs.lemmas.Bool.{ltb-true, ltb-false}
use Rattle.pdb_values.specs.declared.record.Record.{Record}
use Rattle.palm_device.specs.FreshIds.{is_among}
use Rattle.palm_device.specs.Records.{has_id, place_of_id}
use Rattle.handheld_files.proofs.SettledLaws.{not_all}
use Rattle.pdb_values.proofs.PlaceLaws.{is_some-position}

found_any : (test : Record → Bool) (items : List Record) → is_some (find test items) ≡ list_any test items
found_any test [] = refl
found_any test (item ∷ items) = grind (arith, found_any test items)

pub any_has : (id : ℕ) (items : List Record) → list_any (has_id id) items ≡ is_among id (map (λ item. item.id) items)
any_has id [] = refl
any_has id (item ∷ items) = rw (any_has id items)

-- an id has a place exactly where it is among the ids
pub place_among : (id : ℕ) (items : List Record) → is_some (place_of_id id items) ≡ is_among id (map (λ item. item.id) items)
place_among id items = grind (arith, is_some-position, found_any, any_has)

-- an id that has a place is among the ids
pub among_placed : (id : ℕ) (items : List Record) → is_none (place_of_id id items) ≡ false → is_among id (map (λ item. item.id) items) ≡ true
among_placed id items placed = grind (arith, place_among)

-- all ids in a range are taken
pub record AreTaken (ids : List ℕ) (start end : ℕ) : Type 0 where
  pub each : (k : ℕ) → start ≤ k → k < end → is_among k ids ≡ true

one_more : (P : ℕ → Type 0) (k last : ℕ) → k < last + 1 → (k < last → P k) → P last → P k
one_more P k last high below here = elim (nat_lt k last) as (λ b. nat_lt k last ≡ b → P k) [
  | true ↦ λ e. below (ltb-true k last e)
  | false ↦ λ e. (let same : k ≡ last = (let above = ltb-false k last e in omega arith) in subst P (sym same) here)
] refl

pub taken_more : (ids : List ℕ) (start end : ℕ) → AreTaken ids start end → is_among end ids ≡ true → AreTaken ids start (end + 1)
taken_more ids start end taken here = record { each = λ k low high. one_more (λ n. is_among n ids ≡ true) k end high (λ below. taken.each k low below) here }

-- not all ids are taken by so few records
pub not_all_taken : (items : List Record) (start : ℕ)
    → length items ≤ 65535 → start ≤ 16777216 → AreTaken (map (λ item. item.id) items) start 16777216 → AreTaken (map (λ item. item.id) items) 1 start → ⊥
not_all_taken items start few within above below =
    let many : length (map (λ item. item.id) items) ≡ length items = length-map items (λ (item : Record). item.id) in
    not_all (map (λ item. item.id) items) (λ k low high. elim (nat_lt k start) as (λ b. nat_lt k start ≡ b → is_among k (map (λ item. item.id) items) ≡ true) [
      | true ↦ λ e. below.each k low (ltb-true k start e)
      | false ↦ λ e. above.each k (ltb-false k start e) (omega arith)
    ] refl)
