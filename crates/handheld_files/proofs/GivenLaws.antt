-- The ids that records get where a handheld's files are read have 24 bits.
use Rattle.std.proofs.Common.{◌≡◌, ◌≤◌, ◌+◌, refl, ℕ, zero, suc, Bool, true, false, List, [], ◌∷◌, length, if◌then◌else◌, arith, rules}
use Rattle.std.specs.List.{AllByRecursion}
use Rattle.pdb_values.specs.declared.record.Record.{Record}
use Rattle.palm_device.specs.FreshIds.{fresh_ids, given_behind, is_kept, kept_behind, least_from, least_id, with_ids}
use Rattle.std.proofs.lemmas.Grind.{common_steps}
use Rattle.std.proofs.lemmas.Bool.Decides.{nat_tests}

abbrev HasId : ℕ → Type 0
HasId id = id ≤ 16777215

pub least_few : (more first : ℕ) (taken : List ℕ) → least_from more first taken ≤ first + more
unfolding least_from
least_few zero first taken = omega arith
least_few (suc more) first taken = grind (arith, common_steps, nat_tests, least_few more (suc first) taken)

kept_few : (earlier ids : List ℕ) → length (kept_behind earlier ids) ≤ length ids
unfolding kept_behind
kept_few earlier [] = omega arith
kept_few earlier (id ∷ ids) = grind (arith, common_steps, nat_tests, kept_few (id ∷ earlier) ids)

given_have : (earlier taken ids : List ℕ) → length taken + length ids ≤ 16777214 → AllByRecursion HasId ids
    → AllByRecursion HasId (given_behind earlier taken ids)
unfolding given_behind
given_have earlier taken [] few all = tt
given_have earlier taken (id ∷ ids) few all =
    by (is_kept earlier id) (given_have (id ∷ earlier) taken ids (omega (arith, few)) all.1)
    (given_have (id ∷ earlier) (least_id taken ∷ taken) ids (omega (arith, few)) all.1)
  where
    fresh : HasId (least_id taken)
    fresh = let least = least_few (length taken) 1 taken in omega (arith, least, few)

    by : (b : Bool) → AllByRecursion HasId (given_behind (id ∷ earlier) taken ids)
        → AllByRecursion HasId (given_behind (id ∷ earlier) (least_id taken ∷ taken) ids)
        → AllByRecursion HasId (if b then id ∷ given_behind (id ∷ earlier) taken ids
        else least_id taken ∷ given_behind (id ∷ earlier) (least_id taken ∷ taken) ids)
    by true kept other = (all.0, kept)
    by false kept other = (fresh, other)

pub fresh-have : (ids : List ℕ) → length ids ≤ 65535 → AllByRecursion (λ (id : ℕ). id ≤ 16777215) ids
    → AllByRecursion (λ (id : ℕ). id ≤ 16777215) (fresh_ids ids)
fresh-have ids few all = search (rules, kept_few, given_have)

-- ---- records under them

pub with-length : (ids : List ℕ) (items : List Record) → length (with_ids ids items) ≤ length items
unfolding with_ids
with-length (id ∷ ids) (item ∷ items) = let rest = with-length ids items in omega (arith, rest)
with-length ids items = omega arith

pub with-none : (ids : List ℕ) → with_ids ids [] ≡ []
unfolding with_ids
with-none [] = refl
with-none (id ∷ ids) = refl

pub with-each : (P Q : Record → Type 0) (ids : List ℕ) (items : List Record) → ((id : ℕ) (item : Record) → id ≤ 16777215 → P item → Q (record item { id = id }))
    → ((item : Record) → P item → Q item) → AllByRecursion (λ (id : ℕ). id ≤ 16777215) ids → AllByRecursion P items → AllByRecursion Q (with_ids ids items)
unfolding with_ids
with-each P Q [] (item ∷ items) under own all each = (own item each.0, with-each P Q [] items under own tt each.1)
with-each P Q (id ∷ ids) (item ∷ items) under own all each = (under id item all.0 each.0, with-each P Q ids items under own all.1 each.1)
with-each P Q ids items under own all each = tt
