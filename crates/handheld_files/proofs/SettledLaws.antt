-- Fresh ids differ and none is 0; records whose ids do so already stay as they are.
use Rattle.std.proofs.Common.{◌≡◌, ℕ, zero, suc, ◌+◌, ◌<◌, ◌≤◌, Bool, true, false, cond, not, ◌&&◌, ◌==◌, List, [], ◌∷◌, map, length, refl, ap, sym, ◌∙◌}
use Rattle.std.proofs.Common.{subst, inl, inr, arith, rules}
use Rattle.std.specs.Prelude.{◌⊎◌, nat_eq}
use Rattle.std.specs.List.{list_all, list_any, AllByRecursion, IsDistinct}
use Rattle.std.proofs.lemmas.Bool.{eqb-true, ltb-true, ltb-false, and_parts, and_from, or_cases, or_left, or_right, or_parts, or_from, not-true, not_from_false}
use Rattle.std.proofs.lemmas.Bool.{false_from_ne_true}
use Rattle.std.proofs.lemmas.Bool.Decides.{nat_tests}
use Rattle.std.proofs.lemmas.Map.Made.{length-le_from_is_member}
use Rattle.pdb_values.specs.Databases.{DatabaseValue}
use Rattle.pdb_values.specs.declared.record.Record.{Record}
use Rattle.palm_device.specs.FreshIds.{is_among, is_kept, kept_behind, least_from, least_id, given_behind, fresh_ids, with_ids}
use Rattle.handheld_files.specs.Settled.{are_ids, are_settled, as_opened, idle}
use Rattle.std.proofs.lemmas.Cmp.{nat_eq_equiv}
use Rattle.std.proofs.lemmas.Grind.{common_steps}

pub clash : (b : Bool) → b ≡ true → b ≡ false → ⊥
clash true h k = absurd cc
clash false h k = absurd cc

pub own_id : (id : ℕ) → (id == id) ≡ true
own_id id = grind (arith, nat_tests)

not_zero : (id : ℕ) → 1 ≤ id → not (id == 0) ≡ true
not_zero id some = search (rules, not_from_false, false_from_ne_true, eqb-true)

among_first : (id : ℕ) (ids : List ℕ) → is_among id (id ∷ ids) ≡ true
among_first id ids = or_left (id == id) (is_among id ids) (own_id id)

-- ---- the least id that is left

apart_or_same : (a k : ℕ) → a ≤ k → (k ≡ a) ⊎ (suc a ≤ k)
apart_or_same a k low = grind (arith, common_steps, nat_tests, ltb-true, ltb-false)

at_or_above : (P : ℕ → Type 0) (a k : ℕ) → (k ≡ a) ⊎ (suc a ≤ k) → P a → (suc a ≤ k → P k) → P k
at_or_above P a k from here above = search (rules)

-- where the least id is taken, all up to it are
least_all : (taken : List ℕ) (more first : ℕ) → is_among (least_from more first taken) taken ≡ true → (k : ℕ) → first ≤ k → k ≤ first + more
    → is_among k taken ≡ true
unfolding least_from
least_all taken zero first is k low high = grind (arith, common_steps, nat_tests)
least_all taken (suc more) first is k low high = elim (is_among first taken) as
    (λ b. is_among first taken ≡ b → is_among (cond b (least_from more (suc first) taken) first) taken ≡ true → is_among k taken ≡ true) [
      | true ↦ λ here rest. at_or_above (λ n. is_among n taken ≡ true) first k (apart_or_same first k low) here
          (λ above. least_all taken more (suc first) rest k above (omega arith))
      | false ↦ λ here rest. absurd (clash (is_among first taken) rest here)
    ] refl is

pub least_low : (taken : List ℕ) (more first : ℕ) → first ≤ least_from more first taken
unfolding least_from
least_low taken zero first = omega arith
least_low taken (suc more) first = grind (arith, common_steps, nat_tests, least_low taken more (suc first))

upto : ℕ → List ℕ
upto zero = []
upto (suc n) = suc n ∷ upto n

among_upto : (n q : ℕ) → is_among q (upto n) ≡ true → (1 ≤ q) × (q ≤ n)
unfolding upto
among_upto zero q is = absurd cc
among_upto (suc n) q is = grind (arith, common_steps, nat_tests, or_cases, upto, among_upto n q, eqb-true)

above_upto : (m n : ℕ) → n < m → AllByRecursion (λ y. nat_eq m y ≡ false) (upto n)
unfolding upto
above_upto m zero above = tt
above_upto m (suc n) above = grind (arith, common_steps, nat_tests, false_from_ne_true, eqb-true, above_upto m n (omega arith))

distinct_upto : (n : ℕ) → IsDistinct nat_eq (upto n)
unfolding upto IsDistinct
distinct_upto zero = tt
distinct_upto (suc n) = (above_upto (suc n) n (omega arith), distinct_upto n)

length-upto : (n : ℕ) → length (upto n) ≡ n
unfolding upto
length-upto zero = refl
length-upto (suc n) = let rest = length-upto n in omega arith

pub turned : (a b : ℕ) → (a == b) ≡ (b == a)
turned a b = grind (arith, nat_tests)

pub among_member : (q : ℕ) (xs : List ℕ) → is_among q xs ≡ list_any (nat_eq q) xs
among_member q [] = refl
among_member q (x ∷ xs) = grind (arith, common_steps, nat_tests, among_member q xs, turned)

-- ids are not all taken up to one more than are taken
pub not_all : (taken : List ℕ) → ((k : ℕ) → 1 ≤ k → k ≤ 1 + length taken → is_among k taken ≡ true) → ⊥
not_all taken all =
    let member : (q : ℕ) → list_any (nat_eq q) (upto (1 + length taken)) ≡ true → list_any (nat_eq q) taken ≡ true =
    λ q is. (let within = among_upto (1 + length taken) q (among_member q (upto (1 + length taken)) ∙ is) in sym (among_member q taken)
    ∙ all q within.0 within.1) in
    let few : length (upto (1 + length taken)) ≤ length taken = length-le_from_is_member nat_eq_equiv (upto (1 + length taken)) taken
    (distinct_upto (1 + length taken)) member in
    let many = length-upto (1 + length taken) in
    absurd (omega arith)

-- the least id is free
pub least_free : (taken : List ℕ) → is_among (least_id taken) taken ≡ false
least_free taken = false_from_ne_true (is_among (least_id taken) taken) (λ is. not_all taken (least_all taken (length taken) 1 is))

-- ---- the ids that are kept or given

kept_apart : (x : ℕ) (ids earlier : List ℕ) → is_among x (kept_behind earlier ids) ≡ true → is_among x earlier ≡ false
unfolding kept_behind
kept_apart x [] earlier is = absurd cc
kept_apart x (id ∷ ids) earlier is =
    let later : is_among x (kept_behind (id ∷ earlier) ids) ≡ true
    → is_among x earlier ≡ false = λ h. (or_parts (id == x) (is_among x earlier) (kept_apart x ids (id ∷ earlier) h)).1 in
    elim (is_kept earlier id) as (λ b. is_kept earlier id ≡ b
    → is_among x (cond b (id ∷ kept_behind (id ∷ earlier) ids) (kept_behind (id ∷ earlier) ids)) ≡ true → is_among x earlier ≡ false) [
      | true ↦ λ kept h. this kept (or_cases (id == x) (is_among x (kept_behind (id ∷ earlier) ids)) h) later
      | false ↦ λ kept h. later h
    ] refl is
  where
    this : is_kept earlier id ≡ true → ((id == x) ≡ true) ⊎ (is_among x (kept_behind (id ∷ earlier) ids) ≡ true)
        → (is_among x (kept_behind (id ∷ earlier) ids) ≡ true → is_among x earlier ≡ false) → is_among x earlier ≡ false
    this kept (inl same) later = subst (λ n. is_among n earlier ≡ false) (eqb-true id x same)
        (not-true (is_among id earlier) (and_parts (not (id == 0)) (not (is_among id earlier)) kept).1)
    this kept (inr there) later = later there

-- ids that are given differ, and each is kept or was not taken
record Fine (given kept taken : List ℕ) : Type 0 where
  pub are : are_ids given ≡ true
  pub each : (x : ℕ) → is_among x given ≡ true → (is_among x kept ≡ true) ⊎ (is_among x taken ≡ false)

fine_kept : (id : ℕ) (ids earlier taken : List ℕ) → is_kept earlier id ≡ true
    → ((x : ℕ) → is_among x (id ∷ kept_behind (id ∷ earlier) ids) ≡ true → is_among x taken ≡ true)
    → Fine (given_behind (id ∷ earlier) taken ids) (kept_behind (id ∷ earlier) ids) taken
    → Fine (id ∷ given_behind (id ∷ earlier) taken ids) (id ∷ kept_behind (id ∷ earlier) ids) taken
fine_kept id ids earlier taken kept held rest =
    search (rules, and_from, and_parts, not_from_false, false_from_ne_true, or_cases, clash, among_first, kept_apart, or_right, or_left)

fine_given : (id : ℕ) (ids earlier taken : List ℕ) → ((x : ℕ) → is_among x (kept_behind (id ∷ earlier) ids) ≡ true → is_among x taken ≡ true)
    → Fine (given_behind (id ∷ earlier) (least_id taken ∷ taken) ids) (kept_behind (id ∷ earlier) ids) (least_id taken ∷ taken)
    → Fine (least_id taken ∷ given_behind (id ∷ earlier) (least_id taken ∷ taken) ids) (kept_behind (id ∷ earlier) ids) taken
fine_given id ids earlier taken held rest =
    search (rules, and_from, not_zero, least_low, not_from_false, false_from_ne_true, or_cases, clash, least_free, among_first, or_parts, eqb-true)

given_fine : (ids earlier taken : List ℕ) → ((x : ℕ) → is_among x (kept_behind earlier ids) ≡ true → is_among x taken ≡ true)
    → Fine (given_behind earlier taken ids) (kept_behind earlier ids) taken
unfolding given_behind kept_behind
given_fine [] earlier taken held = record { are = refl; each = λ x is. absurd cc }
given_fine (id ∷ ids) earlier taken held =
    elim (is_kept earlier id) as (λ b. is_kept earlier id ≡ b
    → ((x : ℕ) → is_among x (cond b (id ∷ kept_behind (id ∷ earlier) ids) (kept_behind (id ∷ earlier) ids)) ≡ true → is_among x taken ≡ true)
    → Fine (cond b (id ∷ given_behind (id ∷ earlier) taken ids) (least_id taken ∷ given_behind (id ∷ earlier) (least_id taken ∷ taken) ids))
    (cond b (id ∷ kept_behind (id ∷ earlier) ids) (kept_behind (id ∷ earlier) ids)) taken) [
      | true ↦ λ kept h. fine_kept id ids earlier taken kept h
          (given_fine ids (id ∷ earlier) taken (λ x is. h x (or_right (id == x) (is_among x (kept_behind (id ∷ earlier) ids)) is)))
      | false ↦ λ kept h. fine_given id ids earlier taken h
          (given_fine ids (id ∷ earlier) (least_id taken ∷ taken) (λ x is. or_right (least_id taken == x) (is_among x taken) (h x is)))
    ] refl held

-- fresh ids differ and none is 0
pub fresh_are_ids : (ids : List ℕ) → are_ids (fresh_ids ids) ≡ true
fresh_are_ids ids = (given_fine ids [] (kept_behind [] ids) (λ x is. is)).are

length-given : (ids earlier taken : List ℕ) → length (given_behind earlier taken ids) ≡ length ids
unfolding given_behind
length-given [] earlier taken = refl
length-given (id ∷ ids) earlier taken = grind
    (arith, common_steps, nat_tests, length-given ids (id ∷ earlier) taken, length-given ids (id ∷ earlier) (least_id taken ∷ taken))

ids_with : (ids : List ℕ) (items : List Record) → length ids ≡ length items → map (λ item. item.id) (map idle (with_ids ids items)) ≡ ids
unfolding with_ids
ids_with [] [] many = refl
ids_with (id ∷ ids) (item ∷ items) many = ap (λ rest. id ∷ rest) (ids_with ids items (omega arith))
ids_with ids items many = absurd (omega arith)

all_idle : (items : List Record) → list_all (λ item. not item.busy) (map idle items) ≡ true
all_idle [] = refl
all_idle (item ∷ items) = all_idle items

length-ids : (items : List Record) → length (map (λ item. item.id) items) ≡ length items
length-ids [] = refl
length-ids (item ∷ items) = let rest = length-ids items in omega arith

-- records are settled once they are opened
pub settled_as_opened : (stored : DatabaseValue) → are_settled (as_opened stored).records ≡ true
unfolding as_opened
settled_as_opened stored = grind (arith, common_steps, nat_tests, length-given, length-ids, and_from, all_idle, ids_with, fresh_are_ids)

-- ---- records that are settled

given_same : (ids earlier taken : List ℕ) → are_ids ids ≡ true → ((x : ℕ) → is_among x ids ≡ true → is_among x earlier ≡ false)
    → given_behind earlier taken ids ≡ ids
unfolding given_behind
given_same [] earlier taken are apart = refl
given_same (id ∷ ids) earlier taken are apart =
    let parts = and_parts (not (id == 0)) (not (is_among id ids) && are_ids ids) are in
    let more = and_parts (not (is_among id ids)) (are_ids ids) parts.1 in
    let alone : is_among id ids ≡ false = not-true (is_among id ids) more.0 in
    let kept : is_kept earlier id ≡ true = and_from (not (id == 0)) (not (is_among id earlier)) parts.0
    (not_from_false (is_among id earlier) (apart id (among_first id ids))) in
    let later : (x : ℕ) → is_among x ids ≡ true → is_among x (id ∷ earlier) ≡ false = λ x is.
    or_from (id == x) (is_among x earlier) (false_from_ne_true (id == x)
    (λ same. clash (is_among id ids) (subst (λ n. is_among n ids ≡ true) (sym (eqb-true id x same)) is) alone))
    (apart x (or_right (id == x) (is_among x ids) is)) in
    rw kept (ap (λ rest. id ∷ rest) (given_same ids (id ∷ earlier) taken more.1 later))

with_own : (items : List Record) → with_ids (map (λ item. item.id) items) items ≡ items
unfolding with_ids
with_own [] = refl
with_own (item ∷ items) = ap (λ rest. item ∷ rest) (with_own items)

idle_same : (items : List Record) → list_all (λ item. not item.busy) items ≡ true → map idle items ≡ items
idle_same [] all = refl
idle_same (item ∷ items) all =
    let parts = and_parts (not item.busy) (list_all (λ item. not item.busy) items) all in
    let this : idle item ≡ item = ap (λ b. record item { busy = b }) (sym (not-true item.busy parts.0)) in
    ap (λ first. first ∷ map idle items) this ∙ ap (λ rest. item ∷ rest) (idle_same items parts.1)

-- opening leaves a settled database as it is
pub as_opened-settled : (database : DatabaseValue) → are_settled database.records ≡ true → as_opened database ≡ database
unfolding as_opened
as_opened-settled database settled = grind (arith, common_steps, nat_tests, and_parts, given_same, with_own, idle_same)
