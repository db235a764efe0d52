-- At most one entry for each id, in rising ids, are in order.
use Rattle.std.proofs.Common.{◌≡◌, ◌∙◌, ◌≤◌, ◌<◌, refl, ap, sym, subst, ℕ, zero, suc, Bool, true, false, List, [], ◌∷◌, ◌++◌, option_to_list, arith, rules}
use Rattle.std.proofs.lemmas.Grind.{flat_map-append}
use Rattle.std.proofs.lemmas.List.{append-nil}
use Rattle.std.specs.List.{flat_map}
use Rattle.std.specs.Prelude.{Option, Some, None, IfOk, IfSome, Result, ◌==◌, if◌then◌else◌}
use Rattle.conduit_rules.specs.ById.{each_below, each_id}
use Rattle.conduit_rules.specs.Views.{first_seen}
use Rattle.conduit_rules.specs.declared.view.Seen.{Seen}
use Rattle.conduit_rules.proofs.ByIdLaws.{each_below-same, each_below-suc, each_below-zero}
use Rattle.mirrors.specs.Entries.{ordered}
use Rattle.mirrors.specs.Shells.{Adds, AreOf, Fills, IsOf}

-- at most one entry, of this id
pub record IsOneOf (i : ℕ) (entries : List Seen) : Type 0 where
  pub found : Option Seen
  pub is : entries ≡ option_to_list found
  pub id : IfSome found (λ entry. entry.id ≡ i)

or_found : Option Seen → Option Seen → Option Seen
or_found (Some entry) other = Some entry
or_found None other = other

found_in : (i : ℕ) (xs ys : List Seen) → first_seen i (xs ++ ys) ≡ or_found (first_seen i xs) (first_seen i ys)
unfolding or_found
found_in i [] ys = refl
found_in i (x ∷ xs) ys = grind (arith, found_in i xs ys, or_found)

same_ids : (a b : ℕ) → a ≡ b → (a == b) ≡ true
same_ids a b is = grind arith

other_ids : (a b : ℕ) → b < a → (a == b) ≡ false
other_ids a b below = grind arith

one_found : {i : ℕ} {entries : List Seen} → IsOneOf i entries → entries ≡ option_to_list (first_seen i entries)
one_found one = grind (arith, same_ids)

none_found : {i : ℕ} (j : ℕ) {entries : List Seen} → j < i → IsOneOf i entries → first_seen j entries ≡ None
none_found j below one = grind (arith, other_ids)

none_or : (found : Option Seen) → or_found found None ≡ found
unfolding or_found
none_or None = refl
none_or (Some entry) = refl

other_found : {n : ℕ} (j : ℕ) {entries : List Seen} → n < j → IsOneOf n entries → first_seen j entries ≡ None
other_found j below one = grind arith

none_above : {f : ℕ → List Seen} → ((i : ℕ) → IsOneOf i (f i)) → (n j : ℕ) → n ≤ j → first_seen j (each_below f n) ≡ None
unfolding or_found
none_above {f} one zero j below = cc (each_below-zero f)
none_above {f} one (suc n) j below = grind (arith, each_below-suc, found_in, or_found, none_above one n j (omega arith), other_found)

there_by : {f : ℕ → List Seen} → ((i : ℕ) → IsOneOf i (f i)) → (n j : ℕ) → j < suc n → (j < n → first_seen j (each_below f n) ≡ first_seen j (f j)) → (b : Bool)
    → (j == n) ≡ b → or_found (first_seen j (each_below f n)) (first_seen j (f n)) ≡ first_seen j (f j)
unfolding or_found
there_by one n j below later b is = grind (arith, or_found, none_above, none_found, none_or)

there : {f : ℕ → List Seen} → ((i : ℕ) → IsOneOf i (f i)) → (n j : ℕ) → j < n → first_seen j (each_below f n) ≡ first_seen j (f j)
there one zero j below = absurd (omega arith)
there {f} one (suc n) j below =
    cc (each_below-suc f n, found_in j (each_below f n) (f n), there_by one n j below (λ less. there one n j less) (j == n) refl)

pub in_order : {f : ℕ → List Seen} → ((i : ℕ) → IsOneOf i (f i)) → ordered (each_id f) ≡ each_id f
in_order one = grind (arith, each_below-same, there, one_found)

-- ---- at most one entry for each of some entries

are_more : (entries : List Seen) (founds : List (Option Seen)) (entry : Seen) (found : Option Seen) → AreOf entries founds → IsOf entry.id found
    → AreOf (entries ++ entry ∷ []) (founds ++ found ∷ [])
are_more [] [] entry found are one = (one, tt)
are_more (e ∷ entries) (f ∷ founds) entry found are one = (are.0, are_more entries founds entry found are.1 one)
are_more entries founds entry found are one = absurd are

pub fills_none : {seen : List Seen} → seen ≡ [] → Fills [] seen
fills_none none = record { founds = []; are = tt; is = none }

pub fills_on : {entries : List Seen} (entry : Seen) {seen more : List Seen} → Fills entries seen → Adds entry.id seen more → Fills (entries ++ entry ∷ []) more
fills_on entry fills adds = search (rules, are_more, append-nil, flat_map-append)

pub fills_all : {entries all seen : List Seen} → entries ≡ all → Fills entries seen → Fills all seen
fills_all {seen} is fills = rw (← is) fills

-- a part of the entries, and the rest
record Parts (xs ys : List Seen) (founds : List (Option Seen)) : Type 0 where
  pub front : List (Option Seen)
  pub back : List (Option Seen)
  pub fronts : AreOf xs front
  pub backs : AreOf ys back
  pub is : founds ≡ front ++ back

parts : (xs ys : List Seen) (founds : List (Option Seen)) → AreOf (xs ++ ys) founds → Parts xs ys founds
parts [] ys founds are = record { front = []; back = founds; fronts = tt; backs = are; is = refl }
parts (x ∷ xs) ys [] are = absurd are
parts (x ∷ xs) ys (f ∷ founds) are =
    let rest = parts xs ys founds are.1 in
    record { front = f ∷ rest.front; back = rest.back; fronts = (are.0, rest.fronts); backs = rest.backs; is = cc }

-- entries that are at most one for each id below a number
record Rises (n : ℕ) (seen : List Seen) : Type 0 where
  pub at : ℕ → List Seen
  pub one : (i : ℕ) → IsOneOf i (at i)
  pub is : seen ≡ each_below at n

with_last : (ℕ → List Seen) → ℕ → List Seen → ℕ → List Seen
with_last at n last i = if i == n then last else at i

last_one : {at : ℕ → List Seen} {n : ℕ} {last : List Seen} → ((i : ℕ) → IsOneOf i (at i)) → IsOneOf n last → (i : ℕ) → IsOneOf i (with_last at n last i)
unfolding with_last
last_one each one i = search (rules)

rises_on : {n : ℕ} {seen last : List Seen} → Rises n seen → IsOneOf n last → Rises (suc n) (seen ++ last)
unfolding with_last
rises_on {n} {last} rises one =
    let at = with_last rises.at n last in
    let here : at n ≡ last = rw (same_ids n n refl) refl in
    let before : each_below rises.at n ≡ each_below at n =
    each_below-same rises.at at n (λ i below. rw (let other : (i == n) ≡ false = grind (arith, below) in other) refl) in
    record {
      at = at;
      one = last_one rises.one one;
      is = cc (each_below-suc at n);
    }

last_of : {n : ℕ} {entries : List Seen} (founds : List (Option Seen)) → IsOneOf n entries → AreOf entries founds → IsOneOf n (flat_map option_to_list founds)
last_of founds one are = search (rules, append-nil)

rises_by : (f : ℕ → List Seen) → ((i : ℕ) → IsOneOf i (f i)) → (n : ℕ) (founds : List (Option Seen)) → AreOf (each_below f n) founds
    → Rises n (flat_map option_to_list founds)
rises_by f one zero founds are = by founds (rw (← each_below-zero f) are)
  where
    by : (founds : List (Option Seen)) → AreOf [] founds → Rises 0 (flat_map option_to_list founds)
    by [] are = record { at = f; one = one; is = sym (each_below-zero f) }
    by (g ∷ founds) are = absurd are
rises_by f one (suc n) founds are =
    let split = parts (each_below f n) (f n) founds (subst (λ (es : List Seen). AreOf es founds) (each_below-suc f n) are) in
    let front = rises_by f one n split.front split.fronts in
    subst (Rises (suc n)) (sym (flat_map-append option_to_list split.front split.back) ∙ ap (flat_map option_to_list) (sym split.is))
    (rises_on front (last_of split.back (one n) split.backs))

first_is : (i : ℕ) (entries : List Seen) → IfSome (first_seen i entries) (λ entry. entry.id ≡ i)
first_is i [] = tt
first_is i (x ∷ entries) = grind (arith, first_is i entries)

first_one : {i : ℕ} (entries : List Seen) → IsOneOf i (option_to_list (first_seen i entries))
first_one entries = search (rules, first_is)

pub fills_rise : {entries seen : List Seen} (all : List Seen) → entries ≡ ordered all → Fills entries seen → ordered seen ≡ seen
fills_rise all is fills = grind (arith, rises_by, first_one, in_order)

pub rises_too : {A E : Type 0} (items : A → List Seen) (answer : Result A E) {entries : List Seen} (all : List Seen) → entries ≡ ordered all
    → IfOk answer (λ view. Fills entries (items view)) → IfOk answer (λ view. ordered (items view) ≡ items view)
rises_too items answer all is fills = search (rules, fills_rise)
