-- Where the first row of each id stands, and what it says.
use Rattle.std.proofs.Common.{◌≡◌, ◌<◌, ◌+◌, refl, ℕ, zero, suc, Bool, true, false, List, [], ◌∷◌, ◌++◌, length, take, slice_index_or}
use Rattle.std.proofs.Common.{arith, rules}
use Rattle.std.proofs.lemmas.List.Quantifiers.{position-Some}
use Rattle.std.specs.Prelude.{Option, Some, None, ◌==◌, position, slice_get, option_and_then, if◌then◌else◌}
use Rattle.std.specs.Option.{option_map}
use Rattle.pdb_values.specs.declared.record.Record.{Record}
use Rattle.pdb_values.proofs.PlaceLaws.{find-position, position-cons}
use Rattle.palm_device.specs.Records.{has_id, place_of_id}
use Rattle.conduit_rules.specs.States.{base_at, first, no_base, row}
use Rattle.mirrors.specs.Places.{or_place, row_content}
use Rattle.desktop_session.proofs.GrowLaws.{take_next}

-- ---- one row more

later : (o : Option ℕ) (b : Bool) (n : ℕ) → option_map (λ place. suc place) (or_place o b n) ≡ or_place (option_map (λ place. suc place) o) b (suc n)
later o b n = search (rules)

position_more : {X : Type 0} (test : X → Bool) (xs : List X) (x : X)
    → position test (xs ++ x ∷ []) ≡ or_place (position test xs) (test x) (length xs)
position_more test [] x = grind (arith, position-cons)
position_more {X} test (y ∷ ys) x = grind (arith, position-cons, position_more test ys x, later)

length_take : {A : Type 0} (xs : List A) (k : ℕ) {x : A} → slice_get xs k ≡ Some x → length (take k xs) ≡ k
length_take [] k is = cc
length_take (y ∷ ys) zero is = refl
length_take (y ∷ ys) (suc k) is = cc (length_take ys k is)

pub get_there : {A : Type 0} (xs : List A) (k : ℕ) {x : A} → k < length xs → x ≡ slice_index_or xs k x → slice_get xs k ≡ Some x
get_there [] k within is = absurd (omega arith)
get_there (y ∷ ys) zero within is = cc
get_there (y ∷ ys) (suc k) within is = get_there ys k (omega arith) is

pub place_on : {n : ℕ} (id k : ℕ) (base : List Record) {item : Record} → slice_get base k ≡ Some item → n ≡ item.id
    → or_place (place_of_id id (take k base)) (n == id) k ≡ place_of_id id (take (k + 1) base)
place_on id k base here same = grind (arith, length_take base k here, position_more, take_next base k here)

-- ---- the row of an id

first_is : (id : ℕ) (base : List Record) → first id base ≡ option_and_then (slice_get base) (place_of_id id base)
first_is id base = find-position (has_id id) base

none_by : (b : Bool) → row_content (if b then no_base else no_base) ≡ None
none_by true = refl
none_by false = refl

pub no_place : (id : ℕ) (base : List Record) → place_of_id id base ≡ None → row_content (base_at base false id) ≡ None
no_place id base none = grind (arith, first_is, none_by)

pub row_there : {k : ℕ} (id : ℕ) (base : List Record) {item : Record} → (id == 0) ≡ false → place_of_id id base ≡ Some k → slice_get base k ≡ Some item
    → row_content (base_at base false id) ≡ row_content (if item.deleted then no_base else row item.content)
row_there id base other placed here = grind (arith, first_is)

-- what stands at the place of an id
pub placed_there : {k : ℕ} (id : ℕ) (base : List Record) {item : Record} → place_of_id id base ≡ Some k → item ≡ slice_index_or base k item
    → slice_get base k ≡ Some item
placed_there {k} id base {item} placed is = get_there base k (position-Some (has_id id) base k item placed).0 is
