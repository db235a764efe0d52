-- The first entry that passes a test, by its place.
use Rattle.std.proofs.lemmas.Bool.Decides.{nat_tests}
use Rattle.std.proofs.lemmas.Grind.{common_steps}
use Rattle.std.proofs.Common.{◌≡◌, ℕ, zero, suc, ◌+◌, ◌<◌, ◌≤◌, Bool, true, false, List, [], ◌∷◌, ◌++◌, map, take, drop, length, refl, arith, add-one, Some}
use Rattle.std.proofs.Common.{None, slice_get, slice_set}
use Rattle.std.specs.Prelude.{position, remove, filter}
use Rattle.std.specs.List.{position_or_len, list_all}
use Rattle.pdb_values.proofs.PlaceLaws.{first_here, position_found, position_none}
use Rattle.palm_device.specs.Entries.{put_entry, without_entry, change_at}

-- ---- a changed entry, and a new one

put_first : {X : Type 0} (test : X → Bool) (change : X → X) (new : X) (xs : List X) (k : ℕ) {x : X} → position_or_len test xs ≡ k
    → slice_get xs k ≡ Some x → put_entry test change new xs ≡ slice_set xs k (change x)
unfolding put_entry
put_first test change new [] k first here = absurd cc
put_first test change new (y ∷ ys) zero {x} first here = cc (first_here (test y) _ first)
put_first test change new (y ∷ ys) (suc k) first here = grind (arith, put_first test change new ys k)

-- where an entry passes the test, it changes in its place
pub put_entry_at : {X : Type 0} (test : X → Bool) (change : X → X) (new : X) (xs : List X) {k : ℕ} {x : X} → position test xs ≡ Some k
    → slice_get xs k ≡ Some x → put_entry test change new xs ≡ slice_set xs k (change x)
put_entry_at test change new xs found here = grind (arith, put_first, position_found)

put_past : {X : Type 0} (test : X → Bool) (change : X → X) (new : X) (xs : List X) → length xs ≤ position_or_len test xs
    → put_entry test change new xs ≡ xs ++ new ∷ []
unfolding put_entry
put_past test change new [] past = refl
put_past test change new (y ∷ ys) past = grind (arith, put_past test change new ys)

-- where none does, the new one stands behind the others
pub put_entry_new : {X : Type 0} (test : X → Bool) (change : X → X) (new : X) (xs : List X) → position test xs ≡ None
    → put_entry test change new xs ≡ xs ++ new ∷ []
put_entry_new test change new xs none = put_past test change new xs (position_none test xs none)

-- ---- an entry left out

without_first : {X : Type 0} (test : X → Bool) (xs : List X) (k : ℕ) → position_or_len test xs ≡ k → k < length xs
    → without_entry test xs ≡ remove xs k
unfolding without_entry
without_first test [] k first within = absurd (omega arith)
without_first test (y ∷ ys) zero first within = rw (first_here (test y) _ first) refl
without_first test (y ∷ ys) (suc k) first within = grind (arith, without_first test ys k)

-- where an entry passes the test, it is taken out of its place
pub without_entry_at : {X : Type 0} (test : X → Bool) (xs : List X) {k : ℕ} → position test xs ≡ Some k → without_entry test xs ≡ remove xs k
without_entry_at test xs found = grind (arith, position_found, without_first)

without_past : {X : Type 0} (test : X → Bool) (xs : List X) → length xs ≤ position_or_len test xs → without_entry test xs ≡ xs
unfolding without_entry
without_past test [] past = refl
without_past test (y ∷ ys) past = grind (arith, without_past test ys)

-- where none does, all stay
pub without_entry_none : {X : Type 0} (test : X → Bool) (xs : List X) → position test xs ≡ None → without_entry test xs ≡ xs
without_entry_none test xs none = without_past test xs (position_none test xs none)

-- ---- a list whose entries are changed or left out one after the other

change_later : {X : Type 0} (change : X → X) (y : X) (ys : List X) (k : ℕ) → change_at change (suc k) (y ∷ ys) ≡ y ∷ change_at change k ys
change_later change y ys k = grind arith

map_next_suc : {X : Type 0} (change : X → X) (xs : List X) (k : ℕ)
    → change_at change k (map change (take k xs) ++ drop k xs) ≡ map change (take (suc k) xs) ++ drop (suc k) xs
map_next_suc change [] zero = refl
map_next_suc change [] (suc k) = refl
map_next_suc change (y ∷ ys) zero = refl
map_next_suc change (y ∷ ys) (suc k) = grind (arith, nat_tests, common_steps, map_next_suc change ys k)

-- the entry at a place is changed like those before it
pub map_next : {X : Type 0} (change : X → X) (xs : List X) (k : ℕ)
    → change_at change k (map change (take k xs) ++ drop k xs) ≡ map change (take (k + 1) xs) ++ drop (k + 1) xs
map_next change xs k = rw add-one (map_next_suc change xs k)

-- where each entry is kept, all are
pub filter_all : {X : Type 0} (keep : X → Bool) (xs : List X) → list_all keep xs ≡ true → filter keep xs ≡ xs
filter_all keep [] all = refl
filter_all keep (y ∷ ys) all = grind (arith, filter_all keep ys)
