-- What becomes of what is looked for where one entry is written.
use Rattle.std.proofs.Common.{arith, ◌≡◌, ◌≢◌, ◌∙◌, ap, refl, ℕ, zero, suc, ◌<◌, ◌≤◌, Bool, true, false, cond, List, [], ◌∷◌}
use Rattle.std.proofs.Common.{None, Some, get_or, get_or-set_other, get_or-set_same, length, nat_lt, not}
use Rattle.std.proofs.Math.ListN.{set}
use Rattle.std.proofs.lemmas.Bool.Decides.{nat_tests}
use Rattle.std.proofs.lemmas.List.{length-set}
use Rattle.std.proofs.lemmas.List.Folds.{position_or_len-set}
use Rattle.std.specs.List.{position, position_or_len}
use Rattle.std.specs.Option.{option_map}
use Rattle.std.specs.Str.{bytes_eq}
use Rattle.category_tables.specs.Tables.{CategoryValue, entry_at, has_label, no_entry}
use Rattle.category_tables.specs.Merges.{number_where, of_id, of_label, unused}
use Rattle.category_tables.proofs.FoundLaws.{number_found, number_is, number_none}
use Rattle.category_tables.proofs.OwnedLaws.{bears}

position-set : {X : Type 0} (p : X → Bool) (xs : List X) (i : ℕ) (y d : X) → p y ≡ p (get_or xs i d) → position p (set xs i y) ≡ position p xs
position-set p xs i y d same =
    ap (λ n. cond (nat_lt n (length (set xs i y))) (Some n) None) (position_or_len-set p xs i y d same)
    ∙ ap (λ n. cond (nat_lt (position_or_len p xs) n) (Some (position_or_len p xs)) None) (length-set xs i y)

-- an entry from number 1 on is written that passes as the one before it did
number_where-set : (p : CategoryValue → Bool) (entries : List CategoryValue) (i : ℕ) (new : CategoryValue) → 1 ≤ i → p new ≡ p (entry_at entries i)
    → number_where p (set entries i new) ≡ number_where p entries
unfolding number_where
number_where-set p [] i new some same = refl
number_where-set p (entry ∷ entries) zero new some same = absurd (omega arith)
number_where-set p (entry ∷ entries) (suc i) new some same = ap (option_map suc) (position-set p entries i new no_entry same)

pub of_id-set : (entries : List CategoryValue) (id i : ℕ) (new : CategoryValue) → 1 ≤ i → bears id new ≡ bears id (entry_at entries i)
    → of_id (set entries i new) id ≡ of_id entries id
unfolding of_id
of_id-set entries id i new some same = number_where-set (bears id) entries i new some same

pub of_label-set : (entries : List CategoryValue) (label : List ℕ) (i : ℕ) (new : CategoryValue) → bytes_eq new.label label ≡ bytes_eq (entry_at entries i).label label
    → of_label (set entries i new) label ≡ of_label entries label
unfolding of_label
of_label-set entries label i new same = position-set (λ (entry : CategoryValue). bytes_eq entry.label label) entries i new no_entry same

-- the id that no entry bore is found where it is written
pub of_id-new : (entries : List CategoryValue) (i : ℕ) (new : CategoryValue) → 1 ≤ i → i < length entries → has_label new ≡ true → of_id entries new.id ≡ None
    → of_id (set entries i new) new.id ≡ Some i
unfolding of_id
of_id-new entries i new some less labelled none =
    number_is (bears new.id) (set entries i new) i some (simp length-set less) (rw get_or-set_same (rw labelled (grind (arith, nat_tests))))
    (λ k first below. let ne : k ≢ i = omega arith in rw get_or-set_other (number_none (bears new.id) entries none k first (omega arith)))

-- an unused number from 1 on
pub record IsFree (entries : List CategoryValue) (i : ℕ) : Type 0 where
  pub some : 1 ≤ i
  pub less : i < length entries
  pub empty : has_label (entry_at entries i) ≡ false

pub free_at : (entries : List CategoryValue) (i : ℕ) → unused entries ≡ Some i → IsFree entries i
unfolding unused
free_at entries i e =
    let is = number_found (λ (entry : CategoryValue). not (has_label entry)) entries i e in
    record { some = is.some; less = is.less; empty = empty (has_label (entry_at entries i)) is.passes }
  where
    empty : (b : Bool) → not b ≡ true → b ≡ false
    empty true e = absurd cc
    empty false e = refl
