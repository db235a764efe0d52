-- The names of a session: each stands once.
use Rattle.std.proofs.Common.{◌≡◌, ℕ, zero, suc, List, [], ◌∷◌, refl, Bool, true, false, if◌then◌else◌, insert}
use Rattle.std.proofs.lemmas.Bool.{or_from, or_parts}
use Rattle.std.specs.List.{list_any, position_or_len}
use Rattle.std.specs.Str.{bytes_eq}
use Rattle.pdb_values.specs.NamedDatabases.{comes_before}
use Rattle.pdb_values.proofs.NamedLaws.{bytes_eq-other, bytes_eq-own}
use Rattle.session_plan.specs.Tasks.{Meeting, names, names_of, slot_of, with_name, with_names}

pub bytes_eq-swap : (a b : List ℕ) → bytes_eq a b ≡ false → bytes_eq b a ≡ false
bytes_eq-swap a b apart = bytes_eq-other b a (λ is. let own : bytes_eq a b ≡ true = rw is (bytes_eq-own a) in cc)

-- no name stands twice
abbrev pub Once : List (List ℕ) → Type 0
Once [] = Unit {0}
Once (n ∷ ns) = (list_any (λ other. bytes_eq other n) ns ≡ false) × Once ns

any-insert : {A : Type 0} (test : A → Bool) (x : A) (xs : List A) (k : ℕ) → test x ≡ false → list_any test xs ≡ false
    → list_any test (insert xs k x) ≡ false
any-insert test x xs zero is none = or_from (test x) (list_any test xs) is none
any-insert test x [] (suc k) is none = or_from (test x) false is refl
any-insert test x (y ∷ xs) (suc k) is none =
    let both = or_parts (test y) _ none in or_from (test y) _ both.0 (any-insert test x xs k is both.1)

once-insert : (name : List ℕ) (ns : List (List ℕ)) (k : ℕ) → list_any (λ other. bytes_eq other name) ns ≡ false → Once ns → Once (insert ns k name)
once-insert name ns zero none once = (none, once)
once-insert name [] (suc k) none once = (refl, tt)
once-insert name (n ∷ ns) (suc k) none once =
    let both = or_parts (bytes_eq n name) _ none in
    (any-insert (λ other. bytes_eq other n) name ns k (bytes_eq-swap n name both.0) once.0, once-insert name ns k both.1 once.1)

once-name : (name : List ℕ) (ns : List (List ℕ)) → Once ns → Once (with_name name ns)
once-name name ns once = by (list_any (λ other. bytes_eq other name) ns) refl
  where
    by : (b : Bool) → list_any (λ other. bytes_eq other name) ns ≡ b
        → Once (if b then ns else insert ns (position_or_len (λ other. comes_before name other) ns) name)
    by true is = once
    by false is = once-insert name ns (position_or_len (λ other. comes_before name other) ns) is once

once-names : (more ns : List (List ℕ)) → Once ns → Once (with_names more ns)
once-names [] ns once = once
once-names (n ∷ more) ns once = once-names more (with_name n ns) (once-name n ns once)

pub names-once : (m : Meeting) → Once (names m)
names-once m = once-names (names_of (slot_of m).shelves.rows) _ (once-names (names_of m.device.databases) [] tt)
