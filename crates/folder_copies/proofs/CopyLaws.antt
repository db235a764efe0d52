-- How the files of a copy grow, name by name, to all that a folder holds.
use Rattle.std.proofs.lemmas.Grind.{common_steps}
use Rattle.std.proofs.Common.{◌≡◌, ◌∙◌, ◌+◌, ◌<◌, ◌≤◌, inl, inr, ◌++◌, ◌∷◌, ℕ, zero, suc, Bool, true, false, cond, List, [], ap, arith, refl, sym, take, map, length, get_or, add-one, rules}
use Rattle.std.specs.Prelude.{◌||◌, IfOk, Err, Ok, Result, Option, Some, None, IfSome, String, is_some, min, string_bytes}
use Rattle.std.specs.declared.alloc.Global.{Global}
use Rattle.std.proofs.lemmas.Bool.Decides.{nat_tests}
use Rattle.std.proofs.lemmas.List.{map-append}
use Rattle.std.specs.Cmp.Lexicographic.{slice_cmp, nat_list_cmp_total}
use Rattle.std.specs.FinMap.{get-empty, get-insert, get_tied, contains_key-keys, same_map, slice_cmp-IsAntisymmetric, nat_cmp-IsAntisymmetric}
use Rattle.std.specs.FinMap as finmap
use Rattle.std.specs.List.{list_any}
use Rattle.std.specs.Option.{option_map, option_map_or}
use Rattle.std.specs.Ordering.{eq_by_cmp, is_eq, nat_cmp}
use Rattle.std.specs.declared.cmp.Ordering.{Ordering}
use Rattle.std.specs.declared.cmp.Ordering.TheVariants.{Less, Equal, Greater}
use Rattle.hs_folders.specs.FileMaps.{FileMap}
use Rattle.hs_folders.specs.Moments.{Moments, OnlyRead}
use Rattle.hs_folders.specs.Causes.{Rose}
use Rattle.folder_copies.specs.Copies.{HoldsNamed, IsCopy, is_named, with_file}

-- no name yet
pub named_begin : (held : FileMap) {copied : Option FileMap} → copied ≡ Some finmap.empty → HoldsNamed [] held copied
named_begin held is = record { files = finmap.empty; is = is; each = λ name. get-empty (slice_cmp nat_cmp) name }

tied : (r : Ordering) → is_eq r ≡ true → r ≡ Equal
tied Less e = cc
tied Equal e = refl
tied Greater e = cc

named-append : (names : List (List ℕ)) (last name : List ℕ)
    → is_named (names ++ last ∷ []) name ≡ (is_named names name || eq_by_cmp (slice_cmp nat_cmp) name last)
named-append [] last name = last_alone (eq_by_cmp (slice_cmp nat_cmp) name last)
  where
    last_alone : (b : Bool) → (b || false) ≡ b
    last_alone true = refl
    last_alone false = refl
named-append (first ∷ names) last name = ap (λ b. eq_by_cmp (slice_cmp nat_cmp) name first || b) (named-append names last name) ∙ grouped (eq_by_cmp (slice_cmp nat_cmp) name first) _ _
  where
    grouped : (a b c : Bool) → (a || (b || c)) ≡ ((a || b) || c)
    grouped true b c = refl
    grouped false b c = refl

-- what stands under a name that is the new one, or another
chosen_there : (a b : Bool) (own here : Option (List ℕ)) (bytes : List ℕ) → own ≡ cond a here None → (b ≡ true → here ≡ Some bytes)
    → cond b (Some bytes) own ≡ cond (a || b) here None
chosen_there true true own here bytes old same = sym (same refl)
chosen_there false true own here bytes old same = sym (same refl)
chosen_there true false own here bytes old same = old
chosen_there false false own here bytes old same = old

chosen_absent : (a b : Bool) (own here : Option (List ℕ)) → own ≡ cond a here None → (b ≡ true → here ≡ None) → own ≡ cond (a || b) here None
chosen_absent true b own here old same = old
chosen_absent false true own here old same = old ∙ sym (same refl)
chosen_absent false false own here old same = old

-- with one more name
pub named_on : (held : FileMap) (names : List (List ℕ)) (name : List ℕ) {copied next : Option FileMap} → HoldsNamed names held copied
    → next ≡ option_map (with_file held name) copied → HoldsNamed (names ++ name ∷ []) held next
named_on held names name {copied} {next} old is = by_found (finmap.get held name) refl
  where
    files : FileMap
    files = old.files

    same_name : (q : List ℕ) → eq_by_cmp (slice_cmp nat_cmp) q name ≡ true → finmap.get held q ≡ finmap.get held name
    same_name q e = sym (get_tied nat_list_cmp_total held q name (tied _ e))

    put : next ≡ Some (with_file held name files)
    put = is ∙ ap (option_map (with_file held name)) old.is

    by_found : (found : Option (List ℕ)) → finmap.get held name ≡ found → HoldsNamed (names ++ name ∷ []) held next
    by_found (Some bytes) found = record {
      files = finmap.insert files name bytes;
      is = put ∙ ap (λ (o : Option (List ℕ)). Some (option_map_or (λ b. finmap.insert files name b) o files)) found;
      each = λ q. get-insert nat_list_cmp_total files name bytes q
          ∙ chosen_there (is_named names q) (eq_by_cmp (slice_cmp nat_cmp) q name) (finmap.get files q) (finmap.get held q) bytes (old.each q)
          (λ e. same_name q e ∙ found)
          ∙ sym (ap (λ b. cond b (finmap.get held q) None) (named-append names name q));
    }
    by_found None found = record {
      files = files;
      is = put ∙ ap (λ (o : Option (List ℕ)). Some (option_map_or (λ b. finmap.insert files name b) o files)) found;
      each = λ q. chosen_absent (is_named names q) (eq_by_cmp (slice_cmp nat_cmp) q name) (finmap.get files q) (finmap.get held q) (old.each q)
          (λ e. same_name q e ∙ found)
          ∙ sym (ap (λ b. cond b (finmap.get held q) None) (named-append names name q));
    }

where_some : (o : Option (List ℕ)) → cond (is_some o) o None ≡ o
where_some None = refl
where_some (Some bytes) = refl

-- all names of what a folder holds
pub named_all : (held : FileMap) (names : List (List ℕ)) {copied : Option FileMap} → names ≡ finmap.keys held → HoldsNamed names held copied → copied ≡ Some held
named_all held names all of =
    of.is
    ∙ ap Some (same_map nat_list_cmp_total (slice_cmp-IsAntisymmetric nat_cmp-IsAntisymmetric) of.files held (λ q. of.each q
    ∙ ap (λ ns. cond (is_named ns q) (finmap.get held q) None) all
    ∙ ap (λ b. cond b (finmap.get held q) None) (sym (contains_key-keys held q)) ∙ where_some (finmap.get held q)))

-- ---- a copy that grows, of a folder that may tell nothing

-- no name yet
pub begun : (told : Option FileMap) {copied : Option FileMap} → copied ≡ Some finmap.empty → IfSome told (λ held. HoldsNamed [] held copied)
begun None is = tt
begun (Some held) is = named_begin held is

-- with one more
pub grown : (told : Option FileMap) (names : List (List ℕ)) (name : List ℕ) (copied next : Option FileMap) → IfSome told (λ held. HoldsNamed names held copied)
    → IfSome told (λ held. next ≡ option_map (with_file held name) copied) → IfSome told (λ held. HoldsNamed (names ++ name ∷ []) held next)
grown None names name copied next old is = tt
grown (Some held) names name copied next old is = named_on held names name old is

-- with all of them
pub whole : (told : Option FileMap) (names : List (List ℕ)) (copied : Option FileMap) → IfSome told (λ held. names ≡ finmap.keys held)
    → IfSome told (λ held. HoldsNamed names held copied) → IfSome told (λ held. copied ≡ Some held)
whole None names copied all of = tt
whole (Some held) names copied all of = named_all held names all of

-- ---- one loop step and the next

pub rose_before : (most a b c : ℕ) → a ≤ b → min (b + 1) most ≤ c → min (a + 1) most ≤ c
rose_before most a b c earlier rose = grind arith

pub rose_behind : (most a b c : ℕ) → min (a + 1) most ≤ b → b ≤ c → min (a + 1) most ≤ c
rose_behind most a b c rose later = omega (arith, rose, later)

take_next_at : {X : Type 0} (xs : List X) (k : ℕ) (x : X) → k < length xs → x ≡ get_or xs k x → take (suc k) xs ≡ take k xs ++ x ∷ []
take_next_at [] k x within is = absurd (omega arith)
take_next_at (y ∷ ys) zero x within is = ap (λ z. z ∷ []) (sym is)
take_next_at (y ∷ ys) (suc k) x within is = ap (λ zs. y ∷ zs) (take_next_at ys k x (omega arith) is)

pub names_next : (names : List (String Global)) (k : ℕ) (name : String Global) → k < length names → name ≡ get_or names k name
    → map string_bytes (take (k + 1) names) ≡ map string_bytes (take k names) ++ string_bytes name ∷ []
names_next names k name within is = grind (arith, common_steps, nat_tests, add-one, take_next_at, map-append)

pub take_all : {X : Type 0} (xs : List X) (k : ℕ) → length xs ≤ k → take k xs ≡ xs
take_all [] zero past = refl
take_all [] (suc k) past = refl
take_all (y ∷ ys) zero past = absurd (omega arith)
take_all (y ∷ ys) (suc k) past = ap (λ zs. y ∷ zs) (take_all ys k (omega arith))

pub OnlyRead-trans : {F : Type 0} (contents : F → Option FileMap) (moments : F → Moments) (paths : F → Option (List (List ℕ))) (faults : F → ℕ)
    (old mid new : F)
    → OnlyRead contents moments paths faults old mid → OnlyRead contents moments paths faults mid new → OnlyRead contents moments paths faults old new
OnlyRead-trans contents moments paths faults old mid new first = search (rules)

-- ---- what it then tells

-- all files, where none failed to be read
pub copied_as : (told : Option FileMap) (names : List (List ℕ)) (failed : Bool) (copied : Option FileMap) (before now : ℕ)
    → IfSome told (λ held. names ≡ finmap.keys held) → (failed ≡ false → IfSome told (λ held. HoldsNamed names held copied))
    → (failed ≡ true → Rose before now) → IsCopy told before now (cond failed None copied)
copied_as told names true copied before now listed of rose = inr (refl, rose refl)
copied_as told names false copied before now listed of rose = inl (whole told names copied listed (of refl))

-- two facts of what was answered make another
pub both_answered : {A E : Type 0} (P Q R : A → Type 0) (answer : Result A E) → ((a : A) → P a → Q a → R a) → IfOk answer P → IfOk answer Q → IfOk answer R
both_answered P Q R (Ok a) makes p q = makes a p q
both_answered P Q R (Err e) makes p q = tt
