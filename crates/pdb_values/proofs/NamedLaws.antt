-- Databases by name: what a look-up finds once one is put or taken out, that names in byte order stay so, and that two lists
-- in order that answer alike by name are equal.
use Rattle.std.proofs.lemmas.Bool.Decides.{nat_tests}
use Rattle.std.proofs.lemmas.Grind.{common_steps}
use Rattle.std.proofs.Common.{◌≡◌, ℕ, zero, suc, ◌+◌, Bool, true, false, cond, List, [], ◌∷◌, length, refl, ap, subst, sym, ◌∙◌, arith, Option, Some, None}
use Rattle.std.proofs.Common.{slice_get}
use Rattle.std.specs.Prelude.{All, find, is_some}
use Rattle.std.specs.List.{AllByRecursion, list_all}
use Rattle.std.specs.Option.{option_map}
use Rattle.std.specs.declared.cmp.Ordering.{Ordering}
use Rattle.std.specs.declared.cmp.Ordering.TheVariants.{Less}
use Rattle.std.specs.Ordering.{is_eq, is_lt, nat_cmp, ordering_reverse}
use Rattle.std.specs.Cmp.Lexicographic.{slice_cmp, nat_list_cmp_total}
use Rattle.std.specs.Str.{bytes_eq}
use Rattle.std.proofs.lemmas.Bool.{and_parts, and_from, both_ways, cond-false, cond-true, false_from_ne_true}
use Rattle.std.proofs.lemmas.Map.Text.{is_eq-slice_cmp}
use Rattle.std.proofs.lemmas.Slice.Eq.{bytes_eq-Decides}
use Rattle.pdb_values.specs.Databases.{DatabaseValue}
use Rattle.pdb_values.proofs.PlaceLaws.{find-position, is_some-position, position-cons}
use Rattle.pdb_values.specs.NamedDatabases.{NamesRise, comes_before, database_of, is_named, place_of, remove_at, replaced, with_new, with_put, without_named}

-- ---- names

pub bytes_eq-is : (a b : List ℕ) → bytes_eq a b ≡ true → a ≡ b
bytes_eq-is a b same = (bytes_eq-Decides a b).0 same

pub bytes_eq-own : (a : List ℕ) → bytes_eq a a ≡ true
bytes_eq-own a = (bytes_eq-Decides a a).1 refl

pub bytes_eq-other : (a b : List ℕ) → (a ≡ b → ⊥) → bytes_eq a b ≡ false
bytes_eq-other a b other = false_from_ne_true (bytes_eq a b) (λ same. other (bytes_eq-is a b same))

less : (o : Ordering) → is_lt o ≡ true → o ≡ Less
less o is = grind arith

pub less_differs : (o : Ordering) → is_lt o ≡ true → is_eq o ≡ false
less_differs o is = grind arith

turned_less : (o : Ordering) → is_eq o ≡ false → is_lt (ordering_reverse o) ≡ false → is_lt o ≡ true
turned_less o differ not_before = grind arith

-- what stands before what stands before a third
pub comes_before-trans : (a b c : List ℕ) → comes_before a b ≡ true → comes_before b c ≡ true → comes_before a c ≡ true
comes_before-trans a b c first second = ap is_lt (nat_list_cmp_total.trans a b c (less _ first) (less _ second))

-- of two names that differ, one stands before the other
pub comes_before-other : (a b : List ℕ) → comes_before b a ≡ false → bytes_eq a b ≡ false → comes_before a b ≡ true
comes_before-other a b later differ =
    turned_less (slice_cmp nat_cmp a b) (is_eq-slice_cmp a b ∙ differ) (ap is_lt (sym (nat_list_cmp_total.antisymm b a)) ∙ later)

-- a name that stands before another differs from it
pub comes_before-differs : (a b : List ℕ) → comes_before a b ≡ true → bytes_eq a b ≡ false
comes_before-differs a b first = sym (is_eq-slice_cmp a b) ∙ less_differs (slice_cmp nat_cmp a b) first

pub comes_before-differs_from : (a b : List ℕ) → comes_before a b ≡ true → bytes_eq b a ≡ false
comes_before-differs_from a b first = grind (arith, nat_tests, common_steps, bytes_eq-other, both_ways, comes_before-differs, bytes_eq-own)

all_behind : (a b : List ℕ) (databases : List DatabaseValue) → comes_before a b ≡ true
    → list_all (λ later. comes_before b later.head.name) databases ≡ true → list_all (λ later. comes_before a later.head.name) databases ≡ true
all_behind a b [] first all = refl
all_behind a b (database ∷ databases) first all = grind (arith, nat_tests, common_steps, all_behind a b databases, and_parts, comes_before-trans)

-- ---- places

-- where no database has a name, the name has no place
pub place_of-none : (name : List ℕ) (databases : List DatabaseValue) → database_of name databases ≡ None → place_of name databases ≡ None
place_of-none name databases none = grind (arith, nat_tests, common_steps, is_some-position (is_named name) databases)

-- where a database has a name, it stands at its place
pub place_of-some : (name : List ℕ) (databases : List DatabaseValue) (found : DatabaseValue) → database_of name databases ≡ Some found
    → (place : ℕ) × (place_of name databases ≡ Some place) × (slice_get databases place ≡ Some found)
place_of-some name databases found is = grind (arith, nat_tests, common_steps, find-position)

-- a database that was found has the name
pub database_of-name : (name : List ℕ) (databases : List DatabaseValue) (found : DatabaseValue) → database_of name databases ≡ Some found
    → found.head.name ≡ name
database_of-name name [] found is = absurd cc
database_of-name name (database ∷ databases) found is = grind (arith, nat_tests, common_steps, database_of-name name databases found, bytes_eq-is)

-- a look-up in what stands behind a name finds nothing of that name
database_of-behind : (name : List ℕ) (databases : List DatabaseValue) → list_all (λ later. comes_before name later.head.name) databases ≡ true
    → database_of name databases ≡ None
database_of-behind name [] all = refl
database_of-behind name (database ∷ databases) all =
    grind (arith, nat_tests, common_steps, database_of-behind name databases, and_parts, comes_before-differs_from)

-- a database that is found passes each test that all pass
found_passes : (test : DatabaseValue → Bool) (name : List ℕ) (databases : List DatabaseValue) (found : DatabaseValue)
    → list_all test databases ≡ true → database_of name databases ≡ Some found → test found ≡ true
found_passes test name [] found all is = absurd cc
found_passes test name (database ∷ databases) found all is = grind (arith, nat_tests, common_steps, found_passes test name databases found)

-- ---- two lists

-- lists in order that answer alike by name are equal
pub database_of-same : (xs ys : List DatabaseValue) → NamesRise xs → NamesRise ys → ((name : List ℕ) → database_of name xs ≡ database_of name ys)
    → xs ≡ ys
database_of-same [] [] rise rise' alike = refl
database_of-same [] (y ∷ ys) rise rise' alike = grind (arith, nat_tests, common_steps, bytes_eq-own y.head.name)
database_of-same (x ∷ xs) [] rise rise' alike = grind (arith, nat_tests, common_steps, bytes_eq-own x.head.name)
database_of-same (x ∷ xs) (y ∷ ys) rise rise' alike =
    let first = first_same (bytes_eq y.head.name x.head.name) refl in
    let rest : xs ≡ ys = database_of-same xs ys rise.1 rise'.1 (λ name. behind first name (bytes_eq x.head.name name) refl) in
    ap (λ (d : DatabaseValue). d ∷ xs) first ∙ ap (λ (ds : List DatabaseValue). y ∷ ds) rest
  where
    own : (d : DatabaseValue) (ds : List DatabaseValue) → database_of d.head.name (d ∷ ds) ≡ Some d
    own d ds = ap (λ b. cond b (Some d) (database_of d.head.name ds)) (bytes_eq-own d.head.name)

    -- x is found among the ys, and y among the xs
    x_found : cond (bytes_eq y.head.name x.head.name) (Some y) (database_of x.head.name ys) ≡ Some x
    x_found = sym (alike x.head.name) ∙ own x xs

    y_found : cond (bytes_eq x.head.name y.head.name) (Some x) (database_of y.head.name xs) ≡ Some y
    y_found = alike y.head.name ∙ own y ys

    first_same : (b : Bool) → bytes_eq y.head.name x.head.name ≡ b → x ≡ y
    first_same true same =
        let found : Some y ≡ Some x = sym (ap (λ b. cond b (Some y) (database_of x.head.name ys)) same) ∙ x_found in
        cc
    first_same false differ =
        let x_behind : database_of x.head.name ys ≡ Some x = sym (ap (λ b. cond b (Some y) (database_of x.head.name ys)) differ) ∙ x_found in
        let y_first : comes_before y.head.name x.head.name ≡ true =
        found_passes (λ later. comes_before y.head.name later.head.name) x.head.name ys x rise'.0 x_behind in
        let turned : bytes_eq x.head.name y.head.name ≡ false = comes_before-differs_from y.head.name x.head.name y_first in
        let y_behind : database_of y.head.name xs ≡ Some y = sym (ap (λ b. cond b (Some x) (database_of y.head.name xs)) turned) ∙ y_found in
        let x_first : comes_before x.head.name y.head.name ≡ true =
        found_passes (λ later. comes_before x.head.name later.head.name) y.head.name xs y rise.0 y_behind in
        let itself : comes_before x.head.name x.head.name ≡ true = comes_before-trans x.head.name y.head.name x.head.name x_first y_first in
        absurd (both_ways (bytes_eq x.head.name x.head.name) (comes_before-differs x.head.name x.head.name itself) (bytes_eq-own x.head.name))

    behind : x ≡ y → (name : List ℕ) (b : Bool) → bytes_eq x.head.name name ≡ b → database_of name xs ≡ database_of name ys
    behind first name true same =
        let named : x.head.name ≡ name = bytes_eq-is x.head.name name same in
        let named' : y.head.name ≡ name = ap (λ (d : DatabaseValue). d.head.name) (sym first) ∙ named in
        ap (λ n. database_of n xs) (sym named) ∙ database_of-behind x.head.name xs rise.0
        ∙ sym (database_of-behind y.head.name ys rise'.0) ∙ ap (λ n. database_of n ys) named'
    behind first name false differ =
        let differ' : bytes_eq y.head.name name ≡ false = ap (λ (d : DatabaseValue). bytes_eq d.head.name name) (sym first) ∙ differ in
        sym (ap (λ b. cond b (Some x) (database_of name xs)) differ) ∙ alike name ∙ ap (λ b. cond b (Some y) (database_of name ys)) differ'

-- ---- a new one

-- it stands in front of the first greater name
pub with_new-cons : (new x : DatabaseValue) (xs : List DatabaseValue)
    → with_new new (x ∷ xs) ≡ cond (comes_before new.head.name x.head.name) (new ∷ x ∷ xs) (x ∷ with_new new xs)
with_new-cons new x xs = grind arith

find-with_new : (test : DatabaseValue → Bool) (new : DatabaseValue) (xs : List DatabaseValue) → (test new ≡ true → find test xs ≡ None)
    → find test (with_new new xs) ≡ cond (test new) (Some new) (find test xs)
find-with_new test new [] alone = refl
find-with_new test new (x ∷ xs) alone = grind (arith, nat_tests, common_steps, find-with_new test new xs, with_new-cons, both_ways)

-- what a look-up finds once there is one more
pub database_of-with_new : (name : List ℕ) (new : DatabaseValue) (databases : List DatabaseValue) → database_of new.head.name databases ≡ None
    → database_of name (with_new new databases) ≡ cond (bytes_eq new.head.name name) (Some new) (database_of name databases)
database_of-with_new name new databases none =
    find-with_new (is_named name) new databases (λ same. ap (λ n. database_of n databases) (sym (bytes_eq-is new.head.name name same)) ∙ none)

-- what holds of a new one and of all others
pub AllByRecursion-with_new : (P : DatabaseValue → Type 0) (new : DatabaseValue) (databases : List DatabaseValue) → P new
    → AllByRecursion P databases → AllByRecursion P (with_new new databases)
AllByRecursion-with_new P new [] here each = (here, tt)
AllByRecursion-with_new P new (x ∷ xs) here each = grind (arith, nat_tests, common_steps, AllByRecursion-with_new P new xs, with_new-cons)

list_all-with_new : (test : DatabaseValue → Bool) (new : DatabaseValue) (databases : List DatabaseValue) → test new ≡ true
    → list_all test databases ≡ true → list_all test (with_new new databases) ≡ true
list_all-with_new test new [] here all = rw here refl
list_all-with_new test new (x ∷ xs) here all = grind (arith, nat_tests, common_steps, list_all-with_new test new xs, and_parts, with_new-cons)

pub NamesRise-with_new : (new : DatabaseValue) (databases : List DatabaseValue) → database_of new.head.name databases ≡ None → NamesRise databases
    → NamesRise (with_new new databases)
NamesRise-with_new new [] none rise = (refl, tt)
NamesRise-with_new new (x ∷ xs) none rise =
    rw with_new-cons (by (bytes_eq x.head.name new.head.name) (comes_before new.head.name x.head.name) refl refl none
    (λ there. NamesRise-with_new new xs there rise.1))
  where
    by : (named first : Bool) → bytes_eq x.head.name new.head.name ≡ named → comes_before new.head.name x.head.name ≡ first
        → cond named (Some x) (database_of new.head.name xs) ≡ None
        → (database_of new.head.name xs ≡ None → NamesRise (with_new new xs)) → NamesRise (cond first (new ∷ x ∷ xs) (x ∷ with_new new xs))
    by true first same is there later = absurd cc
    by false true differ is there later = (rw is (all_behind new.head.name x.head.name xs is rise.0), rise)
    by false false differ is there later =
        let behind : comes_before x.head.name new.head.name ≡ true = comes_before-other x.head.name new.head.name is differ in
        (list_all-with_new (λ later. comes_before x.head.name later.head.name) new xs behind rise.0, later there)

pub length-with_new : (new : DatabaseValue) (databases : List DatabaseValue) → length (with_new new databases) ≡ length databases + 1
length-with_new new [] = omega arith
length-with_new new (x ∷ xs) = grind (arith, nat_tests, common_steps, length-with_new new xs)

-- ---- one in place of another

pub replaced-cons : (new x : DatabaseValue) (xs : List DatabaseValue)
    → replaced new (x ∷ xs) ≡ cond (bytes_eq x.head.name new.head.name) (new ∷ xs) (x ∷ replaced new xs)
replaced-cons new x xs = grind arith

-- where none has its name, all stay
pub replaced-none : (new : DatabaseValue) (databases : List DatabaseValue) → database_of new.head.name databases ≡ None
    → replaced new databases ≡ databases
replaced-none new databases none = rw (place_of-none new.head.name databases none) refl

-- a database in its own place changes nothing
pub replaced-own : (database : DatabaseValue) (databases : List DatabaseValue) → database_of database.head.name databases ≡ Some database
    → replaced database databases ≡ databases
replaced-own database [] here = absurd cc
replaced-own database (x ∷ xs) here = grind (arith, nat_tests, common_steps, replaced-own database xs)

-- the last of two in one place counts
pub replaced-replaced : (first last : DatabaseValue) (databases : List DatabaseValue) → first.head.name ≡ last.head.name
    → replaced last (replaced first databases) ≡ replaced last databases
replaced-replaced first last [] same = refl
replaced-replaced first last (x ∷ xs) same =
    grind (arith, nat_tests, common_steps, replaced-replaced first last xs, replaced-cons, bytes_eq-own, cond-true, cond-false)

-- what a look-up finds
pub database_of-replaced : (name : List ℕ) (new was : DatabaseValue) (databases : List DatabaseValue) → database_of new.head.name databases ≡ Some was
    → database_of name (replaced new databases) ≡ cond (bytes_eq new.head.name name) (Some new) (database_of name databases)
database_of-replaced name new was [] here = absurd cc
database_of-replaced name new was (x ∷ xs) here =
    rw (replaced-cons new x xs) (by (bytes_eq x.head.name new.head.name) refl here (database_of-replaced name new was xs))
  where
    turn : (p n : Bool) (rest : Option DatabaseValue) → (n ≡ true → p ≡ false)
        → cond p (Some x) (cond n (Some new) rest) ≡ cond n (Some new) (cond p (Some x) rest)
    turn true true rest apart = absurd (both_ways true (apart refl) refl)
    turn true false rest apart = refl
    turn false n rest apart = refl

    over : (n : Bool) (rest : Option DatabaseValue) → cond n (Some new) rest ≡ cond n (Some new) (cond n (Some x) rest)
    over true rest = refl
    over false rest = refl

    by : (b : Bool) → bytes_eq x.head.name new.head.name ≡ b → cond b (Some x) (database_of new.head.name xs) ≡ Some was
        → (database_of new.head.name xs ≡ Some was
        → database_of name (replaced new xs) ≡ cond (bytes_eq new.head.name name) (Some new) (database_of name xs))
        → database_of name (cond b (new ∷ xs) (x ∷ replaced new xs)) ≡ cond (bytes_eq new.head.name name) (Some new)
        (cond (bytes_eq x.head.name name) (Some x) (database_of name xs))
    by true is found later =
        over (bytes_eq new.head.name name) (database_of name xs)
        ∙ ap (λ (n : List ℕ). cond (bytes_eq new.head.name name) (Some new) (cond (bytes_eq n name) (Some x) (database_of name xs)))
        (sym (bytes_eq-is x.head.name new.head.name is))
    by false is found later =
        ap (λ (o : Option DatabaseValue). cond (bytes_eq x.head.name name) (Some x) o) (later found)
        ∙ turn (bytes_eq x.head.name name) (bytes_eq new.head.name name) (database_of name xs)
        (λ same. ap (λ n. bytes_eq x.head.name n) (sym (bytes_eq-is new.head.name name same)) ∙ is)

pub AllByRecursion-replaced : (P : DatabaseValue → Type 0) (new : DatabaseValue) (databases : List DatabaseValue) → P new
    → AllByRecursion P databases → AllByRecursion P (replaced new databases)
AllByRecursion-replaced P new [] here each = tt
AllByRecursion-replaced P new (x ∷ xs) here each = grind (arith, nat_tests, common_steps, AllByRecursion-replaced P new xs)

-- a test by name
all_replaced : (test : List ℕ → Bool) (new : DatabaseValue) (databases : List DatabaseValue)
    → list_all (λ later. test later.head.name) databases ≡ true → list_all (λ later. test later.head.name) (replaced new databases) ≡ true
all_replaced test new [] all = refl
all_replaced test new (x ∷ xs) all = grind (arith, nat_tests, common_steps, all_replaced test new xs, and_parts, replaced-cons, and_from, bytes_eq-is)

pub NamesRise-replaced : (new : DatabaseValue) (databases : List DatabaseValue) → NamesRise databases → NamesRise (replaced new databases)
NamesRise-replaced new [] rise = tt
NamesRise-replaced new (x ∷ xs) rise = rw (replaced-cons new x xs) (by (bytes_eq x.head.name new.head.name) refl (NamesRise-replaced new xs rise.1))
  where
    by : (b : Bool) → bytes_eq x.head.name new.head.name ≡ b → NamesRise (replaced new xs) → NamesRise (cond b (new ∷ xs) (x ∷ replaced new xs))
    by true is later = (
      subst (λ n. list_all (λ later. comes_before n later.head.name) xs ≡ true) (bytes_eq-is x.head.name new.head.name is) rise.0,
      rise.1,
    )
    by false is later = (all_replaced (comes_before x.head.name) new xs rise.0, later)

pub length-replaced : (new : DatabaseValue) (databases : List DatabaseValue) → length (replaced new databases) ≡ length databases
length-replaced new [] = refl
length-replaced new (x ∷ xs) = grind (arith, nat_tests, common_steps, length-replaced new xs)

-- ---- one in place of another, or a new one

-- a database that is put is a new one, or one in place of another
pub with_put-cases : (P : List DatabaseValue → Type 0) (new : DatabaseValue) (databases : List DatabaseValue)
    → (database_of new.head.name databases ≡ None → P (with_new new databases))
    → ((was : DatabaseValue) → database_of new.head.name databases ≡ Some was → P (replaced new databases)) → P (with_put new databases)
with_put-cases P new databases if_new if_there = grind (arith, nat_tests, common_steps, place_of-none, place_of-some)

-- what a look-up finds
pub database_of-with_put : (name : List ℕ) (new : DatabaseValue) (databases : List DatabaseValue)
    → database_of name (with_put new databases) ≡ cond (bytes_eq new.head.name name) (Some new) (database_of name databases)
database_of-with_put name new databases =
    with_put-cases (λ after. database_of name after ≡ cond (bytes_eq new.head.name name) (Some new) (database_of name databases)) new databases
    (λ none. database_of-with_new name new databases none) (λ was here. database_of-replaced name new was databases here)

pub NamesRise-with_put : (new : DatabaseValue) (databases : List DatabaseValue) → NamesRise databases → NamesRise (with_put new databases)
NamesRise-with_put new databases rise = with_put-cases NamesRise new databases (λ none. NamesRise-with_new new databases none rise)
    (λ was here. NamesRise-replaced new databases rise)

pub AllByRecursion-with_put : (P : DatabaseValue → Type 0) (new : DatabaseValue) (databases : List DatabaseValue) → P new
    → AllByRecursion P databases → AllByRecursion P (with_put new databases)
AllByRecursion-with_put P new databases here each = grind (arith, nat_tests, common_steps)

-- ---- one is taken out

pub without_named-cons : (name : List ℕ) (x : DatabaseValue) (xs : List DatabaseValue)
    → without_named name (x ∷ xs) ≡ cond (bytes_eq x.head.name name) xs (x ∷ without_named name xs)
without_named-cons name x xs = rw position-cons (by (bytes_eq x.head.name name) (place_of name xs))
  where
    by : (b : Bool) (o : Option ℕ) → remove_at (cond b (Some 0) (option_map (λ place. suc place) o)) (x ∷ xs) ≡ cond b xs (x ∷ remove_at o xs)
    by true o = refl
    by false None = refl
    by false (Some place) = refl

-- what a look-up finds
pub database_of-without_named : (name gone : List ℕ) (databases : List DatabaseValue) → NamesRise databases
    → database_of name (without_named gone databases) ≡ cond (bytes_eq gone name) None (database_of name databases)
database_of-without_named name gone [] rise = grind (arith, nat_tests, common_steps)
database_of-without_named name gone (x ∷ xs) rise =
    rw (without_named-cons gone x xs) (by (bytes_eq x.head.name gone) refl (database_of-without_named name gone xs rise.1))
  where
    here : (n : Bool) → (n ≡ true → database_of name xs ≡ None) → database_of name xs ≡ cond n None (cond n (Some x) (database_of name xs))
    here true none = none refl
    here false none = refl

    turn : (p n : Bool) → (n ≡ true → p ≡ false)
        → cond p (Some x) (cond n None (database_of name xs)) ≡ cond n None (cond p (Some x) (database_of name xs))
    turn true true apart = absurd (both_ways true (apart refl) refl)
    turn true false apart = refl
    turn false n apart = refl

    by : (b : Bool) → bytes_eq x.head.name gone ≡ b → database_of name (without_named gone xs) ≡ cond (bytes_eq gone name) None (database_of name xs)
        → database_of name (cond b xs (x ∷ without_named gone xs)) ≡ cond (bytes_eq gone name) None
        (cond (bytes_eq x.head.name name) (Some x) (database_of name xs))
    by true is later =
        let named : x.head.name ≡ gone = bytes_eq-is x.head.name gone is in
        here (bytes_eq gone name) (λ same. ap (λ n. database_of n xs) (sym (named ∙ bytes_eq-is gone name same))
        ∙ database_of-behind x.head.name xs rise.0)
        ∙ ap (λ (n : List ℕ). cond (bytes_eq gone name) None (cond (bytes_eq n name) (Some x) (database_of name xs))) (sym named)
    by false is later =
        ap (λ (o : Option DatabaseValue). cond (bytes_eq x.head.name name) (Some x) o) later
        ∙ turn (bytes_eq x.head.name name) (bytes_eq gone name) (λ same. ap (λ n. bytes_eq x.head.name n) (sym (bytes_eq-is gone name same)) ∙ is)

-- any other name finds what it found, whatever the order
pub database_of-without_other : (name gone : List ℕ) (databases : List DatabaseValue) → bytes_eq gone name ≡ false
    → database_of name (without_named gone databases) ≡ database_of name databases
database_of-without_other name gone [] other = refl
database_of-without_other name gone (x ∷ xs) other =
    rw (without_named-cons gone x xs) (by (bytes_eq x.head.name gone) refl (database_of-without_other name gone xs other))
  where
    by : (b : Bool) → bytes_eq x.head.name gone ≡ b → database_of name (without_named gone xs) ≡ database_of name xs
        → database_of name (cond b xs (x ∷ without_named gone xs)) ≡ cond (bytes_eq x.head.name name) (Some x) (database_of name xs)
    by true is later =
        let differ : bytes_eq x.head.name name ≡ false = ap (λ n. bytes_eq n name) (bytes_eq-is x.head.name gone is) ∙ other in
        sym (cond-false (bytes_eq x.head.name name) (Some x) (database_of name xs) differ)
    by false is later = ap (λ (o : Option DatabaseValue). cond (bytes_eq x.head.name name) (Some x) o) later

pub AllByRecursion-without_named : (P : DatabaseValue → Type 0) (name : List ℕ) (databases : List DatabaseValue) → AllByRecursion P databases
    → AllByRecursion P (without_named name databases)
AllByRecursion-without_named P name [] each = tt
AllByRecursion-without_named P name (x ∷ xs) each =
    grind (arith, nat_tests, common_steps, without_named-cons name x xs, AllByRecursion-without_named P name xs each.1)

list_all-without_named : (test : DatabaseValue → Bool) (name : List ℕ) (databases : List DatabaseValue) → list_all test databases ≡ true
    → list_all test (without_named name databases) ≡ true
list_all-without_named test name [] all = refl
list_all-without_named test name (x ∷ xs) all =
    grind (
      arith,
      nat_tests,
      common_steps,
      and_parts (test x) (list_all test xs) all,
      without_named-cons name x xs,
      x.head.name,
      list_all-without_named test name xs (and_parts (test x) (list_all test xs) all).1,
    )

pub NamesRise-without_named : (name : List ℕ) (databases : List DatabaseValue) → NamesRise databases → NamesRise (without_named name databases)
NamesRise-without_named name [] rise = tt
NamesRise-without_named name (x ∷ xs) rise =
    rw (without_named-cons name x xs) (by (bytes_eq x.head.name name) (NamesRise-without_named name xs rise.1))
  where
    by : (b : Bool) → NamesRise (without_named name xs) → NamesRise (cond b xs (x ∷ without_named name xs))
    by true later = rise.1
    by false later = (list_all-without_named (λ later. comes_before x.head.name later.head.name) name xs rise.0, later)

-- one less, where it was there
pub length-without_named : (name : List ℕ) (databases : List DatabaseValue)
    → length (without_named name databases) + cond (is_some (database_of name databases)) 1 0 ≡ length databases
length-without_named name [] = refl
length-without_named name (x ∷ xs) = grind (arith, nat_tests, common_steps, length-without_named name xs)

-- ---- what holds of each

-- a database that is found is one of them
pub AllByRecursion-database_of : (P : DatabaseValue → Type 0) (name : List ℕ) (databases : List DatabaseValue) (found : DatabaseValue)
    → AllByRecursion P databases → database_of name databases ≡ Some found → P found
AllByRecursion-database_of P name [] found each is = absurd cc
AllByRecursion-database_of P name (x ∷ xs) found each is = grind (arith, nat_tests, common_steps, AllByRecursion-database_of P name xs found)

pub All-AllByRecursion : {X : Type 0} (P : X → Type 0) (xs : List X) → AllByRecursion P xs → All P xs
All-AllByRecursion P [] each k d within = absurd (omega arith)
All-AllByRecursion P (x ∷ xs) each zero d within = each.0
All-AllByRecursion P (x ∷ xs) each (suc k) d within = All-AllByRecursion P xs each.1 k d (omega arith)
