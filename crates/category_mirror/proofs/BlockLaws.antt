-- A block begins with a table exactly where the test says so.
use Rattle.std.proofs.lemmas.Bool.Decides.{nat_tests}
use Rattle.std.proofs.lemmas.Bool.{and_parts}
use Rattle.std.proofs.lemmas.List.{get_or_past}
use Rattle.std.proofs.Common.{arith, ◌≡◌, ◌∙◌, ap, refl, sym, ℕ, zero, suc, ◌<◌, ◌≤◌, ◌==◌, ◌&&◌, ◌||◌, Bool, true, false, not, List, length}
use Rattle.std.specs.Prelude.{nat_lt, MatchOption, Option, None, Some}
use Rattle.std.specs.Option.{option_map}
use Rattle.category_tables.specs.declared.table.Table.{Table}
use Rattle.category_tables.specs.Merges.{merged_table, places_of}
use Rattle.category_tables.specs.Owned.{is_owned}
use Rattle.category_tables.specs.Tables.{CategoryValue, IsTable, TableValue, entry_at, is_used, no_entry, table_value}
use Rattle.category_tables.specs.Texts.{HoldsTable, table_in}
use Rattle.category_tables.proofs.MergedLaws.{merged_is_table, places_used}
use Rattle.category_tables.proofs.OwnedLaws.{owned_table, table_owned}
use Rattle.category_mirror.specs.Blocks.{AreNumbers, each_below, has_end, head_table, holds_table, is_own, tables_merge}

below_all : (n : ℕ) (test : ℕ → Bool) → each_below n test ≡ true → (k : ℕ) → k < n → test k ≡ true
unfolding each_below
below_all zero test all k less = absurd (omega arith)
below_all (suc n) test all k less =
    by_last (k == n) refl (and_parts (each_below n test) (test n) all).1 (λ below. below_all n test (and_parts (each_below n test) (test n) all).0 k below)
  where
    by_last : (b : Bool) → (k == n) ≡ b → test n ≡ true → (k < n → test k ≡ true) → test k ≡ true
    by_last true e last before = let same : k ≡ n = grind (arith, nat_tests, e) in ap test same ∙ last
    by_last false e last before = before (grind (arith, nat_tests, e, less))

all_below : (n : ℕ) (test : ℕ → Bool) → ((k : ℕ) → k < n → test k ≡ true) → each_below n test ≡ true
unfolding each_below
all_below zero test each = refl
all_below (suc n) test each = rw (all_below n test (λ k less. each k (omega arith)), each n (omega arith)) refl

owned_by : (a b c : Bool) → (a || (not b || c)) ≡ true → a ≡ false → b ≡ true → c ≡ true
owned_by a b c all first used = grind arith

own_by : (a b c : Bool) → (a ≡ false → b ≡ true → c ≡ true) → (a || (not b || c)) ≡ true
own_by true b c each = refl
own_by false true c each = each refl refl
own_by false false c each = refl

whole_table : (bytes : List ℕ) → length (table_in bytes).entries ≡ 16
unfolding table_in
whole_table bytes = refl

pub holds-is : (bytes : List ℕ) → holds_table bytes ≡ true → HoldsTable bytes
unfolding holds_table
holds-is bytes e =
    let first = and_parts (not (nat_lt (length bytes) 276)) (each_below 16 (has_end bytes) && each_below 16 (is_own (table_in bytes))) e in
    let then = and_parts (each_below 16 (has_end bytes)) (each_below 16 (is_own (table_in bytes))) first.1 in
    record {
      long = grind (arith, nat_tests, first.0);
      ended = λ n less. let ends = below_all 16 (has_end bytes) then.0 n less in grind (arith, nat_tests, ends);
      table = owned_table (table_in bytes) (whole_table bytes) (λ j some few used.
          owned_by (j == 0) (is_used (table_in bytes).entries j) (is_owned (table_in bytes) j) (below_all 16 (is_own (table_in bytes)) then.1 j few)
          (grind (arith, nat_tests, some)) used);
    }

pub is-holds : (bytes : List ℕ) → HoldsTable bytes → holds_table bytes ≡ true
unfolding holds_table
is-holds bytes is =
    let long : nat_lt (length bytes) 276 ≡ false = grind (arith, nat_tests, is.long) in
    let ends : each_below 16 (has_end bytes) ≡ true = all_below 16 (has_end bytes) (λ k less. let l = is.ended k less in grind (arith, nat_tests, l)) in
    let own : each_below 16 (is_own (table_in bytes)) ≡ true = all_below 16 (is_own (table_in bytes)) (λ k less.
    own_by (k == 0) (is_used (table_in bytes).entries k) (is_owned (table_in bytes) k) (λ e used.
    table_owned (table_in bytes) is.table k (grind (arith, nat_tests, e)) less used)) in
    rw (long, ends, own) refl

no-holds : (bytes : List ℕ) (b : Bool) → holds_table bytes ≡ b → ¬ HoldsTable bytes → b ≡ false
no-holds bytes true e none = absurd (none (holds-is bytes e))
no-holds bytes false e none = refl

-- where none is read there is none
pub unread : (head : List ℕ) → ¬ HoldsTable head → head_table head ≡ None
unread head none = rw (no-holds head (holds_table head) refl none) refl

pub table-at : (head : List ℕ) → HoldsTable head → head_table head ≡ Some (table_in head)
table-at head is = rw (is-holds head is) refl

-- a number that is used is one of the 16
used_small : (entries : List CategoryValue) (k : ℕ) → length entries ≡ 16 → is_used entries k ≡ true → k < 16
used_small entries k whole used = by_size (nat_lt k 16) refl
  where
    by_size : (b : Bool) → nat_lt k 16 ≡ b → k < 16
    by_size true e = grind (arith, nat_tests, e)
    by_size false e =
        let far : length entries ≤ k = grind (arith, nat_tests, e, whole) in
        let some : (k == 0) ≡ false = grind (arith, nat_tests, e) in
        let none : entry_at entries k ≡ no_entry = get_or_past entries k no_entry far in
        absurd (let no : is_used entries k ≡ false = rw (some, none) refl in let both : true ≡ false = sym used ∙ no in cc)

-- each of the desktop's numbers goes to one of the 16
pub numbers_small : (handheld desktop : TableValue) → IsTable handheld → IsTable desktop → AreNumbers (places_of handheld desktop)
numbers_small handheld desktop one other = λ k less.
    used_small (merged_table handheld desktop).entries _ (merged_is_table handheld desktop one other).whole (places_used handheld desktop k one other less)

-- a head as it was read
pub read_is : (head : List ℕ) (r : Option Table) → MatchOption r (¬ HoldsTable head) (λ table. HoldsTable head × (table_value table ≡ table_in head))
    → option_map table_value r ≡ head_table head
read_is head None is = sym (unread head is)
read_is head (Some table) is = ap (λ t. Some t) is.1 ∙ sym (table-at head is.0)

pub no_desktop : (rest : List ℕ) (handheld : Option TableValue) → tables_merge rest handheld None ≡ None
no_desktop rest None = refl
no_desktop rest (Some table) = refl
