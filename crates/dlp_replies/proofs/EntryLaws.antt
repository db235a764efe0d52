-- Entries in bytes: walks over them, and what a list of them says.
use Rattle.std.proofs.lemmas.Bool.Decides.{nat_tests}
use Rattle.std.proofs.lemmas.Grind.{common_steps}
use Rattle.std.proofs.Common.{◌≡◌, ℕ, zero, suc, ◌+◌, ◌-◌, ◌<◌, ◌≤◌, Bool, true, false, cond, eqb, List, [], ◌∷◌, length, map, Option, Some, None, is_some, Ok}
use Rattle.std.proofs.Common.{Err, refl, sym, ap, subst, ◌∙◌, ◌⊎◌, inl, inr, arith}
use Rattle.std.specs.List.{slice_get}
use Rattle.std.proofs.lemmas.Option.{slice_get_past}
use Rattle.pdb_values.specs.declared.head.DbHead.{DbHead}
use Rattle.dlp_args.specs.CellReading.{◌>>=◌}
use Rattle.dlp_replies.specs.Checks.{Checks, first_bad}
use Rattle.dlp_replies.specs.EntryLists.{Row}
use Rattle.dlp_replies.specs.EntryReading.{entry_at, rows_in, rows_or_none, row_checks, rows_checks, item_of}
use Rattle.dlp_replies.specs.Faults.{or_place}
use Rattle.dlp_replies.specs.Lent.{item_at, items_in, first_or_none}
use Rattle.dlp_replies.proofs.ListLaws.{tests_pass, tests_stop, both_pass}

-- ---- one entry and the others

-- what is left shrinks by one
pub one_less : (count i : ℕ) → i < count → count - i ≡ suc (count - (i + 1))
one_less count i lt = omega arith

pub no_rows : (left : ℕ) (bytes : List ℕ) → 0 < left → entry_at bytes ≡ None → rows_in left bytes ≡ None
unfolding rows_in
no_rows left bytes some e = grind arith

abbrev pub added : Row → Option (List Row) → Option (List Row)
added first o = o >>= λ others. Some (first ∷ others)

first_row : (left : ℕ) (bytes : List ℕ) (row : Row) (rest : List ℕ) → entry_at bytes ≡ Some (row, rest)
    → rows_in (suc left) bytes ≡ added row (rows_in left rest)
unfolding rows_in
first_row left bytes row rest e = rw e refl

added_some : (first : Row) (o : Option (List Row)) → is_some (added first o) ≡ is_some o
added_some first o = grind arith

added_rows : (first : Row) (o : Option (List Row)) → is_some o ≡ true → rows_or_none (added first o) ≡ first ∷ rows_or_none o
added_rows first o e = grind arith

-- whether the others are entries decides
more_rows : (left : ℕ) (bytes : List ℕ) (row : Row) (rest : List ℕ) → entry_at bytes ≡ Some (row, rest)
    → is_some (rows_in (suc left) bytes) ≡ is_some (rows_in left rest)
more_rows left bytes row rest e = ap is_some (first_row left bytes row rest e) ∙ added_some row (rows_in left rest)

rows_there : (left : ℕ) (bytes : List ℕ) (row : Row) (rest : List ℕ) → entry_at bytes ≡ Some (row, rest) → is_some (rows_in left rest) ≡ true
    → rows_or_none (rows_in (suc left) bytes) ≡ row ∷ rows_or_none (rows_in left rest)
rows_there left bytes row rest e all = ap rows_or_none (first_row left bytes row rest e) ∙ added_rows row (rows_in left rest) all

-- the same in a walk, behind i entries
pub walk_on : (count i : ℕ) (bytes : List ℕ) (row : Row) (rest : List ℕ) → i < count → entry_at bytes ≡ Some (row, rest)
    → is_some (rows_in (count - i) bytes) ≡ is_some (rows_in (count - (i + 1)) rest)
walk_on count i bytes row rest lt e = grind (arith, nat_tests, common_steps, one_less, more_rows)

pub walk_ends : (count i : ℕ) (bytes : List ℕ) → i < count → entry_at bytes ≡ None → is_some (rows_in (count - i) bytes) ≡ false
walk_ends count i bytes lt e = ap is_some (no_rows (count - i) bytes (omega arith) e)

walk_rows : (count i : ℕ) (bytes : List ℕ) (row : Row) (rest : List ℕ) → i < count → entry_at bytes ≡ Some (row, rest)
    → is_some (rows_in (count - i) bytes) ≡ true → rows_or_none (rows_in (count - i) bytes) ≡ row ∷ rows_or_none (rows_in (count - (i + 1)) rest)
walk_rows count i bytes row rest lt e all = grind (arith, nat_tests, common_steps, one_less, rows_there, walk_on)

-- the values of the first entry are some
pub values_on : (count i place : ℕ) (bytes : List ℕ) (row : Row) (rest : List ℕ) → i < count → entry_at bytes ≡ Some (row, rest)
    → is_some (rows_in (count - i) bytes) ≡ true → first_bad (row_checks place row) ≡ None
    → first_bad (rows_checks place (rows_or_none (rows_in (count - i) bytes)))
    ≡ first_bad (rows_checks (place + row.0) (rows_or_none (rows_in (count - (i + 1)) rest)))
values_on count i place bytes row rest lt e all valid = grind (arith, nat_tests, common_steps, walk_rows, tests_pass)

-- a value of the first entry is none
pub values_end : (count i place bad : ℕ) (bytes : List ℕ) (row : Row) (rest : List ℕ) → i < count → entry_at bytes ≡ Some (row, rest)
    → is_some (rows_in (count - i) bytes) ≡ true → first_bad (row_checks place row) ≡ Some bad
    → first_bad (rows_checks place (rows_or_none (rows_in (count - i) bytes))) ≡ Some bad
values_end count i place bad bytes row rest lt e all none = grind (arith, nat_tests, common_steps, walk_rows, tests_stop)

none_left : (end : Bool) → (is_some (cond end (let o : Option (List Row) = Some [] in o) None) ≡ end) × (rows_or_none (cond end (Some []) None) ≡ [])
none_left end = grind arith

pub last_rows : (left : ℕ) (bytes : List ℕ) → left ≡ 0 → is_some (rows_in left bytes) ≡ eqb (length bytes) 0
unfolding rows_in
last_rows left bytes none = rw none (none_left (eqb (length bytes) 0)).0

pub no_more_rows : (left : ℕ) (bytes : List ℕ) → left ≡ 0 → rows_or_none (rows_in left bytes) ≡ []
unfolding rows_in
no_more_rows left bytes none = rw none (none_left (eqb (length bytes) 0)).1

-- ---- the values of an entry

-- four tests
at_places : (c : ℕ) (d e f g : Bool) → Checks
at_places c d e f g = (c + 18, d) ∷ (c + 26, e) ∷ (c + 34, f) ∷ (c + 44, g) ∷ []

pub row_anywhere : (a b : ℕ) (row : Row) → first_bad (row_checks a row) ≡ None → first_bad (row_checks b row) ≡ None
unfolding row_checks at_places
row_anywhere a b row e = grind arith

pub row_near : (a bad : ℕ) (row : Row) → first_bad (row_checks a row) ≡ Some bad → bad ≤ a + 44
unfolding row_checks at_places
row_near a bad row e = grind arith

pub or_place_ok : {A : Type 0} (bad : Option ℕ) (x y : A) → or_place bad x ≡ Ok y → (bad ≡ None) × (x ≡ y)
or_place_ok bad x y e = grind arith

pub or_place_err : {A : Type 0} (bad : Option ℕ) (x : A) (place : ℕ) → or_place bad x ≡ Err place → bad ≡ Some place
or_place_err bad x place e = grind arith

-- ---- entries whose values are some

pub no_items : (left : ℕ) (bytes : List ℕ) → item_at bytes ≡ None → items_in left bytes ≡ []
unfolding items_in
no_items left bytes e = grind arith

first_item : (left : ℕ) (bytes : List ℕ) (item : ℕ × DbHead) (rest : List ℕ) → item_at bytes ≡ Some (item, rest)
    → items_in (suc left) bytes ≡ item ∷ items_in left rest
unfolding items_in
first_item left bytes item rest e = rw e refl

-- a walk to the entry at a place, behind i entries
pub place_on : (count place i : ℕ) (bytes : List ℕ) (item : ℕ × DbHead) (rest : List ℕ) → i < place → place < count → item_at bytes ≡ Some (item, rest)
    → slice_get (items_in (count - i) bytes) (place - i) ≡ slice_get (items_in (count - (i + 1)) rest) (place - (i + 1))
place_on count place i bytes item rest lt few e = grind (arith, nat_tests, common_steps, one_less, first_item)

pub place_there : (left place : ℕ) (bytes : List ℕ) (item : ℕ × DbHead) (rest : List ℕ) → place ≡ 0 → 0 < left → item_at bytes ≡ Some (item, rest)
    → slice_get (items_in left bytes) place ≡ Some item
place_there zero place bytes item rest none some e = absurd (omega arith)
place_there (suc left) place bytes item rest none some e = rw (none, first_item left bytes item rest e) refl

pub place_ends : (left place : ℕ) (bytes : List ℕ) → item_at bytes ≡ None → slice_get (items_in left bytes) place ≡ None
place_ends left place bytes e = rw (no_items left bytes e) refl

few_found : (left : ℕ) (o : Option ((ℕ × DbHead) × List ℕ)) → ((bytes : List ℕ) → length (items_in left bytes) ≤ left)
    → length (first_or_none o (items_in left)) ≤ suc left
few_found left o few = grind arith

pub few_items : (left : ℕ) (bytes : List ℕ) → length (items_in left bytes) ≤ left
unfolding items_in
few_items zero bytes = omega arith
few_items (suc left) bytes = few_found left (item_at bytes) (few_items left)

pub split : {A : Type 0} (o : Option A) → (o ≡ None) ⊎ ((x : A) × (o ≡ Some x))
split None = inl refl
split (Some x) = inr (x, refl)

item_there : (bytes : List ℕ) (row : Row) (rest : List ℕ) → entry_at bytes ≡ Some (row, rest) → first_bad (row_checks 0 row) ≡ None
    → item_at bytes ≡ Some (item_of row, rest)
unfolding item_at
item_there bytes row rest e valid = rw (e, valid) refl

pub place_past : (count place : ℕ) (bytes : List ℕ) → count ≤ place → slice_get (items_in count bytes) place ≡ None
place_past count place bytes past = grind (arith, nat_tests, common_steps, slice_get_past, few_items)

pub item_ok : (bytes : List ℕ) (row : Row) (rest : List ℕ) (item : ℕ × DbHead) → entry_at bytes ≡ Some (row, rest)
    → or_place (first_bad (row_checks 0 row)) (item_of row) ≡ Ok item → item_at bytes ≡ Some (item, rest)
item_ok bytes row rest item e said = grind (arith, nat_tests, common_steps, or_place_ok, item_there)

pub item_bad : (bytes : List ℕ) (row : Row) (rest : List ℕ) (bad : ℕ) → entry_at bytes ≡ Some (row, rest)
    → or_place (first_bad (row_checks 0 row)) (item_of row) ≡ Err bad → item_at bytes ≡ None
unfolding item_at
item_bad bytes row rest bad e said = grind arith

-- the entries of bytes are what their cells say
pub items_are : (left at : ℕ) (bytes : List ℕ) → is_some (rows_in left bytes) ≡ true → first_bad (rows_checks at (rows_or_none (rows_in left bytes))) ≡ None
    → (items_in left bytes ≡ map item_of (rows_or_none (rows_in left bytes))) × (length (items_in left bytes) ≡ left)
unfolding items_in
items_are zero at bytes all valid = (sym (ap (map item_of) (no_more_rows 0 bytes refl)), refl)
items_are (suc left) at bytes all valid =
    elim (split (entry_at bytes)) [
      | inl none ↦ let no = no_rows (suc left) bytes (omega arith) none in absurd cc
      | inr found ↦
          let row = found.0.0 in
          let rest = found.0.1 in
          let more : is_some (rows_in left rest) ≡ true = sym (more_rows left bytes row rest found.1) ∙ all in
          let there = rows_there left bytes row rest found.1 more in
          let both = both_pass (row_checks at row) (rows_checks (at + row.0) (rows_or_none (rows_in left rest)))
          (subst (λ (xs : List Row). first_bad (rows_checks at xs) ≡ None) there valid) in
          let others = items_are left (at + row.0) rest more both.1 in
          let first = first_item left bytes (item_of row) rest (item_there bytes row rest found.1 (row_anywhere at 0 row both.0)) in (
            first ∙ ap (λ (xs : List (ℕ × DbHead)). item_of row ∷ xs) others.0 ∙ sym (ap (map item_of) there),
            let len = ap length first in
                omega (arith, len, others.1),
          )
    ]
