-- Entries without where they lie in memory.
use Rattle.std.proofs.lemmas.Bool.Decides.{nat_tests}
use Rattle.std.proofs.lemmas.Grind.{common_steps}
use Rattle.std.proofs.Common.{◌≡◌, ◌||◌, ◌-◌, ◌+◌, ℕ, zero, suc, ◌<◌, ◌≤◌, Bool, List, [], ◌∷◌, ◌++◌, length, get_or, subst, None, Some, Result, Ok, Err, refl}
use Rattle.std.proofs.Common.{sym, ap, ◌∙◌, arith}
use Rattle.std.specs.Prelude.{map, string_bytes}
use Rattle.std.specs.List.{flat_map, list_any}
use Rattle.desk_journal.specs.declared.entry.Entry.{Entry}
use Rattle.desk_journal.specs.Entries.{AreEntries, EntryValue, IsEntry, entry_text, entry_value, entry_values}
use Rattle.desk_journal.specs.Reading.{entries_at, entry_at}

-- a test of what a function gives
pub list_any-map : {X Y : Type 0} (test : Y → Bool) (f : X → Y) (xs : List X) → list_any test (map f xs) ≡ list_any (λ x. test (f x)) xs
list_any-map test f [] = refl
list_any-map test f (x ∷ xs) = ap (λ rest. test (f x) || rest) (list_any-map test f xs)

-- ---- reading one entry after the other

pub goes_on : (count i : ℕ) (before : List EntryValue) (bytes : List ℕ) (entry : EntryValue) (rest : List ℕ) {total : Result (List EntryValue) ℕ} → i < count
    → entry_at before bytes ≡ Some (entry, rest)
    → entries_at (count - i) before bytes ≡ total → entries_at (count - (i + 1)) (before ++ entry ∷ []) rest ≡ total
unfolding entries_at
goes_on count i before bytes entry rest less found so_far =
    let left : count - i ≡ suc (count - (i + 1)) = omega arith in
    let one : entries_at (count - i) before bytes ≡ entries_at (count - (i + 1)) (before ++ entry ∷ []) rest = rw (left, found) refl in
    sym one ∙ so_far

pub stops : (count i : ℕ) (before : List EntryValue) (bytes : List ℕ) {total : Result (List EntryValue) ℕ} → i < count → entry_at before bytes ≡ None
    → entries_at (count - i) before bytes ≡ total → total ≡ Err (length bytes)
unfolding entries_at
stops count i before bytes less none so_far = grind arith

pub has_more : (count i : ℕ) (before : List EntryValue) (bytes : List ℕ) {total : Result (List EntryValue) ℕ} → count ≤ i → (length bytes ≡ 0 → ⊥)
    → entries_at (count - i) before bytes ≡ total → total ≡ Err (length bytes)
unfolding entries_at
has_more count i before bytes past some so_far = grind arith

pub is_done : (count i : ℕ) (before : List EntryValue) (bytes : List ℕ) {total : Result (List EntryValue) ℕ} → count ≤ i → length bytes ≡ 0
    → entries_at (count - i) before bytes ≡ total → total ≡ Ok before
unfolding entries_at
is_done count i before bytes past none so_far = grind arith

-- an entry by its name and bytes
pub same_entry : (entry : Entry) {name bytes : List ℕ} → string_bytes entry.name ≡ name → entry.bytes.items ≡ bytes
    → entry_value entry ≡ record { name = name; bytes = bytes }
same_entry entry named held = cc

-- ---- writing one entry after the other

pub entry_is : (before : List EntryValue) (entries : List Entry) (place : ℕ) {item : Entry} → AreEntries before (entry_values entries) → place < length entries
    → item ≡ get_or entries place item → IsEntry (entry_value item)
entry_is before [] place form less is = absurd (omega arith)
entry_is before (entry ∷ entries) zero form less is = subst (λ (e : Entry). IsEntry (entry_value e)) (sym is) form.0
entry_is before (entry ∷ entries) (suc place) form less is = entry_is (before ++ entry_value entry ∷ []) entries place form.2 (omega arith) is

pub text_more : (front : List ℕ) {bytes now : List ℕ} (written : List EntryValue) {all : List EntryValue} (entry : EntryValue)
    → bytes ≡ front ++ flat_map entry_text written → now ≡ bytes ++ entry_text entry → all ≡ written ++ entry ∷ [] → now ≡ front ++ flat_map entry_text all
text_more front written entry so_far more is = grind (arith, nat_tests, common_steps)
