-- Entries and what they say: where one stands, one that is changed, all of them.
use Rattle.std.proofs.Common.{arith, add-one, below_more, get_or-set_other, get_or-set_same, length-drop, take, ◌≡◌, ◌≢◌, ◌∙◌, ap, refl, sym, subst, ℕ, suc, ◌+◌, ◌<◌, ◌==◌, ◌&&◌, Bool, true, false, not, is_none, List, [], ◌∷◌, Option, None, Some, drop, get_or, length, map}
use Rattle.std.proofs.Math.ListN.{set}
use Rattle.std.proofs.lemmas.List.{drop-map, get_or-map, take_all, length-map, map-set}
use Rattle.std.proofs.lemmas.List.Elements.{All-from_get_or, All-get_or}
use Rattle.std.proofs.lemmas.List.FromFn.{fill_by_all, get_or-map-range_with_len}
use Rattle.std.specs.List.{All, range_with_len, position, position_or_len}
use Rattle.std.specs.Option.{is_some, option_map}
use Rattle.std.specs.Str.{bytes_eq}
use Rattle.palm_records.specs.Strings.{until_zero}
use Rattle.category_tables.specs.declared.table.Entry.{Entry}
use Rattle.category_tables.specs.Tables.{CategoryValue, entry_at, entry_value, has_label, no_entry}
use Rattle.category_tables.specs.Merges.{number_where, of_id, of_label, relabelled, unused}
use Rattle.category_tables.specs.Owned.{HasEnd}

position_or_len-map : {X Y : Type 0} (f : X → Y) (p : Y → Bool) (xs : List X) → position_or_len p (map f xs) ≡ position_or_len (λ x. p (f x)) xs
position_or_len-map f p [] = refl
position_or_len-map f p (x ∷ xs) = grind (arith, position_or_len-map f p xs)

pub position-map : {X Y : Type 0} (f : X → Y) (p : Y → Bool) (xs : List X) → position p (map f xs) ≡ position (λ x. p (f x)) xs
position-map f p xs = simp (position_or_len-map f p xs, length-map) refl

number_where-map : (p : CategoryValue → Bool) (entries : List Entry) → number_where p (map entry_value entries)
    ≡ option_map suc (position (λ (entry : Entry). p (entry_value entry)) (drop 1 entries))
unfolding number_where
number_where-map p entries =
    ap (λ (l : List CategoryValue). option_map suc (position p l)) (drop-map entry_value 1 entries)
    ∙ ap (option_map suc) (position-map entry_value p (drop 1 entries))

pub of_id-map : (entries : List Entry) (id : ℕ) → of_id (map entry_value entries) id
    ≡ option_map suc (position (λ (entry : Entry). has_label (entry_value entry) && (entry.id == id)) (drop 1 entries))
unfolding of_id
of_id-map entries id = number_where-map (λ (entry : CategoryValue). has_label entry && (entry.id == id)) entries

pub unused-map : (entries : List Entry) → unused (map entry_value entries)
    ≡ option_map suc (position (λ (entry : Entry). not (has_label (entry_value entry))) (drop 1 entries))
unfolding unused
unused-map entries = number_where-map (λ (entry : CategoryValue). not (has_label entry)) entries

pub of_label-map : (entries : List Entry) (label : List ℕ) → of_label (map entry_value entries) label
    ≡ position (λ (entry : Entry). bytes_eq (until_zero entry.label) label) entries
unfolding of_label
of_label-map entries label = position-map entry_value (λ (e : CategoryValue). bytes_eq e.label label) entries

pub relabelled-map : (entries others : List Entry) (place number : ℕ) (d e : Entry) → place < length entries → number < length others
    → map entry_value (set entries place (record { label = (get_or others number d).label; id = (get_or entries place e).id }))
    ≡ set (map entry_value entries) place
    (relabelled (entry_at (map entry_value others) number).label (entry_at (map entry_value entries) place))
relabelled-map entries others place number d e here there =
    rw (map-set, get_or-map entry_value others number d no_entry there, get_or-map entry_value entries place e no_entry here) refl

-- ---- a table that is filled from number 0 on

blank : Entry
blank = record { label = []; id = 0 }

pub made_all : (made : ℕ → CategoryValue) (entries : List Entry) → length entries ≡ 16
    → ((k : ℕ) (d : Entry) → k < 16 → entry_value (get_or entries k d) ≡ made k) → map entry_value entries ≡ map made (range_with_len 0 16)
made_all made entries whole each =
    fill_by_all made (map entry_value entries) 16 no_entry (length-map entries entry_value ∙ whole)
    (λ k less. let within : k < length entries = omega arith in get_or-map entry_value entries k blank no_entry within ∙ each k blank less)

-- what one of them says
made_at : (made : ℕ → CategoryValue) (entries : List Entry) → length entries ≡ 16 → map entry_value entries ≡ map made (range_with_len 0 16)
    → (k : ℕ) → k < 16 → entry_value (get_or entries k blank) ≡ made k
made_at made entries whole are k less =
    let within : k < length entries = omega arith in
    sym (get_or-map entry_value entries k blank no_entry within) ∙ ap (λ (l : List CategoryValue). get_or l k no_entry) are
    ∙ get_or-map-range_with_len made 0 16 k k no_entry less (omega arith)

-- one more of them
pub made_more : (made : ℕ → CategoryValue) (entries : List Entry) (number : ℕ) (new : Entry) → number < length entries → entry_value new ≡ made number
    → ((k : ℕ) (d : Entry) → k < number → entry_value (get_or entries k d) ≡ made k)
    → (k : ℕ) (d : Entry) → k < number + 1 → entry_value (get_or (set entries number new) k d) ≡ made k
made_more made entries number new within is each k d less =
    below_more (λ i. entry_value (get_or (set entries number new) i d) ≡ made i) number
    (λ i below. let ne : i ≢ number = omega arith in rw get_or-set_other (each i d below)) (rw get_or-set_same is) k less

-- ---- the entries behind the first

pub behind_first : (entries : List Entry) → length entries ≡ 16 → take 15 (drop 1 entries) ≡ drop 1 entries
behind_first entries whole = take_all 15 (drop 1 entries) (simp length-drop (omega arith))

-- ---- labels that end in their 16 bytes

pub ended_all : (made : ℕ → CategoryValue) (entries : List Entry) → length entries ≡ 16 → map entry_value entries ≡ map made (range_with_len 0 16)
    → All HasEnd entries → (k : ℕ) → k < 16 → length (made k).label < 16
ended_all made entries whole are ends k less =
    subst (λ (e : CategoryValue). length e.label < 16) (made_at made entries whole are k less) (All-get_or HasEnd entries k blank (omega arith) ends)

pub all_ended : (made : ℕ → CategoryValue) (entries : List Entry) → length entries ≡ 16 → map entry_value entries ≡ map made (range_with_len 0 16)
    → ((k : ℕ) → k < 16 → length (made k).label < 16) → All HasEnd entries
all_ended made entries whole are ends =
    All-from_get_or HasEnd entries blank (λ k less. let few : k < 16 = omega arith in
    subst (λ (e : CategoryValue). length e.label < 16) (sym (made_at made entries whole are k few)) (ends k few))

-- ---- what a call answers of a place behind the first

pub place_behind : (found : Option ℕ) (place : ℕ) (sought : Option ℕ) → found ≡ Some place → sought ≡ option_map suc found → Some (place + 1) ≡ sought
place_behind found place sought e f = rw (f, e, add-one) refl

pub none_behind : (found result sought : Option ℕ) → found ≡ None → result ≡ None → sought ≡ option_map suc found → result ≡ sought
none_behind found result sought e r f = rw (f, e, r) refl

pub none_told : (found : Option ℕ) (told : Bool) → is_some found ≡ not told → told ≡ is_none found
none_told None true e = refl
none_told None false e = absurd cc
none_told (Some place) true e = absurd cc
none_told (Some place) false e = refl
