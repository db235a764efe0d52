-- The merge of two tables of categories: which table both sides have then, and where each number of
-- the desktop's goes.
use Rattle.std.specs.Prelude.{◌≡◌, ℕ, zero, suc, true, ◌==◌, ◌&&◌, Bool, not, List, [], ◌∷◌, Option, None, Some}
use Rattle.std.specs.Prelude.{drop, is_none, map, max, position, replicate, slice_index, slice_set, if◌then◌else◌}
use Rattle.std.specs.List.{range_with_len}
use Rattle.std.specs.Option.{option_map}
use Rattle.std.specs.Str.{bytes_eq}
use Rattle.category_tables.specs.Tables.{CategoryValue, TableValue, entry_at, has_label, is_renamed, is_used, no_entry}

-- the least number from 1 on whose entry passes
unfoldable pub number_where : (CategoryValue → Bool) → List CategoryValue → Option ℕ
number_where passes entries = option_map suc (position passes (drop 1 entries))

-- the used entry with this id
unfoldable pub of_id : List CategoryValue → ℕ → Option ℕ
of_id entries id =
    number_where (λ (entry : CategoryValue). has_label entry && (entry.id == id)) entries

-- the least entry with this label, number 0 among them
unfoldable pub of_label : List CategoryValue → List ℕ → Option ℕ
of_label entries label = position (λ (entry : CategoryValue). bytes_eq entry.label label) entries

-- the least unused number
unfoldable pub unused : List CategoryValue → Option ℕ
unused entries = number_where (λ entry. not (has_label entry)) entries

-- a table in the making, and where each number of the desktop's goes
pub record MergingValue : Type 0 where
  pub entries : List CategoryValue
  pub places : List ℕ

-- the number goes to this place
abbrev pub with_place : ℕ → ℕ → MergingValue → MergingValue
with_place number place merging =
    record merging { places = slice_set merging.places number place }

-- an entry with this label in place of its own
abbrev pub relabelled : List ℕ → CategoryValue → CategoryValue
relabelled label entry = record { label = label; id = entry.id }

-- the place has the label that the desktop gave to the number, where it renamed it
abbrev pub with_label : TableValue → ℕ → ℕ → List CategoryValue → List CategoryValue
with_label desktop number place entries =
    if is_renamed desktop number
    then slice_set entries place
    (relabelled (entry_at desktop.entries number).label (entry_at entries place))
    else entries

-- first: a number of the desktop's goes to the handheld's entry of its id
abbrev pub joined : TableValue → ℕ → Option ℕ → MergingValue → MergingValue
joined desktop number None merging = merging
joined desktop number (Some place) merging = record {
  entries = with_label desktop number place merging.entries;
  places = slice_set merging.places number place;
}

unfoldable pub by_id : TableValue → TableValue → ℕ → MergingValue → MergingValue
by_id handheld desktop number merging =
    if is_used desktop.entries number
    then joined desktop number (of_id handheld.entries (entry_at desktop.entries number).id) merging
    else merging

-- then: another one fills an unused entry, where there is one
abbrev pub filled : CategoryValue → ℕ → Option ℕ → MergingValue → MergingValue
filled entry number None merging = merging
filled entry number (Some place) merging = record {
  entries = slice_set merging.entries place entry;
  places = slice_set merging.places number place;
}

-- but where a label stands already, it goes there
abbrev pub labelled : CategoryValue → ℕ → Option ℕ → MergingValue → MergingValue
labelled entry number None merging = filled entry number (unused merging.entries) merging
labelled entry number (Some place) merging = with_place number place merging

-- a number goes to the least entry with its label, or else it fills one
abbrev pub with_entry : CategoryValue → ℕ → MergingValue → MergingValue
with_entry entry number merging =
    labelled entry number (of_label merging.entries entry.label) merging

-- it is used, and the handheld has no entry of its id
unfoldable pub is_new : TableValue → TableValue → ℕ → Bool
is_new handheld desktop number =
    is_used desktop.entries number
    && is_none (of_id handheld.entries (entry_at desktop.entries number).id)

unfoldable pub by_label : TableValue → TableValue → ℕ → MergingValue → MergingValue
by_label handheld desktop number merging =
    if is_new handheld desktop number
    then with_entry (entry_at desktop.entries number) number merging
    else merging

-- the numbers from 1 to this one, each in turn
unfoldable pub rounds : (ℕ → MergingValue → MergingValue) → ℕ → MergingValue → MergingValue
rounds step zero merging = merging
rounds step (suc number) merging = step (suc number) (rounds step number merging)

-- a used entry is the handheld's, another one is empty
abbrev pub kept_at : List CategoryValue → ℕ → CategoryValue
kept_at entries number = if is_used entries number then entry_at entries number else no_entry

abbrev pub kept : List CategoryValue → List CategoryValue
kept entries = map (kept_at entries) (range_with_len 0 16)

-- the handheld's entries, and no number went anywhere yet
abbrev pub begun : TableValue → MergingValue
begun handheld = record { entries = kept handheld.entries; places = replicate 16 0 }

unfoldable pub merging : TableValue → TableValue → MergingValue
merging handheld desktop =
    rounds (by_label handheld desktop) 15 (rounds (by_id handheld desktop) 15 (begun handheld))

-- the greatest of these ids, and of this one
unfoldable pub greatest : ℕ → List CategoryValue → ℕ
greatest last [] = last
greatest last (entry ∷ entries) = greatest (max last entry.id) entries

-- the merged table
unfoldable pub merged_table : TableValue → TableValue → TableValue
merged_table handheld desktop = record {
  flags = 0;
  entries = (merging handheld desktop).entries;
  last = greatest (max handheld.last desktop.last) (merging handheld desktop).entries;
}

-- where each number of the desktop's goes; an unused one, and one that found no place, goes to 0
unfoldable pub places_of : TableValue → TableValue → List ℕ
places_of handheld desktop = (merging handheld desktop).places

-- where one of them goes
abbrev pub goes_to : TableValue → TableValue → ℕ → ℕ
goes_to handheld desktop number = slice_index (places_of handheld desktop) number

-- a number that a table uses stays where the table is merged with itself
abbrev pub StaysOwn : TableValue → ℕ → Type 0
StaysOwn table number = is_used table.entries number ≡ true → goes_to table table number ≡ number

-- where the handheld has the id of a number of the desktop's
abbrev pub own_place : TableValue → TableValue → ℕ → Option ℕ
own_place handheld desktop number =
    of_id handheld.entries (entry_at desktop.entries number).id
