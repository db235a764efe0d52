-- Items by their numbers, and how many are of a kind.
use Rattle.std.specs.Prelude.{◌≡◌, ◌<◌, ℕ, suc, ◌==◌, if◌then◌else◌, List, [], ◌∷◌, count_by, Option, None}
use Rattle.std.specs.List.{find}
use Rattle.pdb_values.specs.declared.record.Record.{Record}
use Rattle.made_folders.specs.Sides.{record_on}
use Rattle.made_folders.specs.declared.item.Item.{Item}
use Rattle.made_folders.specs.declared.side.MadeSide.{MadeSide}

-- items with the numbers from one on, each of one of ten kinds
abbrev pub AreMade : ℕ → List Item → Type 0
AreMade from [] = Unit {0}
AreMade from (item ∷ items) = (item.number ≡ from) × ((item.kind < 10) × AreMade (suc from) items)

-- the item of a number
abbrev pub item_at : ℕ → List Item → Option Item
item_at number items = find (λ (item : Item). item.number == number) items

-- the record that a side has of an item under its number; what the desktop made has no id yet
abbrev pub known_on : MadeSide → Item → Option Record
known_on side item = if item.kind == 9 then None else record_on side item

-- how many items are of a kind
abbrev pub kinds : ℕ → List Item → ℕ
kinds kind items = count_by (λ (item : Item). item.kind == kind) items
