-- What a seed and a count make: the generator PCG32 (XSH RR 64/32) draws a word for each number
-- from 1 on.
use Rattle.std.specs.Prelude.{ℕ, zero, suc, ◌/◌, ◌%◌, List, [], ◌∷◌}
use Rattle.rand_pcg.specs.Lcg.{Lcg, increment_of, started}
use Rattle.rand_pcg.specs.Pcg.{multiplier_64, pcg32}
use Rattle.made_folders.specs.declared.item.Item.{Item}

-- the kind and the fill of a number, by its word
abbrev pub item_of : ℕ → ℕ → Item
item_of number word = record { number = number; kind = word % 10; fill = word / 16 % 200 }

-- so many items, from this number on
unfoldable pub items_from : ℕ → ℕ → Lcg → List Item
items_from number zero generator = []
items_from number (suc count) generator =
    item_of number (pcg32 generator).0 ∷ items_from (suc number) count (pcg32 generator).1

-- the generator of a seed, in its stream 0
abbrev pub generator_of : ℕ → Lcg
generator_of seed = started 64 multiplier_64 seed (increment_of 64 0)

-- the items of a seed, from 1 up to a count
abbrev pub made : ℕ → ℕ → List Item
made seed count = items_from 1 count (generator_of seed)
