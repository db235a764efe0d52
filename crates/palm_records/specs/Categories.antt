-- Categories at the head of an app block (Palm File Format Specification; pilot-link's
-- pi-appinfo.h): 2 bytes, then 16 labels, then ids.
use Rattle.std.specs.Prelude.{ℕ, ◌+◌, ◌*◌, List, [], Option, None, Some, drop, length, nat_lt, take, if◌then◌else◌}
use Rattle.palm_records.specs.Strings.{until_zero}

-- the length of the categories
abbrev pub categories_length : ℕ
categories_length = 276

-- the length of a label
abbrev pub label_length : ℕ
label_length = 16

-- the label of a category in a block; one that is too short has none
abbrev pub label_in : List ℕ → ℕ → List ℕ
label_in block category =
    if nat_lt (length block) categories_length then []
    else until_zero (take label_length (drop (2 + label_length * category) block))

-- the label that an app block gives to a category, empty where it has none
abbrev pub category_label : Option (List ℕ) → ℕ → List ℕ
category_label None category = []
category_label (Some block) category = label_in block category
