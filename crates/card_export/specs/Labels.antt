-- The labels of custom fields in the app block of addresses (Palm File Format Specification;
-- pilot-link's address.h): behind 276 bytes of categories, 2 bytes and 4 bytes stand the labels of
-- the fields from 0 on, of 16 bytes each.
use Rattle.std.specs.Prelude.{ℕ, ◌+◌, ◌*◌, List, [], drop, length, nat_lt, take, if◌then◌else◌}
use Rattle.palm_records.specs.Strings.{until_zero}

-- where the label of a custom field begins, counted from 0; the first one is the field 14
abbrev pub label_place : ℕ → ℕ
label_place number = 282 + 16 * (14 + number)

-- the label that an app block gives to a custom field, empty where the block ends before it
abbrev pub custom_label : List ℕ → ℕ → List ℕ
custom_label block number =
    if nat_lt (length block) (label_place number + 16) then []
    else until_zero (take 16 (drop (label_place number) block))
