-- The columns of addresses (Palm File Format Specification; pilot-link's address.h).
use Rattle.std.specs.Prelude.{ℕ, ◌+◌, ◌-◌, ◌==◌, ◌&&◌, List, [], ◌∷◌, ◌++◌, codes, length, nat_le, nat_lt, slice_index, if◌then◌else◌}
use Rattle.std.specs.List.{flat_map, range_with_len}
use Rattle.palm_records.specs.Addresses.{AddressValue}
use Rattle.card_export.specs.Exports.{field_text}
use Rattle.card_export.specs.Labels.{custom_label}
use Rattle.table_export.specs.Tables.{palm_field}

-- the word for a kind of phone
abbrev pub kind_word : ℕ → List ℕ
kind_word kind =
    if kind == 0 then codes "work"
    else if kind == 1 then codes "home"
    else if kind == 2 then codes "fax"
    else if kind == 3 then codes "other"
    else if kind == 4 then codes "e-mail"
    else if kind == 5 then codes "main"
    else if kind == 6 then codes "pager"
    else codes "mobile"

-- the kind of the phone in a field, nothing where there is no phone
abbrev pub phone_kind : AddressValue → ℕ → List ℕ
phone_kind address number =
    if length (field_text address number) == 0 then []
    else kind_word (slice_index address.kinds (number - 3))

-- the kind of the phone in a field, where the field is one: 3 to 7 are phones
abbrev pub kind_columns : AddressValue → ℕ → List (List ℕ)
kind_columns address number =
    if nat_le 3 number && nat_lt number 8 then phone_kind address number ∷ [] else []

-- the columns of a field: a phone stands behind its kind
abbrev pub field_columns : AddressValue → ℕ → List (List ℕ)
field_columns address number =
    kind_columns address number ++ palm_field (field_text address number) ∷ []

-- the columns of the first fields
unfoldable pub columns_before : ℕ → AddressValue → List (List ℕ)
columns_before count address = flat_map (field_columns address) (range_with_len 0 count)

-- the columns of the nineteen fields
abbrev pub address_columns : AddressValue → List (List ℕ)
address_columns address = columns_before 19 address

-- the name of a custom field that has no label, counted from 1
abbrev pub plain_name : ℕ → List ℕ
plain_name number = codes "custom " ++ (49 + number) ∷ []

-- the name of a custom field: its label in the app block, where it has one
abbrev pub custom_name : List ℕ → ℕ → List ℕ
custom_name block number =
    if length (custom_label block number) == 0 then plain_name number
    else palm_field (custom_label block number)

-- the names of the columns between the category and the custom fields
abbrev pub person_names : List (List ℕ)
person_names =
    codes "last name" ∷ codes "first name" ∷ codes "company"
    ∷ codes "phone 1 kind" ∷ codes "phone 1" ∷ codes "phone 2 kind" ∷ codes "phone 2"
    ∷ codes "phone 3 kind" ∷ codes "phone 3" ∷ codes "phone 4 kind" ∷ codes "phone 4"
    ∷ codes "phone 5 kind" ∷ codes "phone 5"
    ∷ codes "address" ∷ codes "city" ∷ codes "state" ∷ codes "zip code"
    ∷ codes "country" ∷ codes "title" ∷ []

-- the names of the custom fields
abbrev pub custom_names : List ℕ → List (List ℕ)
custom_names block =
    custom_name block 0 ∷ custom_name block 1
    ∷ custom_name block 2 ∷ custom_name block 3 ∷ []

-- the names of the columns of addresses, with the labels of an app block
abbrev pub address_names : List ℕ → List (List ℕ)
address_names block = person_names ++ (custom_names block ++ codes "note" ∷ [])
