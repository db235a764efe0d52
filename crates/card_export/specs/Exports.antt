-- The cards that are exported of a database of addresses (Palm File Format Specification;
-- pilot-link's address.h).
use Rattle.std.specs.Prelude.{◌≡◌, true, ℕ, ◌+◌, ◌<◌, ◌==◌, Bool, not, List, [], ◌∷◌, codes, filter, length, map, Option, None, Some, Result, Ok, Err, slice_index, slice_index_or, if◌then◌else◌}
use Rattle.std.specs.List.{range_with_len}
use Rattle.pdb_values.specs.declared.head.DbHead.{DbHead}
use Rattle.pdb_values.specs.declared.record.Record.{Record}
use Rattle.pdb_values.specs.Databases.{DatabaseValue}
use Rattle.pdb_values.specs.Stems.{stem_of}
use Rattle.palm_records.specs.Addresses.{AddressValue, address_in}
use Rattle.palm_records.specs.declared.choice.Privacy.{Privacy}
use Rattle.palm_records.specs.declared.choice.BrokenRecords.{BrokenRecords}
use Rattle.palm_records.specs.declared.choice.BrokenRecords.TheVariants.{Refused}
use Rattle.palm_records.specs.Choices.{BadItem, first_bad, is_exported, shown_label}
use Rattle.content_lines.specs.Properties.{IsBytes, PropertyValue}
use Rattle.content_lines.specs.Records.{id_limit}
use Rattle.content_lines.specs.Refusals.{address_place, fault_by, holds}
use Rattle.card_export.specs.Cards.{CardValue, CustomValue, FormValue, PersonValue, PhoneValue, PlaceValue}
use Rattle.card_export.specs.Cards.FormValue.{Person, Unread}
use Rattle.card_export.specs.Labels.{custom_label}
use Rattle.card_export.specs.Properties.{card_properties, custom_properties, phone_property, shown_name}

-- a database of addresses: records of type `DATA` and creator `addr`
abbrev pub holds_addresses : DbHead → Bool
holds_addresses head = holds (codes "addr") head

-- a text, empty where it is not there
abbrev pub text_of : Option (List ℕ) → List ℕ
text_of None = []
text_of (Some bytes) = bytes

-- the text of a field, empty where it is not there
abbrev pub field_text : AddressValue → ℕ → List ℕ
field_text address number = text_of (slice_index_or address.fields number None)

-- the phone at a place, from 0
abbrev pub phone_of : AddressValue → ℕ → PhoneValue
phone_of address place = record {
  kind = slice_index address.kinds place;
  shown = place == address.shown;
  text = field_text address (3 + place);
}

-- it is there
abbrev pub has_number : PhoneValue → Bool
has_number phone = not (length phone.text == 0)

-- the phones that are there, of those at the first places
unfoldable pub phones_before : ℕ → AddressValue → List PhoneValue
phones_before count address = filter has_number (map (phone_of address) (range_with_len 0 count))

-- the phone at a place, where it is there
abbrev pub phone_at : AddressValue → ℕ → List PropertyValue
phone_at address place =
    if has_number (phone_of address place) then phone_property (phone_of address place) ∷ []
    else []

-- the name that is shown of an address
abbrev pub shown_name_of : AddressValue → List ℕ
shown_name_of address =
    shown_name (field_text address 1) (field_text address 0) (field_text address 2)
    (phones_before 5 address)

-- the postal address
abbrev pub place_of : AddressValue → PlaceValue
place_of address = record {
  street = field_text address 8;
  city = field_text address 9;
  state = field_text address 10;
  zip = field_text address 11;
  country = field_text address 12;
}

-- the custom field with a number, from 0, under the label that an app block gives to it
abbrev pub custom_of : List ℕ → AddressValue → ℕ → CustomValue
custom_of block address number = record {
  number = number;
  label = custom_label block number;
  text = field_text address (14 + number);
}

-- it is there
abbrev pub has_text : CustomValue → Bool
has_text custom = not (length custom.text == 0)

-- the custom fields that are there, of the first ones
unfoldable pub customs_before : ℕ → List ℕ → AddressValue → List CustomValue
customs_before count block address =
    filter has_text (map (custom_of block address) (range_with_len 0 count))

-- a custom field, where it is there
abbrev pub custom_at : List ℕ → AddressValue → ℕ → List PropertyValue
custom_at block address number =
    if has_text (custom_of block address number)
    then custom_properties (custom_of block address number) else []

-- what an address says, with the labels of an app block
abbrev pub person_of : List ℕ → AddressValue → PersonValue
person_of block address = record {
  last = field_text address 0;
  first = field_text address 1;
  company = field_text address 2;
  title = field_text address 13;
  phones = phones_before 5 address;
  place = place_of address;
  customs = customs_before 4 block address;
  note = field_text address 18;
}

-- what a record's bytes say with an app block, where they are in the form of an address
abbrev pub form_of : List ℕ → List ℕ → Result AddressValue ℕ → FormValue
form_of block bytes (Ok address) = Person (person_of block address)
form_of block bytes (Err place) = Unread bytes

-- the card of a record, with a database's stem and the labels of its app block
abbrev pub card_of : List ℕ → Option (List ℕ) → Record → CardValue
card_of stem app item = record {
  id = item.id;
  stem = stem;
  form = form_of (text_of app) item.content.bytes (address_in item.content.bytes);
  label = shown_label app item.content.category;
  secret = item.content.secret;
}

-- the cards that are exported, in the order of their records
abbrev pub exported_cards : Privacy → DatabaseValue → List CardValue
exported_cards wanted database =
    map (card_of (stem_of database.head.name) database.app)
    (filter (is_exported wanted) database.records)

-- the first record that is exported and out of its form, if any is
abbrev pub first_bad_address : Privacy → DatabaseValue → Option BadItem
first_bad_address wanted database = first_bad (fault_by address_place) wanted 0 database.records

-- there are no cards of a database of addresses, since the record of this number is the first such
-- one, broken at this place, and such records are not kept
abbrev pub IsRefusedAt : Privacy → BrokenRecords → DatabaseValue → ℕ → ℕ → Type 0
IsRefusedAt wanted broken database index place =
    (holds_addresses database.head ≡ true) × (broken ≡ Refused)
    × (first_bad_address wanted database ≡ Some (record { index = index; place = place }))

-- an id has 24 bits, and what a record and an app block hold are bytes
pub record IsStored (app : Option (List ℕ)) (item : Record) : Type 0 where
  pub id : item.id < id_limit
  pub bytes : IsBytes item.content.bytes
  pub block : IsBytes (text_of app)
  pub label : IsBytes (shown_label app item.content.category)

-- so it is of a record that is exported
abbrev pub IsItem : Option (List ℕ) → Privacy → Record → Type 0
IsItem app wanted item = is_exported wanted item ≡ true → IsStored app item

-- what a record adds to the cards
abbrev pub item_properties : List ℕ → Option (List ℕ) → Privacy → Record → List PropertyValue
item_properties stem app wanted item =
    if is_exported wanted item then card_properties (card_of stem app item) else []
