-- The properties of a card, in characters (RFC 2426; `X-ABLABEL`, the label of a group of lines, is
-- what address books of Apple and Google read).
use Rattle.std.specs.Prelude.{ℕ, ◌+◌, ◌==◌, ◌&&◌, Bool, List, [], ◌∷◌, ◌++◌, codes, length, map, if◌then◌else◌}
use Rattle.std.specs.List.{flat_map}
use Rattle.content_lines.specs.Properties.{PropertyValue, given_property, parts_value, plain_property, properties_text, text_property}
use Rattle.content_lines.specs.Records.{mark_properties, uid, unread_bytes, unread_name}
use Rattle.card_export.specs.Cards.{CardValue, CustomValue, FormValue, PersonValue, PhoneValue, PlaceValue}
use Rattle.card_export.specs.Cards.FormValue.{Person, Unread}

-- ---- names

-- a text, or another one where it is empty
abbrev pub text_or : List ℕ → List ℕ → List ℕ
text_or [] other = other
text_or (byte ∷ rest) other = byte ∷ rest

-- the first that is there
abbrev pub first_text : List (List ℕ) → List ℕ
first_text [] = []
first_text (text ∷ others) = text_or text (first_text others)

-- the first and the last name, with a space between them where both are there
abbrev pub full_name : List ℕ → List ℕ → List ℕ
full_name [] last = last
full_name (byte ∷ rest) [] = byte ∷ rest
full_name (byte ∷ rest) (other ∷ last) = byte ∷ rest ++ (codes " " ++ other ∷ last)

-- the text of the first phone
abbrev pub first_phone : List PhoneValue → List ℕ
first_phone [] = []
first_phone (phone ∷ others) = phone.text

-- the name that is shown: the person's, else the company's, else the first phone
abbrev pub shown_name : List ℕ → List ℕ → List ℕ → List PhoneValue → List ℕ
shown_name first last company phones =
    first_text (full_name first last ∷ company ∷ first_phone phones ∷ codes "(no name)" ∷ [])

-- last name, first name, and no further names
abbrev pub name_parts : List ℕ → List ℕ → List (List ℕ)
name_parts last first = last ∷ first ∷ [] ∷ [] ∷ [] ∷ []

-- ---- phones

-- the property and the types of a kind
abbrev pub kind_words : ℕ → List ℕ
kind_words kind =
    if kind == 0 then codes "TEL;TYPE=WORK,VOICE"
    else if kind == 1 then codes "TEL;TYPE=HOME,VOICE"
    else if kind == 2 then codes "TEL;TYPE=FAX"
    else if kind == 3 then codes "TEL;TYPE=VOICE"
    else if kind == 4 then codes "EMAIL;TYPE=INTERNET"
    else if kind == 5 then codes "TEL;TYPE=MAIN"
    else if kind == 6 then codes "TEL;TYPE=PAGER"
    else codes "TEL;TYPE=CELL"

-- the type of the phone that a list shows
abbrev pub preference : Bool → List ℕ
preference shown = if shown then codes ",PREF" else []

-- a phone
abbrev pub phone_property : PhoneValue → PropertyValue
phone_property phone = text_property (kind_words phone.kind ++ preference phone.shown) phone.text

-- ---- postal address

-- no part is there
abbrev pub is_nowhere : PlaceValue → Bool
is_nowhere place =
    length place.street == 0 && (length place.city == 0 && (length place.state == 0
    && (length place.zip == 0 && length place.country == 0)))

-- no post office box, no further address, and the parts
abbrev pub place_parts : PlaceValue → List (List ℕ)
place_parts place =
    [] ∷ [] ∷ place.street ∷ place.city ∷ place.state ∷ place.zip ∷ place.country ∷ []

-- the postal address, where a part is there
abbrev pub place_properties : PlaceValue → List PropertyValue
place_properties place =
    if is_nowhere place then []
    else plain_property (codes "ADR") (parts_value (place_parts place)) ∷ []

-- ---- custom fields

-- custom fields are counted from 1
abbrev pub digit : ℕ → List ℕ
digit number = (49 + number) ∷ []

-- the name of a custom field
abbrev pub custom_name : ℕ → List ℕ
custom_name number =
    codes "custom" ++ (digit number ++ (codes ".X-PALM-CUSTOM" ++ digit number))

-- the name of its label, in the same group
abbrev pub label_name : ℕ → List ℕ
label_name number = codes "custom" ++ (digit number ++ codes ".X-ABLABEL")

-- a custom field, and its label, where it has one
abbrev pub custom_properties : CustomValue → List PropertyValue
custom_properties custom =
    text_property (custom_name custom.number) custom.text
    ∷ given_property (label_name custom.number) custom.label

-- ---- cards

-- the first properties
abbrev pub head_properties : ℕ → List ℕ → List PropertyValue
head_properties id stem =
    plain_property (codes "BEGIN") (codes "VCARD") ∷ plain_property (codes "VERSION") (codes "3.0")
    ∷ plain_property (codes "PRODID") (codes "-//hotsync//Palm address book//EN") ∷ uid id stem ∷ []

-- the name that is shown, and the names of a person
abbrev pub name_properties : List ℕ → List ℕ → List ℕ → List PropertyValue
name_properties shown last first =
    text_property (codes "FN") shown
    ∷ plain_property (codes "N") (parts_value (name_parts last first)) ∷ []

-- a person
abbrev pub person_properties : PersonValue → List PropertyValue
person_properties person =
    name_properties (shown_name person.first person.last person.company person.phones)
    person.last person.first
    ++ (given_property (codes "ORG") person.company ++ (given_property (codes "TITLE") person.title
    ++ (map phone_property person.phones ++ (place_properties person.place
    ++ (flat_map custom_properties person.customs ++ given_property (codes "NOTE") person.note)))))

-- the names of a record that is out of its form
abbrev pub unread_names : ℕ → List PropertyValue
unread_names id = unread_name (codes "FN") id ∷ plain_property (codes "N") (codes ";;;;") ∷ []

-- what a record says
abbrev pub form_properties : ℕ → FormValue → List PropertyValue
form_properties id (Person person) = person_properties person
form_properties id (Unread bytes) = unread_names id ++ unread_bytes bytes ∷ []

-- the last property
abbrev pub card_end : PropertyValue
card_end = plain_property (codes "END") (codes "VCARD")

-- the properties of a card
abbrev pub card_properties : CardValue → List PropertyValue
card_properties card =
    head_properties card.id card.stem
    ++ (form_properties card.id card.form
    ++ (mark_properties card.label card.secret ++ card_end ∷ []))

-- a card behind the other, in UTF-8
abbrev pub cards_text : List CardValue → List ℕ
cards_text cards = properties_text (flat_map card_properties cards)
