-- Cards: what an exported address says. Texts are a Palm's bytes; an empty one is no field.
use Rattle.std.specs.Prelude.{◌≡◌, ◌<◌, ℕ, Bool, true, List, All}
use Rattle.content_lines.specs.Lines.{has_no_break}
use Rattle.content_lines.specs.Properties.{IsBytes}
use Rattle.content_lines.specs.Records.{id_limit}

-- a phone: what it is (0 work, 1 home, 2 fax, 3 other, 4 e-mail, 5 main, 6 pager, 7 mobile), and
-- whether a list shows it
pub record PhoneValue : Type 0 where
  pub kind : ℕ
  pub shown : Bool
  pub text : List ℕ

-- a postal address
pub record PlaceValue : Type 0 where
  pub street : List ℕ
  pub city : List ℕ
  pub state : List ℕ
  pub zip : List ℕ
  pub country : List ℕ

-- one of the four custom fields, counted from 0, under the label that its database gives to it
pub record CustomValue : Type 0 where
  pub number : ℕ
  pub label : List ℕ
  pub text : List ℕ

-- what an address says; phones and custom fields are those that are there, in their order
pub record PersonValue : Type 0 where
  pub last : List ℕ
  pub first : List ℕ
  pub company : List ℕ
  pub title : List ℕ
  pub phones : List PhoneValue
  pub place : PlaceValue
  pub customs : List CustomValue
  pub note : List ℕ

-- what a record says, or its bytes, where it is out of its form
pub data FormValue : Type 0 where
  Person : PersonValue → FormValue
  Unread : List ℕ → FormValue

-- a card: the id of its record, the file stem of its database, what it says, the label of its
-- category, whether it is private
pub record CardValue : Type 0 where
  pub id : ℕ
  pub stem : List ℕ
  pub form : FormValue
  pub label : List ℕ
  pub secret : Bool

-- a phone has one of the eight kinds
pub record IsPhone (phone : PhoneValue) : Type 0 where
  pub kind : phone.kind < 8
  pub text : IsBytes phone.text

-- its parts are bytes
pub record IsPlace (place : PlaceValue) : Type 0 where
  pub street : IsBytes place.street
  pub city : IsBytes place.city
  pub state : IsBytes place.state
  pub zip : IsBytes place.zip
  pub country : IsBytes place.country

-- it is one of the four
pub record IsCustom (custom : CustomValue) : Type 0 where
  pub number : custom.number < 4
  pub label : IsBytes custom.label
  pub text : IsBytes custom.text

-- phones have kinds, custom fields are of the four, and texts are bytes
pub record IsPerson (person : PersonValue) : Type 0 where
  pub last : IsBytes person.last
  pub first : IsBytes person.first
  pub company : IsBytes person.company
  pub title : IsBytes person.title
  pub phones : All IsPhone person.phones
  pub place : IsPlace person.place
  pub customs : All IsCustom person.customs
  pub note : IsBytes person.note

-- a person, or bytes
abbrev pub IsForm : FormValue → Type 0
IsForm (Person person) = IsPerson person
IsForm (Unread bytes) = IsBytes bytes

-- ids of 24 bits, stems without line breaks, texts of bytes
pub record IsCard (card : CardValue) : Type 0 where
  pub id : card.id < id_limit
  pub stem : has_no_break card.stem ≡ true
  pub form : IsForm card.form
  pub label : IsBytes card.label
