-- Addresses (Palm File Format Specification; pilot-link's address.h): four bytes with the shown
-- phone and the kinds of the five phones, four bytes with a bit for each field that is there, a
-- byte that is not looked at, and a string for each bit that is set. What follows is not looked at.
use Rattle.std.specs.Prelude.{◌≡◌, ℕ, zero, suc, ◌-◌, ◌/◌, ◌%◌, ◌==◌, ◌&&◌, ◌||◌, Bool, List, [], ◌∷◌, ◌++◌, Option, None, Some, Result, Ok, Err, drop, length, map, nat_le, nat_lt, option_copied, option_map, take, if◌then◌else◌}
use Rattle.byteorder.specs.Endian.{big_number}
use Rattle.palm_records.specs.declared.bad_record.BadRecord.{BadRecord}
use Rattle.palm_records.specs.declared.address.Address.{Address}
use Rattle.palm_records.specs.declared.address.Fields.{Fields}
use Rattle.palm_records.specs.declared.address.Unended.{Unended}
use Rattle.palm_records.specs.Strings.{first_zero}

-- the fields from 0 on: last name, first name, company, phones 1 to 5, address, city, state, zip
-- code, country, title, custom 1 to 4, note
abbrev pub field_count : ℕ
field_count = 19

-- what a record says of an address
pub record AddressValue : Type 0 where
  -- the number of the phone that a list shows, from 0
  pub shown : ℕ
  -- what each of the five phones is: 0 work, 1 home, 2 fax, 3 other, 4 e-mail, 5 main, 6 pager, 7
  -- mobile
  pub kinds : List ℕ
  pub fields : List (Option (List ℕ))

-- an address whose texts lie in its record
abbrev pub address_value : Address → AddressValue
address_value address = record {
  shown = address.shown;
  kinds = address.kinds;
  fields = map option_copied address.fields;
}

-- the word with the phones: from the top 8 bits that are not looked at, the shown phone, the kinds
-- of phones 5, 4, 3, 2, 1, of 4 bits each
abbrev pub phone_word : List ℕ → ℕ
phone_word bytes = big_number 4 bytes

-- the shown phone
abbrev pub shown_of : ℕ → ℕ
shown_of word = word / 1048576 % 16

-- the kinds of the phones 1 to 5
abbrev pub kinds_of : ℕ → List ℕ
kinds_of word =
    word % 16 ∷ word / 16 % 16 ∷ word / 256 % 16 ∷ word / 4096 % 16 ∷ word / 65536 % 16 ∷ []

-- the word with the bits of the fields, the first one lowest
abbrev pub field_bits : List ℕ → ℕ
field_bits bytes = big_number 4 (drop 4 bytes)

-- the string at the head of bytes and what is behind it, where a zero byte ends it
abbrev pub string_in : List ℕ → Option (Option (List ℕ) × List ℕ)
string_in bytes =
    option_map (λ place. (Some (take place bytes), drop (suc place) bytes)) (first_zero bytes)

-- the next field by the lowest bit, and what is behind it
abbrev pub field_in : ℕ → List ℕ → Option (Option (List ℕ) × List ℕ)
field_in bits bytes = if bits % 2 == 0 then Some (None, bytes) else string_in bytes

-- what comes of what was found, or how many bytes are left
abbrev pub or_left : List ℕ → (Option (List ℕ) × List ℕ → Result (List (Option (List ℕ))) ℕ)
    → Option (Option (List ℕ) × List ℕ) → Result (List (Option (List ℕ))) ℕ
or_left bytes next None = Err (length bytes)
or_left bytes next (Some found) = next found

-- so many fields behind those before; else how many bytes are left from a string on that nothing
-- ends
unfoldable pub fields_at : ℕ → ℕ → List (Option (List ℕ)) → List ℕ
    → Result (List (Option (List ℕ))) ℕ
fields_at zero bits before bytes = Ok before
fields_at (suc count) bits before bytes =
    or_left bytes (λ found. fields_at count (bits / 2) (before ++ found.0 ∷ []) found.1)
    (field_in bits bytes)

-- the answer is what a reading gives
abbrev pub ReadsFields : Result Fields Unended → Result (List (Option (List ℕ))) ℕ → Type 0
ReadsFields (Ok fields) said = said ≡ Ok (map option_copied fields.all)
ReadsFields (Err unended) said = said ≡ Err unended.left

-- a phone whose field is not there may have any kind, another one has one of the eight
abbrev pub is_kind : ℕ → ℕ → Bool
is_kind bit kind = bit % 2 == 0 || nat_le kind 7

-- so do all five phones, whose fields have the bits from 3 on
abbrev pub are_kinds : ℕ → ℕ → Bool
are_kinds bits word =
    is_kind (bits / 8) (word % 16)
    && (is_kind (bits / 16) (word / 16 % 16) && (is_kind (bits / 32) (word / 256 % 16)
    && (is_kind (bits / 64) (word / 4096 % 16) && is_kind (bits / 128) (word / 65536 % 16))))

-- the address with these fields, if its phones have kinds
abbrev pub with_fields : List ℕ → Result (List (Option (List ℕ))) ℕ → Result AddressValue ℕ
with_fields bytes (Err left) = Err (length bytes - left)
with_fields bytes (Ok fields) =
    if are_kinds (field_bits bytes) (phone_word bytes)
    then Ok (record {
      shown = shown_of (phone_word bytes);
      kinds = kinds_of
          (phone_word bytes);
      fields = fields;
    }) else Err 0

-- the address of the bytes, or the place of the first rule that they break: they hold the head, no
-- bit has no field, each string is ended, each phone has a kind
abbrev pub address_in : List ℕ → Result AddressValue ℕ
address_in bytes =
    if nat_lt (length bytes) 9 then Err (length bytes)
    else (if nat_le 524288 (field_bits bytes) then Err 4
    else with_fields bytes (fields_at field_count (field_bits bytes) [] (drop 9 bytes)))

-- the answer is what a reading gives
abbrev pub ReadsAddress : Result Address BadRecord → Result AddressValue ℕ → Type 0
ReadsAddress (Ok address) said = said ≡ Ok (address_value address)
ReadsAddress (Err bad) said = said ≡ Err bad.place
