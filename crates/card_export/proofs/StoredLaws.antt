-- What is exported of stored records are cards.
use Rattle.std.proofs.lemmas.Bool.{and_parts}
use Rattle.std.proofs.lemmas.Bool.Decides.{nat_tests}
use Rattle.std.proofs.lemmas.List.Elements.{All-cons, All-nil, All-weaker}
use Rattle.std.proofs.Common.{arith, ◌≡◌, ◌∙◌, ◌<◌, ◌/◌, ◌%◌, ◌==◌, ap, refl, sym, subst, ℕ, zero, suc, ◌+◌, Bool, true, false, cond, List, [], ◌∷◌, ◌++◌, append_assoc, append-nil, drop, length, map, take, Option, None, Some, Result, Ok, Err}
use Rattle.std.specs.Prelude.{All, option_map, filter, nat_le, nat_lt, slice_index, slice_index_or, if◌then◌else◌}
use Rattle.std.specs.List.{range_with_len}
use Rattle.pdb_values.specs.declared.record.Record.{Record}
use Rattle.pdb_values.specs.Stems.{stem_of}
use Rattle.palm_records.specs.Addresses.{AddressValue, address_in, are_kinds, field_bits, fields_at, is_kind, kinds_of, or_left, phone_word, string_in, with_fields}
use Rattle.palm_records.specs.Strings.{first_zero, until_zero}
use Rattle.palm_records.specs.declared.choice.Privacy.{Privacy}
use Rattle.palm_records.specs.Choices.{is_exported}
use Rattle.content_lines.specs.Properties.{IsBytes, is_plain}
use Rattle.content_lines.proofs.ByteLaws.{IsBytes-drop, IsBytes-front, IsBytes-nil, IsBytes-take}
use Rattle.content_lines.proofs.ExportLaws.{exported-all}
use Rattle.content_lines.proofs.ValueLaws.{unbroken-plain}
use Rattle.card_export.specs.Cards.{IsCard, IsCustom, IsForm, IsPerson, IsPhone}
use Rattle.card_export.specs.Exports.{IsItem, IsStored, card_of, custom_of, customs_before, field_text, form_of, has_number, has_text, person_of, phone_of, phones_before, text_of}
use Rattle.card_export.specs.Labels.{custom_label, label_place}

-- ---- labels

IsBytes-either : (b : Bool) (bytes : List ℕ) → IsBytes bytes → IsBytes (if b then [] else bytes)
IsBytes-either true bytes h = IsBytes-nil
IsBytes-either false bytes h = h

IsBytes-label : (block : List ℕ) (number : ℕ) → IsBytes block → IsBytes (custom_label block number)
IsBytes-label block number h =
    let label = take 16 (drop (label_place number) block) in
    IsBytes-either (nat_lt (length block) (label_place number + 16)) (until_zero label)
    (IsBytes-front (first_zero label) label (IsBytes-take 16 (drop (label_place number) block) (IsBytes-drop (label_place number) block h)))

-- ---- fields

-- a field that is there has its bit, the first one lowest, and bytes
Marked : ℕ → List (Option (List ℕ)) → Type 0
Marked bits [] = Unit {0}
Marked bits (None ∷ fields) = Marked (bits / 2) fields
Marked bits (Some bytes ∷ fields) = (bits % 2 ≡ 1) × IsBytes bytes × Marked (bits / 2) fields

fields_marked : (count bits : ℕ) (before : List (Option (List ℕ))) (bytes : List ℕ) (fields : List (Option (List ℕ))) → IsBytes bytes
    → fields_at count bits before bytes ≡ Ok fields → (rest : List (Option (List ℕ))) × (fields ≡ before ++ rest) × Marked bits rest
unfolding fields_at Marked
fields_marked zero bits before bytes fields h e =
    let same : before ≡ fields = cc in
    ([], sym same ∙ sym (append-nil before), tt)
fields_marked (suc count) bits before bytes fields h e =
    by_bit (λ front rest is_bytes found. fields_marked count (bits / 2) front rest fields is_bytes found) (bits % 2 == 0) refl e
  where
    absent : ((front : List (Option (List ℕ))) (rest : List ℕ) → IsBytes rest → fields_at count (bits / 2) front rest ≡ Ok fields
        → (later : List (Option (List ℕ))) × (fields ≡ front ++ later) × Marked (bits / 2) later)
        → fields_at count (bits / 2) (before ++ None ∷ []) bytes ≡ Ok fields → (rest : List (Option (List ℕ))) × (fields ≡ before ++ rest) × Marked bits rest
    absent next found =
        let later = next (before ++ None ∷ []) bytes h found in
        (None ∷ later.0, later.1 ∙ append_assoc before (None ∷ []) later.0, later.2)

    there : ((front : List (Option (List ℕ))) (rest : List ℕ) → IsBytes rest → fields_at count (bits / 2) front rest ≡ Ok fields
        → (later : List (Option (List ℕ))) × (fields ≡ front ++ later) × Marked (bits / 2) later) → (place : ℕ) → (bits % 2 == 0) ≡ false
        → fields_at count (bits / 2) (before ++ Some (take place bytes) ∷ []) (drop (suc place) bytes) ≡ Ok fields
        → (rest : List (Option (List ℕ))) × (fields ≡ before ++ rest) × Marked bits rest
    there next place is found =
        let later = next (before ++ Some (take place bytes) ∷ []) (drop (suc place) bytes) (IsBytes-drop (suc place) bytes h) found in
        let odd : bits % 2 ≡ 1 = grind (arith, nat_tests, is) in
        (Some (take place bytes) ∷ later.0, later.1 ∙ append_assoc before (Some (take place bytes) ∷ []) later.0, (odd, IsBytes-take place bytes h, later.2))

    by_zero : ((front : List (Option (List ℕ))) (rest : List ℕ) → IsBytes rest → fields_at count (bits / 2) front rest ≡ Ok fields
        → (later : List (Option (List ℕ))) × (fields ≡ front ++ later) × Marked (bits / 2) later) → (zero_at : Option ℕ) → (bits % 2 == 0) ≡ false
        → or_left bytes (λ found. fields_at count (bits / 2) (before ++ found.0 ∷ []) found.1)
        (option_map (λ place. (Some (take place bytes), drop (suc place) bytes)) zero_at) ≡ Ok fields
        → (rest : List (Option (List ℕ))) × (fields ≡ before ++ rest) × Marked bits rest
    by_zero next None odd found = cc
    by_zero next (Some place) odd found = there next place odd found

    by_bit : ((front : List (Option (List ℕ))) (rest : List ℕ) → IsBytes rest → fields_at count (bits / 2) front rest ≡ Ok fields
        → (later : List (Option (List ℕ))) × (fields ≡ front ++ later) × Marked (bits / 2) later) → (b : Bool) → (bits % 2 == 0) ≡ b
        → or_left bytes (λ found. fields_at count (bits / 2) (before ++ found.0 ∷ []) found.1) (if b then Some (None, bytes) else string_in bytes) ≡ Ok fields
        → (rest : List (Option (List ℕ))) × (fields ≡ before ++ rest) × Marked bits rest
    by_bit next true is found = absent next found
    by_bit next false is found = by_zero next (first_zero bytes) is found

halves : ℕ → ℕ → ℕ
halves zero bits = bits
halves (suc k) bits = halves k (bits / 2)

text_bytes : (k bits : ℕ) (fields : List (Option (List ℕ))) → Marked bits fields → IsBytes (text_of (slice_index_or fields k None))
unfolding Marked
text_bytes k bits [] marked = IsBytes-nil
text_bytes zero bits (None ∷ fields) marked = IsBytes-nil
text_bytes zero bits (Some bytes ∷ fields) marked = marked.1
text_bytes (suc k) bits (None ∷ fields) marked = text_bytes k (bits / 2) fields marked
text_bytes (suc k) bits (Some bytes ∷ fields) marked = text_bytes k (bits / 2) fields marked.2

bit_there : (k bits : ℕ) (fields : List (Option (List ℕ))) → Marked bits fields → 0 < length (text_of (slice_index_or fields k None)) → halves k bits % 2 ≡ 1
unfolding Marked halves
bit_there k bits [] marked some = absurd (omega (arith, some))
bit_there zero bits (None ∷ fields) marked some = absurd (omega (arith, some))
bit_there zero bits (Some bytes ∷ fields) marked some = marked.0
bit_there (suc k) bits (None ∷ fields) marked some = bit_there k (bits / 2) fields marked some
bit_there (suc k) bits (Some bytes ∷ fields) marked some = bit_there k (bits / 2) fields marked.2 some

one_kind : (bit kind : ℕ) → is_kind bit kind ≡ true → bit % 2 ≡ 1 → kind < 8
one_kind bit kind h odd = grind (arith, nat_tests, h, odd)

kind_small : (k bits word : ℕ) → k < 5 → are_kinds bits word ≡ true → halves (3 + k) bits % 2 ≡ 1 → slice_index (kinds_of word) k < 8
unfolding halves
kind_small zero bits word less kinds odd =
    let parts = and_parts (is_kind (bits / 8) (word % 16)) _ kinds in
    one_kind (bits / 8) (word % 16) parts.0 (omega (arith, odd))
kind_small (suc zero) bits word less kinds odd =
    let parts = and_parts (is_kind (bits / 8) (word % 16)) _ kinds in
    let second = and_parts (is_kind (bits / 16) (word / 16 % 16)) _ parts.1 in
    one_kind (bits / 16) (word / 16 % 16) second.0 (omega (arith, odd))
kind_small (suc (suc zero)) bits word less kinds odd =
    let parts = and_parts (is_kind (bits / 8) (word % 16)) _ kinds in
    let second = and_parts (is_kind (bits / 16) (word / 16 % 16)) _ parts.1 in
    let third = and_parts (is_kind (bits / 32) (word / 256 % 16)) _ second.1 in
    one_kind (bits / 32) (word / 256 % 16) third.0 (omega (arith, odd))
kind_small (suc (suc (suc zero))) bits word less kinds odd =
    let parts = and_parts (is_kind (bits / 8) (word % 16)) _ kinds in
    let second = and_parts (is_kind (bits / 16) (word / 16 % 16)) _ parts.1 in
    let third = and_parts (is_kind (bits / 32) (word / 256 % 16)) _ second.1 in
    let fourth = and_parts (is_kind (bits / 64) (word / 4096 % 16)) _ third.1 in
    one_kind (bits / 64) (word / 4096 % 16) fourth.0 (omega (arith, odd))
kind_small (suc (suc (suc (suc zero)))) bits word less kinds odd =
    let parts = and_parts (is_kind (bits / 8) (word % 16)) _ kinds in
    let second = and_parts (is_kind (bits / 16) (word / 16 % 16)) _ parts.1 in
    let third = and_parts (is_kind (bits / 32) (word / 256 % 16)) _ second.1 in
    let fourth = and_parts (is_kind (bits / 64) (word / 4096 % 16)) _ third.1 in
    one_kind (bits / 128) (word / 65536 % 16) fourth.1 (omega (arith, odd))
kind_small (suc (suc (suc (suc (suc n))))) bits word less kinds odd = absurd (omega arith)

-- ---- addresses

-- what an address that was read rests on
record IsRead (bytes : List ℕ) (address : AddressValue) : Type 0 where
  fields : fields_at 19 (field_bits bytes) [] (drop 9 bytes) ≡ Ok address.fields
  kinds : address.kinds ≡ kinds_of (phone_word bytes)
  proper : are_kinds (field_bits bytes) (phone_word bytes) ≡ true

value_or : AddressValue → Result AddressValue ℕ → AddressValue
value_or other (Ok address) = address
value_or other (Err left) = other

no_value : (left : ℕ) (address : AddressValue) → Err left ≡ Ok address → ⊥
no_value left address bad = cc

by_kinds : (b : Bool) (bytes : List ℕ) (fields : List (Option (List ℕ))) (address : AddressValue) → are_kinds (field_bits bytes) (phone_word bytes) ≡ b
    → fields_at 19 (field_bits bytes) [] (drop 9 bytes) ≡ Ok fields → with_fields bytes (Ok fields) ≡ Ok address → IsRead bytes address
unfolding value_or
by_kinds true bytes fields address is found e =
    let value : record { shown = phone_word bytes / 1048576 % 16; kinds = kinds_of (phone_word bytes); fields = fields } ≡ address
    = ap (value_or address) (rw is at e) in
    record {
      fields = found ∙ ap (λ (a : AddressValue). Ok a.fields) value;
      kinds = sym (ap (λ (a : AddressValue). a.kinds) value);
      proper = is;
    }
by_kinds false bytes fields address is found e = absurd (no_value 0 address (rw is at e))

by_fields : (r : Result (List (Option (List ℕ))) ℕ) (bytes : List ℕ) (address : AddressValue) → fields_at 19 (field_bits bytes) [] (drop 9 bytes) ≡ r
    → with_fields bytes r ≡ Ok address → IsRead bytes address
by_fields (Err left) bytes address is e = cc
by_fields (Ok fields) bytes address is e = by_kinds (are_kinds (field_bits bytes) (phone_word bytes)) bytes fields address refl is e

by_tests : (p q : Bool) (bytes : List ℕ) (address : AddressValue)
    → (if p then Err (length bytes) else (if q then Err 4 else with_fields bytes (fields_at 19 (field_bits bytes) [] (drop 9 bytes)))) ≡ Ok address
    → IsRead bytes address
by_tests true q bytes address e = cc
by_tests false true bytes address e = cc
by_tests false false bytes address e = by_fields (fields_at 19 (field_bits bytes) [] (drop 9 bytes)) bytes address refl e

is_read : (bytes : List ℕ) (address : AddressValue) → address_in bytes ≡ Ok address → IsRead bytes address
is_read bytes address e = by_tests (nat_lt (length bytes) 9) (nat_le 524288 (field_bits bytes)) bytes address e

kept : (b : Bool) {X : Type 0} (P : X → Type 0) (x : X) (xs : List X) → (b ≡ true → P x) → All P xs → All P (cond b (x ∷ xs) xs)
kept true P x xs one rest = All-cons P x xs (one refl) rest
kept false P x xs one rest = rest

filtered_all : {X : Type 0} (P : X → Type 0) (test : X → Bool) (f : ℕ → X) (a n : ℕ) → ((i : ℕ) → i < a + n → test (f i) ≡ true → P (f i))
    → All P (filter test (map f (range_with_len a n)))
filtered_all P test f a zero each = All-nil P
filtered_all P test f a (suc n) each =
    kept (test (f a)) P (f a) (filter test (map f (range_with_len (a + 1) n))) (λ there. each a (omega arith) there)
    (filtered_all P test f (a + 1) n (λ i less there. each i (omega (arith, less)) there))

person_proper : (block bytes : List ℕ) (address : AddressValue) → IsBytes block → IsBytes bytes → address_in bytes ≡ Ok address
    → IsPerson (person_of block address)
unfolding phones_before customs_before
person_proper block bytes address is_block is_bytes e =
    let read = is_read bytes address e in
    let found = fields_marked 19 (field_bits bytes) [] (drop 9 bytes) address.fields (IsBytes-drop 9 bytes is_bytes) read.fields in
    let marked : Marked (field_bits bytes) address.fields = subst (Marked (field_bits bytes)) (sym found.1) found.2 in
    record {
      last = text_bytes 0 (field_bits bytes) address.fields marked;
      first = text_bytes 1 (field_bits bytes) address.fields marked;
      company = text_bytes 2 (field_bits bytes) address.fields marked;
      title = text_bytes 13 (field_bits bytes) address.fields marked;
      phones =
          filtered_all IsPhone has_number (phone_of address) 0 5
          (λ i less there. phone_proper i (field_bits bytes) (phone_word bytes) address less marked read.kinds read.proper there);
      place = record {
        street = text_bytes 8 (field_bits bytes) address.fields marked;
        city = text_bytes 9 (field_bits bytes) address.fields marked;
        state = text_bytes 10 (field_bits bytes) address.fields marked;
        zip = text_bytes 11 (field_bits bytes) address.fields marked;
        country = text_bytes 12 (field_bits bytes) address.fields marked;
      };
      customs =
          filtered_all IsCustom has_text (custom_of block address) 0 4
          (λ i less there. record { number = less; label = IsBytes-label block i is_block; text = text_bytes (14 + i) (field_bits bytes) address.fields marked });
      note = text_bytes 18 (field_bits bytes) address.fields marked;
    }
  where
    phone_proper : (i bits word : ℕ) (a : AddressValue) → i < 5 → Marked bits a.fields → a.kinds ≡ kinds_of word → are_kinds bits word ≡ true
        → has_number (phone_of a i) ≡ true → IsPhone (phone_of a i)
    phone_proper i bits word a less marked kinds proper there =
        let some : 0 < length (field_text a (3 + i)) = grind (arith, nat_tests, there) in
        record {
          kind = rw kinds (kind_small i bits word less proper (bit_there (3 + i) bits a.fields marked some));
          text = text_bytes (3 + i) bits a.fields marked;
        }

form_proper : (r : Result AddressValue ℕ) (block bytes : List ℕ) → address_in bytes ≡ r → IsBytes block → IsBytes bytes → IsForm (form_of block bytes r)
form_proper (Ok address) block bytes is is_block is_bytes = person_proper block bytes address is_block is_bytes is
form_proper (Err place) block bytes is is_block is_bytes = is_bytes

-- ---- cards

card_proper : (name : List ℕ) (app : Option (List ℕ)) (item : Record) → is_plain (stem_of name) ≡ true → IsStored app item
    → IsCard (card_of (stem_of name) app item)
card_proper name app item plain is = record {
  id = is.id;
  stem = unbroken-plain (stem_of name) plain;
  form = form_proper (address_in item.content.bytes) (text_of app) item.content.bytes refl is.block is.bytes;
  label = is.label;
}

pub exported-proper : (name : List ℕ) (app : Option (List ℕ)) (wanted : Privacy) (items : List Record) → is_plain (stem_of name) ≡ true
    → All (IsItem app wanted) items
    → All IsCard (map (card_of (stem_of name) app) (filter (is_exported wanted) items))
exported-proper name app wanted items plain all =
    exported-all IsCard (card_of (stem_of name) app) (is_exported wanted) items
    (All-weaker (IsItem app wanted) (λ item. is_exported wanted item ≡ true → IsCard (card_of (stem_of name) app item))
    (λ item said there. card_proper name app item plain (said there)) items all)
