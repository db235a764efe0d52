-- What grows by phones, custom fields and names.
use Rattle.std.proofs.Common.{arith, ◌≡◌, ◌∙◌, ◌<◌, ◌==◌, ap, refl, sym, ℕ, ◌+◌, Bool, true, false, cond, List, [], ◌∷◌, ◌++◌, append-nil, append_assoc, length, map}
use Rattle.std.proofs.lemmas.Bool.Decides.{nat_tests}
use Rattle.std.specs.Prelude.{Result, Err, codes, slice_index, filter, if◌then◌else◌}
use Rattle.std.specs.List.{flat_map}
use Rattle.palm_records.specs.Addresses.{AddressValue, address_in}
use Rattle.content_lines.specs.Lines.{escaped}
use Rattle.content_lines.specs.Properties.{PropertyValue, given_property, parts_value, text_property, text_value}
use Rattle.content_lines.proofs.GrowthLaws.{grown-5, grown-6}
use Rattle.card_export.specs.Cards.{CustomValue, PhoneValue, PlaceValue}
use Rattle.card_export.specs.Cards.FormValue.{Unread}
use Rattle.card_export.specs.Exports.{custom_at, custom_of, customs_before, field_text, form_of, has_number, has_text, phone_at, phone_of, phones_before}
use Rattle.card_export.specs.Labels.{custom_label}
use Rattle.card_export.specs.Properties.{custom_name, custom_properties, first_phone, first_text, form_properties, full_name, kind_words, label_name, name_parts, phone_property, place_parts, preference, text_or}

-- ---- phones

one_phone : (b : Bool) (phone : PhoneValue) (phones : List PhoneValue)
    → map phone_property (cond b (phone ∷ phones) phones) ≡ (if b then phone_property phone ∷ [] else []) ++ map phone_property phones
one_phone true phone phones = refl
one_phone false phone phones = refl

phones_at : (address : AddressValue) (places : List ℕ)
    → map phone_property (filter has_number (map (phone_of address) places)) ≡ flat_map (phone_at address) places
phones_at address [] = refl
phones_at address (place ∷ places) =
    one_phone (has_number (phone_of address place)) (phone_of address place) (filter has_number (map (phone_of address) places))
    ∙ ap (λ l. phone_at address place ++ l) (phones_at address places)

pub phones-grown : (address : AddressValue) (s0 s1 s2 s3 s4 s5 : List PropertyValue) → s1 ≡ s0 ++ phone_at address 0 → s2 ≡ s1 ++ phone_at address 1
    → s3 ≡ s2 ++ phone_at address 2 → s4 ≡ s3 ++ phone_at address 3 → s5 ≡ s4 ++ phone_at address 4
    → s5 ≡ s0 ++ map phone_property (phones_before 5 address)
unfolding phones_before
phones-grown address s0 s1 s2 s3 s4 s5 a b c d e =
    let at = phone_at address in
    grown-6 s0 s1 s2 s3 s4 s5 s5 (at 0) (at 1) (at 2) (at 3) (at 4) [] a b c d e (sym (append-nil s5))
    ∙ ap (λ l. s0 ++ l) (sym (phones_at address (0 ∷ 1 ∷ 2 ∷ 3 ∷ 4 ∷ [])))

pub phone_absent : (old : List PropertyValue) (address : AddressValue) (place : ℕ) → has_number (phone_of address place) ≡ false
    → old ≡ old ++ phone_at address place
phone_absent old address place absent = rw absent (sym (append-nil old))

pub phone_there : (old new : List PropertyValue) (name text : List ℕ) (address : AddressValue) (place : ℕ) → has_number (phone_of address place) ≡ true
    → new ≡ old ++ text_property name text ∷ [] → name ≡ kind_words (slice_index address.kinds place) ++ preference (place == address.shown)
    → text ≡ field_text address (3 + place) → new ≡ old ++ phone_at address place
phone_there old new name text address place there grown is_name is_text =
    rw there (grown ∙ (λ i. old ++ text_property (is_name i) (is_text i) ∷ []))

-- ---- custom fields

one_custom : (b : Bool) (custom : CustomValue) (customs : List CustomValue)
    → flat_map custom_properties (cond b (custom ∷ customs) customs) ≡ (if b then custom_properties custom else []) ++ flat_map custom_properties customs
one_custom true custom customs = refl
one_custom false custom customs = refl

customs_at : (block : List ℕ) (address : AddressValue) (numbers : List ℕ)
    → flat_map custom_properties (filter has_text (map (custom_of block address) numbers)) ≡ flat_map (custom_at block address) numbers
customs_at block address [] = refl
customs_at block address (number ∷ numbers) =
    one_custom (has_text (custom_of block address number)) (custom_of block address number) (filter has_text (map (custom_of block address) numbers))
    ∙ ap (λ l. custom_at block address number ++ l) (customs_at block address numbers)

pub customs-grown : (block : List ℕ) (address : AddressValue) (s0 s1 s2 s3 s4 : List PropertyValue) → s1 ≡ s0 ++ custom_at block address 0
    → s2 ≡ s1 ++ custom_at block address 1 → s3 ≡ s2 ++ custom_at block address 2 → s4 ≡ s3 ++ custom_at block address 3
    → s4 ≡ s0 ++ flat_map custom_properties (customs_before 4 block address)
unfolding customs_before
customs-grown block address s0 s1 s2 s3 s4 a b c d =
    let at = custom_at block address in
    grown-5 s0 s1 s2 s3 s4 s4 (at 0) (at 1) (at 2) (at 3) [] a b c d (sym (append-nil s4))
    ∙ ap (λ l. s0 ++ l) (sym (customs_at block address (0 ∷ 1 ∷ 2 ∷ 3 ∷ [])))

pub custom_absent : (old : List PropertyValue) (block : List ℕ) (address : AddressValue) (number : ℕ) → has_text (custom_of block address number) ≡ false
    → old ≡ old ++ custom_at block address number
custom_absent old block address number absent = rw absent (sym (append-nil old))

pub custom_there : (old mid new : List PropertyValue) (name other text label block : List ℕ) (address : AddressValue) (number : ℕ)
    → has_text (custom_of block address number) ≡ true → name ≡ custom_name number → other ≡ label_name number → text ≡ field_text address (14 + number)
    → label ≡ custom_label block number → mid ≡ old ++ text_property name text ∷ [] → new ≡ mid ++ given_property other label
    → new ≡ old ++ custom_at block address number
custom_there old mid new name other text label block address number there is_name is_other is_text is_label before behind =
    rw there
    (behind
    ∙ (ap (λ l. l ++ given_property other label) before
    ∙ (append_assoc old (text_property name text ∷ []) (given_property other label)
    ∙ (λ i. old ++ text_property (is_name i) (is_text i) ∷ given_property (is_other i) (is_label i)))))

-- ---- the first phone

one_first : (kind : ℕ) (shown : Bool) (text other : List ℕ) (rest : List PhoneValue)
    → text_or (first_phone (cond (has_number (record { kind = kind; shown = shown; text = text }))
    (record { kind = kind; shown = shown; text = text } ∷ rest) rest)) other
    ≡ text_or text (text_or (first_phone rest) other)
one_first kind shown [] other rest = refl
one_first kind shown (byte ∷ bytes) other rest =
    let some : (length (byte ∷ bytes) == 0) ≡ false = grind (arith, nat_tests) in
    rw some refl

-- the first text of the phones at these places, or another one
first_at : AddressValue → List ℕ → List ℕ → List ℕ
first_at address [] other = other
first_at address (place ∷ places) other = text_or (field_text address (3 + place)) (first_at address places other)

first_phone_at : (address : AddressValue) (places other : List ℕ)
    → text_or (first_phone (filter has_number (map (phone_of address) places))) other ≡ first_at address places other
unfolding first_at
first_phone_at address [] other = refl
first_phone_at address (place ∷ places) other =
    one_first (slice_index address.kinds place) (place == address.shown) (field_text address (3 + place)) other
    (filter has_number (map (phone_of address) places))
    ∙ ap (text_or (field_text address (3 + place))) (first_phone_at address places other)

pub other_names : (name : List ℕ) (address : AddressValue)
    → name ≡ text_or (field_text address 2) (text_or (field_text address 3) (text_or (field_text address 4)
    (text_or (field_text address 5) (text_or (field_text address 6) (text_or (field_text address 7) (codes "(no name)"))))))
    → name ≡ first_text (field_text address 2 ∷ first_phone (phones_before 5 address) ∷ codes "(no name)" ∷ [])
unfolding phones_before first_at
other_names name address is = is ∙ ap (text_or (field_text address 2)) (sym (first_phone_at address (0 ∷ 1 ∷ 2 ∷ 3 ∷ 4 ∷ []) (codes "(no name)")))

-- ---- names and parts

full_name-both : (first last : List ℕ) → 0 < length first → 0 < length last → full_name first last ≡ first ++ (codes " " ++ last)
full_name-both [] last some more = absurd (omega arith)
full_name-both (x ∷ xs) [] some more = absurd (omega arith)
full_name-both (x ∷ xs) (y ∷ ys) some more = refl

pub full_name-grown : (old new first last : List ℕ) → 0 < length first → 0 < length last → new ≡ ((old ++ first) ++ codes " ") ++ last
    → new ≡ old ++ full_name first last
full_name-grown old new first last some more grown =
    rw (full_name-both first last some more) (grown ∙ (append_assoc (old ++ first) (codes " ") last ∙ append_assoc old first (codes " " ++ last)))

pub name_parts_value : (value last first : List ℕ) → value ≡ ((text_value last ++ codes ";") ++ text_value first) ++ codes ";;;"
    → value ≡ parts_value (name_parts last first)
unfolding escaped
name_parts_value value last first is = is ∙ simp append_assoc

pub place_parts_value : (value : List ℕ) (place : PlaceValue)
    → value ≡ ((((codes ";;" ++ (text_value place.street ++ codes ";")) ++ (text_value place.city ++ codes ";")) ++ (text_value place.state ++ codes ";"))
    ++ (text_value place.zip ++ codes ";")) ++ text_value place.country → value ≡ parts_value (place_parts place)
unfolding escaped
place_parts_value value place is = is ∙ simp append_assoc

-- ---- a record that is out of its form

pub unread_form : (old new : List PropertyValue) (read bytes block : List ℕ) (id place : ℕ) → read ≡ bytes → address_in read ≡ Err place
    → new ≡ old ++ form_properties id (Unread read) → new ≡ old ++ form_properties id (form_of block bytes (address_in bytes))
unread_form old new read bytes block id place same is grown =
    let bad : address_in bytes ≡ Err place = ap address_in (sym same) ∙ is in
    grown
    ∙ (ap (λ l. old ++ form_properties id (Unread l)) same ∙ ap (λ (r : Result AddressValue ℕ). old ++ form_properties id (form_of block bytes r)) (sym bad))
