-- The groups of a card's properties: each is told, and its properties are told by their lines.
use Rattle.std.proofs.lemmas.Bool.{and_parts}
use Rattle.std.proofs.lemmas.Bool.Decides.{nat_tests}
use Rattle.std.proofs.lemmas.List.{append_cancel_left}
use Rattle.std.proofs.lemmas.List.Elements.{All-head, All-tail}
use Rattle.std.proofs.Common.{arith, ◌≡◌, ◌∙◌, ◌<◌, ◌+◌, ◌==◌, ◌&&◌, ap, drop, refl, sym, ℕ, Bool, true, false, List, [], ◌∷◌, ◌++◌, get_or, length, map}
use Rattle.std.specs.Prelude.{All, codes, if◌then◌else◌}
use Rattle.std.specs.List.{flat_map}
use Rattle.palm_records.proofs.CharacterLaws.{every, every_at}
use Rattle.content_lines.specs.Lines.{has_no_break}
use Rattle.content_lines.specs.Properties.{IsBytes, PropertyValue, given_property, is_name, parts_value, plain_property, text_property}
use Rattle.content_lines.specs.Records.{class_properties}
use Rattle.content_lines.proofs.ByteLaws.{IsBytes-append, IsBytes-cons, IsBytes-nil, IsBytes-plain}
use Rattle.content_lines.proofs.GroupLaws.{given_injective, given_stands, group_front, later, stand, stand-append, stand-cons, stand-nil}
use Rattle.content_lines.proofs.RecordLaws.{unbroken-uid, unbroken-unread_name}
use Rattle.content_lines.proofs.ValueLaws.{AreBytes, parts_injective, text_value_injective, unbroken-parts, unbroken-text}
use Rattle.card_export.specs.Cards.{CustomValue, IsCustom, IsPerson, IsPhone, IsPlace, PersonValue, PhoneValue, PlaceValue}
use Rattle.card_export.specs.Properties.{custom_name, custom_properties, first_phone, first_text, full_name, head_properties, is_nowhere, kind_words, label_name, name_parts, name_properties, phone_property, place_parts, place_properties, preference, shown_name, unread_names}

-- the group of a property, by the first two characters of its name
unfoldable pub rank : List ℕ → ℕ
rank name =
    if get_or name 0 0 == 88 then 1
    else if get_or name 0 0 == 79 then 2
    else if get_or name 0 0 == 84 then (if get_or name 1 0 == 73 then 3 else 4)
    else if get_or name 0 0 == 69 then (if get_or name 1 0 == 77 then 4 else 10)
    else if get_or name 0 0 == 65 then 5
    else if get_or name 0 0 == 99 then 6
    else if get_or name 0 0 == 78 then (if get_or name 1 0 == 79 then 7 else 0)
    else if get_or name 0 0 == 67 then (if get_or name 1 0 == 65 then 8 else 9)
    else 0

-- ---- heads and names

pub head_stands : (id : ℕ) (stem : List ℕ) (names : List PropertyValue) → has_no_break stem ≡ true → stand rank 0 names ≡ true
    → stand rank 0 (head_properties id stem ++ names) ≡ true
unfolding rank has_no_break
head_stands id stem names h more =
    stand-cons _ _ _ _ refl refl refl
    (stand-cons _ _ _ _ refl refl refl (stand-cons _ _ _ _ refl refl refl (stand-cons _ _ _ _ refl refl (unbroken-uid id stem h) more)))

name_bytes : (last first : List ℕ) → IsBytes last → IsBytes first → AreBytes (name_parts last first)
name_bytes last first h k = (h, (k, (IsBytes-nil, (IsBytes-nil, (IsBytes-nil, tt)))))

first_text_bytes : (values : List (List ℕ)) → AreBytes values → IsBytes (first_text values)
first_text_bytes [] h = IsBytes-nil
first_text_bytes ([] ∷ others) h = first_text_bytes others h.1
first_text_bytes ((byte ∷ rest) ∷ others) h = h.0

full_name_bytes : (first last : List ℕ) → IsBytes first → IsBytes last → IsBytes (full_name first last)
full_name_bytes [] last h k = k
full_name_bytes (x ∷ xs) [] h k = h
full_name_bytes (x ∷ xs) (y ∷ ys) h k = IsBytes-append (x ∷ xs) (codes " " ++ y ∷ ys) h (IsBytes-cons 32 (y ∷ ys) (omega arith) k)

first_phone_bytes : (phones : List PhoneValue) → All IsPhone phones → IsBytes (first_phone phones)
first_phone_bytes [] h = IsBytes-nil
first_phone_bytes (phone ∷ others) h = let one = All-head IsPhone phone others h in one.text

shown_name_bytes : (person : PersonValue) → IsPerson person → IsBytes (shown_name person.first person.last person.company person.phones)
shown_name_bytes person is =
    first_text_bytes (full_name person.first person.last ∷ person.company ∷ first_phone person.phones ∷ codes "(no name)" ∷ []) (
      full_name_bytes person.first person.last is.first is.last,
      (is.company, (first_phone_bytes person.phones is.phones, (IsBytes-plain (codes "(no name)") refl, tt))),
    )

pub names_stand : (person : PersonValue) → IsPerson person
    → stand rank 0 (name_properties (shown_name person.first person.last person.company person.phones) person.last person.first) ≡ true
unfolding rank
names_stand person is =
    stand-cons _ _ _ _ refl refl (unbroken-text (shown_name person.first person.last person.company person.phones) (shown_name_bytes person is))
    (stand-cons _ _ _ _ refl refl (unbroken-parts (name_parts person.last person.first) (name_bytes person.last person.first is.last is.first)) (stand-nil _ _))

pub unread_stand : (id : ℕ) → stand rank 0 (unread_names id) ≡ true
unfolding rank has_no_break
unread_stand id = stand-cons _ _ _ _ refl refl (unbroken-unread_name (codes "FN") id) (stand-cons _ _ _ _ refl refl refl (stand-nil _ _))

pub names_injective : (p q : PersonValue) → IsPerson p → IsPerson q → parts_value (name_parts p.last p.first) ≡ parts_value (name_parts q.last q.first)
    → (p.last ≡ q.last) × (p.first ≡ q.first)
names_injective p q is_p is_q e =
    let same =
    parts_injective (name_parts p.last p.first) (name_parts q.last q.first) refl (name_bytes p.last p.first is_p.last is_p.first)
    (name_bytes q.last q.first is_q.last is_q.first) e in
    (ap (λ (l : List (List ℕ)). get_or l 0 []) same, ap (λ (l : List (List ℕ)). get_or l 1 []) same)

-- ---- phones

-- the kind that a name says, by its first and its tenth character
unfoldable kind_in : List ℕ → ℕ
kind_in name =
    if get_or name 0 0 == 69 then 4
    else if get_or name 9 0 == 87 then 0
    else if get_or name 9 0 == 72 then 1
    else if get_or name 9 0 == 70 then 2
    else if get_or name 9 0 == 86 then 3
    else if get_or name 9 0 == 77 then 5
    else if get_or name 9 0 == 80 then 6
    else 7

-- the name of a phone is one of its group, and tells its kind
abbrev is_told : ℕ → Bool → Bool
is_told kind shown =
    is_name (kind_words kind ++ preference shown)
    && ((rank (kind_words kind ++ preference shown) == 4) && (kind_in (kind_words kind ++ preference shown) == kind))

all_told : every (λ kind. is_told kind true && is_told kind false) 8 ≡ true
unfolding every rank kind_in
all_told = refl

record IsToldName (number : ℕ) (name : List ℕ) : Type 0 where
  proper : is_name name ≡ true
  place : (rank name == 4) ≡ true
  kind : kind_in name ≡ number

name_told_by : (kind : ℕ) (shown : Bool) → is_told kind shown ≡ true → IsToldName kind (kind_words kind ++ preference shown)
name_told_by kind shown h =
    let name = kind_words kind ++ preference shown in
    let first = and_parts (is_name name) ((rank name == 4) && (kind_in name == kind)) h in
    let rest = and_parts (rank name == 4) (kind_in name == kind) first.1 in
    record { proper = first.0; place = rest.0; kind = grind (arith, nat_tests, rest.1) }

name_told : (kind : ℕ) (shown : Bool) → kind < 8 → IsToldName kind (kind_words kind ++ preference shown)
name_told kind true less =
    name_told_by kind true (and_parts (is_told kind true) (is_told kind false) (every_at (λ k. is_told k true && is_told k false) 8 kind all_told less)).0
name_told kind false less =
    name_told_by kind false (and_parts (is_told kind true) (is_told kind false) (every_at (λ k. is_told k true && is_told k false) 8 kind all_told less)).1

pub phones_stand : (phones : List PhoneValue) → All IsPhone phones → stand rank 4 (map phone_property phones) ≡ true
phones_stand [] h = stand-nil _ _
phones_stand (phone ∷ phones) h =
    let is = All-head IsPhone phone phones h in
    let name = name_told phone.kind phone.shown is.kind in
    stand-cons _ _ _ _ name.place name.proper (unbroken-text phone.text is.text) (phones_stand phones (All-tail IsPhone phone phones h))

preference_injective : (p q : Bool) → preference p ≡ preference q → p ≡ q
preference_injective true true e = refl
preference_injective true false e = cc
preference_injective false true e = cc
preference_injective false false e = refl

phone_injective : (p q : PhoneValue) → IsPhone p → IsPhone q → phone_property p ≡ phone_property q → p ≡ q
phone_injective p q is_p is_q e =
    let name : kind_words p.kind ++ preference p.shown ≡ kind_words q.kind ++ preference q.shown = ap (λ (x : PropertyValue). x.name) e in
    let of_p = name_told p.kind p.shown is_p.kind in
    let of_q = name_told q.kind q.shown is_q.kind in
    let kind : p.kind ≡ q.kind = sym of_p.kind ∙ (ap kind_in name ∙ of_q.kind) in
    let same : kind_words p.kind ++ preference p.shown ≡ kind_words p.kind ++ preference q.shown = name ∙ ap (λ k. kind_words k ++ preference q.shown)
    (sym kind) in
    let shown = preference_injective p.shown q.shown (append_cancel_left (kind_words p.kind) (preference p.shown) (preference q.shown) same) in
    let text = text_value_injective p.text q.text is_p.text is_q.text (ap (λ (x : PropertyValue). x.value) e) in
    λ i. record { kind = kind i; shown = shown i; text = text i }

pub phones_injective : (a b : List PhoneValue) → All IsPhone a → All IsPhone b → map phone_property a ≡ map phone_property b → a ≡ b
phones_injective [] [] h k e = refl
phones_injective [] (q ∷ qs) h k e = cc
phones_injective (p ∷ ps) [] h k e = cc
phones_injective (p ∷ ps) (q ∷ qs) h k e =
    let property : phone_property p ≡ phone_property q = ap (λ (l : List PropertyValue). get_or l 0 (phone_property p)) e in
    let others : map phone_property ps ≡ map phone_property qs = ap (drop 1) e in
    let one = phone_injective p q (All-head IsPhone p ps h) (All-head IsPhone q qs k) property in
    let rest = phones_injective ps qs (All-tail IsPhone p ps h) (All-tail IsPhone q qs k) others in
    λ i. one i ∷ rest i

-- ---- postal address

place_bytes : (place : PlaceValue) → IsPlace place → AreBytes (place_parts place)
place_bytes place is = (IsBytes-nil, (IsBytes-nil, (is.street, (is.city, (is.state, (is.zip, (is.country, tt)))))))

-- the postal address, where it is somewhere
place_by : Bool → PlaceValue → List PropertyValue
place_by nowhere place = if nowhere then [] else plain_property (codes "ADR") (parts_value (place_parts place)) ∷ []

place_stands_by : (b : Bool) (place : PlaceValue) → IsPlace place → stand rank 5 (place_by b place) ≡ true
unfolding rank place_by
place_stands_by true place is = stand-nil _ _
place_stands_by false place is = stand-cons _ _ _ _ refl refl (unbroken-parts (place_parts place) (place_bytes place is)) (stand-nil _ _)

pub place_stands : (place : PlaceValue) → IsPlace place → stand rank 5 (place_properties place) ≡ true
unfolding place_by
place_stands place is = place_stands_by (is_nowhere place) place is

same_place : (p q : PlaceValue) → p.street ≡ q.street → p.city ≡ q.city → p.state ≡ q.state → p.zip ≡ q.zip → p.country ≡ q.country → p ≡ q
same_place p q a b c d f = λ i. record { street = a i; city = b i; state = c i; zip = d i; country = f i }

nothing : (bytes : List ℕ) → (length bytes == 0) ≡ true → bytes ≡ []
nothing [] none = refl
nothing (byte ∷ rest) none = absurd (grind (arith, nat_tests))

nowhere_same : (p q : PlaceValue) → is_nowhere p ≡ true → is_nowhere q ≡ true → p ≡ q
nowhere_same p q a b =
    same_place p q (both p.street q.street (grind (arith, nat_tests)) (grind (arith, nat_tests)))
    (both p.city q.city (grind (arith, nat_tests)) (grind (arith, nat_tests)))
    (both p.state q.state (grind (arith, nat_tests)) (grind (arith, nat_tests)))
    (both p.zip q.zip (grind (arith, nat_tests)) (grind (arith, nat_tests)))
    (both p.country q.country (grind (arith, nat_tests)) (grind (arith, nat_tests)))
  where
    both : (v w : List ℕ) → (length v == 0) ≡ true → (length w == 0) ≡ true → v ≡ w
    both v w h k = nothing v h ∙ sym (nothing w k)

place_injective_by : (m n : Bool) (p q : PlaceValue) → is_nowhere p ≡ m → is_nowhere q ≡ n → IsPlace p → IsPlace q → place_by m p ≡ place_by n q → p ≡ q
unfolding place_by
place_injective_by true true p q a b is_p is_q e = nowhere_same p q a b
place_injective_by true false p q a b is_p is_q e = cc
place_injective_by false true p q a b is_p is_q e = cc
place_injective_by false false p q a b is_p is_q e =
    let values : parts_value (place_parts p) ≡ parts_value (place_parts q)
    = ap (λ (l : List PropertyValue). (get_or l 0 (plain_property [] [])).value) e in
    let same = parts_injective (place_parts p) (place_parts q) refl (place_bytes p is_p) (place_bytes q is_q) values in
    same_place p q (ap (λ (l : List (List ℕ)). get_or l 2 []) same) (ap (λ (l : List (List ℕ)). get_or l 3 []) same)
    (ap (λ (l : List (List ℕ)). get_or l 4 []) same) (ap (λ (l : List (List ℕ)). get_or l 5 []) same) (ap (λ (l : List (List ℕ)). get_or l 6 []) same)

pub place_injective : (p q : PlaceValue) → IsPlace p → IsPlace q → place_properties p ≡ place_properties q → p ≡ q
unfolding place_by
place_injective p q is_p is_q e = place_injective_by (is_nowhere p) (is_nowhere q) p q refl refl is_p is_q e

-- ---- custom fields

are_names : every (λ n. is_name (custom_name n) && is_name (label_name n)) 4 ≡ true
unfolding every
are_names = refl

custom_names : (number : ℕ) → number < 4 → (is_name (custom_name number) ≡ true) × (is_name (label_name number) ≡ true)
custom_names number less =
    and_parts (is_name (custom_name number)) (is_name (label_name number))
    (every_at (λ n. is_name (custom_name n) && is_name (label_name n)) 4 number are_names less)

pub customs_stand : (customs : List CustomValue) → All IsCustom customs → stand rank 6 (flat_map custom_properties customs) ≡ true
unfolding rank
customs_stand [] h = stand-nil _ _
customs_stand (custom ∷ customs) h =
    let is = All-head IsCustom custom customs h in
    let names = custom_names custom.number is.number in
    stand-cons _ _ _ _ refl names.0 (unbroken-text custom.text is.text)
    (stand-append rank 6 (given_property (label_name custom.number) custom.label) (flat_map custom_properties customs)
    (given_stands _ _ (label_name custom.number) custom.label refl names.1 is.label) (customs_stand customs (All-tail IsCustom custom customs h)))

-- whether a name is that of a custom field and not of its label, by its eleventh character
unfoldable custom_rank : List ℕ → ℕ
custom_rank name = if get_or name 10 0 == 65 then 0 else 1

customs_later : (customs : List CustomValue) → later custom_rank 0 (flat_map custom_properties customs) ≡ true
unfolding custom_rank
customs_later [] = refl
customs_later (custom ∷ customs) = refl

label_stands : (custom : CustomValue) → IsCustom custom → stand custom_rank 0 (given_property (label_name custom.number) custom.label) ≡ true
unfolding custom_rank
label_stands custom is = given_stands _ _ (label_name custom.number) custom.label refl (custom_names custom.number is.number).1 is.label

pub customs_injective : (a b : List CustomValue) → All IsCustom a → All IsCustom b → flat_map custom_properties a ≡ flat_map custom_properties b → a ≡ b
customs_injective [] [] h k e = refl
customs_injective [] (q ∷ qs) h k e = cc
customs_injective (p ∷ ps) [] h k e = cc
customs_injective (p ∷ ps) (q ∷ qs) h k e =
    let is_p = All-head IsCustom p ps h in
    let is_q = All-head IsCustom q qs k in
    let first : text_property (custom_name p.number) p.text ≡ text_property (custom_name q.number) q.text
    = ap (λ (l : List PropertyValue). get_or l 0 (plain_property [] [])) e in
    let place : 49 + p.number ≡ 49 + q.number = ap (λ (x : PropertyValue). get_or x.name 6 0) first in
    let number : p.number ≡ q.number = omega (arith, place) in
    let text = text_value_injective p.text q.text is_p.text is_q.text (ap (λ (x : PropertyValue). x.value) first) in
    let behind : given_property (label_name p.number) p.label ++ flat_map custom_properties ps ≡ given_property
    (label_name q.number) q.label ++ flat_map custom_properties qs
    = ap (drop 1) e in
    let parts =
    group_front custom_rank 0 (given_property (label_name p.number) p.label) (given_property (label_name q.number) q.label) (flat_map custom_properties ps)
    (flat_map custom_properties qs) (label_stands p is_p) (label_stands q is_q) (customs_later ps) (customs_later qs) behind in
    let label =
    given_injective (label_name p.number) p.label q.label is_p.label is_q.label (parts.0 ∙ ap (λ n. given_property (label_name n) q.label) (sym number)) in
    let rest = customs_injective ps qs (All-tail IsCustom p ps h) (All-tail IsCustom q qs k) parts.1 in
    let one : p ≡ q = λ i. record { number = number i; label = label i; text = text i } in
    λ i. one i ∷ rest i

-- ---- marks

pub class_stands : (secret : Bool) → stand rank 9 (class_properties secret) ≡ true
unfolding rank has_no_break
class_stands true = stand-cons _ _ _ _ refl refl refl (stand-nil _ _)
class_stands false = stand-nil _ _
