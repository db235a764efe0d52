-- One text is that of one list of cards.
use Rattle.std.proofs.lemmas.Bool.Decides.{nat_tests}
use Rattle.std.proofs.Common.{arith, ◌≡◌, ◌∙◌, ◌<◌, ap, refl, sym, ℕ, Bool, true, List, [], ◌∷◌, ◌++◌, append_assoc, append-nil, drop, get_or, length, map}
use Rattle.std.specs.Prelude.{All, codes}
use Rattle.std.specs.List.{flat_map}
use Rattle.content_lines.specs.Lines.{has_no_break}
use Rattle.content_lines.specs.Properties.{IsBytes, PropertyValue, are_properties, given_property}
use Rattle.content_lines.specs.Records.{class_properties, mark_properties, uid, unread_bytes}
use Rattle.content_lines.proofs.GroupLaws.{AreGroups, also, are_properties-append, given_injective, given_stands, groups_are_properties, groups_front, joined, later, lists_are_properties, lists_injective, stand-cons, stand-nil}
use Rattle.content_lines.proofs.PropertyLaws.{properties_text_injective}
use Rattle.content_lines.proofs.RecordLaws.{class_injective, uid_injective, unbroken-hex, unread_bytes_injective}
use Rattle.card_export.specs.Cards.{CardValue, FormValue, IsCard, IsForm, IsPerson, PersonValue}
use Rattle.card_export.specs.Cards.FormValue.{Person, Unread}
use Rattle.card_export.specs.Properties.{card_end, card_properties, cards_text, custom_properties, form_properties, head_properties, name_properties, phone_property, place_properties, shown_name, unread_names}
use Rattle.card_export.proofs.PartLaws.{class_stands, customs_injective, customs_stand, head_stands, names_injective, names_stand, phones_injective, phones_stand, place_injective, place_stands, rank, unread_stand}

-- ---- the groups of a card

groups_of : ℕ → List ℕ → FormValue → List ℕ → Bool → List (List PropertyValue)
groups_of id stem (Person p) label secret =
    (head_properties id stem ++ name_properties (shown_name p.first p.last p.company p.phones) p.last p.first) ∷ [] ∷ given_property (codes "ORG") p.company
    ∷ given_property (codes "TITLE") p.title ∷ map phone_property p.phones ∷ place_properties p.place ∷ flat_map custom_properties p.customs
    ∷ given_property (codes "NOTE") p.note ∷ given_property (codes "CATEGORIES") label ∷ class_properties secret ∷ []
groups_of id stem (Unread bytes) label secret =
    (head_properties id stem ++ unread_names id) ∷ (unread_bytes bytes ∷ []) ∷ [] ∷ [] ∷ [] ∷ [] ∷ [] ∷ [] ∷ given_property (codes "CATEGORIES") label
    ∷ class_properties secret ∷ []

abbrev group : ℕ → List (List PropertyValue) → List PropertyValue
group k groups = get_or groups k []

abbrev at : ℕ → List (List PropertyValue) → PropertyValue
at i groups = get_or (group 0 groups) i card_end

person_joined : (a b c d e f g h : List PropertyValue) (last : PropertyValue) (s : List PropertyValue)
    → ((a ++ (b ++ (c ++ (d ++ (e ++ f))))) ++ ((g ++ h) ++ last ∷ [])) ++ s ≡ (a ++ (b ++ (c ++ (d ++ (e ++ (f ++ (g ++ (h ++ [])))))))) ++ last ∷ s
person_joined a b c d e f g h last s = simp (append_assoc, append-nil)

unread_joined : (g h : List PropertyValue) (last : PropertyValue) (s : List PropertyValue) → ((g ++ h) ++ last ∷ []) ++ s ≡ (g ++ (h ++ [])) ++ last ∷ s
unread_joined g h last s = simp (append_assoc, append-nil)

card_joined : (id : ℕ) (stem : List ℕ) (form : FormValue) (label : List ℕ) (secret : Bool) (s : List PropertyValue)
    → (head_properties id stem ++ (form_properties id form ++ (mark_properties label secret ++ card_end ∷ []))) ++ s
    ≡ joined (groups_of id stem form label secret) ++ card_end ∷ s
unfolding groups_of
card_joined id stem (Person p) label secret s =
    ap (λ l. head_properties id stem ++ (name_properties (shown_name p.first p.last p.company p.phones) p.last p.first ++ l))
    (person_joined (given_property (codes "ORG") p.company) (given_property (codes "TITLE") p.title) (map phone_property p.phones) (place_properties p.place)
    (flat_map custom_properties p.customs) (given_property (codes "NOTE") p.note) (given_property (codes "CATEGORIES") label)
    (class_properties secret) card_end s)
card_joined id stem (Unread bytes) label secret s =
    ap (λ l. head_properties id stem ++ (unread_names id ++ unread_bytes bytes ∷ l))
    (unread_joined (given_property (codes "CATEGORIES") label) (class_properties secret) card_end s)

ten : (id : ℕ) (stem : List ℕ) (form : FormValue) (label : List ℕ) (secret : Bool) → length (groups_of id stem form label secret) ≡ 10
unfolding groups_of
ten id stem (Person p) label secret = refl
ten id stem (Unread bytes) label secret = refl

are_groups : (id : ℕ) (stem : List ℕ) (form : FormValue) (label : List ℕ) (secret : Bool) → has_no_break stem ≡ true → IsForm form → IsBytes label
    → AreGroups rank 0 (groups_of id stem form label secret)
unfolding groups_of rank
are_groups id stem (Person p) label secret unbroken is h =
    let marks = also (given_stands rank 8 (codes "CATEGORIES") label refl refl h) (also (class_stands secret) tt) in
    let note = also (customs_stand p.customs is.customs) (also (given_stands rank 7 (codes "NOTE") p.note refl refl is.note) marks) in
    let phones = also (phones_stand p.phones is.phones) (also (place_stands p.place is.place) note) in
    let title = also (given_stands rank 3 (codes "TITLE") p.title refl refl is.title) phones in
    let names = name_properties (shown_name p.first p.last p.company p.phones) p.last p.first in
    also (head_stands id stem names unbroken (names_stand p is))
    (also (stand-nil rank 1) (also (given_stands rank 2 (codes "ORG") p.company refl refl is.company) title))
are_groups id stem (Unread bytes) label secret unbroken is h =
    let nil = stand-nil rank in
    let marks = also (given_stands rank 8 (codes "CATEGORIES") label refl refl h) (also (class_stands secret) tt) in
    let record_bytes = stand-cons rank 1 (unread_bytes bytes) [] refl refl (unbroken-hex bytes is) (nil 1) in
    also (head_stands id stem (unread_names id) unbroken (unread_stand id))
    (also record_bytes (also (nil 2) (also (nil 3) (also (nil 4) (also (nil 5) (also (nil 6) (also (nil 7) marks)))))))

-- ---- they tell the card

person_told : (i j : ℕ) (a b : List ℕ) (p q : PersonValue) (m n : List ℕ) (u v : Bool) → IsPerson p → IsPerson q
    → groups_of i a (Person p) m u ≡ groups_of j b (Person q) n v → p ≡ q
unfolding groups_of
person_told i j a b p q m n u v is_p is_q e =
    let names = names_injective p q is_p is_q (ap (λ l. (at 5 l).value) e) in
    let company = given_injective (codes "ORG") p.company q.company is_p.company is_q.company (ap (group 2) e) in
    let title = given_injective (codes "TITLE") p.title q.title is_p.title is_q.title (ap (group 3) e) in
    let phones = phones_injective p.phones q.phones is_p.phones is_q.phones (ap (group 4) e) in
    let place = place_injective p.place q.place is_p.place is_q.place (ap (group 5) e) in
    let customs = customs_injective p.customs q.customs is_p.customs is_q.customs (ap (group 6) e) in
    let note = given_injective (codes "NOTE") p.note q.note is_p.note is_q.note (ap (group 7) e) in
    λ i. record {
      last = names.0 i;
      first = names.1 i;
      company = company i;
      title = title i;
      phones = phones i;
      place = place i;
      customs = customs i;
      note = note i;
    }

form_told : (i j : ℕ) (a b : List ℕ) (f g : FormValue) (m n : List ℕ) (u v : Bool) → IsForm f → IsForm g → groups_of i a f m u ≡ groups_of j b g n v → f ≡ g
unfolding groups_of
form_told i j a b (Person p) (Person q) m n u v is_f is_g e = ap Person (person_told i j a b p q m n u v is_f is_g e)
form_told i j a b (Person p) (Unread y) m n u v is_f is_g e = let none : [] ≡ unread_bytes y ∷ [] = ap (group 1) e in absurd cc
form_told i j a b (Unread x) (Person q) m n u v is_f is_g e = let none : unread_bytes x ∷ [] ≡ [] = ap (group 1) e in absurd cc
form_told i j a b (Unread x) (Unread y) m n u v is_f is_g e =
    ap Unread (unread_bytes_injective x y is_f is_g (ap (λ l. get_or (group 1 l) 0 card_end) e))

uid_at : (id : ℕ) (stem : List ℕ) (form : FormValue) (label : List ℕ) (secret : Bool) → at 3 (groups_of id stem form label secret) ≡ uid id stem
unfolding groups_of
uid_at id stem (Person p) label secret = refl
uid_at id stem (Unread bytes) label secret = refl

label_at : (id : ℕ) (stem : List ℕ) (form : FormValue) (label : List ℕ) (secret : Bool)
    → group 8 (groups_of id stem form label secret) ≡ given_property (codes "CATEGORIES") label
unfolding groups_of
label_at id stem (Person p) label secret = refl
label_at id stem (Unread bytes) label secret = refl

class_at : (id : ℕ) (stem : List ℕ) (form : FormValue) (label : List ℕ) (secret : Bool)
    → group 9 (groups_of id stem form label secret) ≡ class_properties secret
unfolding groups_of
class_at id stem (Person p) label secret = refl
class_at id stem (Unread bytes) label secret = refl

abbrev card_groups : CardValue → List (List PropertyValue)
card_groups card = groups_of card.id card.stem card.form card.label card.secret

card_told : (c d : CardValue) → IsCard c → IsCard d → card_groups c ≡ card_groups d → c ≡ d
card_told c d is_c is_d e =
    let uids : uid c.id c.stem ≡ uid d.id d.stem =
    sym (uid_at c.id c.stem c.form c.label c.secret) ∙ (ap (at 3) e ∙ uid_at d.id d.stem d.form d.label d.secret) in
    let head = uid_injective c.id d.id c.stem d.stem is_c.id is_d.id uids in
    let form = form_told c.id d.id c.stem d.stem c.form d.form c.label d.label c.secret d.secret is_c.form is_d.form e in
    let label =
    given_injective (codes "CATEGORIES") c.label d.label is_c.label is_d.label
    (sym (label_at c.id c.stem c.form c.label c.secret) ∙ (ap (group 8) e ∙ label_at d.id d.stem d.form d.label d.secret)) in
    let secret =
    class_injective c.secret d.secret
    (sym (class_at c.id c.stem c.form c.label c.secret) ∙ (ap (group 9) e ∙ class_at d.id d.stem d.form d.label d.secret)) in
    λ i. record { id = head.0 i; stem = head.1 i; form = form i; label = label i; secret = secret i }

-- ---- cards in front of others

end_later : (j : ℕ) (s : List PropertyValue) → j < 10 → later rank j (card_end ∷ s) ≡ true
unfolding rank
end_later j s less = grind (arith, nat_tests, less)

card_front : (c d : CardValue) (s t : List PropertyValue) → IsCard c → IsCard d → card_properties c ++ s ≡ card_properties d ++ t → (c ≡ d) × (s ≡ t)
card_front c d s t is_c is_d e =
    let of_c = ten c.id c.stem c.form c.label c.secret in
    let of_d = ten d.id d.stem d.form d.label d.secret in
    let moved = sym (card_joined c.id c.stem c.form c.label c.secret s) ∙ (e ∙ card_joined d.id d.stem d.form d.label d.secret t) in
    let front =
    groups_front rank 0 (card_groups c) (card_groups d) (card_end ∷ s) (card_end ∷ t) (of_c ∙ sym of_d)
    (are_groups c.id c.stem c.form c.label c.secret is_c.stem is_c.form is_c.label)
    (are_groups d.id d.stem d.form d.label d.secret is_d.stem is_d.form is_d.label)
    (λ j less. end_later j s (omega (arith, less, of_c))) (λ j less. end_later j t (omega (arith, less, of_c))) moved in
    (card_told c d is_c is_d front.0, ap (drop 1) front.1)

card_is : (card : CardValue) → IsCard card → are_properties (card_properties card) ≡ true
unfolding has_no_break
card_is card is =
    let groups = card_groups card in
    let whole : card_properties card ≡ joined groups ++ card_end ∷ [] =
    sym (append-nil (card_properties card)) ∙ card_joined card.id card.stem card.form card.label card.secret [] in
    ap are_properties whole
    ∙ are_properties-append (joined groups) (card_end ∷ [])
    (groups_are_properties rank 0 groups (are_groups card.id card.stem card.form card.label card.secret is.stem is.form is.label)) refl

no_card : (card : CardValue) (s : List PropertyValue) → [] ≡ card_properties card ++ s → ⊥
no_card card s e = let none : 0 ≡ 1 = ap some e in omega (arith, none)
  where
    some : List PropertyValue → ℕ
    some [] = 0
    some (p ∷ ps) = 1

pub cards_text_injective : (a b : List CardValue) → All IsCard a → All IsCard b → cards_text a ≡ cards_text b → a ≡ b
cards_text_injective a b h k e =
    let of_a = lists_are_properties IsCard card_properties card_is a h in
    let of_b = lists_are_properties IsCard card_properties card_is b k in
    let same = properties_text_injective (flat_map card_properties a) (flat_map card_properties b) of_a of_b e in
    lists_injective IsCard card_properties [] card_front no_card a b h k (ap (λ l. l ++ []) same)
