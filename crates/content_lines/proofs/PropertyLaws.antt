-- One text is that of one list of properties.
use Rattle.std.proofs.lemmas.Bool.{and_parts}
use Rattle.std.proofs.lemmas.Bool.Decides.{nat_tests}
use Rattle.std.proofs.lemmas.List.{map-append, take_more}
use Rattle.std.proofs.lemmas.List.Elements.{All-cons, All-nil}
use Rattle.std.proofs.lemmas.Str.{IsUtf8-from_ascii, chars-append}
use Rattle.std.proofs.Common.{arith, ◌≡◌, ◌<◌, ◌∙◌, ◌==◌, ◌&&◌, ◌+◌, ap, refl, sym, ℕ, not, true, false, List, [], ◌∷◌, ◌++◌, append_assoc, get_or, length, map, take}
use Rattle.std.specs.Prelude.{All, IsUtf8, chars, codes, nat_lt}
use Rattle.content_lines.specs.Lines.{IsLine, begins_with_space, has_no_break, lines_text}
use Rattle.content_lines.specs.Properties.{PropertyValue, are_properties, is_name, is_property, properties_text, property_line}
use Rattle.content_lines.proofs.ByteLaws.{chars-plain, is_plain-append, plain-ascii, plain-name}
use Rattle.content_lines.proofs.TextLaws.{lines_text_injective, lines_text-more}
use Rattle.content_lines.proofs.ValueLaws.{unbroken-append, unbroken-plain}

-- ---- each is a line

unbroken-colon : (value : List ℕ) → has_no_break value ≡ true → has_no_break (58 ∷ value) ≡ true
unfolding has_no_break
unbroken-colon value h = h

no_space : (name value : List ℕ) → is_name name ≡ true → begins_with_space (name ++ 58 ∷ value) ≡ false
no_space [] value e = refl
no_space (c ∷ cs) value e = grind (arith, nat_tests, e)

property_is_line : (p : PropertyValue) → is_property p ≡ true → IsLine (property_line p)
property_is_line p e =
    let parts = and_parts (is_name p.name) (has_no_break p.value) e in
    record {
      unbroken = unbroken-append p.name (58 ∷ p.value) (unbroken-plain p.name (plain-name p.name parts.0)) (unbroken-colon p.value parts.1);
      told = no_space p.name p.value parts.0;
    }

properties_are_lines : (ps : List PropertyValue) → are_properties ps ≡ true → All IsLine (map property_line ps)
properties_are_lines [] e = All-nil IsLine
properties_are_lines (p ∷ ps) e =
    let parts = and_parts (is_property p) (are_properties ps) e in
    All-cons IsLine (property_line p) (map property_line ps) (property_is_line p parts.0) (properties_are_lines ps parts.1)

-- ---- a line is that of one property

no_colon : (c : ℕ) (cs s t : List ℕ) → is_name (c ∷ cs) ≡ true → 58 ∷ s ≡ (c ∷ cs) ++ t → ⊥
no_colon c cs s t plain e =
    let same : 58 ≡ c = cc in
    grind (arith, nat_tests, plain, same)

name_front : (a b s t : List ℕ) → is_name a ≡ true → is_name b ≡ true → a ++ 58 ∷ s ≡ b ++ 58 ∷ t → (a ≡ b) × (s ≡ t)
name_front [] [] s t h k e = (refl, cc)
name_front [] (d ∷ ds) s t h k e = absurd (no_colon d ds s (58 ∷ t) k e)
name_front (c ∷ cs) [] s t h k e = absurd (no_colon c cs t (58 ∷ s) h (sym e))
name_front (c ∷ cs) (d ∷ ds) s t h k e =
    let first : c ≡ d = cc in
    let others : cs ++ 58 ∷ s ≡ ds ++ 58 ∷ t = cc in
    let rest =
    name_front cs ds s t (and_parts (nat_lt 32 c && (nat_lt c 127 && not (c == 58))) (is_name cs) h).1
    (and_parts (nat_lt 32 d && (nat_lt d 127 && not (d == 58))) (is_name ds) k).1 others in
    (λ i. first i ∷ rest.0 i, rest.1)

property_told : (p q : PropertyValue) → is_property p ≡ true → is_property q ≡ true → property_line p ≡ property_line q → p ≡ q
property_told p q h k e =
    let of_p = and_parts (is_name p.name) (has_no_break p.value) h in
    let of_q = and_parts (is_name q.name) (has_no_break q.value) k in
    let parts = name_front p.name q.name p.value q.value of_p.0 of_q.0 e in
    λ i. record { name = parts.0 i; value = parts.1 i }

properties_told : (a b : List PropertyValue) → are_properties a ≡ true → are_properties b ≡ true → map property_line a ≡ map property_line b → a ≡ b
properties_told [] [] h k e = refl
properties_told [] (q ∷ qs) h k e = cc
properties_told (p ∷ ps) [] h k e = cc
properties_told (p ∷ ps) (q ∷ qs) h k e =
    let line : property_line p ≡ property_line q = ap (λ l. get_or l 0 []) e in
    let lines : map property_line ps ≡ map property_line qs = cc in
    let of_p = and_parts (is_property p) (are_properties ps) h in
    let of_q = and_parts (is_property q) (are_properties qs) k in
    let first = property_told p q of_p.0 of_q.0 line in
    let rest = properties_told ps qs of_p.1 of_q.1 lines in
    λ i. first i ∷ rest i

pub properties_text_injective : (a b : List PropertyValue) → are_properties a ≡ true → are_properties b ≡ true → properties_text a ≡ properties_text b → a ≡ b
properties_text_injective a b h k e =
    properties_told a b h k (lines_text_injective (map property_line a) (map property_line b) (properties_are_lines a h) (properties_are_lines b k) e)

-- ---- a text that grows

-- the characters of a line that is written in parts
pub line_chars : (line name value : List ℕ) → is_name name ≡ true → IsUtf8 value → line ≡ (name ++ codes ":") ++ value → chars line ≡ name ++ 58 ∷ chars value
line_chars line name value is text grown =
    let plain = is_plain-append name (codes ":") (plain-name name is) refl in
    ap chars grown
    ∙ (chars-append (name ++ codes ":") value (IsUtf8-from_ascii (name ++ codes ":") (plain-ascii (name ++ codes ":") plain))
    ∙ (ap (λ l. l ++ chars value) (chars-plain (name ++ codes ":") plain) ∙ append_assoc name (codes ":") (chars value)))

pub properties_text-more : (old mid new : List ℕ) (ps : List PropertyValue) (i : ℕ) (p : PropertyValue) → i < length ps → p ≡ get_or ps i p
    → mid ≡ old ++ properties_text (take i ps) → new ≡ mid ++ lines_text (property_line p ∷ []) → new ≡ old ++ properties_text (take (i + 1) ps)
properties_text-more old mid new ps i p inside is before behind =
    lines_text-more old mid new (map property_line (take i ps)) (property_line p ∷ []) before behind
    ∙ ap (λ l. old ++ lines_text l)
    (sym (map-append property_line (take i ps) (p ∷ []))
    ∙ ap (map property_line) (ap (λ (x : PropertyValue). take i ps ++ x ∷ []) is ∙ sym (take_more ps i p inside)))
