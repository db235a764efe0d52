-- Values are told, and have no line breaks.
use Rattle.std.proofs.lemmas.Bool.Decides.{nat_tests}
use Rattle.std.proofs.lemmas.List.{append_cancel_left}
use Rattle.std.proofs.Common.{arith, ◌≡◌, ◌∙◌, ◌==◌, ap, refl, sym, ℕ, suc, true, false, List, [], ◌∷◌, ◌++◌, append_assoc, cond, drop, length}
use Rattle.std.specs.Prelude.{if◌then◌else◌}
use Rattle.palm_records.specs.Characters.{char_of, characters}
use Rattle.palm_records.proofs.CharacterLaws.{every, every_at}
use Rattle.content_lines.specs.Lines.{escaped, escaped_char, has_no_break, meant, unescaped}
use Rattle.content_lines.specs.Properties.{IsBytes, is_plain, parts_value, text_value}
use Rattle.content_lines.proofs.ByteLaws.{characters_injective}
use Rattle.content_lines.proofs.LineLaws.{unescaped-escaped}

-- ---- no line breaks

pub unbroken-append : (a b : List ℕ) → has_no_break a ≡ true → has_no_break b ≡ true → has_no_break (a ++ b) ≡ true
unfolding has_no_break
unbroken-append [] b e f = f
unbroken-append (c ∷ cs) b e f = grind (arith, unbroken-append cs b, e, f)

pub unbroken-plain : (a : List ℕ) → is_plain a ≡ true → has_no_break a ≡ true
unfolding has_no_break
unbroken-plain [] e = refl
unbroken-plain (c ∷ cs) e = grind (arith, nat_tests, unbroken-plain cs, e)

no_breaks : every (λ b. has_no_break (escaped_char (char_of b))) 256 ≡ true
unfolding every char_of has_no_break
no_breaks = refl

pub unbroken-text : (text : List ℕ) → IsBytes text → has_no_break (text_value text) ≡ true
unfolding escaped has_no_break
unbroken-text [] h = refl
unbroken-text (b ∷ bs) h =
    unbroken-append (escaped_char (char_of b)) (text_value bs) (every_at (λ x. has_no_break (escaped_char (char_of x))) 256 b no_breaks (h 0))
    (unbroken-text bs (λ i. h (suc i)))

unbroken-semicolon : (rest : List ℕ) → has_no_break rest ≡ true → has_no_break (59 ∷ rest) ≡ true
unfolding has_no_break
unbroken-semicolon rest h = h

-- each is of bytes
abbrev pub AreBytes : List (List ℕ) → Type 0
AreBytes [] = Unit {0}
AreBytes (text ∷ texts) = IsBytes text × AreBytes texts

pub unbroken-parts : (texts : List (List ℕ)) → AreBytes texts → has_no_break (parts_value texts) ≡ true
unfolding has_no_break
unbroken-parts [] h = refl
unbroken-parts (v ∷ []) h = unbroken-text v h.0
unbroken-parts (v ∷ w ∷ texts) h =
    unbroken-append (text_value v) (59 ∷ parts_value (w ∷ texts)) (unbroken-text v h.0)
    (unbroken-semicolon (parts_value (w ∷ texts)) (unbroken-parts (w ∷ texts) h.1))

-- ---- texts

pub text_value_injective : (v w : List ℕ) → IsBytes v → IsBytes w → text_value v ≡ text_value w → v ≡ w
text_value_injective v w h k e =
    characters_injective v w h k (sym (unescaped-escaped (characters v)) ∙ (ap unescaped e ∙ unescaped-escaped (characters w)))

-- ---- texts with semicolons between them

-- the characters in front of the first semicolon without a backslash
unfoldable first_in : List ℕ → List ℕ
first_in [] = []
first_in (c ∷ []) = if c == 59 then [] else c ∷ []
first_in (c ∷ d ∷ rest) = if c == 59 then [] else (if c == 92 then meant d ∷ first_in rest else c ∷ first_in (d ∷ rest))

plain_in : (c : ℕ) (rest : List ℕ) → (c == 59) ≡ false → (c == 92) ≡ false → first_in (c ∷ rest) ≡ c ∷ first_in rest
unfolding first_in
plain_in c [] e f = rw e refl
plain_in c (d ∷ rest) e f = rw (e, f) refl

escape_in : (d : ℕ) (rest : List ℕ) → first_in (92 ∷ d ∷ rest) ≡ cond (d == 110) 10 d ∷ first_in rest
unfolding first_in
escape_in d rest = refl

semicolon_in : (s : List ℕ) → first_in (59 ∷ s) ≡ []
unfolding first_in
semicolon_in [] = refl
semicolon_in (d ∷ rest) = refl

first-escaped : (text s : List ℕ) → first_in (escaped text ++ 59 ∷ s) ≡ text
unfolding escaped
first-escaped [] s = semicolon_in s
first-escaped (c ∷ cs) s =
    let rest = escaped cs ++ 59 ∷ s in
    ap first_in (append_assoc (escaped_char c) (escaped cs) (59 ∷ s))
    ∙ grind (arith, nat_tests, first-escaped cs s, plain_in c rest, escape_in c rest, escape_in 110 rest)

value_front : (v w s t : List ℕ) → IsBytes v → IsBytes w → text_value v ++ 59 ∷ s ≡ text_value w ++ 59 ∷ t → (v ≡ w) × (s ≡ t)
value_front v w s t h k e =
    let same : v ≡ w =
    characters_injective v w h k (sym (first-escaped (characters v) s) ∙ (ap first_in e ∙ first-escaped (characters w) t)) in
    (same, ap (drop 1) (append_cancel_left (text_value v) (59 ∷ s) (59 ∷ t) (e ∙ ap (λ l. text_value l ++ 59 ∷ t) (sym same))))

pub parts_injective : (a b : List (List ℕ)) → length a ≡ length b → AreBytes a → AreBytes b → parts_value a ≡ parts_value b → a ≡ b
parts_injective [] [] n h k e = refl
parts_injective [] (w ∷ ws) n h k e = absurd (omega (arith, n))
parts_injective (v ∷ vs) [] n h k e = absurd (omega (arith, n))
parts_injective (v ∷ []) (w ∷ []) n h k e =
    let one = text_value_injective v w h.0 k.0 e in
    λ i. one i ∷ []
parts_injective (v ∷ []) (w ∷ y ∷ ws) n h k e = absurd (omega (arith, n))
parts_injective (v ∷ x ∷ vs) (w ∷ []) n h k e = absurd (omega (arith, n))
parts_injective (v ∷ x ∷ vs) (w ∷ y ∷ ws) n h k e =
    let front = value_front v w (parts_value (x ∷ vs)) (parts_value (y ∷ ws)) h.0 k.0 e in
    let rest = parts_injective (x ∷ vs) (y ∷ ws) (omega (arith, n)) h.1 k.1 front.1 in
    λ i. front.0 i ∷ rest i
