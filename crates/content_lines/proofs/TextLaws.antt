-- One text is that of one list of lines.
use Rattle.std.proofs.lemmas.Bool.Decides.{nat_tests}
use Rattle.std.proofs.lemmas.List.{append_cancel_left}
use Rattle.std.proofs.lemmas.List.Elements.{All-head, All-tail}
use Rattle.std.proofs.lemmas.Grind.{flat_map-append}
use Rattle.std.proofs.lemmas.Str.{encodes-append, encodes_same}
use Rattle.std.proofs.Common.{append_assoc}
use Rattle.std.specs.Prelude.{encode_utf8_all}
use Rattle.std.proofs.Common.{arith, ◌≡◌, ◌∙◌, ap, refl, sym, ℕ, ◌+◌, true, false, List, [], ◌∷◌, ◌++◌}
use Rattle.std.specs.Prelude.{All, nat_lt}
use Rattle.std.specs.List.{flat_map}
use Rattle.content_lines.specs.Lines.{IsLine, begins_with_space, folded, has_no_break, lines_text, unfolded, width}
use Rattle.content_lines.proofs.LineLaws.{unfolded-on, width-few}

-- two lines in front of texts that don't begin with a space
folded_front : (a b s t : List ℕ) → has_no_break a ≡ true → has_no_break b ≡ true → begins_with_space s ≡ false → begins_with_space t ≡ false
    → folded 0 a ++ s ≡ folded 0 b ++ t → (a ≡ b) × (s ≡ t)
folded_front a b s t h k start_s start_t e =
    let same : a ≡ b = sym (unfolded-on 0 a s h start_s) ∙ (ap unfolded e ∙ unfolded-on 0 b t k start_t) in
    (same, append_cancel_left (folded 0 a) s t (e ∙ ap (λ l. folded 0 l ++ t) (sym same)))

-- ---- a text of lines

-- a text of lines doesn't begin with a space
line_start : (line s : List ℕ) → IsLine line → begins_with_space (folded 0 line ++ s) ≡ false
unfolding folded
line_start [] s is = refl
line_start (c ∷ cs) s is =
    let few : nat_lt 75 (0 + width c) ≡ false = grind (arith, nat_tests, width-few c) in
    rw few is.told

lines_start : (lines : List (List ℕ)) → All IsLine lines → begins_with_space (flat_map (folded 0) lines) ≡ false
lines_start [] all = refl
lines_start (line ∷ lines) all = line_start line (flat_map (folded 0) lines) (All-head IsLine line lines all)

no_line : (line s : List ℕ) → [] ≡ folded 0 line ++ s → ⊥
unfolding folded
no_line [] s e = cc
no_line (c ∷ cs) s e =
    let few : nat_lt 75 (0 + width c) ≡ false = grind (arith, nat_tests, width-few c) in
    cc (rw few at e)

pub lines_injective : (a b : List (List ℕ)) → All IsLine a → All IsLine b → flat_map (folded 0) a ≡ flat_map (folded 0) b → a ≡ b
lines_injective [] [] h k e = refl
lines_injective [] (line ∷ lines) h k e = absurd (no_line line (flat_map (folded 0) lines) e)
lines_injective (line ∷ lines) [] h k e = absurd (no_line line (flat_map (folded 0) lines) (sym e))
lines_injective (x ∷ xs) (y ∷ ys) h k e =
    let of_x = All-head IsLine x xs h in
    let of_y = All-head IsLine y ys k in
    let tail_x = All-tail IsLine x xs h in
    let tail_y = All-tail IsLine y ys k in
    let front = folded_front x y (flat_map (folded 0) xs) (flat_map (folded 0) ys) of_x.unbroken of_y.unbroken (lines_start xs tail_x)
    (lines_start ys tail_y) e in
    let rest = lines_injective xs ys tail_x tail_y front.1 in
    λ i. front.0 i ∷ rest i

pub lines_text_injective : (a b : List (List ℕ)) → All IsLine a → All IsLine b → lines_text a ≡ lines_text b → a ≡ b
lines_text_injective a b h k e = lines_injective a b h k (encodes_same (flat_map (folded 0) a) (flat_map (folded 0) b) e)

-- ---- texts of lines that grow

pub lines_text-append : (a b : List (List ℕ)) → lines_text (a ++ b) ≡ lines_text a ++ lines_text b
lines_text-append a b = ap encode_utf8_all (flat_map-append (folded 0) a b) ∙ encodes-append (flat_map (folded 0) a) (flat_map (folded 0) b)

-- more lines behind those before
pub lines_text-more : (old mid new : List ℕ) (a b : List (List ℕ)) → mid ≡ old ++ lines_text a → new ≡ mid ++ lines_text b → new ≡ old ++ lines_text (a ++ b)
lines_text-more old mid new a b before behind =
    behind ∙ (ap (λ l. l ++ lines_text b) before ∙ (append_assoc old (lines_text a) (lines_text b) ∙ ap (λ l. old ++ l) (sym (lines_text-append a b))))
