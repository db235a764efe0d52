-- Values and lines that are read again.
use Rattle.std.proofs.lemmas.Bool.Decides.{nat_tests}
use Rattle.std.proofs.Common.{arith, ◌≡◌, ◌∙◌, ap, refl, sym, ℕ, ◌+◌, ◌≤◌, ◌<◌, ◌==◌, true, false, cond, List, [], ◌∷◌, ◌++◌}
use Rattle.std.proofs.lemmas.Str.{chars-nil, encode_ascii, length-encode}
use Rattle.std.proofs.Common.{append-nil, append_assoc, length}
use Rattle.std.proofs.lemmas.List.{nil_from_length}
use Rattle.std.specs.Prelude.{chars, encode_utf8, encode_utf8_all}
use Rattle.std.specs.Char.{len_utf8}
use Rattle.content_lines.specs.Lines.{begins_with_space, escaped, unescaped, folded, unfolded, has_no_break, fits, width}

-- ---- values

plain_first : (c : ℕ) (rest : List ℕ) → (c == 92) ≡ false → unescaped (c ∷ rest) ≡ c ∷ unescaped rest
unfolding unescaped
plain_first c [] e = refl
plain_first c (d ∷ rest) e = rw e refl

escape_first : (d : ℕ) (rest : List ℕ) → unescaped (92 ∷ d ∷ rest) ≡ cond (d == 110) 10 d ∷ unescaped rest
unfolding unescaped
escape_first d rest = refl

pub unescaped-escaped : (text : List ℕ) → unescaped (escaped text) ≡ text
unfolding escaped unescaped
unescaped-escaped [] = refl
unescaped-escaped (c ∷ cs) = grind (arith, nat_tests, unescaped-escaped cs, plain_first c (escaped cs), escape_first c (escaped cs), escape_first 110 (escaped cs))

-- ---- lines

first_kept : (c : ℕ) (rest : List ℕ) → (c == 13) ≡ false → unfolded (c ∷ rest) ≡ c ∷ unfolded rest
unfolding unfolded
first_kept c [] e = rw e refl
first_kept c (d ∷ []) e = rw e refl
first_kept c (d ∷ f ∷ rest) e = rw e refl

break_gone : (rest : List ℕ) → unfolded (13 ∷ 10 ∷ 32 ∷ rest) ≡ unfolded rest
unfolding unfolded
break_gone rest = refl

-- in front of what doesn't begin with a space
pub unfolded-on : (used : ℕ) (line s : List ℕ) → has_no_break line ≡ true → begins_with_space s ≡ false → unfolded (folded used line ++ s) ≡ line
unfolding folded unfolded has_no_break
unfolded-on used [] [] e start = refl
unfolded-on used [] (x ∷ s) e start = rw start refl
unfolded-on used (c ∷ cs) s e start =
    grind (
      arith,
      nat_tests,
      unfolded-on (1 + width c) cs s,
      unfolded-on (used + width c) cs s,
      first_kept c (folded (1 + width c) cs ++ s),
      first_kept c (folded (used + width c) cs ++ s),
      break_gone (c ∷ (folded (1 + width c) cs ++ s)),
    )

pub unfolded-folded : (used : ℕ) (line : List ℕ) → has_no_break line ≡ true → unfolded (folded used line) ≡ line
unfolded-folded used line e = ap unfolded (sym (append-nil (folded used line))) ∙ unfolded-on used line [] e refl

-- ---- short lines

pub width-few : (c : ℕ) → width c ≤ 4
width-few c = omega (arith, length-encode c, len_few c)
  where
    len_few : (c : ℕ) → len_utf8 c ≤ 4
    len_few c = grind (arith, nat_tests)

width-space : width 32 ≡ 1
width-space = omega (arith, length-encode 32, one)
  where
    one : len_utf8 32 ≡ 1
    one = refl

pub fits-folded : (used : ℕ) (line : List ℕ) → used ≤ 75 → has_no_break line ≡ true → fits used (folded used line) ≡ true
unfolding folded fits has_no_break
fits-folded used [] few e = refl
fits-folded used (c ∷ cs) few e =
    grind (arith, nat_tests, width-few c, width-space, fits-folded (1 + width c) cs, fits-folded (used + width c) cs)

-- ---- one more character

pub folded-next : (used c : ℕ) (cs : List ℕ) → 75 < used + width c → folded used (c ∷ cs) ≡ 13 ∷ 10 ∷ 32 ∷ c ∷ folded (1 + width c) cs
unfolding folded
folded-next used c cs more = grind (arith, nat_tests)

pub folded-same : (used c : ℕ) (cs : List ℕ) → used + width c ≤ 75 → folded used (c ∷ cs) ≡ c ∷ folded (used + width c) cs
unfolding folded
folded-same used c cs few = grind (arith, nat_tests)

pub folded-end : (used : ℕ) → folded used [] ≡ 13 ∷ 10 ∷ []
unfolding folded
folded-end used = refl

-- ---- a text that grows by a character

-- a physical line ends, and the next one begins with the character
pub text-next : (old new : List ℕ) (used wide c : ℕ) (cs : List ℕ) → wide ≡ len_utf8 c → 75 < used + wide
    → new ≡ (old ++ 13 ∷ 10 ∷ 32 ∷ []) ++ encode_utf8 c → new ++ encode_utf8_all (folded (1 + wide) cs) ≡ old ++ encode_utf8_all (folded used (c ∷ cs))
text-next old new used wide c cs is more grown =
    let same : wide ≡ width c = is ∙ sym (length-encode c) in
    let more_here : 75 < used + width c = omega (arith, same, more) in
    rw (grown, same, folded-next used c cs more_here, encode_ascii 13 (omega arith), encode_ascii 10 (omega arith), encode_ascii 32 (omega arith))
    (append_assoc (old ++ 13 ∷ 10 ∷ 32 ∷ []) (encode_utf8 c) (encode_utf8_all (folded (1 + width c) cs))
    ∙ append_assoc old (13 ∷ 10 ∷ 32 ∷ []) (encode_utf8 c ++ encode_utf8_all (folded (1 + width c) cs)))

-- it goes on
pub text-same : (old new : List ℕ) (used wide c : ℕ) (cs : List ℕ) → wide ≡ len_utf8 c → used + wide ≤ 75
    → new ≡ old ++ encode_utf8 c → new ++ encode_utf8_all (folded (used + wide) cs) ≡ old ++ encode_utf8_all (folded used (c ∷ cs))
text-same old new used wide c cs is few grown =
    let same : wide ≡ width c = is ∙ sym (length-encode c) in
    let few_here : used + width c ≤ 75 = omega (arith, same, few) in
    rw (grown, same, folded-same used c cs few_here) (append_assoc old (encode_utf8 c) (encode_utf8_all (folded (used + width c) cs)))

-- it ends
pub text-end : (now new : List ℕ) {whole : List ℕ} (used : ℕ) (rest : List ℕ) → length rest ≡ 0 → now ++ encode_utf8_all (folded used (chars rest)) ≡ whole
    → new ≡ now ++ 13 ∷ 10 ∷ [] → new ≡ whole
text-end now new used rest none is grown =
    grown ∙ sym (ap (λ l. now ++ encode_utf8_all l) (ap (folded used) (ap chars (nil_from_length rest none) ∙ chars-nil) ∙ folded-end used)
    ∙ rw (encode_ascii 13 (omega arith), encode_ascii 10 (omega arith)) refl) ∙ is
