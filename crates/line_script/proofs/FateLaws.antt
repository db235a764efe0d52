-- Fates and lines: what is read is written so, and what is written so is read.
use Rattle.std.proofs.Common.{◌≡◌, ℕ, ◌<◌, true, false, eqb, leb, List, [], ◌∷◌, ◌++◌, length, take, drop, Option, Some, None, refl, sym, ap, subst, ◌∙◌, arith}
use Rattle.std.proofs.Common.{append_assoc, inl, inr}
use Rattle.std.specs.Prelude.{bytes_eq, codes, slice_index}
use Rattle.std.specs.Fmt.{decimal}
use Rattle.std.specs.List.{starts_with}
use Rattle.std.proofs.lemmas.Bool.{eqb-false, ne_eqb, leb-false, lt-leb}
use Rattle.std.proofs.lemmas.List.{take-append-drop}
use Rattle.hex.specs.Hex.{encode_lower}
use Rattle.trace_text.specs.Fates.{FateValue, Untouched, Lost, Late, Cut, Hit, Noise, Unplug, Abort, fate_words}
use Rattle.line_script.specs.Rules.{RuleValue, IsScripted, IsLine}
use Rattle.line_script.specs.Words.{split_at_space, number_in, short_in, bytes_in}
use Rattle.line_script.specs.Fates.{cut_in, hit_in, noise_in, harm_in, fate_in, line_in}
use Rattle.line_script.proofs.WordLaws.{bind_some, map_some, guard_some, test_some, some_is, chosen, bytes_is, number_in-found, number_in-only, short_in-found}
use Rattle.line_script.proofs.WordLaws.{short_in-only, bytes_in-found, bytes_in-only, split_at_space-found, split_at_space-decimal}

-- the words are those of this fate, which a script may give
abbrev Reads : List ℕ → FateValue → Type 0
Reads words fate = (words ≡ fate_words fate) × IsScripted fate

behind : (front words : List ℕ) → starts_with eqb words front ≡ true → words ≡ front ++ drop (length front) words
behind front words test = cc (take-append-drop (length front) words, bytes_is front (take (length front) words) test)

cut_in-found : (words : List ℕ) (fate : FateValue) → starts_with eqb words (codes "cut ") ≡ true → cut_in (drop 4 words) ≡ Some fate → Reads words fate
cut_in-found words fate test e =
    let got = map_some (short_in (drop 4 words)) _ fate e in
    let found = short_in-found (drop 4 words) got.0 got.1 in
    rw (← got.2) (behind (codes "cut ") words test ∙ ap (λ xs. codes "cut " ++ xs) found.0, found.1)

noise_in-found : (words : List ℕ) (fate : FateValue) → starts_with eqb words (codes "noise ") ≡ true → noise_in (drop 6 words) ≡ Some fate → Reads words fate
noise_in-found words fate test e =
    let got = map_some (bytes_in 1040 (drop 6 words)) _ fate e in
    let found = bytes_in-found 1040 (drop 6 words) got.0 got.1 in
    rw (← got.2) (behind (codes "noise ") words test ∙ ap (λ xs. codes "noise " ++ xs) found.0, (found.1, found.2, found.3))

append_one : (front xs ys : List ℕ) → front ++ (xs ++ 32 ∷ ys) ≡ ((front ++ xs) ++ 32 ∷ []) ++ ys
append_one front xs ys = simp append_assoc

hit_in-found : (words : List ℕ) (fate : FateValue) → starts_with eqb words (codes "hit ") ≡ true → hit_in (drop 4 words) ≡ Some fate → Reads words fate
hit_in-found words fate test e =
    let parts = bind_some (split_at_space (drop 4 words)) _ fate e in
    let place = bind_some (short_in parts.0.0) _ fate parts.2 in
    let bytes = bind_some (bytes_in 8 parts.0.1) _ fate place.2 in
    let changes = guard_some (eqb (slice_index bytes.0 0) 0) _ fate bytes.2 in
    let is : Hit place.0 bytes.0 ≡ fate = some_is _ _ changes.1 in
    let split = split_at_space-found (drop 4 words) parts.0 parts.1 in
    let number = short_in-found parts.0.0 place.0 place.1 in
    let found = bytes_in-found 8 parts.0.1 bytes.0 bytes.1 in
    let first : slice_index bytes.0 0 ≡ 0 → ⊥ = eqb-false _ _ changes.0 in
    let text : words ≡ fate_words (Hit place.0 bytes.0) = behind (codes "hit ") words test ∙ (ap (λ xs. codes "hit " ++ xs) (split ∙ (ap (λ xs.
    xs ++ 32 ∷ parts.0.1) number.0 ∙ ap (λ xs. decimal place.0 ++ 32 ∷ xs) found.0)) ∙ append_one (codes "hit ") (decimal place.0) (encode_lower bytes.0)) in
    rw (← is) (text, (number.1, found.1, found.3, omega arith))

harm_in-found : (words : List ℕ) (fate : FateValue) → harm_in words ≡ Some fate → Reads words fate
harm_in-found words fate e =
    elim (chosen (starts_with eqb words (codes "cut ")) _ _ _ e) [
      | inl cut ↦ cut_in-found words fate cut.0 cut.1
      | inr no_cut ↦ elim (chosen (starts_with eqb words (codes "hit ")) _ _ _ no_cut.1) [
        | inl hit ↦ hit_in-found words fate hit.0 hit.1
        | inr no_hit ↦ let noise = test_some (starts_with eqb words (codes "noise ")) _ fate no_hit.1 in noise_in-found words fate noise.0 noise.1
      ]
    ]

word_is : (words text : List ℕ) (known fate : FateValue) → bytes_eq words text ≡ true → text ≡ fate_words known → IsScripted known
    → (let o : Option FateValue = Some known in o) ≡ Some fate → Reads words fate
word_is words text known fate test is scripted e = rw (← some_is known fate e) (bytes_is _ _ test ∙ is, scripted)

pub fate_in-found : (words : List ℕ) (fate : FateValue) → fate_in words ≡ Some fate → Reads words fate
fate_in-found words fate e =
    elim (chosen (bytes_eq words (codes "lost")) _ _ _ e) [
      | inl lost ↦ word_is words (codes "lost") Lost fate lost.0 refl tt lost.1
      | inr no_lost ↦ elim (chosen (bytes_eq words (codes "late")) _ _ _ no_lost.1) [
        | inl late ↦ word_is words (codes "late") Late fate late.0 refl tt late.1
        | inr no_late ↦ elim (chosen (bytes_eq words (codes "unplug")) _ _ _ no_late.1) [
          | inl unplug ↦ word_is words (codes "unplug") Unplug fate unplug.0 refl tt unplug.1
          | inr no_unplug ↦ elim (chosen (bytes_eq words (codes "abort")) _ _ _ no_unplug.1) [
            | inl abort ↦ word_is words (codes "abort") Abort fate abort.0 refl tt abort.1
            | inr harm ↦ harm_in-found words fate harm.1
          ]
        ]
      ]
    ]

some_first : (bytes : List ℕ) → 0 < slice_index bytes 0 → 0 < length bytes
some_first [] first = absurd (omega arith)
some_first (byte ∷ bytes) first = omega arith

pub fate_in-only : (fate : FateValue) → IsScripted fate → fate_in (fate_words fate) ≡ Some fate
fate_in-only Untouched scripted = absurd scripted
fate_in-only (Cut count) scripted = rw (short_in-only count scripted) refl
fate_in-only (Hit place bytes) scripted =
    let split = split_at_space-decimal place (encode_lower bytes) (omega (arith, scripted.0)) in
    let some = some_first bytes scripted.3 in
    let changes : eqb (slice_index bytes 0) 0 ≡ false = ne_eqb _ _ (λ e. omega (arith, scripted.3)) in
    ap fate_in (sym (append_one (codes "hit ") (decimal place) (encode_lower bytes)))
    ∙ rw (split, short_in-only place scripted.0, bytes_in-only 8 bytes scripted.1 some scripted.2, changes) refl
fate_in-only (Noise bytes) scripted = grind (arith, bytes_in-only)
fate_in-only other scripted = refl

pub line_in-found : (before : ℕ) (line : List ℕ) (rule : RuleValue) → line_in before line ≡ Some rule → IsLine before rule line
unfolding line_in
line_in-found before line rule e =
    let parts = bind_some (split_at_space line) _ rule e in
    let number = bind_some (number_in parts.0.0) _ rule parts.2 in
    let fate = bind_some (fate_in parts.0.1) _ rule number.2 in
    let rises = guard_some (leb number.0 before) _ rule fate.2 in
    let is : record { number = number.0; fate = fate.0 } ≡ rule = some_is _ _ rises.1 in
    let split = split_at_space-found line parts.0 parts.1 in
    let digits = number_in-found parts.0.0 number.0 number.1 in
    let words = fate_in-found parts.0.1 fate.0 fate.1 in
    let above : before < number.0 = leb-false _ _ rises.0 in
    subst (λ r. IsLine before r line) is
    (record {
      rises = above;
      fits = digits.1;
      scripted = words.1;
      is = split ∙ (ap (λ xs. xs ++ 32 ∷ parts.0.1) digits.0 ∙ ap (λ xs. decimal number.0 ++ 32 ∷ xs) words.0);
    })

pub line_in-only : (before : ℕ) (line : List ℕ) (rule : RuleValue) → IsLine before rule line → line_in before line ≡ Some rule
unfolding line_in
line_in-only before line rule says = grind (arith, lt-leb, split_at_space-decimal, number_in-only, fate_in-only)

pub line_in-none : (before : ℕ) (line : List ℕ) → line_in before line ≡ None → (rule : RuleValue) → IsLine before rule line → ⊥
line_in-none before line none rule says = absurd (cc (none, line_in-only before line rule says))
