-- The script of a session between made folders.
use Rattle.std.proofs.Common.{◌≡◌, ◌∙◌, ◌+◌, ◌-◌, ◌*◌, ◌^◌, ◌<◌, ◌≤◌, ℕ, zero, suc, refl, sym, ap, subst, arith, append_assoc, ne_eqb, false, List, [], ◌∷◌}
use Rattle.std.proofs.Common.{◌++◌, length, map, Ok}
use Rattle.std.specs.Prelude.{codes, eqb}
use Rattle.std.specs.Fmt.{decimal}
use Rattle.std.specs.Int.Digits.{digits_of}
use Rattle.std.proofs.lemmas.Fmt.{decimal-digits_of}
use Rattle.trace_text.specs.Fates.{Lost}
use Rattle.line_script.specs.Lines.{lines_of}
use Rattle.line_script.specs.Rules.{RuleValue, rule_text}
use Rattle.line_script.specs.Scripts.{AreRuleLines, IsReading}
use Rattle.line_script.proofs.ScriptLaws.{one_reading}
use Rattle.cmd_session.specs.Makes.{losses, made_script, script_text}

-- ---- its lines

-- digits in front of a line belong to it
lines-digits : (digits rest : List ℕ) {line : List ℕ} {later : List (List ℕ)} → lines_of rest ≡ line ∷ later
    → lines_of (map (λ d. 48 + d) digits ++ rest) ≡ (map (λ d. 48 + d) digits ++ line) ∷ later
lines-digits [] rest is = is
lines-digits (d ∷ digits) rest is =
    let other : eqb (48 + d) 10 ≡ false = ne_eqb _ _ (λ e. omega arith) in
    let behind = lines-digits digits rest is in
    rw (other, behind) refl

abbrev lost_line : ℕ → List ℕ
lost_line number = decimal number ++ codes " lost"

lines-lost : (number : ℕ) (rest : List ℕ) → 0 < number → number < 2 ^ 64
    → lines_of ((lost_line number ++ 10 ∷ []) ++ rest) ≡ lost_line number ∷ lines_of rest
lines-lost number rest some fits =
    grind (
      arith,
      decimal-digits_of number some fits,
      lost_line number,
      [],
      append_assoc (lost_line number) (10 ∷ []) rest,
      append_assoc (decimal number) (codes " lost") (10 ∷ rest),
      lines-digits (digits_of 10 number) (codes " lost" ++ (10 ∷ rest)) {line = codes " lost"}
          {later = lines_of rest} refl,
    )

losses-suc : (number count : ℕ) → losses number (suc count) ≡ record { number = number; fate = Lost } ∷ losses (number + 20) count
unfolding losses
losses-suc number count = refl

losses-zero : (number : ℕ) → losses number zero ≡ []
unfolding losses
losses-zero number = refl

text-suc : (number count : ℕ) → script_text (losses number (suc count)) ≡ (lost_line number ++ 10 ∷ []) ++ script_text (losses (number + 20) count)
text-suc number count = ap script_text (losses-suc number count)

lines-losses : (number count : ℕ) → 0 < number → number + 20 * count < 2 ^ 32
    → lines_of (script_text (losses number count)) ≡ map rule_text (losses number count)
lines-losses number zero some fits = grind (arith, losses-zero number, map rule_text)
lines-losses number (suc count) some fits =
    grind (
      arith,
      text-suc number count,
      lines-lost number (script_text (losses (number + 20) count)) some (omega arith),
      lost_line number,
      lines-losses (number + 20) count (omega arith) (omega arith),
      map rule_text,
      losses-suc number count,
    )

are-lines : (before number count : ℕ) → before < number → number + 20 * count < 2 ^ 32
    → AreRuleLines before (losses number count) (map rule_text (losses number count))
are-lines before number zero above fits = grind (arith, map rule_text, losses-zero number)
are-lines before number (suc count) above fits =
    grind (arith, lost_line number, map rule_text, losses-suc number count, are-lines number (number + 20) count (omega arith) (omega arith))

length-losses : (number count : ℕ) → length (map rule_text (losses number count)) ≡ count
length-losses number zero = ap (λ (l : List RuleValue). length (map rule_text l)) (losses-zero number)
length-losses number (suc count) = grind (arith, map rule_text, losses-suc number count, length-losses (number + 20) count)

-- its text says it
pub made_reading : IsReading (script_text made_script) (Ok made_script)
made_reading = grind (arith, lines-losses 20 1000 (omega arith) (omega arith), length-losses 20 1000, are-lines 0 20 1000 (omega arith) (omega arith))

-- and nothing else
pub made_script_is : {text : List ℕ} (script : List RuleValue) → text ≡ script_text made_script → IsReading text (Ok script) → script ≡ made_script
made_script_is {text} script is reads =
    let reading : IsReading text (Ok made_script) = subst (λ (t : List ℕ). IsReading t (Ok made_script)) (sym is) made_reading in
    let same = one_reading text (Ok script) (Ok made_script) reads reading (λ e. cc) (λ e. cc) in
    cc

-- ---- writing it

-- what was written, and what is left to write, are the text
pub losses_grow : (text line : List ℕ) (place : ℕ) → place < 1000 → line ≡ decimal (20 * (place + 1)) ++ codes " lost" ++ 10 ∷ []
    → text ++ script_text (losses (20 * (place + 1)) (1000 - place)) ≡ script_text made_script
    → (text ++ line) ++ script_text (losses (20 * (place + 1 + 1)) (1000 - (place + 1))) ≡ script_text made_script
losses_grow text line place more line_is so_far =
    grind (
      arith,
      text-suc (20 * (place + 1)) (1000 - (place + 1)),
      lost_line (20 * (place + 1)),
      [],
      append_assoc text line (script_text (losses (20 * (place + 1 + 1)) (1000 - (place + 1)))),
    )

-- nothing is left
pub losses_whole : (text : List ℕ) (place : ℕ) → 1000 ≤ place → text ++ script_text (losses (20 * (place + 1)) (1000 - place)) ≡ script_text made_script
    → text ≡ script_text made_script
losses_whole text place all so_far =
    let none : 1000 - place ≡ 0 = omega arith in
    let ended : script_text (losses (20 * (place + 1)) (1000 - place)) ≡ [] =
    ap (λ (n : ℕ). script_text (losses (20 * (place + 1)) n)) none ∙ ap script_text (losses-zero (20 * (place + 1))) in
    sym (ap (λ (l : List ℕ). text ++ l) ended ∙ append_nil text) ∙ so_far
  where
    append_nil : (l : List ℕ) → l ++ [] ≡ l
    append_nil [] = refl
    append_nil (x ∷ l) = ap (λ (m : List ℕ). x ∷ m) (append_nil l)
