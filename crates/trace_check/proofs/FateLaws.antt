-- The words of a fate, read as a script of one line.
use Rattle.std.proofs.Common.{◌≡◌, ℕ, zero, suc, true, eqb, List, [], ◌∷◌, ◌++◌, length, Ok, Err, refl, sym, ap, ◌∙◌, arith}
use Rattle.std.specs.Prelude.{codes}
use Rattle.std.specs.Fmt.{decimal}
use Rattle.std.specs.Str.Parse.{AllDigits}
use Rattle.std.proofs.lemmas.Fmt.{decimal_is_IsNumeral, decimal_digit}
use Rattle.trace_text.specs.Fates.{FateValue, fate_words}
use Rattle.line_script.specs.Rules.{RuleValue, IsScripted, IsLine}
use Rattle.line_script.specs.Lines.{lines_of}
use Rattle.line_script.specs.Scripts.{fate_by, AreRuleLines, IsFirstBadRule, IsReading}
use Rattle.line_script.specs.Words.{number_in}
use Rattle.line_script.specs.declared.fault.ScriptFault.{ScriptFault}
use Rattle.line_script.specs.declared.fault.ScriptFault.TheVariants.{TooLong, BadLine, NoMemory}
use Rattle.line_script.proofs.WordLaws.{some_is, number_in-only, digit_is_none}
use Rattle.trace_check.specs.Words.{is_feed}
use Rattle.trace_check.specs.Readings.{IsFateOf}
use Rattle.trace_check.proofs.PlainLaws.{Without, parts-once}
use Rattle.trace_check.proofs.LineLaws.{scripted-befalls, befalls-scripted}

one_line : (byte : ℕ) (bytes : List ℕ) → Without is_feed (byte ∷ bytes) → lines_of (byte ∷ bytes) ≡ (byte ∷ bytes) ∷ []
one_line byte [] all = rw all.0 refl
one_line byte (next ∷ bytes) all = rw (all.0, one_line next bytes all.1) refl

-- a script of one line that names frame 1
abbrev pub script_line : List ℕ → List ℕ
script_line words = 49 ∷ 32 ∷ words

lines_of-script : (words : List ℕ) → Without is_feed words → lines_of (script_line words) ≡ script_line words ∷ []
lines_of-script words all = one_line 49 (32 ∷ words) (refl, (refl, all))

no_space : (bytes : List ℕ) → AllDigits 10 bytes → Without (λ byte. eqb byte 32) bytes
no_space [] digits = tt
no_space (byte ∷ bytes) digits = (digit_is_none byte digits.0, no_space bytes digits.1)

-- the line names frame 1, and the words are the fate's
line_fate : (words : List ℕ) (rule : RuleValue) → IsLine 0 rule (script_line words) → (rule.number ≡ 1) × (words ≡ fate_words rule.fate)
line_fate words rule says =
    let digits = (decimal_is_IsNumeral rule.number (omega (arith, says.fits))).0.1 in
    let parts = parts-once (λ byte. eqb byte 32) (49 ∷ []) (decimal rule.number) 32 32 words (fate_words rule.fate) (refl, tt)
    (no_space (decimal rule.number) digits) refl refl says.is in
    let one : decimal 1 ≡ 49 ∷ [] = decimal_digit 1 (omega arith) in
    let same : decimal rule.number ≡ decimal 1 = sym parts.0 ∙ sym one in (
      some_is rule.number 1 (sym (number_in-only rule.number says.fits) ∙ (ap number_in same ∙ number_in-only 1 (omega arith))),
      parts.2,
    )

read_lines : (words : List ℕ) (rules : List RuleValue) (fate : FateValue) → AreRuleLines 0 rules (script_line words ∷ []) → fate ≡ fate_by rules 1 → IsFateOf words fate
read_lines words [] its are is = absurd are
read_lines words (rule ∷ next ∷ rules) its are is = absurd are.1
read_lines words (rule ∷ []) its are is =
    let says = line_fate words rule are.0 in
    let named : eqb rule.number 1 ≡ true = rw says.0 refl in
    let same : its ≡ rule.fate = is ∙ rw named refl in
    record { may = rw same (scripted-befalls rule.fate are.0.scripted); is = says.1 ∙ ap fate_words (sym same) }

-- the fate of frame 1 is the one whose words these are
pub script-fate : (words : List ℕ) (rules : List RuleValue) (fate : FateValue) → Without is_feed words → IsReading (script_line words) (Ok rules)
    → fate ≡ fate_by rules 1 → IsFateOf words fate
script-fate words rules fate all read is =
    read_lines words rules fate (rw (← lines_of-script words all) read.1) is

bad_line : (words : List ℕ) (number : ℕ) (rule : RuleValue) → IsLine 0 rule (script_line words) → IsFirstBadRule 0 (script_line words ∷ []) number → ⊥
bad_line words zero rule says bad = bad
bad_line words (suc zero) rule says bad = bad rule says
bad_line words (suc (suc number)) rule says bad = bad.2

says-fate : (words : List ℕ) (fate : FateValue) → IsScripted fate → words ≡ fate_words fate → IsLine 0 (record { number = 1; fate = fate }) (script_line words)
says-fate words fate scripted is = record {
  rises = omega arith;
  fits = omega arith;
  scripted = scripted;
  is = ap (λ xs. 49 ∷ 32 ∷ xs) is ∙ sym (ap (λ xs. xs ++ 32 ∷ fate_words fate) (decimal_digit 1 (omega arith)));
}

-- where the script is refused, the words are no fate's
pub script-none : (words : List ℕ) (fault : ScriptFault) → Without is_feed words → (words ≡ codes "ok" → ⊥) → (fault ≡ NoMemory → ⊥)
    → IsReading (script_line words) (Err fault) → (fate : FateValue) → IsFateOf words fate → ⊥
script-none words NoMemory all other known read given its = known refl
script-none words TooLong all other known read given its =
    let one : length (lines_of (script_line words)) ≡ 1 = ap length (lines_of-script words all) in omega (arith, one, read)
script-none words (BadLine number) all other known read given its =
    let scripted = befalls-scripted given its.may (λ e. other (its.is ∙ e)) in
    bad_line words number _ (says-fate words given scripted its.is) (rw (← lines_of-script words all) read.1)
