-- A line of a script, and its text.
use Rattle.std.specs.Prelude.{◌≡◌, ◌<◌, ◌≤◌, ◌^◌, ℕ, List, ◌∷◌, ◌++◌, length, slice_index}
use Rattle.std.specs.Fmt.{decimal}
use Rattle.hex.specs.Hex.{IsBytes}
use Rattle.trace_text.specs.Fates.{FateValue, Untouched, Cut, Hit, Noise, fate_value, fate_words}
use Rattle.line_script.specs.declared.script.Rule.{Rule}

-- a frame's number, and its fate
pub record RuleValue : Type 0 where
  pub number : ℕ
  pub fate : FateValue

abbrev pub rule_value : Rule → RuleValue
rule_value rule = record { number = rule.number; fate = fate_value rule.fate }

-- A fate that a script may give: no frame is named to leave it untouched, numbers have 16 bits, a
-- hit has one to eight bytes of which the first changes
-- something, and noise has one to 1,040.
abbrev pub IsScripted : FateValue → Type 0
IsScripted Untouched = ⊥
IsScripted (Cut count) = count < 2 ^ 16
IsScripted (Hit place bytes) =
    (place < 2 ^ 16) × IsBytes bytes × (length bytes ≤ 8) × (0 < slice_index bytes 0)
IsScripted (Noise bytes) = IsBytes bytes × (0 < length bytes) × (length bytes ≤ 1040)
IsScripted _ = Unit {0}

-- `NUMBER FATE`
abbrev pub rule_text : RuleValue → List ℕ
rule_text rule = decimal rule.number ++ 32 ∷ fate_words rule.fate

-- the line says this, behind a line that names the frame `before`, or behind none where that is 0
pub record IsLine (before : ℕ) (rule : RuleValue) (line : List ℕ) : Type 0 where
  pub rises : before < rule.number
  pub fits : rule.number < 2 ^ 32
  pub scripted : IsScripted rule.fate
  pub is : line ≡ rule_text rule
