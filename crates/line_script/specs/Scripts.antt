-- Scripts: what a text in lines says, or its first bad line, and the fate of each frame.
use Rattle.std.specs.Prelude.{◌<◌, ◌≤◌, ◌==◌, ℕ, zero, suc, if◌then◌else◌, ⊤, List, [], ◌∷◌, length, Result, Ok, Err}
use Rattle.trace_text.specs.Fates.{FateValue, Untouched}
use Rattle.line_script.specs.Rules.{RuleValue, IsLine}
use Rattle.line_script.specs.Lines.{lines_of}
use Rattle.line_script.specs.declared.fault.ScriptFault.{ScriptFault}
use Rattle.line_script.specs.declared.fault.ScriptFault.TheVariants.{TooLong, BadLine, NoMemory}

-- the numbers rise from above this one
abbrev pub Rise : ℕ → List RuleValue → Type 0
Rise before [] = ⊤
Rise before (rule ∷ later) = (before < rule.number) × Rise rule.number later

-- the fate of a frame: where the script doesn't name it, it goes through untouched
abbrev pub fate_by : List RuleValue → ℕ → FateValue
fate_by [] number = Untouched
fate_by (rule ∷ later) number = if rule.number == number then rule.fate else fate_by later number

-- the lines say this, one each
abbrev pub AreRuleLines : ℕ → List RuleValue → List (List ℕ) → Type 0
AreRuleLines before [] [] = ⊤
AreRuleLines before [] (line ∷ later) = ⊥
AreRuleLines before (rule ∷ rules) [] = ⊥
AreRuleLines before (rule ∷ rules) (line ∷ later) =
    IsLine before rule line × AreRuleLines rule.number rules later

-- the line of this number, from 1 on, is the first that says nothing
abbrev pub IsFirstBadRule : ℕ → List (List ℕ) → ℕ → Type 0
IsFirstBadRule before [] number = ⊥
IsFirstBadRule before (line ∷ later) zero = ⊥
IsFirstBadRule before (line ∷ later) (suc zero) = (rule : RuleValue) → ¬ (IsLine before rule line)
IsFirstBadRule before (line ∷ later) (suc (suc number)) =
    (rule : RuleValue) × IsLine before rule line × IsFirstBadRule rule.number later (suc number)

-- how many lines a script has at most
abbrev pub most_lines : ℕ
most_lines = 100000

-- what a text is: a script, or too long, or bad at its first bad line; of want of memory nothing is
-- said
abbrev pub IsReading : List ℕ → Result (List RuleValue) ScriptFault → Type 0
IsReading bytes (Ok rules) =
    (length (lines_of bytes) ≤ most_lines) × AreRuleLines 0 rules (lines_of bytes)
IsReading bytes (Err TooLong) = most_lines < length (lines_of bytes)
IsReading bytes (Err (BadLine number)) =
    (length (lines_of bytes) ≤ most_lines) × IsFirstBadRule 0 (lines_of bytes) number
IsReading bytes (Err NoMemory) = ⊤
