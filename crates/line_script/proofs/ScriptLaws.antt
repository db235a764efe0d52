-- Scripts: a text has one reading, and reading goes on line by line.
use Rattle.std.proofs.Common.{◌≡◌, ℕ, zero, suc, ◌+◌, List, [], ◌∷◌, ◌++◌, length, Result, Ok, Err, refl, sym, ap, subst, ◌∙◌, append_assoc, arith}
use Rattle.std.proofs.lemmas.List.{append-nil, length-append}
use Rattle.line_script.specs.Rules.{RuleValue, IsLine}
use Rattle.line_script.specs.Lines.{lines_of}
use Rattle.line_script.specs.Scripts.{Rise, AreRuleLines, IsFirstBadRule, IsReading}
use Rattle.line_script.specs.declared.fault.ScriptFault.{ScriptFault}
use Rattle.line_script.specs.declared.fault.ScriptFault.TheVariants.{TooLong, BadLine, NoMemory}
use Rattle.line_script.proofs.WordLaws.{some_is}
use Rattle.line_script.proofs.FateLaws.{line_in-only}

same_rule : (before : ℕ) (x y : RuleValue) (line : List ℕ) → IsLine before x line → IsLine before y line → x ≡ y
same_rule before x y line a b = some_is x y (sym (line_in-only before line x a) ∙ line_in-only before line y b)

same_lines : (before : ℕ) (xs ys : List RuleValue) (lines : List (List ℕ)) → AreRuleLines before xs lines → AreRuleLines before ys lines → xs ≡ ys
same_lines before [] [] [] a b = refl
same_lines before [] (y ∷ ys) [] a b = absurd b
same_lines before (x ∷ xs) ys [] a b = absurd a
same_lines before [] ys (line ∷ lines) a b = absurd a
same_lines before (x ∷ xs) [] (line ∷ lines) a b = absurd b
same_lines before (x ∷ xs) (y ∷ ys) (line ∷ lines) a b =
    let is = same_rule before x y line a.0 b.0 in
    let rest = same_lines y.number xs ys lines (rw (← is) a.1) b.1 in
    cc

none_bad : (before : ℕ) (xs : List RuleValue) (lines : List (List ℕ)) (number : ℕ) → AreRuleLines before xs lines → IsFirstBadRule before lines number → ⊥
none_bad before xs [] number a bad = bad
none_bad before [] (line ∷ lines) number a bad = a
none_bad before (x ∷ xs) (line ∷ lines) zero a bad = bad
none_bad before (x ∷ xs) (line ∷ lines) (suc zero) a bad = bad x a.0
none_bad before (x ∷ xs) (line ∷ lines) (suc (suc number)) a bad =
    let is = same_rule before x bad.0 line a.0 bad.1 in
    none_bad bad.0.number xs lines (suc number) (rw (← is) a.1) bad.2

one_bad : (before : ℕ) (lines : List (List ℕ)) (m n : ℕ) → IsFirstBadRule before lines m → IsFirstBadRule before lines n → m ≡ n
one_bad before [] m n a b = absurd a
one_bad before (line ∷ lines) zero n a b = absurd a
one_bad before (line ∷ lines) (suc m) zero a b = absurd b
one_bad before (line ∷ lines) (suc zero) (suc zero) a b = refl
one_bad before (line ∷ lines) (suc zero) (suc (suc n)) a b = absurd (a b.0 b.1)
one_bad before (line ∷ lines) (suc (suc m)) (suc zero) a b = absurd (b a.0 a.1)
one_bad before (line ∷ lines) (suc (suc m)) (suc (suc n)) a b =
    let is = same_rule before a.0 b.0 line a.1 b.1 in
    let more = one_bad b.0.number lines (suc m) (suc n) (rw (← is) a.2) b.2 in
    omega arith

pub one_reading : (bytes : List ℕ) (x y : Result (List RuleValue) ScriptFault) → IsReading bytes x → IsReading bytes y → ¬ (x ≡ Err NoMemory)
    → ¬ (y ≡ Err NoMemory) → x ≡ y
one_reading bytes (Ok xs) (Ok ys) a b none_x none_y = grind (arith, same_lines)
one_reading bytes (Ok xs) (Err TooLong) a b none_x none_y = absurd (omega (arith, a.0, b))
one_reading bytes (Ok xs) (Err (BadLine n)) a b none_x none_y = grind (arith, none_bad)
one_reading bytes (Ok xs) (Err NoMemory) a b none_x none_y = absurd (none_y refl)
one_reading bytes (Err TooLong) (Ok ys) a b none_x none_y = absurd (omega (arith, b.0, a))
one_reading bytes (Err TooLong) (Err TooLong) a b none_x none_y = refl
one_reading bytes (Err TooLong) (Err (BadLine n)) a b none_x none_y = absurd (omega (arith, b.0, a))
one_reading bytes (Err TooLong) (Err NoMemory) a b none_x none_y = absurd (none_y refl)
one_reading bytes (Err (BadLine m)) (Ok ys) a b none_x none_y = grind (arith, none_bad)
one_reading bytes (Err (BadLine m)) (Err TooLong) a b none_x none_y = absurd (omega (arith, a.0, b))
one_reading bytes (Err (BadLine m)) (Err (BadLine n)) a b none_x none_y = grind (arith, one_bad)
one_reading bytes (Err (BadLine m)) (Err NoMemory) a b none_x none_y = absurd (none_y refl)
one_reading bytes (Err NoMemory) y a b none_x none_y = absurd (none_x refl)

-- ---- line by line

-- Where the lines of these rules were read and the rest is left: what the rest says goes behind them, and its first bad line is that of all.
pub record Goes (bytes : List ℕ) (rules : List RuleValue) (before : ℕ) (rest : List ℕ) : Type 0 where
  pub lines : (more : List RuleValue) → AreRuleLines before more (lines_of rest) → AreRuleLines 0 (rules ++ more) (lines_of bytes)
  pub bad : (number : ℕ) → IsFirstBadRule before (lines_of rest) (suc number) → IsFirstBadRule 0 (lines_of bytes) (length rules + suc number)
  pub count : length rules + length (lines_of rest) ≡ length (lines_of bytes)

append_rule : (rules more : List RuleValue) (rule : RuleValue) → (rules ++ rule ∷ []) ++ more ≡ rules ++ rule ∷ more
append_rule rules more rule = append_assoc rules (rule ∷ []) more

length_one : (rules : List RuleValue) (rule : RuleValue) → length (rules ++ rule ∷ []) ≡ length rules + 1
length_one rules rule = length-append rules (rule ∷ [])

counted : (lines later : List (List ℕ)) (line : List ℕ) → lines ≡ line ∷ later → length lines ≡ length later + 1
counted lines later line is = rw is (omega arith)

pub goes-on : {bytes : List ℕ} {rules : List RuleValue} {before : ℕ} {rest line behind : List ℕ} {rule : RuleValue}
    → Goes bytes rules before rest → lines_of rest ≡ line ∷ lines_of behind → IsLine before rule line → Goes bytes (rules ++ rule ∷ []) rule.number behind
goes-on {bytes} {rules} {before} {rest} {line} {behind} {rule} goes split says =
    let len = length_one rules rule in
    record {
      lines = λ more are. subst (λ (rs : List RuleValue). AreRuleLines 0 rs (lines_of bytes))
          (sym (append_rule rules more rule)) (goes.lines (rule ∷ more) (subst (AreRuleLines before (rule ∷ more)) (sym split) (says, are)));
      bad = λ number bad.
          let there = goes.bad (suc number) (subst (λ (ls : List (List ℕ)). IsFirstBadRule before ls (suc (suc number))) (sym split) (rule, says, bad)) in
          let place : length rules + suc (suc number) ≡ length (rules ++ rule ∷ []) + suc number = omega arith in
          subst (IsFirstBadRule 0 (lines_of bytes)) place there;
      count = omega (arith, goes.count, counted (lines_of rest) (lines_of behind) line split);
    }

pub goes-bad : {bytes : List ℕ} {rules : List RuleValue} {before : ℕ} {rest line : List ℕ} (behind : List ℕ) → Goes bytes rules before rest
    → lines_of rest ≡ line ∷ lines_of behind → ((rule : RuleValue) → ¬ (IsLine before rule line)) → IsFirstBadRule 0 (lines_of bytes) (length rules + 1)
goes-bad {before} behind goes split none =
    goes.bad 0 (subst (λ (ls : List (List ℕ)). IsFirstBadRule before ls 1) (sym split) none)

pub goes-end : {bytes : List ℕ} {rules : List RuleValue} {before : ℕ} {rest : List ℕ}
    → Goes bytes rules before rest → rest ≡ [] → AreRuleLines 0 rules (lines_of bytes)
goes-end {bytes} {rules} {before} {rest} goes end =
    let none : lines_of rest ≡ [] = ap lines_of end in
    rw (← append-nil rules) (goes.lines [] (subst (AreRuleLines before []) (sym none) tt))

-- ---- the numbers rise

pub lines-rise : (before : ℕ) (rules : List RuleValue) (lines : List (List ℕ)) → AreRuleLines before rules lines → Rise before rules
lines-rise before [] lines are = tt
lines-rise before (rule ∷ rules) [] are = absurd are
lines-rise before (rule ∷ rules) (line ∷ lines) are = (are.0.rises, lines-rise rule.number rules lines are.1)
