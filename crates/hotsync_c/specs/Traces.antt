-- What is answered of the text of a trace.
use Rattle.std.specs.Prelude.{◌≡◌, ◌⊎◌, ⊤, ◌<◌, ℕ, ℤ, pos, List, length, Ok}
use Rattle.trace_text.specs.TraceLines.{FrameValue}
use Rattle.trace_check.specs.Judging.{IsVerdict}
use Rattle.trace_check.specs.Readings.{IsBadLine, IsTraceReading}
use Rattle.trace_check.specs.declared.rule.Rule.{Rule}
use Rattle.trace_check.specs.declared.rule.Rule.TheVariants.{A, B, C, D, E, F, G}
use Rattle.trace_check.specs.declared.rule.Verdict.{Verdict}
use Rattle.trace_check.specs.declared.rule.Verdict.TheVariants.{Proper, Not}
use Rattle.trace_page.specs.Pages.{page_text}
use Rattle.hotsync_c.specs.Answers.{answer_of}
use Rattle.hotsync_c.specs.declared.refusal.Refusal.{Refusal}
use Rattle.hotsync_c.specs.declared.refusal.Refusal.TheVariants.{Memory, Form, BadLine}

-- the most bytes that a trace may have
abbrev pub trace_limit : ℕ
trace_limit = 67108864

-- the letter of a rule, in ASCII
abbrev pub rule_letter : Rule → ℕ
rule_letter A = 65
rule_letter B = 66
rule_letter C = 67
rule_letter D = 68
rule_letter E = 69
rule_letter F = 70
rule_letter G = 71

-- the bytes are the text of a trace, whose page this is
pub record ShowsTrace (bytes text : List ℕ) : Type 0 where
  pub frames : List FrameValue
  pub reading : IsTraceReading bytes (Ok frames)
  pub is : text ≡ page_text frames

-- the bytes are the text of a trace, on which this is the verdict
pub record IsFound (bytes : List ℕ) (verdict : Verdict) : Type 0 where
  pub frames : List FrameValue
  pub reading : IsTraceReading bytes (Ok frames)
  pub is : IsVerdict frames verdict

-- a refusal of the bytes: too many, or a line that is none of a trace, or memory ran out
abbrev pub RefusesTrace : List ℕ → Refusal → Type 0
RefusesTrace bytes Memory = ⊤
RefusesTrace bytes Form = trace_limit < length bytes
RefusesTrace bytes (BadLine line) = IsBadLine bytes line
RefusesTrace bytes _ = ⊥

-- the bytes are the text of a proper trace with so many whole requests and replies
pub record IsProperText (bytes : List ℕ) (requests replies : ℕ) (answer : ℤ) : Type 0 where
  pub found : IsFound bytes (Proper requests replies)
  pub answer_is : answer ≡ pos 0

-- the bytes are the text of a trace, and the answer is the letter of the first rule that it breaks
pub record BreaksTraceRule (bytes : List ℕ) (requests replies : ℕ) (answer : ℤ) : Type 0 where
  pub rule : Rule
  pub found : IsFound bytes (Not rule)
  pub answer_is : answer ≡ pos (rule_letter rule)
  pub no_requests : requests ≡ 0
  pub no_replies : replies ≡ 0

-- nothing is said of the bytes, for the reason that the answer gives
pub record IsRefused (bytes : List ℕ) (requests replies : ℕ) (answer : ℤ) : Type 0 where
  pub refusal : Refusal
  pub refuses : RefusesTrace bytes refusal
  pub answer_is : answer ≡ answer_of refusal
  pub no_requests : requests ≡ 0
  pub no_replies : replies ≡ 0

-- what is answered of bytes that may be the text of a trace
abbrev pub IsJudged : List ℕ → ℕ → ℕ → ℤ → Type 0
IsJudged bytes requests replies answer =
    IsProperText bytes requests replies answer
    ⊎ (BreaksTraceRule bytes requests replies answer ⊎ IsRefused bytes requests replies answer)
