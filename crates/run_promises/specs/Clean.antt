-- A run over a line that does no frame harm.
use Rattle.std.specs.Prelude.{◌≡◌, ⊤, ℕ, false, List, [], ◌∷◌, Option, None, Some}
use Rattle.trace_text.specs.declared.frame.End.{End}
use Rattle.trace_text.specs.Frames.{past_of}
use Rattle.trace_text.specs.Past.{PastFrame, is_repeat}
use Rattle.call_parts.specs.LineRuns.{frames_in}
use Rattle.call_parts.specs.Scripts.{IsScript}
use Rattle.call_parts.specs.declared.report.Report.{Report}
use Rattle.cmd_status.specs.declared.status.Status.{Status}
use Rattle.cmd_status.specs.declared.status.Status.TheVariants.{LineDown, Unplugged, Aborted, Undetected}

-- the words name no script, or the source shows that its script has no line
abbrev pub HasNoLines : Option (List ℕ) → Option (List ℕ) → Type 0
HasNoLines None left = ⊤
HasNoLines (Some path) None = ⊥
HasNoLines (Some path) (Some bytes) = IsScript bytes []

-- no data frame has the key of the same end's data frame before it
abbrev pub AreSaidOnce : List PastFrame → Type 0
AreSaidOnce [] = ⊤
AreSaidOnce (frame ∷ past) = ((X : End) → is_repeat X frame past ≡ false) × AreSaidOnce past

-- the line stopped the run
abbrev pub IsLineStop : Status → Type 0
IsLineStop (LineDown end) = ⊤
IsLineStop (Unplugged number) = ⊤
IsLineStop (Aborted number) = ⊤
IsLineStop (Undetected number) = ⊤
IsLineStop other = ⊥

-- neither end said anything twice, and the line stopped nothing
pub record GoesThrough (status : Status) (report : Report) : Type 0 where
  pub once : AreSaidOnce (past_of (frames_in report))
  pub stands : ¬ IsLineStop status
