-- What a text is as a trace: its frames, or its first bad line.
use Rattle.std.specs.Prelude.{◌≡◌, ℕ, ◌+◌, ◌<◌, ◌≤◌, List, [], ◌∷◌, ◌++◌, length, codes, Result, Ok, Err}
use Rattle.hex.specs.Hex.{IsBytes}
use Rattle.trace_text.specs.Fates.{FateValue, Untouched, fate_words}
use Rattle.trace_text.specs.TraceLines.{FrameValue, frame_line, trace_text}
use Rattle.line_script.specs.Rules.{IsScripted}
use Rattle.trace_check.specs.declared.fault.TraceFault.{TraceFault}
use Rattle.trace_check.specs.declared.fault.TraceFault.TheVariants.{BadLine, NoMemory}

-- a fate that a frame may have: one that a script may give, or none
abbrev pub MayBefall : FateValue → Type 0
MayBefall Untouched = Unit {0}
MayBefall fate = IsScripted fate

-- the words are those of this fate, which a frame may have
pub record IsFateOf (words : List ℕ) (fate : FateValue) : Type 0 where
  pub may : MayBefall fate
  pub is : words ≡ fate_words fate

-- a frame that a trace may have under this number
pub record IsTraced (number : ℕ) (frame : FrameValue) : Type 0 where
  pub numbered : frame.number ≡ number
  pub fate : MayBefall frame.fate
  pub bytes : IsBytes frame.bytes
  pub some : 0 < length frame.bytes
  pub few : length frame.bytes ≤ 1040

-- the line, to which its end is still to come, is this frame's
pub record IsTraceLine (number : ℕ) (frame : FrameValue) (line : List ℕ) : Type 0 where
  pub traced : IsTraced number frame
  pub is : line ++ codes "\n" ≡ frame_line frame

-- frames that a trace may have from this number on
abbrev pub AreTraced : ℕ → List FrameValue → Type 0
AreTraced number [] = Unit {0}
AreTraced number (frame ∷ later) = IsTraced number frame × AreTraced (number + 1) later

-- behind the lines of all frames before this number stands something, which begins with no line of
-- a frame of this number
pub record IsBadLine (bytes : List ℕ) (number : ℕ) : Type 0 where
  pub frames : List FrameValue
  pub rest : List ℕ
  pub traced : AreTraced 1 frames
  pub counted : length frames + 1 ≡ number
  pub is : bytes ≡ trace_text frames ++ rest
  pub some : 0 < length rest
  pub bad : (frame : FrameValue) (later : List ℕ) → IsTraced number frame
      → rest ≡ frame_line frame ++ later → ⊥

-- what a text is: the text of a trace, or bad at its first bad line; of want of memory nothing is
-- said
abbrev pub IsTraceReading : List ℕ → Result (List FrameValue) TraceFault → Type 0
IsTraceReading bytes (Ok frames) = AreTraced 1 frames × (bytes ≡ trace_text frames)
IsTraceReading bytes (Err (BadLine number)) = IsBadLine bytes number
IsTraceReading bytes (Err NoMemory) = Unit {0}
