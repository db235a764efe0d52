-- The frames of a running line as a trace: each came exactly where it arrives and stands at or
-- before its end's cursor.
use Rattle.std.specs.Prelude.{◌≡◌, ℕ, zero, suc, ◌+◌, false, ◌&&◌, nat_le, List, [], ◌∷◌}
use Rattle.std.specs.List.{AllByRecursion}
use Rattle.trace_text.specs.Fates.{FateValue, arrives, ends_run}
use Rattle.trace_text.specs.Frames.{BearsFragment, fragment_in, is_abort, past_of}
use Rattle.trace_text.specs.Past.{PastFrame}
use Rattle.trace_text.specs.Proper.{AreNumbered}
use Rattle.trace_text.specs.TraceLines.{FrameValue}
use Rattle.trace_text.specs.declared.frame.End.{End}

-- from this number on
abbrev pub CameByCursor : ℕ → (End → ℕ) → List FrameValue → Type 0
CameByCursor number cursor [] = Unit {0}
CameByCursor number cursor (frame ∷ later) =
    (frame.came ≡ (arrives frame.fate && nat_le number (cursor frame.from)))
    × CameByCursor (number + 1) cursor later

-- the frame isn't the abort in place of one
abbrev pub IsNoAbort : FrameValue → Type 0
IsNoAbort frame = is_abort (fragment_in frame).kind ≡ false

pub record FrameFacts (script : ℕ → FateValue) (cursor : End → ℕ) (frames : List FrameValue)
    (past : List PastFrame) : Type 0 where
  pub numbered : AreNumbered 1 script frames
  pub bear : AllByRecursion BearsFragment frames
  pub whole : AllByRecursion IsNoAbort frames
  pub came : CameByCursor 1 cursor frames
  pub past_is : past_of frames ≡ past

-- the run goes on behind a frame
abbrev pub RunsOn : FrameValue → Type 0
RunsOn frame = ends_run frame.fate frame.bytes ≡ false

-- the frame at this place, counted from 0, is one of X, and is marked as come where it arrives
abbrev pub PassesFrame : End → ℕ → List FrameValue → List FrameValue → Type 0
PassesFrame X place [] after = ⊥
PassesFrame X zero (frame ∷ frames) after =
    (frame.from ≡ X) × (after ≡ record frame { came = arrives frame.fate } ∷ frames)
PassesFrame X (suc place) (frame ∷ frames) after =
    (rest : List FrameValue) × (after ≡ frame ∷ rest) × PassesFrame X place frames rest
