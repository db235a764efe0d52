-- What the reader of an end counted of the other one's frames.
use Rattle.std.specs.Prelude.{◌≡◌, ℕ, ◌+◌, ◌-◌, ◌^◌, ◌≤◌, min, nat_eq, List, [], ◌∷◌, length, map, if◌then◌else◌}
use Rattle.slp_frames.specs.Readers.{TallyValue}
use Rattle.trace_text.specs.declared.frame.End.{End}
use Rattle.trace_text.specs.declared.frame.Frame.{Frame}
use Rattle.trace_text.specs.Fates.{landing}
use Rattle.trace_text.specs.Past.{is_end}
use Rattle.trace_text.specs.Tallies.{all_land, count_came}
use Rattle.trace_text.specs.TraceLines.{FrameValue, frame_value}
use Rattle.line_laws.specs.Framing.{CameByCursor}
use Rattle.line_steps.specs.Counting.{counts}

-- how many bytes land of the frames of X up to the last one that came
abbrev pub land_to_last : End → List FrameValue → ℕ
land_to_last X [] = 0
land_to_last X (frame ∷ later) = if nat_eq (count_came X (frame ∷ later)) 0 then 0 else
    (if is_end X frame.from then landing frame.fate (length frame.bytes) else 0)
    + land_to_last X later

-- a sum, or the greatest count
abbrev pub capped : ℕ → ℕ
capped sum = min sum (2 ^ 64 - 1)

-- as many packets as frames of X came; at least the bytes that land up to the last of these, and at
-- most those of all
pub record AgreesWith (X : End) (frames : List FrameValue) (tally : TallyValue) : Type 0 where
  pub packets_are : tally.packets ≡ capped (count_came X frames)
  pub least : capped (land_to_last X frames) ≤ tally.bytes
  pub most : tally.bytes ≤ capped (all_land X frames)

-- it counted what landed of all that were taken of them, and nothing else
pub record CountsOf (X : End) (tally : TallyValue) (frames : List Frame) : Type 0 where
  pub cursor : End → ℕ
  pub came : CameByCursor 1 cursor (map frame_value frames)
  pub is : tally ≡ counts X (cursor X) frames (record { bytes = 0; packets = 0 })
  pub sums : AgreesWith X (map frame_value frames) tally
