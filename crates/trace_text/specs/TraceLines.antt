-- A trace: the frames of a run in the order of sending, and the text of them.
use Rattle.std.specs.Prelude.{ℕ, Bool, List, ◌++◌, codes, if◌then◌else◌}
use Rattle.std.specs.Fmt.{decimal}
use Rattle.std.specs.List.{flat_map}
use Rattle.hex.specs.Hex.{encode_lower}
use Rattle.trace_text.specs.declared.frame.End.{End}
use Rattle.trace_text.specs.declared.frame.End.TheVariants.{Handheld, Desktop}
use Rattle.trace_text.specs.declared.frame.Frame.{Frame}
use Rattle.trace_text.specs.Fates.{FateValue, fate_value, fate_words}

-- a frame, wherever its bytes lie
pub record FrameValue : Type 0 where
  pub number : ℕ
  pub from : End
  pub fate : FateValue
  pub came : Bool
  pub bytes : List ℕ

-- the frames of the program as frames
abbrev pub frame_value : Frame → FrameValue
frame_value frame =
    record {
      number = frame.number;
      from = frame.from;
      fate = fate_value frame.fate;
      came = frame.came;
      bytes = frame.bytes.items;
    }

-- the word of an end
abbrev pub end_word : End → List ℕ
end_word Handheld = codes "H"
end_word Desktop = codes "D"

-- the mark of a frame that came, and of one that didn't
abbrev pub mark_word : Bool → List ℕ
mark_word came = if came then codes "+" else codes "-"

-- `NUMBER END FATE MARK HEX` and a line feed
abbrev pub frame_line : FrameValue → List ℕ
frame_line frame =
    decimal frame.number ++ codes " " ++ end_word frame.from ++ codes " " ++ fate_words frame.fate
    ++ codes " " ++ mark_word frame.came ++ codes " "
    ++ encode_lower frame.bytes ++ codes "\n"

-- a line for each frame
abbrev pub trace_text : List FrameValue → List ℕ
trace_text frames = flat_map frame_line frames
