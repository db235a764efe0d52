-- What holds of each page.
use Rattle.std.specs.Prelude.{◌≡◌, ◌==◌, ◌&&◌, ◌||◌, nat_le, ℕ, Bool, true, List, [], ◌∷◌}
use Rattle.std.specs.Fmt.{decimal}
use Rattle.std.specs.List.{AllByRecursion}
use Rattle.hex.specs.Hex.{encode_lower}
use Rattle.trace_text.specs.Fates.{fate_words}
use Rattle.trace_text.specs.TraceLines.{FrameValue, trace_text}
use Rattle.trace_check.specs.Readings.{AreTraced, IsTraced}
use Rattle.trace_page.specs.Bearings.{borne}
use Rattle.trace_page.specs.CodeLines.{code_lines}
use Rattle.trace_page.specs.Names.{name_of}
use Rattle.trace_page.specs.Pages.{page_text}
use Rattle.trace_page.specs.Rows.{classes, line_of}
use Rattle.trace_page.specs.declared.bearing.Bearing.{Bearing}

-- what stands between the tags of code is the trace
abbrev pub HoldsItsTrace : Type 0
HoldsItsTrace =
    (frames : List FrameValue) → AreTraced 1 frames
    → code_lines (page_text frames) ≡ trace_text frames

-- no page is that of two traces
abbrev pub IsOfOneTrace : Type 0
IsOfOneTrace =
    (frames others : List FrameValue) → AreTraced 1 frames → AreTraced 1 others
    → page_text frames ≡ page_text others → frames ≡ others

-- a digit, a letter, a space, a plus, a minus, a full stop, a comma or a bracket
abbrev pub is_plain : ℕ → Bool
is_plain byte =
    (nat_le 48 byte && nat_le byte 57) || (nat_le 97 byte && nat_le byte 122)
    || (nat_le 65 byte && nat_le byte 90) || byte == 32
    || (nat_le 43 byte && nat_le byte 46) || (nat_le 40 byte && nat_le byte 41)

abbrev pub IsPlain : List ℕ → Type 0
IsPlain bytes = AllByRecursion (λ byte. is_plain byte ≡ true) bytes

-- all that a row has of its frame is plain
pub record HasPlainWords (times front : ℕ) (frame : FrameValue) (bearing : Bearing) : Type 0 where
  pub looks : IsPlain (classes times frame bearing)
  pub number : IsPlain (decimal frame.number)
  pub name : IsPlain (name_of frame.from bearing front)
  pub fate : IsPlain (fate_words frame.fate)
  pub again : IsPlain (decimal times)
  pub length : IsPlain (decimal bearing.length)
  pub id : IsPlain (encode_lower (bearing.key.id ∷ []))
  pub line : IsPlain (line_of frame)

-- so no byte of a frame has to be escaped, and none can make a tag
abbrev pub NeedsNoEscape : Type 0
NeedsNoEscape =
    (number times front : ℕ) (frame : FrameValue) → IsTraced number frame
    → HasPlainWords times front frame (borne frame.bytes)
