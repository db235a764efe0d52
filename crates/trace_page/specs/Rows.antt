-- The row of a frame: its classes, its number, its name, what became of it, and its line of the
-- trace.
use Rattle.std.specs.Prelude.{ℕ, ◌%◌, ◌==◌, Bool, true, false, not, ◌&&◌, List, [], ◌∷◌, ◌++◌, codes, if◌then◌else◌}
use Rattle.std.specs.Fmt.{decimal}
use Rattle.hex.specs.Hex.{encode_lower}
use Rattle.padp_link.specs.declared.fragment.PadpKind.{PadpKind}
use Rattle.padp_link.specs.declared.fragment.PadpKind.TheVariants.{Data, Ack}
use Rattle.trace_text.specs.Fates.{FateValue, Untouched, Lost, Late, Cut, Hit, Noise, Unplug, Abort, arrives, fate_words}
use Rattle.trace_text.specs.TraceLines.{FrameValue, end_word, mark_word}
use Rattle.trace_page.specs.Bearings.{is_greeting}
use Rattle.trace_page.specs.Names.{name_of}
use Rattle.trace_page.specs.declared.bearing.Bearing.{Bearing}
use Rattle.trace_page.specs.declared.row.Tag.{Tag}
use Rattle.trace_page.specs.declared.row.Tag.TheVariants.{Row, Number, Name, Notes, Line, End}

-- the line of the trace, without its end
unfoldable pub line_of : FrameValue → List ℕ
line_of frame =
    decimal frame.number ++ codes " " ++ end_word frame.from ++ codes " " ++ fate_words frame.fate
    ++ codes " " ++ mark_word frame.came ++ codes " "
    ++ encode_lower frame.bytes

-- the line left the frame alone
abbrev pub is_untouched : FateValue → Bool
is_untouched Untouched = true
is_untouched _ = false

-- the frame arrives, and wasn't taken before the end
abbrev pub is_open : FrameValue → Bool
is_open frame = arrives frame.fate && not frame.came

-- how a fate looks
abbrev pub fate_class : FateValue → List ℕ
fate_class Untouched = codes " ok"
fate_class Lost = codes " harm gone"
fate_class Late = codes " harm late"
fate_class (Cut count) = codes " harm gone cut"
fate_class (Hit place bytes) = codes " harm gone hit"
fate_class (Noise bytes) = codes " harm noise"
fate_class Unplug = codes " harm gone"
fate_class Abort = codes " harm gone"

abbrev pub kind_class : PadpKind → List ℕ
kind_class Ack = codes " ack"
kind_class _ = []

-- a repeat, which is the frame's sending of this number, or 0
abbrev pub again_class : ℕ → List ℕ
again_class times = if times == 0 then [] else codes " again"

abbrev pub open_class : FrameValue → List ℕ
open_class frame = if is_open frame then codes " open" else []

-- every other exchange: an odd transaction that is no greeting's
abbrev pub band_class : Bearing → List ℕ
band_class bearing =
    if not (is_greeting bearing) && bearing.key.id % 2 == 1 then codes " band" else []

-- how a frame looks
unfoldable pub classes : ℕ → FrameValue → Bearing → List ℕ
classes times frame bearing =
    end_word frame.from ++ fate_class frame.fate ++ kind_class bearing.kind ++ again_class times
    ++ open_class frame ++ band_class bearing

-- what the line did with it
unfoldable pub fate_note : FateValue → List ℕ
fate_note fate = if is_untouched fate then [] else codes "<em>" ++ fate_words fate ++ codes "</em>"

-- what stands at a frame that nobody took before the end
abbrev pub open_note : FrameValue → List ℕ
open_note frame =
    if is_open frame then codes "<em class=\"o\">not taken before the end</em>" else []

-- how often it was sent, where it is a repeat
unfoldable pub again_note : ℕ → List ℕ
again_note times =
    if times == 0 then []
    else codes "<em class=\"r\">again, " ++ decimal times ++ codes ". time</em>"

-- what became of a frame, and how often it was sent
unfoldable pub notes : ℕ → FrameValue → List ℕ
notes times frame = fate_note frame.fate ++ open_note frame ++ again_note times

-- how many bytes of a message it has
abbrev pub length_note : PadpKind → ℕ → List ℕ
length_note Data length = decimal length ++ codes " bytes &middot; "
length_note _ length = []

-- that, and its transaction
unfoldable pub small_note : Bearing → List ℕ
small_note bearing =
    codes "<small>" ++ length_note bearing.kind bearing.length ++ codes "id "
    ++ encode_lower (bearing.key.id ∷ []) ++ codes "</small>"

-- the tags of a row, from each part to the next
unfoldable pub tag_text : Tag → List ℕ
tag_text Row = codes "<li class=\""
tag_text Number = codes "\"><i>"
tag_text Name = codes "</i><div><u></u></div><span><b>"
tag_text Notes = codes "</b>"
tag_text Line = codes "</span><code>"
tag_text End = codes "</code></li>\n"

-- what a row begins with: how it looks, the number, and the name
unfoldable pub row_front : ℕ → ℕ → FrameValue → Bearing → List ℕ
row_front times front frame bearing =
    tag_text Row ++ classes times frame bearing ++ tag_text Number ++ decimal frame.number
    ++ tag_text Name ++ name_of frame.from bearing front

-- what it ends with: the notes, and the line
unfoldable pub row_back : ℕ → FrameValue → Bearing → List ℕ
row_back times frame bearing =
    tag_text Notes ++ notes times frame ++ small_note bearing ++ tag_text Line ++ line_of frame
    ++ tag_text End

-- The row of a frame that bears this: `times` says which sending a repeat is, and the message that
-- its end is at begins with the byte `front`.
unfoldable pub row_text : ℕ → ℕ → FrameValue → Bearing → List ℕ
row_text times front frame bearing =
    row_front times front frame bearing ++ row_back times frame bearing
