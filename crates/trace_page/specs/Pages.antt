-- The page of a trace: its head, what was counted, and a row for each frame in order.
use Rattle.std.specs.Prelude.{ℕ, ◌+◌, ◌==◌, Bool, false, not, ◌&&◌, List, [], ◌∷◌, ◌++◌, codes, length, slice_index, if◌then◌else◌}
use Rattle.std.specs.Fmt.{decimal}
use Rattle.padp_link.specs.FragmentText.{has_flag}
use Rattle.padp_link.specs.Numbers.{first_flag}
use Rattle.trace_text.specs.declared.frame.End.{End}
use Rattle.trace_text.specs.declared.frame.End.TheVariants.{Handheld, Desktop}
use Rattle.trace_text.specs.Frames.{add_frame, is_data_kind, sent_in}
use Rattle.trace_text.specs.Past.{PastFrame, is_data_of, is_repeat, run}
use Rattle.trace_text.specs.TraceLines.{FrameValue}
use Rattle.trace_page.specs.Bearings.{begins_message, borne, is_greeting}
use Rattle.trace_page.specs.Rows.{is_untouched, row_text}
use Rattle.trace_page.specs.Sheet.{list_head, page_foot, page_head}
use Rattle.trace_page.specs.declared.bearing.Bearing.{Bearing}

-- which sending of its fragment a repeat is, 0 for another frame
unfoldable pub times : List PastFrame → FrameValue → ℕ
times past frame = if is_repeat frame.from (sent_in frame) past then run frame.from past + 1 else 0

-- the first byte of the message that an end is at, 0 before any
abbrev pub front_of : End → List PastFrame → ℕ
front_of X [] = 0
front_of X (frame ∷ past) =
    if is_data_of X frame && has_flag first_flag frame.key.flags then slice_index frame.bytes 0
    else front_of X past

-- the row of a frame, by those before it
abbrev pub row : List PastFrame → FrameValue → List ℕ
row past frame =
    row_text (times past frame) (front_of frame.from (add_frame frame past)) frame
    (borne frame.bytes)

-- a row for each frame, by those before it
abbrev pub rows : List PastFrame → List FrameValue → List ℕ
rows past [] = []
rows past (frame ∷ later) = row past frame ++ rows (add_frame frame past) later

-- the desktop's first part of a request, and of one that is sent for the first time
abbrev pub begins_request : End → Bearing → Bool
begins_request Handheld bearing = false
begins_request Desktop bearing =
    is_data_kind bearing.kind && begins_message bearing && not (is_greeting bearing)

abbrev pub is_new_request : ℕ → End → Bearing → Bool
is_new_request times from bearing = times == 0 && begins_request from bearing

-- what is counted of frames, by which sending a repeat is
abbrev pub is_request : ℕ → FrameValue → Bool
is_request times frame = is_new_request times frame.from (borne frame.bytes)

abbrev pub is_disturbed : ℕ → FrameValue → Bool
is_disturbed times frame = not (is_untouched frame.fate)

abbrev pub is_again : ℕ → FrameValue → Bool
is_again times frame = not (times == 0)

-- how many frames pass
abbrev pub counted : (ℕ → FrameValue → Bool) → List PastFrame → List FrameValue → ℕ
counted p past [] = 0
counted p past (frame ∷ later) =
    (if p (times past frame) frame then 1 else 0) + counted p (add_frame frame past) later

-- a number and a word
unfoldable pub count_text : ℕ → List ℕ → List ℕ
count_text count word = decimal count ++ word

-- the sentence with these numbers
unfoldable pub counts_text : ℕ → ℕ → ℕ → ℕ → List ℕ
counts_text frames requests disturbed again =
    codes "<p>" ++ count_text frames (codes " frames, ")
    ++ count_text requests (codes " requests, ")
    ++ count_text disturbed (codes " disturbed by the line, ")
    ++ count_text again (codes " sent again.</p>\n")

-- what was counted
abbrev pub heading : List FrameValue → List ℕ
heading frames =
    counts_text (length frames) (counted is_request [] frames) (counted is_disturbed [] frames)
    (counted is_again [] frames)

-- the page
abbrev pub page_text : List FrameValue → List ℕ
page_text frames = page_head ++ heading frames ++ list_head ++ rows [] frames ++ page_foot
