-- Frames as what they bear: the packet and the fragment in their bytes, and what becomes of them by
-- their fate.
use Rattle.std.specs.Prelude.{◌≡◌, ℕ, ◌-◌, Bool, true, false, List, [], ◌∷◌, drop, map, slice_index, slice_index_or, if◌then◌else◌}
use Rattle.byteorder.specs.Endian.{big_number}
use Rattle.slp_frames.specs.PacketText.{packet_text}
use Rattle.slp_frames.specs.PacketScan.{packet_at}
use Rattle.padp_link.specs.declared.fragment.PadpKind.{PadpKind}
use Rattle.padp_link.specs.declared.fragment.PadpKind.TheVariants.{Data, Ack, Tickle, Abort}
use Rattle.padp_link.specs.Numbers.{header_len, kind_place, flags_place, size_place}
use Rattle.padp_link.specs.FragmentText.{FragmentValue, FragmentText, fragment_text}
use Rattle.padp_link.specs.FragmentFaults.{kind_said}
use Rattle.padp_link.specs.Pieces.{key_of}
use Rattle.trace_text.specs.Fates.{FateValue, Untouched, Noise}
use Rattle.trace_text.specs.Fates as fate
use Rattle.trace_text.specs.TraceLines.{FrameValue}
use Rattle.trace_text.specs.Past.{FrameCourse, Came, Gone, PastFrame}
use Rattle.trace_text.specs.Past as past

-- what becomes of a frame by its fate; with the fates that end a run no frame stands behind it
abbrev pub course_of : FateValue → FrameCourse
course_of Untouched = Came
course_of (Noise noise) = Came
course_of fate.Late = past.Late
course_of _ = Gone

-- what stands in the places of a fragment's fields
abbrev pub fields_of : List ℕ → FragmentValue
fields_of body =
    record {
      kind = kind_said (slice_index body kind_place);
      flags = slice_index body flags_place;
      size = big_number 2 (drop size_place body);
      bytes = drop header_len body;
    }

-- the fragment in the body of the packet that a frame is
abbrev pub fragment_in : FrameValue → FragmentValue
fragment_in frame = fields_of (packet_at frame.bytes).body

-- the packet of this transaction with this fragment: between the sockets 3, of type 2
abbrev pub padp_packet : ℕ → FragmentValue → List ℕ
padp_packet id fragment =
    packet_text (record { dest = 3; source = 3; kind = 2; id = id; body = fragment_text fragment })

-- a frame bears data or an acknowledgement; one whose fate is an abort may bear an abort
abbrev pub MayBear : FateValue → PadpKind → Type 0
MayBear given Data = Unit {0}
MayBear given Ack = Unit {0}
MayBear given Tickle = ⊥
MayBear given Abort = given ≡ fate.Abort

-- the bytes of a frame are a packet with a fragment
pub record BearsFragment (frame : FrameValue) : Type 0 where
  pub is : frame.bytes ≡ padp_packet (packet_at frame.bytes).id (fragment_in frame)
  pub fragment : FragmentText (fragment_in frame) (fragment_text (fragment_in frame))
  pub kind : MayBear frame.fate (fragment_in frame).kind

abbrev pub is_data_kind : PadpKind → Bool
is_data_kind Data = true
is_data_kind _ = false

abbrev pub is_abort : PadpKind → Bool
is_abort Abort = true
is_abort _ = false

-- what was sent in a frame
abbrev pub sent_in : FrameValue → PastFrame
sent_in frame = record {
  from = frame.from;
  is_data = is_data_kind (fragment_in frame).kind;
  key = key_of (packet_at frame.bytes).id (fragment_in frame);
  bytes = (fragment_in frame).bytes;
  course = course_of frame.fate;
}

-- a frame goes before those that were sent; an abort says nothing
abbrev pub add_frame : FrameValue → List PastFrame → List PastFrame
add_frame frame past = if is_abort (fragment_in frame).kind then past else sent_in frame ∷ past

-- the frames behind these, the newest first
abbrev pub past_behind : List PastFrame → List FrameValue → List PastFrame
past_behind past [] = past
past_behind past (frame ∷ later) = past_behind (add_frame frame past) later

abbrev pub past_of : List FrameValue → List PastFrame
past_of frames = past_behind [] frames

-- the frame of this number, from 1 on, came
abbrev pub came_in : List FrameValue → ℕ → Bool
came_in frames n = slice_index_or (map (λ frame. frame.came) frames) (n - 1) false
