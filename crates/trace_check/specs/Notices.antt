-- What a frame says, as far as turns are judged by it.
use Rattle.std.specs.Prelude.{◌≡◌, ℕ, ◌+◌, Bool, List, length}
use Rattle.slp_frames.specs.PacketScan.{packet_at}
use Rattle.padp_link.specs.Pieces.{key_of}
use Rattle.trace_text.specs.Faults.{is_late}
use Rattle.trace_text.specs.Frames.{course_of, fragment_in, is_data_kind}
use Rattle.trace_text.specs.Past.{PastFrame}
use Rattle.trace_text.specs.TraceLines.{FrameValue}
use Rattle.trace_check.specs.declared.notice.Notice.{Notice}

-- that is what the frame of this number says in a trace
pub record IsNoticeOf (notice : Notice) (frame : FrameValue) (number : ℕ) : Type 0 where
  pub from_is : notice.from ≡ frame.from
  pub is_data_is : notice.is_data ≡ is_data_kind (fragment_in frame).kind
  pub key_is : notice.key ≡ key_of (packet_at frame.bytes).id (fragment_in frame)
  pub late_is : notice.late ≡ is_late (course_of frame.fate)
  pub number_is : notice.number ≡ number
  pub came_is : notice.came ≡ frame.came

-- that is what a frame says that is sent behind this past
pub record IsNotice (notice : Notice) (frame : PastFrame) (came : ℕ → Bool) (past : List PastFrame)
    : Type 0 where
  pub from_is : notice.from ≡ frame.from
  pub is_data_is : notice.is_data ≡ frame.is_data
  pub key_is : notice.key ≡ frame.key
  pub late_is : notice.late ≡ is_late frame.course
  pub number_is : notice.number ≡ length past + 1
  pub came_is : notice.came ≡ came (length past + 1)
