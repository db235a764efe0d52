-- What was sent in the frames of the program, as what was sent.
use Rattle.std.specs.Prelude.{List, ◌∷◌, Option, Some, None}
use Rattle.trace_text.specs.Past.{PastFrame}
use Rattle.trace_text.specs.Past as past
use Rattle.trace_check.specs.declared.sent.Course.{Course}
use Rattle.trace_check.specs.declared.sent.Course.TheVariants.{Came, Gone, Late}
use Rattle.trace_check.specs.declared.sent.SentFrame.{SentFrame}

-- what became of it
abbrev pub course_value : Course → past.FrameCourse
course_value Came = past.Came
course_value Gone = past.Gone
course_value Late = past.Late

-- a frame as what was sent
abbrev pub sent_value : SentFrame → PastFrame
sent_value frame =
    record {
      from = frame.from;
      is_data = frame.is_data;
      key = frame.key;
      bytes = frame.bytes.now;
      course = course_value frame.course;
    }

-- it goes before those that were sent, if something was sent
abbrev pub added : Option SentFrame → List PastFrame → List PastFrame
added None past = past
added (Some frame) past = sent_value frame ∷ past
