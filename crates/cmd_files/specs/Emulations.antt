-- What holds of every call that runs a handheld over captured bytes: all objects before it, and all
-- of them after it.
use Rattle.std.specs.Prelude.{◌≡◌, ◌⊎◌, ⊤, [], ◌++◌, length, None, Some, IfSome}
use Rattle.std.specs.Option.{option_map}
use Rattle.palm_device.specs.Devices.{Device}
use Rattle.palm_device.specs.Handles.{no_handles}
use Rattle.dlp_commands.specs.DeviceRuns.{DeviceRun}
use Rattle.handheld_files.specs.Openings.{HoldsAll, Stands}
use Rattle.line_world.specs.Logs.{texts}
use Rattle.padp_end.specs.Outgoings.{said_text}
use Rattle.slp_frames.specs.PacketScan.{scan}
use Rattle.device_stream.specs.Courses.{BeginsWith}
use Rattle.device_stream.specs.Hands.{Hand, wake_said, woken}
use Rattle.device_stream.specs.Runs.{Course, IsDeviceRun}
use Rattle.device_stream.specs.declared.device_end.DeviceEnd.{DeviceEnd}
use Rattle.device_stream.specs.declared.device_end.DeviceEnd.TheVariants as talk
use Rattle.device_stream.specs.declared.talk_end.TalkEnd.TheVariants as talk_end
use Rattle.device_stream.specs.Talks.{Talks}
use Rattle.run_words.specs.Captures.{Capture}
use Rattle.cmd_status.specs.Opening.{Opens, OpensAtMost}
use Rattle.cmd_status.specs.Printed.{IsPrinted, IsPrintedStatus}
use Rattle.hotsync_looks.specs.Served.{served_lines}
use Rattle.cmd_status.specs.Told.{SinkTold}
use Rattle.cmd_status.specs.declared.status.Status.{Status}
use Rattle.cmd_status.specs.declared.status.Status.TheVariants.{Done, SourceRead, TraceWrite, HandheldFolder, StreamEnded, StreamAborted, BadHello, TooLong, NoMemory}
use Rattle.call_parts.specs.Refusals.{HandheldRefuses, HasHandheld, IsTraceRefusal}
use Rattle.call_parts.specs.Reports.{IsNotStarted}
use Rattle.call_parts.specs.SessionCalls.{BlamesByCount, Paths}
use Rattle.call_parts.specs.Stays.{StaysAsItWas}
use Rattle.call_parts.specs.Stays.{WentWith}
use Rattle.call_parts.specs.Told.{CallTold}
use Rattle.call_parts.specs.Undisturbed.{IsGoodHandheld, NoneFailed}
use Rattle.call_parts.specs.declared.report.Report.{Report}
use Rattle.call_parts.specs.declared.report.SessionEnd.TheVariants.{NotStarted}

-- ---- no talk was begun

-- The handheld's folder is judged first. It is refused, and neither file is opened.
pub record RefusedHandheld (before after : CallTold) (status : Status) : Type 0 where
  pub refuses : HandheldRefuses before.palm.contents status
  pub source : after.source ≡ before.source
  pub sink : after.trace ≡ before.trace

-- a refusal to open the captured bytes
abbrev pub IsSourceFailure : Status → Type 0
IsSourceFailure refusal = (refusal ≡ SourceRead) ⊎ (refusal ≡ NoMemory)

-- The handheld's folder is good, and the captured bytes are not opened, nor is the file for what is
-- said.
pub record RefusedSource (before after : CallTold) (status : Status) : Type 0 where
  pub handheld : HasHandheld before.palm.contents
  pub refuses : IsSourceFailure status
  pub unread : after.source.left ≡ before.source.left
  pub sink : after.trace ≡ before.trace

-- The captured bytes are opened, and the file for what is said is not.
pub record RefusedSink (capture : Capture) (before after : CallTold) (status : Status)
    : Type 0 where
  pub handheld : HasHandheld before.palm.contents
  pub opened : Opens capture.input before.source.paths after.source.paths
  pub refuses : IsTraceRefusal status
  pub unread : after.source.left ≡ before.source.left
  pub untaken : after.trace.taken ≡ before.trace.taken

-- One of them is refused, in this order: nothing was heard or said, and the handheld's folder was
-- only read.
pub record SaidNothing (capture : Capture) (before after : CallTold) (status : Status)
    (report : Report) : Type 0 where
  pub refused : RefusedHandheld before after status
      ⊎ RefusedSource before after status ⊎ RefusedSink capture before after status
  pub report_is : IsNotStarted report
  pub handheld : StaysAsItWas before.palm after.palm

-- ---- a talk

-- the status of a talk that ended so
abbrev pub talk_status : DeviceEnd → Status
talk_status talk.Ended = Done
talk_status talk.SourceRead = SourceRead
talk_status talk.SinkWrite = TraceWrite
talk_status talk.Keeper = HandheldFolder
talk_status talk.StreamEnded = StreamEnded
talk_status talk.StreamAborted = StreamAborted
talk_status talk.BadHello = BadHello
talk_status talk.TooLong = TooLong
talk_status talk.NoMemory = NoMemory

-- a report of what a hand performed and replied, and of nothing that went over a line
pub record TellsHand (hand : Hand) (report : Report) : Type 0 where
  pub performed : texts report.performed.items ≡ hand.performed
  pub replies : texts report.replies.items ≡ hand.replies
  pub end : report.end ≡ NotStarted
  pub databases : report.databases.items ≡ []
  pub issued : report.issued.items ≡ []
  pub given : report.given.items ≡ []
  pub writes : report.writes ≡ 0
  pub frames : report.frames.items ≡ []
  pub faulted : report.faulted.items ≡ []
  pub to_handheld : report.to_handheld ≡ None
  pub to_desktop : report.to_desktop ≡ None

-- A talk of this handheld: how it ended, what was heard and said until then, what is told of it,
-- and what became of the folder. The sink took what the handheld says to these bytes.
pub record HadTalk (device : Device) (before after : CallTold) (status : Status)
    (report : Report) : Type 0 where
  pub end : DeviceEnd
  pub status_is : IsPrintedStatus (talk_status end) status
  pub course : Course
  pub run : IsDeviceRun device before.source.left after.source.left
      before.trace.taken after.trace.taken end course
  pub tells : TellsHand course.hand report
  pub went : WentWith device course.hand before.palm after.palm

-- all three were opened, each at its path
pub record OpensAll (capture : Capture) (before after : CallTold) : Type 0 where
  pub handheld : Opens capture.handheld before.palm.paths after.palm.paths
  pub source : Opens capture.input before.source.paths after.source.paths
  pub sink : Opens capture.output before.trace.paths after.trace.paths

-- the handheld before it, and all that is known of its talk
pub record CaptureRan (capture : Capture) (before after : CallTold) (status : Status)
    (report : Report) : Type 0 where
  pub device : Device
  pub handheld : IfSome before.palm.contents (λ held. HoldsAll held device.databases device.user)
  pub closed : device.handles ≡ no_handles
  pub had : HadTalk device before after status report
  pub opened : OpensAll capture before after

-- ---- every call

-- each of the three was opened at its path, or not at all
pub record OpensThree (capture : Capture) (before after : CallTold) : Type 0 where
  pub handheld : OpensAtMost capture.handheld before.palm.paths after.palm.paths
  pub source : OpensAtMost capture.input before.source.paths after.source.paths
  pub sink : OpensAtMost capture.output before.trace.paths after.trace.paths

-- What is known of it before its lines are printed: nothing was said, or a talk was had. The
-- desktop's folder was not touched.
pub record MayEmulate (capture : Capture) (before after : CallTold) (status : Status)
    (report : Report) : Type 0 where
  pub shown : SaidNothing capture before after status report
      ⊎ CaptureRan capture before after status report
  pub opened : OpensThree capture before after
  pub desktop : after.desk ≡ before.desk
  pub blames : BlamesByCount before after status

-- the bytes decided how it ended
abbrev pub IsHeardOut : Status → Type 0
IsHeardOut Done = ⊤
IsHeardOut StreamEnded = ⊤
IsHeardOut StreamAborted = ⊤
IsHeardOut BadHello = ⊤
IsHeardOut TooLong = ⊤
IsHeardOut _ = ⊥

-- the handheld's files are good, and no object failed
pub record IsCalmEmulation (before after : CallTold) (out out_after : SinkTold) : Type 0 where
  pub handheld : IsGoodHandheld before.palm.contents
  pub none_failed : NoneFailed before after out out_after

-- What is known of it: this, and that standard output took exactly the lines of its status. Where
-- nothing fails the bytes decide, unless memory runs out.
pub record IsEmulation (capture : Capture) (before after : CallTold) (out out_after : SinkTold)
    (status : Status) (report : Report) : Type 0 where
  pub ran : MayEmulate capture before after status report
  pub printed : IsPrinted (λ text. text ≡ served_lines (length report.performed.items))
      out out_after status
  pub complete : IsCalmEmulation before after out out_after
      → (status ≡ NoMemory) ⊎ IsHeardOut status

-- the paths of its words
abbrev pub emulation_paths : Capture → Paths
emulation_paths capture = record {
  handheld = Some capture.handheld;
  desktop = None;
  source = Some capture.input;
  trace = Some capture.output;
}

-- ---- a talk that ended

-- Of the bytes that were read the first packets were taken, up to the acknowledgement of the last
-- reply. The sink took the wake and what this handheld says to these packets, each of their
-- requests was one step of it, in order, and the folder keeps the last step.
pub record SaysAll (before after : CallTold) (report : Report) : Type 0 where
  pub device : Device
  pub handheld : IfSome before.palm.contents (λ held. HoldsAll held device.databases device.user)
  pub course : Course
  pub read : before.source.left
      ≡ option_map (λ rest. course.bytes ++ rest) after.source.left
  pub first : BeginsWith (scan course.bytes) course.packets
  pub talks : Talks (woken device) course.packets course.said course.hand
  pub over : course.hand.over ≡ Some talk_end.Ended
  pub wrote : after.trace.taken
      ≡ option_map (λ taken. taken ++ said_text (wake_said ++ course.said)) before.trace.taken
  pub steps : DeviceRun device (texts report.performed.items) (texts report.replies.items)
      course.hand.device
  pub keeps : Stands after.palm.contents course.hand.device.databases course.hand.device.user
