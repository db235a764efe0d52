-- A run of a handheld over a stream of bytes.
use Rattle.std.specs.Prelude.{◌≡◌, ℕ, Bool, List, ◌++◌, length, Option, IfSome}
use Rattle.std.specs.Option.{option_map}
use Rattle.hs_folders.specs.FileMaps.{FileMap}
use Rattle.hs_folders.specs.Moments.{Moments}
use Rattle.hs_folders.specs.declared.folder.Folder.{Ghosts as FolderMembers}
use Rattle.hs_folders.specs.declared.sink.Sink.{Ghosts as SinkMembers}
use Rattle.hs_folders.specs.declared.source.Source.{Ghosts as SourceMembers}
use Rattle.dlp_commands.specs.DeviceRuns.{exchanged}
use Rattle.handheld_server.specs.Servers.{ServerValue}
use Rattle.line_world.specs.Folders.{ServedSince}
use Rattle.line_world.specs.Logs.{texts}
use Rattle.padp_end.specs.Outgoings.{OutgoingFragment, said_text}
use Rattle.palm_device.specs.Devices.{Device}
use Rattle.slp_frames.specs.PacketScan.{scan}
use Rattle.slp_frames.specs.PacketText.{PacketValue}
use Rattle.device_stream.specs.declared.device_end.DeviceEnd.{DeviceEnd}
use Rattle.device_stream.specs.declared.device_end.DeviceEnd.TheVariants.{SourceRead, StreamEnded, TooLong}
use Rattle.device_stream.specs.declared.report.DeviceReport.{DeviceReport}
use Rattle.device_stream.specs.Courses.{BeginsWith, IsOver, Wrote}
use Rattle.device_stream.specs.Hands.{Hand, wake_said, woken}
use Rattle.device_stream.specs.Laws.{DidNothing}
use Rattle.device_stream.specs.Talks.{Talks}

-- the most bytes that are read
abbrev pub stream_limit : ℕ
stream_limit = 67108865

-- the bytes that were read, the packets of them that were taken, what was said to these, and the
-- hand then
pub record Course : Type 0 where
  pub bytes : List ℕ
  pub packets : List PacketValue
  pub said : List OutgoingFragment
  pub hand : Hand

-- Where nothing but the stream ended it, all packets of what was read were taken. The source told
-- its end behind these bytes, or there were too many.
abbrev pub HasHeardAll : DeviceEnd → Option (List ℕ) → Course → Type 0
HasHeardAll SourceRead left course = course.packets ≡ scan course.bytes
HasHeardAll StreamEnded left course =
    (course.packets ≡ scan course.bytes) × IfSome left (λ left. left ≡ course.bytes)
HasHeardAll TooLong left course =
    (course.packets ≡ scan course.bytes) × (length course.bytes ≡ stream_limit)
HasHeardAll end left course = Unit {0}

-- A talk of this hand over a source that had the first bytes left and has the second ones, where it
-- tells them: the first packets of what was read were taken, and the sink took the bytes `before`
-- and what was said to these packets. Where one packet more was begun, no request was performed by
-- it.
pub record Listens (left after : Option (List ℕ)) (old new : Hand) (told later : Option (List ℕ))
    (before : List ℕ) (end : DeviceEnd) : Type 0 where
  pub course : Course
  pub read : left ≡ option_map (λ rest. course.bytes ++ rest) after
  pub first : BeginsWith (scan course.bytes) course.packets
  pub talks : Talks old course.packets course.said course.hand
  pub same : DidNothing course.hand new
  pub wrote : Wrote end told later (before ++ said_text course.said)
  pub over : IsOver end course.hand.over
  pub heard : HasHeardAll end left course

-- A run of a handheld with this device over such a source: the first packets of what was read were
-- taken, and the sink took the wake and what was said to these packets.
pub record IsDeviceRun (device : Device) (left after told later : Option (List ℕ))
    (end : DeviceEnd) (course : Course) : Type 0 where
  pub read : left ≡ option_map (λ rest. course.bytes ++ rest) after
  pub first : BeginsWith (scan course.bytes) course.packets
  pub talks : Talks (woken device) course.packets course.said course.hand
  pub wrote : Wrote end told later (said_text (wake_said ++ course.said))
  pub over : IsOver end course.hand.over
  pub heard : HasHeardAll end left course

-- a report is that of a hand
pub record IsReportOf (hand : Hand) (report : DeviceReport) : Type 0 where
  pub performed_is : texts report.performed.items ≡ hand.performed
  pub replies_are : texts report.replies.items ≡ hand.replies

-- a folder went with the device of a hand, request by request
abbrev pub KeptFor : {F : Type 0} → (F → Option FileMap) → (F → Moments)
    → (F → Option (List (List ℕ))) → (F → ℕ) → ServerValue F → F → Hand → Type 0
KeptFor contents moments paths faults server folder hand =
    (sound : Bool)
    × ServedSince contents moments paths faults server
    (record { folder = folder; device = hand.device; sound = sound })
    (exchanged hand.performed hand.replies)

-- What a run leaves that ended so: the packets are the first of what was read, and the report and
-- the folder are what the talk made of them. The source and the sink are told by their members
-- before it and after it.
abbrev pub LeavesRun : {F S T : Type 0} → FolderMembers F → SourceMembers S → SinkMembers T
    → ServerValue F → S → S → T → T → DeviceEnd → DeviceReport → F → Type 0
LeavesRun folders sources sinks server source read sink written end report folder =
    (course : Course)
    × IsDeviceRun server.device (sources.left source) (sources.left read) (sinks.taken sink)
    (sinks.taken written) end course
    × IsReportOf course.hand report
    × KeptFor folders.contents folders.moments folders.paths folders.faults server folder
    course.hand
