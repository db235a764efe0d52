-- What a session over a port left of both sides, where the port tells its handheld.
use Rattle.std.specs.Prelude.{◌≡◌, ◌⊎◌, ◌≤◌, ℕ, List, [], ◌∷◌, map, Option, Some, IfErr, IsErr, IsSome}
use Rattle.std.specs.List.{flat_map}
use Rattle.std.specs.Option.{option_map}
use Rattle.hs_folders.specs.FileMaps.{FileMap}
use Rattle.hs_folders.specs.Moments.{EachMomentSince}
use Rattle.palm_device.specs.Devices.{Device}
use Rattle.dlp_commands.specs.Changes.{given_in}
use Rattle.dlp_commands.specs.DeviceRuns.{Exchange}
use Rattle.dlp_commands.specs.Talks.{Talk, issued}
use Rattle.desk_journal.specs.Overlays.{FinishesAs, finished}
use Rattle.desk_store.specs.Desks.{IsDesk}
use Rattle.desk_store.specs.Shelves.{SlotValue}
use Rattle.desktop_session.specs.Acts.{text}
use Rattle.desktop_session.specs.Requests.{reading_user}
use Rattle.desktop_session.specs.Says.{IsPrefix}
use Rattle.device_stream.specs.Hands.{Hand}
use Rattle.session_plan.specs.Limits.{first_over}
use Rattle.session_plan.specs.Losses.{first_loss}
use Rattle.session_plan.specs.Merges.{merged_device, merged_slots}
use Rattle.session_plan.specs.Reports.{reports}
use Rattle.session_plan.specs.Tasks.{Meeting, meeting_of, place_for}
use Rattle.session_plan.specs.declared.wishes.Wishes.{Wishes}
use Rattle.sync_session.specs.Fronts.{MeetingFront}
use Rattle.sync_session.specs.Outcomes.{IsStopOf, StandsForSlots, seat_of}
use Rattle.sync_session.specs.Sessions.{before_writes, requests, writes_before_commit}
use Rattle.front_laws.specs.Sound.{IsSoundMeeting}
use Rattle.port_laws.specs.Palms.{Palm}
use Rattle.port_run.specs.Links.{Answered, fault_of_link}
use Rattle.port_link.specs.Hands.{HandRan}
use Rattle.port_link.specs.Standing.{exchanges_of, talk_of}
use Rattle.run_words.specs.Cables.{Cable}
use Rattle.call_parts.specs.LineRuns.{write_count}
use Rattle.call_parts.specs.Told.{FolderTold}
use Rattle.call_parts.specs.declared.report.SessionEnd.TheVariants.{Ended, Stopped}
use Rattle.port_run.specs.Wishes.{AsksFor}
use Rattle.port_run.specs.declared.synced.CableReport.{CableReport}

-- ---- the handheld

-- the ids that new records got, by what was performed and replied
abbrev pub given_by : Hand → List ℕ
given_by hand =
    flat_map (λ (exchange : Exchange). given_in exchange.request exchange.reply) (exchanges_of hand)

-- ---- the session

-- It ended: each of the session's requests was performed, the handheld is the merged one under the
-- ids that new records got, the desktop's folder holds the merge, without a journal, and what was
-- done with each database is told.
pub record EndedSession (meeting : Meeting) (hand : Hand) (desk_after : FolderTold)
    (report : CableReport) : Type 0 where
  pub performed : hand.performed ≡ requests meeting
  pub handheld : hand.device ≡ merged_device meeting (given_by hand)
  pub desktop : IsDesk desk_after.contents (merged_slots meeting (given_by hand))
  pub databases : report.databases.items ≡ reports meeting

-- it stopped before the desktop's commit: its folder stands for what it stood for
pub record StoppedBefore (meeting : Meeting) (hand : Hand) (desk desk_after : FolderTold)
    : Type 0 where
  pub stands : FinishesAs desk.contents desk_after.contents
  pub writes : write_count hand.performed ≤ writes_before_commit meeting

-- it stopped behind it: the folder stands for the merge
pub record StoppedBehind (meeting : Meeting) (hand : Hand) (desk_after : FolderTold)
    : Type 0 where
  pub stands : StandsForSlots (merged_slots meeting (given_by hand)) desk_after.contents
  pub writes : writes_before_commit meeting ≤ write_count hand.performed

-- What went out begins the session's requests; where a limit would be passed, or the session would
-- cost the desktop live rows, it begins those that write nothing, and where the handheld's
-- user has no slot it is at most the request for the user.
pub record IssuedFor (meeting : Meeting) (talk : Talk) : Type 0 where
  pub begins : IsPrefix (issued talk) (requests meeting)
  pub over : IsSome (first_over meeting)
      → IsPrefix (issued talk) (map text (before_writes meeting))
  pub losing : IsSome (first_loss meeting)
      → IsPrefix (issued talk) (map text (before_writes meeting))
  pub unseated : IsErr (seat_of meeting) → IsPrefix (issued talk) (text reading_user ∷ [])

-- Both sides keep the bounds of their types. This went out, and this the handheld made of it: it
-- stands behind a beginning of the session's writes. This is left of both sides, and at each moment
-- the desktop's folder stood for what it stood for at first, or for the merge under some ids.
pub record SessionLeft (meeting : Meeting) (talk : Talk) (hand : Hand)
    (desk desk_after : FolderTold) (report : CableReport) : Type 0 where
  pub sound : IsSoundMeeting meeting
  pub issued : IssuedFor meeting talk
  pub ran : HandRan meeting.device talk hand
  pub front : MeetingFront meeting (write_count hand.performed) (given_by hand) hand.device
  pub ended : report.end ≡ Ended → EndedSession meeting hand desk_after report
  pub stopped : report.end ≡ Stopped
      → StoppedBefore meeting hand desk desk_after ⊎ StoppedBehind meeting hand desk_after
  pub given : List ℕ
  pub moments : EachMomentSince
      (λ told. FinishesAs desk.contents told
      ⊎ StandsForSlots (merged_slots meeting given) told) desk.moments desk_after.moments

-- ---- how a call has it

-- a session between this handheld and these slots, for which the words ask; what the link told of
-- its talk, and the handheld that the port tells then; where it stopped, why
pub record LeftFor (cable : Cable) (device : Device) (slots : List SlotValue)
    (after : Option Palm) (desk desk_after : FolderTold) (said : Answered)
    (report : CableReport) : Type 0 where
  pub wishes : Wishes
  pub asked : AsksFor cable wishes
  pub why : IfErr said.answer
      (IsStopOf talk_of fault_of_link (meeting_of device slots wishes) said.first said.last)
  pub talk : Talk
  pub told : talk_of said.last ≡ Some talk
  pub palm : Palm
  pub palm_is : after ≡ Some palm
  pub left : SessionLeft (meeting_of device slots wishes) talk palm.hand desk desk_after report

-- The meeting of what both sides hold, by what the words ask: this handheld, and the desktop's
-- slots once a journal that was left in a folder of these files is finished, with the slot of the
-- handheld's user picked.
pub record Meets (cable : Cable) (device : Device) (kept : Option FileMap) (meeting : Meeting)
    : Type 0 where
  pub handheld : meeting.device ≡ device
  pub desktop : IsDesk (option_map finished kept) meeting.slots
  pub picked : meeting.picked ≡ place_for meeting.device meeting.slots meeting.wishes.user
  pub asked : AsksFor cable meeting.wishes

-- The session of this handheld, which the opened port told, with the desktop; why it stopped, where
-- it did; what the link told of its talk; and the handheld that the port tells then, which is left
-- by it as the desktop's folder is.
pub record BothLeft (cable : Cable) (device : Device) (after : Option Palm)
    (desk desk_after : FolderTold) (said : Answered) (report : CableReport) : Type 0 where
  pub meeting : Meeting
  pub meets : Meets cable device desk.contents meeting
  pub why : IfErr said.answer
      (IsStopOf talk_of fault_of_link meeting said.first said.last)
  pub talk : Talk
  pub told : talk_of said.last ≡ Some talk
  pub palm : Palm
  pub palm_is : after ≡ Some palm
  pub left : SessionLeft meeting talk palm.hand desk desk_after report
