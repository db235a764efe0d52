-- What holds of every call that brings the categories of both sides together: all objects before
-- it, and all of them after it.
use Rattle.std.specs.Prelude.{◌≡◌, ◌⊎◌, ⊤, ℕ, List, [], ◌∷◌, length, map, Option, None, IfErr, IfSome, IsErr, IsOk, Err}
use Rattle.std.specs.Option.{option_map}
use Rattle.hs_folders.specs.FileMaps.{FileMap}
use Rattle.hs_folders.specs.Moments.{EachMomentSince}
use Rattle.palm_device.specs.Devices.{Device}
use Rattle.palm_device.specs.Handles.{no_handles}
use Rattle.handheld_files.specs.Openings.{HoldsAll, Stands}
use Rattle.desk_journal.specs.Overlays.{FinishesAs, finished}
use Rattle.desk_store.specs.Bounds.{AreBounded}
use Rattle.desk_store.specs.Desks.{IsDesk}
use Rattle.desk_store.specs.Shelves.{SlotValue}
use Rattle.trace_text.specs.TraceLines.{trace_text}
use Rattle.line_script.specs.Rules.{RuleValue}
use Rattle.desktop_session.specs.Acts.{text}
use Rattle.desktop_session.specs.Requests.{reading_user}
use Rattle.desktop_session.specs.Says.{IsPrefix}
use Rattle.desktop_session.specs.declared.fault.SessionFault.TheVariants as session
use Rattle.session_parts.specs.Rests.{IsAtRest}
use Rattle.category_mirror.specs.FilingEnds.{StandsFiled, seat_of}
use Rattle.category_mirror.specs.Sides.{Filing, StandsBehind, before_end, block_writes, filed_device, filed_slots, filing_acts, filing_changes, filing_of, filing_reports}
use Rattle.run_words.specs.Betweens.{Between}
use Rattle.cmd_status.specs.Told.{SinkTold}
use Rattle.cmd_status.specs.declared.status.Status.{Status}
use Rattle.cmd_status.specs.declared.status.Status.TheVariants.{DesktopFolder, Limit, NewHandheld, OtherUser, TooManyUsers}
use Rattle.call_parts.specs.Causes.{IsCutShort, fault_status}
use Rattle.call_parts.specs.LineRuns.{SaidAll, frames_in, log_in}
use Rattle.call_parts.specs.Judges.{Refuses, desktop_judges}
use Rattle.cmd_session.specs.Runs.{KeepsDesktop}
use Rattle.call_parts.specs.Scripts.{IsScripted}
use Rattle.call_parts.specs.SessionCalls.{SessionCommand, between_paths}
use Rattle.call_parts.specs.Sessions.{Agenda, HadSession, IsTalk}
use Rattle.call_parts.specs.Told.{CallTold, FolderTold, SidesTold, sides_of}
use Rattle.call_parts.specs.Traces.{TakesTrace}
use Rattle.call_parts.specs.Undisturbed.{AreGood, IsGoodScript, IsKindScript, NoneFailed}
use Rattle.call_parts.specs.declared.report.Report.{Report}
use Rattle.call_parts.specs.declared.report.SessionEnd.TheVariants.{Ended, Stopped}

-- ---- a call that sent nothing

-- the script is judged, the handheld's folder, the desktop's and the trace, in this order
abbrev pub FilingRefuses : Between → CallTold → Status → Type 0
FilingRefuses words before refusal =
    Refuses (desktop_judges words.script) words.trace before refusal

-- ---- what a session leaves

-- the session of both sides: the rules of its line, the handheld, and all of its requests
abbrev pub filing_agenda : List RuleValue → Filing → Agenda
filing_agenda rules filing =
    record { rules = rules; device = filing.device; asked = map text (filing_acts filing) }

-- a folder told stands for the handheld behind so many writes of the session
pub record StandsBehindWrites (filing : Filing) (told : Option FileMap) (writes : ℕ) : Type 0 where
  pub reached : Device
  pub behind : StandsBehind filing writes reached
  pub stands : Stands told reached.databases reached.user

-- behind some of them
abbrev pub StandsInSomeTurn : Filing → Option FileMap → Type 0
StandsInSomeTurn filing told = (writes : ℕ) × StandsBehindWrites filing told writes

-- It ended: each of its requests was issued and performed, and none else; both folders stand for
-- what the session makes of both sides, the desktop's without a journal; and what was done with
-- each database is told.
pub record EndedFiling (filing : Filing) (palm_after desk_after : FolderTold)
    (report : Report) : Type 0 where
  pub said : SaidAll (map text (filing_acts filing)) report
  pub handheld : Stands palm_after.contents (filed_device filing).databases
      (filed_device filing).user
  pub desktop : IsDesk desk_after.contents (filed_slots filing)
  pub told : report.databases.items ≡ filing_reports filing

-- It stopped: before the desktop's commit, and the folder stands for what it stood for; or behind
-- it, and the folder stands for the slots that the session leaves, where each block was written.
abbrev pub StoppedFiling : Filing → FolderTold → FolderTold → Report → Type 0
StoppedFiling filing desk desk_after report =
    FinishesAs desk.contents desk_after.contents
    ⊎ (StandsFiled filing desk_after.contents × (report.writes ≡ block_writes filing))

-- nothing is open on the handheld, and the desktop's slots keep the bounds of their types
pub record IsSoundFiling (filing : Filing) : Type 0 where
  pub rests : IsAtRest filing.device
  pub bounded : AreBounded filing.slots

-- what a session leaves of both sides, where the desktop's folder was this once a journal that was
-- left was finished
pub record FilingLeft (filing : Filing) (opened : Option FileMap) (before after : SidesTold)
    (report : Report) : Type 0 where
  pub sound : IsSoundFiling filing
  pub handheld : StandsBehindWrites filing after.palm.contents report.writes
  pub turns : EachMomentSince (StandsInSomeTurn filing) before.palm.moments after.palm.moments
  pub ended : report.end ≡ Ended → EndedFiling filing after.palm after.desk report
  pub stopped : report.end ≡ Stopped → StoppedFiling filing before.desk after.desk report
  pub moments : EachMomentSince
      (λ told. FinishesAs before.desk.contents told ⊎ StandsFiled filing told)
      before.desk.moments after.desk.moments
  pub untouched : filing_changes filing ≡ [] → after.desk.contents ≡ opened
  pub unseated : IsErr (seat_of filing) → IsPrefix (log_in report).issued (text reading_user ∷ [])

-- ---- why it stopped

-- What a status shows of a session. For its user it stopped behind the request for it alone; the
-- desktop's folder failed at the commit, where all but the end was said. It passes no limit and
-- costs no row.
abbrev pub FilingShows : Filing → Status → Report → Type 0
FilingShows filing (OtherUser handheld desktop) report =
    (seat_of filing ≡ Err (session.OtherUser handheld desktop))
    × SaidAll (text reading_user ∷ []) report
FilingShows filing TooManyUsers report = ⊥
FilingShows filing (Limit name) report = ⊥
FilingShows filing (NewHandheld name) report = ⊥
FilingShows filing DesktopFolder report = SaidAll (map text (before_end filing)) report
FilingShows filing other report = ⊤

-- what it shows, and which one it is where the handheld's user has no slot
pub record ShowsFiling (filing : Filing) (status : Status) (report : Report) : Type 0 where
  pub status_is : FilingShows filing status report
  pub refused : IfErr (seat_of filing) (λ why. (status ≡ fault_status None why) ⊎ IsCutShort status)

-- ---- a call with a session

-- the session that began: what is known of every session, what it left, and what its status shows
abbrev pub HadFiling : List RuleValue → Filing → Option FileMap → SidesTold → SidesTold → Status
    → Report → Type 0
HadFiling rules filing opened before after status report =
    HadSession (FilingLeft filing opened before after) (ShowsFiling filing)
    (filing_agenda rules filing) before.palm after.palm status report

-- whatever is written of it
abbrev pub IsFilingTalk : List RuleValue → Filing → SidesTold → SidesTold → Status → Report → Type 0
IsFilingTalk rules filing before after status report =
    IsTalk (HadFiling rules filing before.desk.contents before after) before after status report

-- The script and both sides before it, the desktop's slots once a journal that was left is
-- finished; all that is known of the session; and what the trace took.
pub record CategoriesRan (words : Between) (before after : CallTold) (status : Status)
    (report : Report) : Type 0 where
  pub rules : List RuleValue
  pub scripted : IsScripted words.script before.source.left rules
  pub device : Device
  pub slots : List SlotValue
  pub handheld : IfSome before.palm.contents (λ held. HoldsAll held device.databases device.user)
  pub closed : device.handles ≡ no_handles
  pub desktop : IsDesk (option_map finished before.desk.contents) slots
  pub had : HadFiling rules (filing_of device slots) (option_map finished before.desk.contents)
      (sides_of before) (sides_of after) status report
  pub traced : TakesTrace words.trace (trace_text (frames_in report)) before.trace after.trace
      status

-- ---- every call

-- the desktop has a slot for the user of the handheld, whatever both folders hold
abbrev pub HasSeat : CallTold → Type 0
HasSeat before =
    (device : Device) (slots : List SlotValue)
    → IfSome before.palm.contents (λ held. HoldsAll held device.databases device.user)
    → IsDesk (option_map finished before.desk.contents) slots
    → IsOk (seat_of (filing_of device slots))

-- a good script and a kind line, good files on both sides, a slot for the handheld's user, and no
-- object that failed
pub record IsCalmFiling (words : Between) (before after : CallTold) (out out_after : SinkTold)
    (report : Report) : Type 0 where
  pub script : IsGoodScript words.script before.source.left
  pub line : (rules : List RuleValue) → IsScripted words.script before.source.left rules
      → IsKindScript rules (length (frames_in report))
  pub folders : AreGood before
  pub seated : HasSeat before
  pub none_failed : NoneFailed before after out out_after

-- as a command: the script, both folders and the trace are judged, in this order
abbrev pub categories_command : Between → SessionCommand
categories_command words = record {
  paths = between_paths words;
  Judged = λ before refusal. FilingRefuses words before refusal;
  Kept = λ before after status. KeepsDesktop before after status;
  Had = λ before after status report. CategoriesRan words before after status report;
  Undisturbed = λ before after out said report. IsCalmFiling words before after out said report;
}
