-- What is known of the session of a run once it is over.
use Rattle.std.specs.Prelude.{◌≡◌, ◌⊎◌, List, Option}
use Rattle.std.specs.List.{AllByRecursion}
use Rattle.std.specs.Option.{option_map}
use Rattle.hs_folders.specs.FileMaps.{FileMap}
use Rattle.hs_folders.specs.Moments.{EachMomentSince, Moments}
use Rattle.palm_device.specs.Devices.{Device}
use Rattle.line_script.specs.Rules.{RuleValue}
use Rattle.run_words.specs.Runs.{Run}
use Rattle.sync_session.specs.Outcomes.{IsCommitFile}
use Rattle.sync_session.specs.Sessions.{requests}
use Rattle.session_plan.specs.Tasks.{Meeting, meeting_of}
use Rattle.session_plan.specs.declared.wishes.Wishes.{Wishes}
use Rattle.desk_journal.specs.Entries.{EntryValue}
use Rattle.desk_journal.specs.Overlays.{FinishesAs, put_all}
use Rattle.desk_store.specs.Shelves.{SlotValue}
use Rattle.cmd_session.specs.Ends.{SessionLeft, ShowsMeeting}
use Rattle.call_parts.specs.Sessions.{Agenda, HadSession, IsTalk}
use Rattle.call_parts.specs.Told.{FolderTold, SidesTold}
use Rattle.cmd_session.specs.Wishes.{AsksFor}
use Rattle.call_parts.specs.declared.report.Report.{Report}
use Rattle.call_parts.specs.declared.report.SessionEnd.{SessionEnd}
use Rattle.call_parts.specs.declared.report.SessionEnd.TheVariants.{Ended}
use Rattle.cmd_status.specs.declared.status.Status.{Status}

-- ---- what is known of it

-- The desktop's folder, which is this once a journal that was left is finished, and then changed
-- once at most: an ended session has put some files over the others, which are the information file
-- and those of databases that it doesn't skip, in the picked slot. One that stopped left it
-- standing for what it stood for at first, or for that. At each moment it stood for the one, and
-- from some moment on for the other.
pub record DesktopRan (meeting : Meeting) (opened : Option FileMap) (before after : FolderTold)
    (end : SessionEnd) : Type 0 where
  pub entries : List EntryValue
  pub files : AllByRecursion (λ (entry : EntryValue). IsCommitFile meeting entry.name) entries
  pub written : end ≡ Ended → after.contents ≡ option_map (put_all entries) opened
  pub stands : FinishesAs before.contents after.contents
      ⊎ FinishesAs (option_map (put_all entries) opened) after.contents
  pub between : Moments
  pub unchanged : EachMomentSince (FinishesAs before.contents) before.moments between
  pub changed : EachMomentSince (FinishesAs (option_map (put_all entries) opened)) between
      after.moments

-- the session of both sides: the rules of its line, the handheld, and its requests
abbrev pub agenda_of : List RuleValue → Meeting → Agenda
agenda_of rules meeting =
    record { rules = rules; device = meeting.device; asked = requests meeting }

-- A session between these sides that began: what is known of every session, what it left of both,
-- and what its status shows of them.
abbrev pub BegunSession : List RuleValue → Meeting → SidesTold → SidesTold → Status → Report
    → Type 0
BegunSession rules meeting before after status report =
    HadSession (SessionLeft meeting after.palm before.desk after.desk) (ShowsMeeting meeting)
    (agenda_of rules meeting) before.palm after.palm status report

-- ---- how a run has it

-- a session between a handheld and a desktop's slots, for which the words ask, and what it changed
-- of the desktop's folder
pub record TalkedFor (run : Run) (rules : List RuleValue) (device : Device) (slots : List SlotValue)
    (before after : SidesTold) (status : Status) (report : Report) : Type 0 where
  pub wishes : Wishes
  pub asked : AsksFor run wishes
  pub talked : BegunSession rules (meeting_of device slots wishes) before after status report
  pub changed : DesktopRan (meeting_of device slots wishes) before.desk.contents before.desk
      after.desk report.end

-- what is known of the session of a run, whatever is written of it
abbrev pub IsRunTalk : Run → List RuleValue → Device → List SlotValue → SidesTold → SidesTold
    → Status → Report → Type 0
IsRunTalk run rules device slots before after status report =
    IsTalk (TalkedFor run rules device slots before after) before after status report
