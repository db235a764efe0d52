-- What holds of every session between made folders.
use Rattle.std.specs.Prelude.{◌≡◌, ◌⊎◌, ◌+◌, ◌-◌, ℕ, zero, suc, true, false, List, [], ◌∷◌, ◌++◌, codes, length, None, Some}
use Rattle.std.specs.List.{flat_map}
use Rattle.hs_folders.specs.FileMaps.{FileMap}
use Rattle.palm_device.specs.Devices.{Device}
use Rattle.palm_device.specs.Handles.{no_handles}
use Rattle.handheld_files.specs.Openings.{HoldsAll}
use Rattle.desk_store.specs.Desks.{IsDesk}
use Rattle.desk_store.specs.Shelves.{SlotValue}
use Rattle.trace_text.specs.Fates.{Lost}
use Rattle.line_script.specs.Rules.{RuleValue, rule_text}
use Rattle.run_words.specs.Choices.{ChoiceTexts}
use Rattle.run_words.specs.Runs.{Run}
use Rattle.session_parts.specs.declared.report.Counts.{Counts}
use Rattle.session_parts.specs.declared.report.DbReport.{DbReport}
use Rattle.session_parts.specs.declared.report.Did.TheVariants.{Synced}
use Rattle.made_folders.specs.Items.{made}
use Rattle.made_folders.specs.Sides.{desktop_files, handheld_files}
use Rattle.made_folders.specs.declared.item.Item.{Item}
use Rattle.made_folders.specs.Numbers.{kinds}
use Rattle.call_parts.specs.Causes.{ByEnd}
use Rattle.call_parts.specs.DoneLines.{done_lines}
use Rattle.cmd_status.specs.Printed.{IsPrinted}
use Rattle.call_parts.specs.Reports.{IsNotStarted}
use Rattle.cmd_session.specs.Talks.{TalkedFor}
use Rattle.cmd_status.specs.Told.{SinkTold}
use Rattle.call_parts.specs.Told.{FolderTold, SidesTold}
use Rattle.call_parts.specs.declared.report.Report.{Report}
use Rattle.call_parts.specs.declared.report.SessionEnd.TheVariants.{Ended}
use Rattle.cmd_status.specs.declared.status.Status.{Status}
use Rattle.cmd_status.specs.declared.status.Status.TheVariants.{Done, OutWrite, NoMemory}

-- ---- what is asked of it

-- each database, with the action that it has where no word says another
abbrev pub every_database : ChoiceTexts
every_database = record { only = None; actions = None }

-- the words of the session: a run under the date 2001-09-09T01:46:40, without an option
abbrev pub made_run : Run
made_run = record {
  handheld = [];
  desktop = [];
  date = 3082844800;
  script = None;
  trace = None;
  choice = every_database;
  slow = false;
  user = None;
  add_user = false;
}

-- so many lines: the first loses the frame of this number, and each later one the frame twenty
-- behind
unfoldable pub losses : ℕ → ℕ → List RuleValue
losses number zero = []
losses number (suc count) = record { number = number; fate = Lost } ∷ losses (number + 20) count

-- the script loses each frame whose number is a multiple of 20, up to 20,000
abbrev pub made_script : List RuleValue
made_script = losses 20 1000

-- the text of a script: a line for each rule
abbrev pub script_text : List RuleValue → List ℕ
script_text rules = flat_map (λ (rule : RuleValue). rule_text rule ++ 10 ∷ []) rules

-- ---- what is told of it

-- a made folder tells its files alone, and never fails
abbrev pub files_told : FileMap → FolderTold
files_told files = record { contents = Some files; moments = None; paths = None; faults = 0 }

-- what both made folders tell
abbrev pub made_told : List Item → SidesTold
made_told items = record {
  palm = files_told (handheld_files items);
  desk = files_told (desktop_files items);
}

-- how the one database was synchronised, by the kinds of the items
abbrev pub made_counts : List Item → Counts
made_counts items = record {
  fast = true;
  read = kinds 5 items + kinds 8 items;
  replaced = kinds 6 items;
  added = kinds 9 items;
  purged = kinds 7 items;
  archived = 0;
  twice = 0;
  rows = length items - kinds 7 items;
}

abbrev pub made_report : List Item → DbReport
made_report items = record { name = codes "MadeDB"; did = Synced (made_counts items) }

-- ---- what holds of it

-- memory ran out before anything was sent
pub record MadeNothing (status : Status) (report : Report) : Type 0 where
  pub memory : status ≡ NoMemory
  pub report_is : IsNotStarted report

-- Both sides as the made files tell them, and all that is known of the session between them. One
-- that ended tells of one database, by the kinds.
pub record MadeRan (items : List Item) (status : Status) (report : Report) : Type 0 where
  pub device : Device
  pub handheld : HoldsAll (handheld_files items) device.databases device.user
  pub closed : device.handles ≡ no_handles
  pub slots : List SlotValue
  pub desktop : IsDesk (Some (desktop_files items)) slots
  pub after : SidesTold
  pub talked : TalkedFor made_run made_script device slots (made_told items) after status report
  pub databases : report.end ≡ Ended → report.databases.items ≡ made_report items ∷ []

-- what is known of it before its lines are printed
abbrev pub HasMade : List Item → Status → Report → Type 0
HasMade items status report =
    ByEnd report.end (MadeNothing status report) (MadeRan items status report)

-- What is known of it: this, that only memory or standard output can fail it, and that standard
-- output took exactly the lines of its status.
pub record IsMake (seed count : ℕ) (out out_after : SinkTold) (status : Status)
    (report : Report) : Type 0 where
  pub ran : HasMade (made seed count) status report
  pub ends : (status ≡ Done) ⊎ (status ≡ NoMemory) ⊎ (status ≡ OutWrite)
  pub printed : IsPrinted (λ text. text ≡ done_lines report.databases.items) out out_after status
