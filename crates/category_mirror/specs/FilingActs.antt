-- What a session says that brings categories together.
use Rattle.std.specs.Prelude.{◌≡◌, ℕ, Bool, true, false, ◌==◌, List, [], ◌∷◌, Option, None, Some, IfSome, Result, Ok, Err, option_and_then}
use Rattle.pdb_values.specs.Databases.{DatabaseValue}
use Rattle.pdb_values.specs.NamedDatabases.{database_of}
use Rattle.pdb_values.specs.declared.user.UserInfo.{UserInfo}
use Rattle.palm_device.specs.Devices.{Device}
use Rattle.dlp_replies.specs.ReplyReading.{reply_at}
use Rattle.dlp_commands.specs.Talks.{Talk}
use Rattle.desk_store.specs.Shelves.{ShelvesValue}
use Rattle.desk_store.specs.declared.change.DbChange.{DbChange}
use Rattle.desktop_session.specs.declared.fault.SessionFault.{SessionFault}
use Rattle.desktop_session.specs.Acts.{Act, acted}
use Rattle.desktop_session.specs.Answers.{block_of, or_none, said_in}
use Rattle.desktop_session.specs.Requests.{marking, opening, reading_app, writing_app}
use Rattle.desktop_session.specs.Says.{saying}
use Rattle.session_parts.specs.declared.skip.Skip.{Skip}
use Rattle.session_parts.specs.Spans.{within}
use Rattle.session_plan.specs.Users.{begun_user}
use Rattle.category_mirror.specs.declared.job.FilingJob.{FilingJob}
use Rattle.category_mirror.specs.Blocks.{MergeValue, blocks_merge, written_block}

-- the block that a reply has; error 5 says that there is none
abbrev pub block_or_none : Result (Option (List ℕ)) SessionFault → Option (List ℕ)
block_or_none (Ok block) = block
block_or_none (Err fault) = None

abbrev pub block_in : List ℕ → Option (List ℕ)
block_in reply = block_or_none (or_none (said_in 0x1B block_of (reply_at 0x1B reply)))

-- the app block of an open database, as the device's reply tells it
abbrev pub app_told : Device → ℕ → Option (List ℕ)
app_told device handle = block_in (acted (reading_app handle) device).0

-- the same, where a device is told
abbrev pub app_of : Option Talk → ℕ → Option (List ℕ)
app_of None handle = None
app_of (Some talk) handle = app_told talk.device handle

-- a block that is there is written
abbrev pub writes_where : ℕ → Option (List ℕ) → List Act
writes_where handle None = []
writes_where handle (Some block) = writing_app handle block ∷ []

-- under the handle of a database: its block is read, and the merged one written where it differs
unfoldable pub filed_under : Option (List ℕ) → Option Talk → ℕ → List Act
filed_under rows_app told handle =
    reading_app handle
    ∷ writes_where handle
    (written_block (app_of told handle) (blocks_merge (app_of told handle) rows_app))

-- what is said of a database of this name, by the block of its rows and what was told before
abbrev pub files_of : List ℕ → Option (List ℕ) → Option Talk → ℕ → List ℕ → List Act
files_of name rows_app told =
    within (opening name)
    (λ handle given. filed_under rows_app (saying (opening name ∷ []) told) handle)

-- a handheld that knows a desktop is to know none
abbrev pub marks_unless : Bool → UserInfo → List Act
marks_unless true user = []
marks_unless false user = marking (begun_user user) 0x40 ∷ []

-- so it is where the desktop's rows change, since a base row that goes along may not be what the
-- handheld has in a record that it never marked
unfoldable pub marks_for : List DbChange → UserInfo → List Act
marks_for [] user = []
marks_for (change ∷ changes) user = marks_unless (user.pc == 0) user

-- what the handheld knows then
abbrev pub marked_user : List DbChange → UserInfo → UserInfo
marked_user [] user = user
marked_user (change ∷ changes) user = begun_user user

-- the app block of a slot's rows
abbrev pub rows_app : ShelvesValue → List ℕ → Option (List ℕ)
rows_app shelves name =
    option_and_then (λ (database : DatabaseValue). database.app) (database_of name shelves.rows)

abbrev pub unless_skipped : Option Skip → List Act → List Act
unless_skipped (Some skip) acts = []
unless_skipped None acts = acts

-- one database of a session, by what was told before it; nothing of one that is skipped
unfoldable pub files_under : ShelvesValue → Option Talk → FilingJob → ℕ → List ℕ → List Act
files_under shelves told job handle given =
    unless_skipped job.skip
    (files_of job.name (rows_app shelves job.name) told handle given)

-- a merge is that of these blocks, where a device is told
abbrev pub IsMergeTold : Option (List ℕ) → Option Talk → ℕ → Option MergeValue → Type 0
IsMergeTold rows_app told handle merge =
    IfSome told (λ talk. merge ≡ blocks_merge (app_told talk.device handle) rows_app)

-- so of a database of this name, once it was opened
abbrev pub SaysMerge : List ℕ → Option (List ℕ) → Option Talk → ℕ → List ℕ → Option MergeValue
    → Type 0
SaysMerge name rows_app told =
    λ handle given. IsMergeTold rows_app (saying (opening name ∷ []) told) handle

abbrev pub SaysUnless : Option Skip → Option MergeValue → Type 0 → Type 0
SaysUnless (Some skip) merge says = merge ≡ None
SaysUnless None merge says = says

-- what a session tells of one database: how its categories come together
unfoldable pub SaysFiled : ShelvesValue → Option Talk → FilingJob → ℕ → List ℕ
    → Option MergeValue → Type 0
SaysFiled shelves told job handle given merge =
    SaysUnless job.skip merge
    (IsMergeTold (rows_app shelves job.name) (saying (opening job.name ∷ []) told) handle merge)
