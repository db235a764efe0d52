-- Whether a session would cost a desktop live rows by a handheld that knows less of them than the
-- slot does, and of which database first: it is refused before anything is written.
use Rattle.std.specs.Prelude.{ℕ, Bool, not, ◌==◌, ◌&&◌, ◌||◌, ◌++◌, List, find, nat_lt, Option}
use Rattle.std.specs.List.{list_any}
use Rattle.std.specs.Option.{option_map}
use Rattle.pdb_values.specs.Contents.{ContentValue}
use Rattle.pdb_values.specs.Records.{is_live}
use Rattle.pdb_values.specs.declared.record.Record.{Record}
use Rattle.pdb_values.specs.declared.user.Marks.{Marks}
use Rattle.pdb_values.specs.declared.user.UserInfo.{UserInfo}
use Rattle.conduit_rules.specs.Contents.{same_content}
use Rattle.conduit_rules.specs.Plans.{kept_rows}
use Rattle.conduit_rules.specs.declared.view.Seen.{Seen}
use Rattle.folder_files.specs.Partings.{parting_of}
use Rattle.mirrors.specs.Agreements.{agreed}
use Rattle.session_plan.specs.Archives.{entries_of}
use Rattle.session_plan.specs.Choosing.{action_or_sync, base_rows, choice, is_sync, view}
use Rattle.session_plan.specs.Partings.{is_unmet}
use Rattle.session_plan.specs.Skips.{active}
use Rattle.session_plan.specs.Tasks.{Meeting, Task, records_of, slot_of}

-- ---- strangers

-- the handheld never ended a session
abbrev pub never_ended : UserInfo → Bool
never_ended handheld = (handheld.pc == 0) && (handheld.good == 0)

-- it ended its last one before the slot ended its own, as one did that was put back from a copy
abbrev pub ended_before : UserInfo → Marks → Bool
ended_before handheld slot = not (handheld.pc == 0) && nat_lt handheld.good slot.last

-- it is as a session of the slot leaves it that stopped
abbrev pub is_as_stopped : UserInfo → Marks → Bool
is_as_stopped handheld slot = (handheld.pc == 0) && (handheld.good == slot.last)

-- the slot has a user, and the handheld another one or none
abbrev pub has_other_user : UserInfo → Marks → Bool
has_other_user handheld slot = not (slot.user == 0) && not (handheld.user == slot.user)

-- The slot ended a session, and the handheld isn't the one that it ended it with: both don't agree,
-- and it never ended one, or an older one, or it has another user and no session of the slot stopped
-- on it.
abbrev pub is_stranger_to : UserInfo → Marks → Bool
is_stranger_to handheld slot =
    not (slot.last == 0)
    && (not (agreed handheld slot)
    && (never_ended handheld
    || (ended_before handheld slot
    || (has_other_user handheld slot && not (is_as_stopped handheld slot)))))

abbrev pub is_stranger : Meeting → Bool
is_stranger meeting = is_stranger_to meeting.device.user (slot_of meeting).marks

-- it is one, or the slot keeps of a database that it was missing, or its handheld a stranger, when
-- it took no part
abbrev pub is_strange : Meeting → List ℕ → Bool
is_strange meeting name =
    is_stranger meeting || is_unmet (parting_of name (slot_of meeting).parted)

-- ---- databases that were lost

-- both sides agreed on this record of the base: it isn't kept as one that is gone, and has an id
abbrev pub is_agreed_on : Record → Bool
is_agreed_on row = not row.deleted && not (row.id == 0)

-- the handheld has a record of this id, in whatever state
abbrev pub is_there : List Seen → ℕ → Bool
is_there view id = list_any (λ (seen : Seen). seen.id == id) view

-- the handheld has a record that both sides agreed on
abbrev pub is_met : List Seen → Record → Bool
is_met view row = is_agreed_on row && is_there view row.id

-- both sides agreed on some records, and the handheld has none of them
abbrev pub has_lost_all : List Record → List Seen → Bool
has_lost_all base view = list_any is_agreed_on base && not (list_any (is_met view) base)

-- ---- what is lost

-- what a database doesn't have counts for less than what the desktop has: the handheld is a
-- stranger, or it lost the database
abbrev pub may_lose : Meeting → Task → Bool
may_lose meeting task =
    is_strange meeting task.name || has_lost_all (base_rows task) (view meeting task)

-- some entry has this content
abbrev pub is_among : List (ℕ × ContentValue) → ContentValue → Bool
is_among entries content =
    list_any (λ (entry : ℕ × ContentValue). same_content entry.1 content) entries

-- a content stays: a row that is kept under its id has it, or a new one, or an entry of the archive
abbrev pub stays : List (ℕ × ContentValue) → List ContentValue → List (ℕ × ContentValue)
    → ContentValue → Bool
stays kept adds archive content =
    is_among kept content
    || (list_any (λ new. same_content new content) adds || is_among archive content)

-- a live row whose content doesn't stay
abbrev pub is_lost : List (ℕ × ContentValue) → List ContentValue → List (ℕ × ContentValue)
    → Record → Bool
is_lost kept adds archive row = is_live row && not (stays kept adds archive row.content)

-- the merge of a database leaves the content of some live row of the desktop neither live nor
-- archived, behind it
abbrev pub loses_live_rows : Meeting → Task → Bool
loses_live_rows meeting task =
    list_any
    (is_lost (kept_rows (choice meeting task).keep) (choice meeting task).adds
    (entries_of (records_of task.archive) ++ (choice meeting task).archive))
    (records_of task.rows)

-- it may, it does, and the database goes by both sides and their base
abbrev pub is_loss : Meeting → Task → Bool
is_loss meeting task =
    is_sync (action_or_sync task.action)
    && (may_lose meeting task && loses_live_rows meeting task)

-- the first database by which the session would cost the desktop live rows
unfoldable pub first_loss : Meeting → Option (List ℕ)
first_loss meeting =
    option_map (λ (task : Task). task.name) (find (is_loss meeting) (active meeting))
