-- How a session over a link that tells its device ends, and what it leaves of both sides.
use Rattle.std.specs.Prelude.{◌≡◌, ◌⊎◌, ℕ, List, [], ◌∷◌, length, map, replicate, slice_index, Option, None, Some, IfErr, IfOk, IfSome, IsSome, OnErr, OnOk, Result}
use Rattle.std.specs.Prelude.{Ok, Err, is_none, true}
use Rattle.std.specs.List.{AllByRecursion, list_any}
use Rattle.std.specs.Option.{option_map}
use Rattle.std.specs.Str.{bytes_eq}
use Rattle.std.specs.Global.{Vec}
use Rattle.hs_folders.specs.FileMaps.{FileMap}
use Rattle.hs_folders.specs.Moments.{EachMomentSince, Moments}
use Rattle.pdb_values.specs.declared.slot.Slot.{Slot}
use Rattle.pdb_values.specs.declared.slot.Slot.TheVariants.{Full, Refused}
use Rattle.pdb_values.specs.declared.user.UserInfo.{UserInfo}
use Rattle.folder_files.specs.FileNames.{desktop_info_file}
use Rattle.folder_files.specs.Slots.{users_of}
use Rattle.dlp_commands.specs.declared.link.LinkFault.{LinkFault}
use Rattle.dlp_commands.specs.declared.link.LinkFault.TheVariants.{Down}
use Rattle.dlp_commands.specs.Talks.{Talk}
use Rattle.desk_journal.specs.Entries.{EntryValue}
use Rattle.desk_journal.specs.Overlays.{FinishesAs, finished, put_all}
use Rattle.desk_store.specs.DeskFiles.{slot_file}
use Rattle.desk_store.specs.Desks.{IsDesk}
use Rattle.desk_store.specs.Shelves.{SlotValue, marks_of}
use Rattle.desk_store.specs.declared.role.Role.{Role}
use Rattle.desktop_session.specs.declared.fault.SessionFault.{SessionFault}
use Rattle.desktop_session.specs.declared.fault.SessionFault.TheVariants as session
use Rattle.desktop_session.specs.Acts.{text}
use Rattle.desktop_session.specs.Greetings.{user_with}
use Rattle.desktop_session.specs.Lasts.{IsBroken, IsRefusal, LastSays}
use Rattle.desktop_session.specs.Requests.{reading_user}
use Rattle.desktop_session.specs.Seats.{seat_for}
use Rattle.desktop_session.specs.Stops.{Does, Stops}
use Rattle.session_parts.specs.declared.outcome.Outcome.{Outcome}
use Rattle.session_parts.specs.declared.report.DbReport.{DbReport}
use Rattle.session_parts.specs.declared.stop.Stop.{Stop}
use Rattle.session_parts.specs.declared.stop.Stop.TheVariants as stop
use Rattle.session_parts.specs.Given.{GetFreeIds}
use Rattle.session_plan.specs.Limits.{first_over}
use Rattle.session_plan.specs.Losses.{first_loss}
use Rattle.session_plan.specs.Merges.{merged_slots}
use Rattle.session_plan.specs.Reports.{reports as reports_of}
use Rattle.sync_session.specs.Sessions.{adds_of, after_commit, before_commit, before_writes, session}
use Rattle.session_plan.specs.Skips.{skip_of}
use Rattle.session_plan.specs.Tasks.{Meeting, names, task_of}

-- ---- the desktop's folder

-- it stands for these slots: once a journal that was not finished is finished, it is the folder of
-- a desktop with them
abbrev pub StandsForSlots : List SlotValue → Option FileMap → Type 0
StandsForSlots slots told = IsDesk (option_map finished told) slots

-- at each moment since, it stood for the merge, which it never leaves
abbrev pub MergedSince : Meeting → List ℕ → Moments → Moments → Type 0
MergedSince meeting given = EachMomentSince (StandsForSlots (merged_slots meeting given))

-- what was told of a folder before a session and is told after it, and the moments up to both
pub record Tellings : Type 0 where
  pub before : Option FileMap
  pub after : Option FileMap
  pub moments_before : Moments
  pub moments_after : Moments

abbrev pub tellings : {F : Type 0} → (F → Option FileMap) → (F → Moments) → F → F → Tellings
tellings contents moments before after =
    record {
      before = contents before;
      after = contents after;
      moments_before = moments before;
      moments_after = moments after;
    }

-- the file of a database that the session doesn't skip, in the picked slot
pub record IsTaskFile (meeting : Meeting) (file : List ℕ) : Type 0 where
  pub name : List ℕ
  pub there : list_any (λ other. bytes_eq other name) (names meeting) ≡ true
  pub kept : is_none (skip_of (task_of meeting name)) ≡ true
  pub role : Role
  pub is : file ≡ slot_file meeting.picked role name

-- the information file, or such a one
abbrev pub IsCommitFile : Meeting → List ℕ → Type 0
IsCommitFile meeting file = (file ≡ desktop_info_file) ⊎ IsTaskFile meeting file

-- The folder was changed by one commit at most. Where the session ended it has these files over
-- those that it had; where it stopped it stands for what it stood for, or for that, and so it did
-- at each moment that passed.
pub record ChangesDesk (meeting : Meeting) (folder : Tellings)
    (answer : Result (Vec DbReport) Stop) : Type 0 where
  pub entries : List EntryValue
  pub files : AllByRecursion (λ (entry : EntryValue). IsCommitFile meeting entry.name) entries
  pub written : OnOk answer (folder.after ≡ option_map (put_all entries) folder.before)
  pub stands : FinishesAs folder.before folder.after
      ⊎ FinishesAs (option_map (put_all entries) folder.before) folder.after
  pub each_moment : EachMomentSince
      (FinishesAs
      (option_map (put_all entries) folder.before)) folder.moments_before folder.moments_after

-- ---- a session that ended

-- All of the session's requests went out and were answered, and each new record got an id that was
-- free at its turn. The folder is that of a desktop with the merge under these ids, without a
-- journal, and what was done with each database is told in order.
pub record IsEnded {L : Type 0} (talk : L → Option Talk) (meeting : Meeting) (old new : L)
    (folder : Tellings) (reports : List DbReport) : Type 0 where
  pub given : List ℕ
  pub count : length given ≡ adds_of meeting
  pub free : GetFreeIds (session meeting given) meeting.device
  pub does : Does talk (session meeting given) old new
  pub desk : IsDesk folder.after (merged_slots meeting given)
  pub moments : MergedSince meeting given folder.moments_before folder.moments_after
  pub told : reports ≡ reports_of meeting

-- ---- a session that stopped

-- the requests up to the desktop's commit, whichever ids are given
abbrev pub requests_before_commit : Meeting → List (List ℕ)
requests_before_commit meeting = map text (before_commit meeting (replicate (adds_of meeting) 0))

-- The folder stands for what it stood for, and no more went out than a beginning of what precedes
-- the commit.
pub record IsUncommitted {L : Type 0} (talk : L → Option Talk) (since : L → L → Type 0)
    (fault : L → Option LinkFault) (downs : L → ℕ)
    (meeting : Meeting) (old new : L) (folder : Tellings) : Type 0 where
  pub given : List ℕ
  pub stops : Stops talk since fault downs (requests_before_commit meeting) old new
  pub stands : FinishesAs folder.before folder.after
  pub moments : MergedSince meeting given folder.moments_before folder.moments_after

-- All that precedes the commit was answered, the folder stands for the merge, and no more went out
-- then than a beginning of what follows.
pub record IsCommitted {L : Type 0} (talk : L → Option Talk) (since : L → L → Type 0)
    (fault : L → Option LinkFault) (downs : L → ℕ)
    (meeting : Meeting) (old new : L) (folder : Tellings) : Type 0 where
  pub given : List ℕ
  pub between : L
  pub count : length given ≡ adds_of meeting
  pub free : GetFreeIds (before_commit meeting given) meeting.device
  pub does : Does talk (before_commit meeting given) old between
  pub stops : Stops talk since fault downs (requests_before_commit meeting) old between
  pub rest : Stops talk since fault downs (map text (after_commit meeting)) between new
  pub stands : StandsForSlots (merged_slots meeting given) folder.after
  pub moments : MergedSince meeting given folder.moments_before folder.moments_after

-- ---- why it stopped

-- the slot for the handheld
abbrev pub slot_in : Meeting → Slot
slot_in meeting = seat_for (marks_of meeting.slots) meeting.wishes.user meeting.device.user

-- no slot has the handheld's user, or another one is asked for
pub record IsOtherUser (meeting : Meeting) (handheld desktop : ℕ) : Type 0 where
  pub slot : slot_in meeting ≡ Refused
  pub handheld_is : handheld ≡ meeting.device.user.user
  pub desktop_is : desktop ≡ slice_index (users_of (marks_of meeting.slots)) 0

-- the handheld's user, where it has a slot, and else why a session stops
abbrev pub seat_of : Meeting → Result UserInfo SessionFault
seat_of meeting =
    user_with (marks_of meeting.slots) meeting.device.user (slot_in meeting)

-- this database would pass a limit first, and all is read and nothing written
pub record IsLimit {L : Type 0} (talk : L → Option Talk) (meeting : Meeting) (old new : L)
    (name : List ℕ) : Type 0 where
  pub first : first_over meeting ≡ Some name
  pub does : Does talk (before_writes meeting) old new

-- no limit would be passed, and by this database the session would cost the desktop live rows first;
-- all is read and nothing written
pub record IsNewHandheld {L : Type 0} (talk : L → Option Talk) (meeting : Meeting) (old new : L)
    (name : List ℕ) : Type 0 where
  pub within : first_over meeting ≡ None
  pub first : first_loss meeting ≡ Some name
  pub does : Does talk (before_writes meeting) old new

-- all that precedes the commit was answered, each new record got an id that was free at its turn,
-- and no more went out
pub record IsAtCommit {L : Type 0} (talk : L → Option Talk) (meeting : Meeting)
    (old new : L) : Type 0 where
  pub given : List ℕ
  pub count : length given ≡ adds_of meeting
  pub free : GetFreeIds (before_commit meeting given) meeting.device
  pub does : Does talk (before_commit meeting given) old new

-- The cause of a stop. A refusal is the error in the last reply of the talk, and a reply that can't
-- be read is this one, where the link has no fault; for its user a session stops where nothing else
-- was asked for; the folder tells its own failure by its count, and it fails at the commit alone;
-- want of memory is free.
abbrev pub IsStopOf : {L : Type 0} → (L → Option Talk) → (L → Option LinkFault) → Meeting → L → L
    → Stop → Type 0
IsStopOf talk fault meeting old new (stop.Session session.Down) = fault new ≡ Some Down
IsStopOf talk fault meeting old new (stop.Session (session.Refused function code)) =
    (fault new ≡ None) × IfSome (talk new) (LastSays (IsRefusal function code.0))
IsStopOf talk fault meeting old new (stop.Session (session.BadReply function broken)) =
    (fault new ≡ None) × IfSome (talk new) (LastSays (IsBroken function broken))
IsStopOf talk fault meeting old new (stop.Session (session.OtherUser handheld desktop)) =
    IsOtherUser meeting handheld desktop × Does talk (reading_user ∷ []) old new
IsStopOf talk fault meeting old new (stop.Session session.TooManyUsers) =
    (slot_in meeting ≡ Full) × Does talk (reading_user ∷ []) old new
IsStopOf talk fault meeting old new (stop.Session session.NoMemory) = Unit {0}
IsStopOf talk fault meeting old new (stop.Limit name) = IsLimit talk meeting old new name
IsStopOf talk fault meeting old new (stop.NewHandheld name) =
    IsNewHandheld talk meeting old new name
IsStopOf talk fault meeting old new stop.DeskFault = IsAtCommit talk meeting old new

-- it stopped for this, unless its link is down or memory was wanted
abbrev pub StopsFor : Stop → Result (Vec DbReport) Stop → Type 0
StopsFor why (Ok reports) = ⊥
StopsFor why (Err cause) =
    (cause ≡ why) ⊎ ((cause ≡ stop.Session session.Down) ⊎ (cause ≡ stop.Session session.NoMemory))

-- it stopped for a limit that this database would pass, unless what it said or memory stopped it
-- before
abbrev pub StopsAtLimit : List ℕ → Result (Vec DbReport) Stop → Type 0
StopsAtLimit name (Ok reports) = ⊥
StopsAtLimit name (Err (stop.Session cause)) = Unit {0}
StopsAtLimit name (Err (stop.Limit other)) = other ≡ name
StopsAtLimit name (Err other) = ⊥

-- it stopped for the live rows that this database would lose, unless what it said or memory stopped
-- it before
abbrev pub StopsAtLoss : List ℕ → Result (Vec DbReport) Stop → Type 0
StopsAtLoss name (Ok reports) = ⊥
StopsAtLoss name (Err (stop.Session cause)) = Unit {0}
StopsAtLoss name (Err (stop.NewHandheld other)) = other ≡ name
StopsAtLoss name (Err other) = ⊥

-- ---- both

-- A session of these two sides ended, or it stopped: before the desktop's commit or behind it, and
-- by its cause. Where the handheld's user has no slot, nothing but the user is asked for, and it
-- stops for that; where a limit would be passed, nothing is written, and it stops for that or
-- before; and else where it would cost the desktop live rows.
pub record SessionEnds {L : Type 0} (talk : L → Option Talk) (since : L → L → Type 0)
    (fault : L → Option LinkFault) (downs : L → ℕ)
    (meeting : Meeting) (old new : L) (folder : Tellings)
    (answer : Result (Vec DbReport) Stop) : Type 0 where
  pub ended : IfOk answer (λ reports. IsEnded talk meeting old new folder reports.items)
  pub stopped : OnErr answer
      (IsUncommitted talk since fault downs meeting old new folder
      ⊎ IsCommitted talk since fault downs meeting old new folder)
  pub cause : IfErr answer (IsStopOf talk fault meeting old new)
  pub changed : ChangesDesk meeting folder answer
  pub unseated : (why : SessionFault) → seat_of meeting ≡ Err why
      → Stops talk since fault downs (text reading_user ∷ []) old new
      × StopsFor (stop.Session why) answer
  pub over : IsSome (first_over meeting)
      → Stops talk since fault downs (map text (before_writes meeting)) old new
  pub limit : (name : List ℕ) → first_over meeting ≡ Some name → StopsAtLimit name answer
  pub losing : IsSome (first_loss meeting)
      → Stops talk since fault downs (map text (before_writes meeting)) old new
  pub loss : (name : List ℕ) → first_over meeting ≡ None → first_loss meeting ≡ Some name
      → StopsAtLoss name answer

-- so an outcome of theirs says, by what the desktop's folder told before
abbrev pub EndsSo : {L F : Type 0} → (L → Option Talk) → (L → L → Type 0)
    → (L → Option LinkFault) → (L → ℕ) → (F → Option FileMap) → (F → Moments) → Meeting → L → F
    → Outcome L F → Type 0
EndsSo talk since fault downs contents moments meeting old folder left =
    SessionEnds talk since fault downs meeting old left.link
    (tellings contents moments folder left.folder) left.end
