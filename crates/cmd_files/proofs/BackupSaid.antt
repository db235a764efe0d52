-- What the answer of a session that backs a handheld up says of its requests, and of its files.
use Rattle.std.proofs.lemmas.Grind.{common_steps}
use Rattle.std.proofs.lemmas.Bool.{and_parts}
use Rattle.std.proofs.Common.{◌≡◌, ◌⊎◌, ◌∙◌, ◌≤◌, ap, arith, inl, inr, refl, subst, sym, ℕ, zero, suc, not, true, List, [], ◌∷◌, ◌++◌, length, take}
use Rattle.std.specs.Prelude.{IfErr, IfOk, IsErrOf, OnOk, Option, Some, Result, Ok, Err, map}
use Rattle.std.specs.Global.{Vec}
use Rattle.std.specs.List.{AllByRecursion, list_all}
use Rattle.std.proofs.lemmas.List.{length-take}
use Rattle.pdb_values.specs.Databases.{DatabaseValue}
use Rattle.pdb_values.specs.declared.record.Record.{Record}
use Rattle.palm_device.specs.Devices.{Device}
use Rattle.handheld_files.specs.Openings.{AreKept}
use Rattle.handheld_files.specs.Settled.{are_ids, are_settled}
use Rattle.desk_journal.specs.Entries.{EntryValue}
use Rattle.dlp_commands.specs.DeviceRuns.{Exchange}
use Rattle.dlp_commands.specs.declared.link.LinkFault.{LinkFault}
use Rattle.line_world.specs.Worlds.{IsLog, WorldValue, world_talk}
use Rattle.line_world.specs.Logs.{no_log}
use Rattle.line_world.specs.declared.down.Down.{Down}
use Rattle.desktop_session.specs.Acts.{Act, text}
use Rattle.desktop_session.specs.Says.{IsPrefix, answered}
use Rattle.desktop_session.specs.Stops.{Does}
use Rattle.desktop_session.specs.declared.fault.SessionFault.TheVariants as session_fault
use Rattle.session_parts.specs.Rests.{IsAtRest}
use Rattle.session_parts.specs.declared.report.DbReport.{DbReport}
use Rattle.session_parts.specs.declared.stop.Stop.{Stop}
use Rattle.session_parts.specs.declared.stop.Stop.TheVariants as stop
use Rattle.install_backup.specs.declared.moved.Moved.{Moved}
use Rattle.install_backup.specs.BackedUp.{backed_up}
use Rattle.install_backup.specs.BackupActs.{backup_acts}
use Rattle.install_backup.specs.BackupEnds.{read_of}
use Rattle.install_backup.specs.Backups.{IsBackupCause, file_of, kept_moved}
use Rattle.install_backup.proofs.BackedUpLaws.{copies-are}
use Rattle.install_backup.proofs.ReadWhole.{AreHeld, held_all}
use Rattle.cmd_files.specs.Backups.{BackupShows, backup_file, backup_report}
use Rattle.call_parts.specs.Causes.{down_status, stop_status}
use Rattle.call_parts.specs.Closings.{left_status}
use Rattle.cmd_files.specs.Moves.{TellsMoves, moved_report}
use Rattle.cmd_files.specs.declared.moved.Way.TheVariants.{ToFiles}
use Rattle.call_parts.specs.Whole.{StopsAnswered}
use Rattle.cmd_files.proofs.BackupActLaws.{some-acts}
use Rattle.call_parts.proofs.EndLaws.{acts-count, exchanged-length, told_all}
use Rattle.call_parts.proofs.WholeLaws.{SaidOf, SaidShort, SaidWhole}
use Rattle.cmd_status.specs.declared.status.Status.{Status}
use Rattle.cmd_status.specs.declared.status.Status.TheVariants.{NoMemory}
use Rattle.install_backup.proofs.UnmarkedLaws.{all_idle}
use Rattle.call_parts.proofs.SaidLaws.{never_down}

-- ---- each database is read as it is, without its seed

abbrev pub AreRead : Device → List DatabaseValue → Type 0
AreRead device databases = AllByRecursion (λ (d : DatabaseValue). read_of device d ≡ backed_up d) databases

reads_each : (device : Device) (databases : List DatabaseValue) → IsAtRest device → AreHeld device.databases databases
    → AllByRecursion (λ (d : DatabaseValue). are_settled d.records ≡ true) databases → AreRead device databases
reads_each device [] rests held settled = tt
reads_each device (database ∷ databases) rests held settled =
    let parts = and_parts (list_all (λ (item : Record). not item.busy) database.records) (are_ids (map (λ (item : Record). item.id) database.records)) settled.0 in
    (copies-are device rests database held.0 (all_idle database.records parts.0), reads_each device databases rests held.1 settled.1)

pub all_read : (device : Device) → IsAtRest device → AreKept device.databases → AreRead device device.databases
all_read device rests kept = reads_each device device.databases rests (held_all device.databases kept.order) kept.settled

pub read_first : (device : Device) (kept later : List DatabaseValue) → AreRead device (kept ++ later) → AreRead device kept
read_first device [] later all = tt
read_first device (database ∷ kept) later all = (all.0, read_first device kept later all.1)

pub files-are : (device : Device) (kept : List DatabaseValue) → AreRead device kept
    → map (λ (d : DatabaseValue). file_of (read_of device d)) kept ≡ map backup_file kept
files-are device [] all = refl
files-are device (database ∷ kept) all =
    ap (λ (whole : DatabaseValue). file_of whole ∷ map (λ (d : DatabaseValue). file_of (read_of device d)) kept) all.0
    ∙ ap (λ (files : List EntryValue). backup_file database ∷ files) (files-are device kept all.1)

pub reports-are : (device : Device) (databases : List DatabaseValue) → AreRead device databases
    → map (moved_report ToFiles) (map (λ (d : DatabaseValue). kept_moved (read_of device d)) databases) ≡ map backup_report databases
reports-are device [] all = refl
reports-are device (database ∷ databases) all =
    ap (λ (whole : DatabaseValue). moved_report ToFiles (kept_moved whole)
    ∷ map (moved_report ToFiles) (map (λ (d : DatabaseValue). kept_moved (read_of device d)) databases)) all.0
    ∙ ap (λ (reports : List DbReport). backup_report database ∷ reports) (reports-are device databases all.1)

-- ---- by what its calls answered

-- all was said and answered, and this is told
pub record ToldBackedUp {F : Type 0} (device : Device) (later : List DatabaseValue) (old new : WorldValue F) (reports : List DbReport) : Type 0 where
  pub does : Does (λ (world : WorldValue F). Some (world_talk world)) (backup_acts device) old new
  pub none : later ≡ []
  pub told : reports ≡ map backup_report device.databases

-- the answer of a session over a world, with what is told of the databases
pub record ToldBackup {F : Type 0} (fault : WorldValue F → Option LinkFault) (device : Device) (kept later : List DatabaseValue) (old new : WorldValue F)
    (answer : Result (Vec DbReport) Stop) : Type 0 where
  pub ended : IfOk answer (λ reports. ToldBackedUp device later old new reports.items)
  pub cause : IfErr answer (IsBackupCause (λ (world : WorldValue F). Some (world_talk world)) fault new)
  pub unkept : IsErrOf answer stop.DeskFault → SaidShort (map text (backup_acts device)) old new

-- a folder that failed is told so
pub told_fault : (end : Result (Vec Moved) Stop) (answer : Result (Vec DbReport) Stop) → TellsMoves ToFiles end answer → IsErrOf answer stop.DeskFault
    → IsErrOf end stop.DeskFault
told_fault (Ok moved) (Ok reports) told is = absurd cc
told_fault (Ok moved) (Err why) told is = absurd cc
told_fault (Err cause) (Ok reports) told is = absurd told
told_fault (Err cause) (Err why) told is = cc

module _ {F : Type 0} (fault : WorldValue F → Option LinkFault) (device : Device) (old new : WorldValue F) where
  pub ended_told : (later : List DatabaseValue) (end : Result (Vec Moved) Stop) (answer : Result (Vec DbReport) Stop) → AreRead device device.databases
      → IfOk end (λ moved. (later ≡ [])
      × (Does (λ (world : WorldValue F). Some (world_talk world)) (backup_acts device) old new
      × (moved.items ≡ map (λ (d : DatabaseValue). kept_moved (read_of device d)) device.databases)))
      → TellsMoves ToFiles end answer → IfOk answer (λ reports. ToldBackedUp device later old new reports.items)
  ended_told later (Ok moved) (Ok reports) all ended told = record {
    does = ended.1.0;
    none = ended.0;
    told = told ∙ ap (map (moved_report ToFiles)) ended.1.1 ∙ reports-are device device.databases all;
  }
  ended_told later (Ok moved) (Err why) all ended told = tt
  ended_told later (Err cause) (Ok reports) all ended told = absurd told
  ended_told later (Err cause) (Err why) all ended told = tt

  pub cause_told : (end : Result (Vec Moved) Stop) (answer : Result (Vec DbReport) Stop) → IfErr end (IsBackupCause (λ (world : WorldValue F). Some (world_talk world)) fault new)
      → TellsMoves ToFiles end answer → IfErr answer (IsBackupCause (λ (world : WorldValue F). Some (world_talk world)) fault new)
  cause_told (Ok moved) (Ok reports) cause told = tt
  cause_told (Ok moved) (Err why) cause told = subst (IsBackupCause (λ (world : WorldValue F). Some (world_talk world)) fault new) (sym told) tt
  cause_told (Err other) (Ok reports) cause told = absurd told
  cause_told (Err other) (Err why) cause told = subst (IsBackupCause (λ (world : WorldValue F). Some (world_talk world)) fault new) (sym told) cause

-- ---- what was said

module _ {F : Type 0} (fault : WorldValue F → Option LinkFault) (device : Device) (kept later : List DatabaseValue) (old new : WorldValue F)
    (cause : Option Down) where
  stop_said : (why : Stop) → IsBackupCause (λ (world : WorldValue F). Some (world_talk world)) fault new why
      → (IsErrOf {T = Vec DbReport} (Err why) stop.DeskFault → SaidShort (map text (backup_acts device)) old new)
      → StopsAnswered (stop_status cause why) → SaidShort (map text (backup_acts device)) old new
  stop_said (stop.Session session_fault.Down) stops unkept answered = absurd (never_down cause answered)
  stop_said (stop.Session (session_fault.OtherUser handheld desktop)) stops unkept answered = absurd stops
  stop_said (stop.Session session_fault.TooManyUsers) stops unkept answered = absurd stops
  stop_said (stop.Session (session_fault.Refused function code)) stops unkept answered = absurd answered
  stop_said (stop.Session (session_fault.BadReply function broken)) stops unkept answered = absurd answered
  stop_said (stop.Session session_fault.NoMemory) stops unkept answered = absurd answered
  stop_said (stop.Limit name) stops unkept answered = absurd stops
  stop_said (stop.NewHandheld name) stops unkept answered = absurd stops
  stop_said stop.DeskFault stops unkept answered = unkept refl

  said_short : (answer : Result (Vec DbReport) Stop) {status : Status} → ToldBackup fault device kept later old new answer
      → (status ≡ left_status cause answer) ⊎ (status ≡ NoMemory) → StopsAnswered status → SaidShort (map text (backup_acts device)) old new
  said_short answer ends (inr memory) answered = absurd (subst StopsAnswered memory answered)
  said_short (Ok made) ends (inl left) answered = absurd (subst StopsAnswered left answered)
  said_short (Err why) ends (inl left) answered = stop_said why ends.cause ends.unkept (subst StopsAnswered left answered)

  ended_whole : (answer : Result (Vec DbReport) Stop) → IfOk answer (λ reports. ToldBackedUp device later old new reports.items)
      → OnOk answer (SaidWhole (map text (backup_acts device)) old new)
  ended_whole (Ok made) over = record { acts = backup_acts device; does = over.does; all = refl }
  ended_whole (Err why) over = tt

  -- what its call answered says so much of the session
  pub backup_said : (answer : Result (Vec DbReport) Stop) {status : Status} → ToldBackup fault device kept later old new answer
      → (status ≡ left_status cause answer) ⊎ (status ≡ NoMemory) → IsPrefix new.log.issued (map text (backup_acts device))
      → SaidOf (map text (backup_acts device)) old new answer status
  backup_said answer ends left begins = record {
    some = some-acts device;
    begins = begins;
    whole = ended_whole answer ends.ended;
    short = said_short answer ends left;
  }

-- ---- what its status shows

down_shows : (cause : Option Down) → BackupShows (down_status cause)
down_shows cause = grind (arith, common_steps)

module _ {F : Type 0} (fault : WorldValue F → Option LinkFault) (new : WorldValue F) (cause : Option Down) where
  stop_shows : (why : Stop) → IsBackupCause (λ (world : WorldValue F). Some (world_talk world)) fault new why → BackupShows (stop_status cause why)
  stop_shows (stop.Session session_fault.Down) stops = down_shows cause
  stop_shows (stop.Session (session_fault.OtherUser handheld desktop)) stops = absurd stops
  stop_shows (stop.Session session_fault.TooManyUsers) stops = absurd stops
  stop_shows (stop.Session (session_fault.Refused function code)) stops = tt
  stop_shows (stop.Session (session_fault.BadReply function broken)) stops = tt
  stop_shows (stop.Session session_fault.NoMemory) stops = tt
  stop_shows (stop.Limit name) stops = absurd stops
  stop_shows (stop.NewHandheld name) stops = absurd stops
  stop_shows stop.DeskFault stops = tt

  pub backup_shows : (answer : Result (Vec DbReport) Stop) {status : Status} → IfErr answer (IsBackupCause (λ (world : WorldValue F). Some (world_talk world)) fault new)
      → (status ≡ left_status cause answer) ⊎ (status ≡ NoMemory) → BackupShows status
  backup_shows answer stops (inr memory) = subst BackupShows (sym memory) tt
  backup_shows (Ok made) stops (inl left) = subst BackupShows (sym left) tt
  backup_shows (Err why) stops (inl left) = subst BackupShows (sym left) (stop_shows why stops)

-- ---- the databases that were read whole

-- a beginning that is no longer than what is taken
pub take-past : (xs ys : List (List ℕ)) (count : ℕ) → length xs ≤ count → IsPrefix xs (take count (xs ++ ys))
take-past [] ys count few = record { rest = take count ys; is = refl }
take-past (x ∷ xs) ys zero few = absurd (omega (arith, few))
take-past (x ∷ xs) ys (suc count) few =
    let rest = take-past xs ys count (omega (arith, few)) in
    record { rest = rest.rest; is = ap (λ (l : List (List ℕ)). x ∷ l) rest.is }

-- so many requests have their replies where as many were answered before
pub replied-many : {F : Type 0} {acts : List Act} {old now : WorldValue F} (new : WorldValue F) → old.log ≡ no_log → IsLog new.log new.answered
    → Does (λ (world : WorldValue F). Some (world_talk world)) acts old now
    → answered (Some (world_talk now)) ≤ answered (Some (world_talk new)) → length (map text acts) ≤ length new.log.replies
unfolding answered
replied-many {acts = acts} {old} {now} new silent is does more =
    let told = told_all silent does in
    let count = acts-count acts old.server.device in
    let same = ap (λ (es : List Exchange). length es) told.exchanges_are in
    let few = exchanged-length (take new.answered new.log.issued) (take new.answered new.log.replies) in
    let part = length-take new.answered new.log.replies in
    omega (arith, count, same, few, part, more)
