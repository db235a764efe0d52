-- What the answer of a session that installs databases says of its requests, and of the handheld.
use Rattle.std.proofs.lemmas.Grind.{common_steps}
use Rattle.std.proofs.Common.{◌≡◌, ◌⊎◌, ◌∙◌, ap, arith, inl, inr, refl, subst, sym, ℕ, Bool, true, false, cond, List, [], ◌∷◌, ◌++◌}
use Rattle.std.specs.Prelude.{IfErr, IfOk, OnOk, Option, None, Some, Result, Ok, Err, map}
use Rattle.std.specs.Global.{Vec}
use Rattle.std.specs.List.{AllByRecursion}
use Rattle.pdb_values.specs.Databases.{DatabaseValue}
use Rattle.pdb_values.specs.NamedDatabases.{NamesRise}
use Rattle.palm_device.specs.Bounds.{IsBoundedDatabase}
use Rattle.palm_device.specs.Devices.{Device}
use Rattle.handheld_files.specs.Openings.{Stands}
use Rattle.dlp_commands.specs.declared.link.LinkFault.{LinkFault}
use Rattle.line_world.specs.Worlds.{WorldValue, world_talk}
use Rattle.line_world.specs.declared.down.Down.{Down}
use Rattle.desktop_session.specs.Acts.{Act, text}
use Rattle.desktop_session.specs.Says.{IsPrefix}
use Rattle.desktop_session.specs.Stops.{Does}
use Rattle.desktop_session.specs.declared.fault.SessionFault.TheVariants as session_fault
use Rattle.session_parts.specs.Rests.{IsAtRest}
use Rattle.session_parts.specs.declared.report.DbReport.{DbReport}
use Rattle.session_parts.specs.declared.report.Did.TheVariants.{Installed, Skipped}
use Rattle.session_parts.specs.declared.skip.Skip.TheVariants.{ReadOnly}
use Rattle.session_parts.specs.declared.stop.Stop.{Stop}
use Rattle.session_parts.specs.declared.stop.Stop.TheVariants as stop
use Rattle.install_backup.specs.declared.moved.Moved.{Moved}
use Rattle.install_backup.specs.declared.mark.Mark.{Mark}
use Rattle.install_backup.specs.InstallActs.{install_acts, is_installable, moved_of, written_count}
use Rattle.install_backup.specs.InstallEnds.{InstallEnds, IsFull, IsInstallStop, IsInstalled, StopsAtLimit, first_full}
use Rattle.call_parts.specs.Causes.{IsCutShort, down_status, stop_status}
use Rattle.call_parts.specs.Closings.{left_status}
use Rattle.call_parts.specs.LineRuns.{SaidAll}
use Rattle.cmd_files.specs.Moves.{TellsMoves, moved_did, moved_report}
use Rattle.cmd_files.specs.Loads.{LoadShows, ShowsLoad, acts_until_one, load_report}
use Rattle.cmd_files.specs.declared.moved.Way.TheVariants.{ToHandheld}
use Rattle.call_parts.specs.Told.{FolderTold}
use Rattle.call_parts.specs.Whole.{StopsAnswered}
use Rattle.call_parts.proofs.EndLaws.{logged_all}
use Rattle.call_parts.proofs.SaidLaws.{down_cut, never_down, Tells}
use Rattle.cmd_files.proofs.LoadActLaws.{some-acts, some-until, stands_first, stopped-after, until-shorter}
use Rattle.call_parts.proofs.WholeLaws.{SaidOf, SaidShort, SaidWhole}
use Rattle.call_parts.proofs.SpokeLaws.{IsUnrefusedEnd, IsUnrefusedStop}
use Rattle.call_parts.specs.declared.report.Report.{Report}
use Rattle.cmd_status.specs.declared.status.Status.{Status}
use Rattle.cmd_status.specs.declared.status.Status.TheVariants.{Limit, NoMemory}

-- ---- by what its calls answered

-- it stopped for want of room, unless its link, a reply or its memory stopped it before
abbrev pub StopsAtFull : List ℕ → Result (Vec DbReport) Stop → Type 0
StopsAtFull name (Ok reports) = ⊥
StopsAtFull name (Err (stop.Session cause)) = Unit {0}
StopsAtFull name (Err (stop.Limit other)) = other ≡ name
StopsAtFull name (Err other) = ⊥

-- all was said and answered, all had room, and this is told of each
pub record ToldLoaded {F : Type 0} (mark : Mark) (databases : List DatabaseValue) (device : Device) (old new : WorldValue F) (reports : List DbReport)
    : Type 0 where
  pub does : Does (λ (world : WorldValue F). Some (world_talk world)) (install_acts mark device.user databases) old new
  pub room : first_full databases device.databases ≡ None
  pub told : reports ≡ map load_report databases

-- the answer of a session over a world, with what is told of the databases
pub record ToldLoads {F : Type 0} (fault : WorldValue F → Option LinkFault) (mark : Mark) (databases : List DatabaseValue) (device : Device)
    (old new : WorldValue F) (answer : Result (Vec DbReport) Stop) : Type 0 where
  pub ended : IfOk answer (λ reports. ToldLoaded mark databases device old new reports.items)
  pub cause : IfErr answer (IsInstallStop (λ (world : WorldValue F). Some (world_talk world)) fault mark databases device old new)
  pub full : (name : List ℕ) → first_full databases device.databases ≡ Some name → StopsAtFull name answer

did-is : (count : ℕ) (b : Bool) → moved_did ToHandheld (cond b (Some count) None) ≡ cond b (Installed count) (Skipped ReadOnly)
did-is count true = refl
did-is count false = refl

reports-are : (databases : List DatabaseValue) → map (moved_report ToHandheld) (map moved_of databases) ≡ map load_report databases
reports-are [] = refl
reports-are (database ∷ databases) =
    (λ k. record { name = database.head.name; did = did-is (written_count database) (is_installable database) k } ∷ reports-are databases k)

module _ {F : Type 0} (since : WorldValue F → WorldValue F → Type 0) (fault : WorldValue F → Option LinkFault) (downs : WorldValue F → ℕ)
    (mark : Mark) (databases : List DatabaseValue) (device : Device) (old new : WorldValue F) where
  told_loaded : {moved : List Moved} {reports : List DbReport}
      → IsInstalled (λ (world : WorldValue F). Some (world_talk world)) mark databases device old new moved
      → reports ≡ map (moved_report ToHandheld) moved
      → ToldLoaded mark databases device old new reports
  told_loaded installed told = record {
    does = installed.does;
    room = installed.room;
    told = told ∙ ap (map (moved_report ToHandheld)) installed.told ∙ reports-are databases;
  }

  pub told_loads : (end : Result (Vec Moved) Stop) (answer : Result (Vec DbReport) Stop)
      → InstallEnds (λ (world : WorldValue F). Some (world_talk world)) since fault downs mark databases device old new end
      → TellsMoves ToHandheld end answer
      → ToldLoads fault mark databases device old new answer
  told_loads (Ok moved) (Ok reports) ends told = record {
    ended = told_loaded ends.ended told;
    cause = tt;
    full = λ name full. absurd (ends.limit name full);
  }
  told_loads (Ok moved) (Err why) ends told = record {
    ended = tt;
    cause = subst (IsInstallStop (λ (world : WorldValue F). Some (world_talk world)) fault mark databases device old new) (sym told)
        (tt, tt);
    full = λ name full. absurd (ends.limit name full);
  }
  told_loads (Err cause) (Ok reports) ends told = absurd told
  told_loads (Err cause) (Err why) ends told = record {
    ended = tt;
    cause = subst (IsInstallStop (λ (world : WorldValue F). Some (world_talk world)) fault mark databases device old new) (sym told)
        ends.cause;
    full = λ name full. subst (λ (w : Stop). StopsAtFull name (Err w)) (sym told) (at_full name cause (ends.limit name full));
  }
    where
      at_full : (name : List ℕ) (cause : Stop) → StopsAtLimit name (Err cause) → StopsAtFull name (Err cause)
      at_full name (stop.Session fault) at = tt
      at_full name (stop.Limit other) at = at
      at_full name (stop.NewHandheld other) at = absurd at
      at_full name stop.DeskFault at = absurd at

-- ---- what was said

module _ {F : Type 0} (fault : WorldValue F → Option LinkFault) (mark : Mark) (databases : List DatabaseValue) (device : Device)
    (old new : WorldValue F) (cause : Option Down) where
  -- the requests up to one without room begin all of them, and are not all
  full_said : {name : List ℕ} → IsFull (λ (world : WorldValue F). Some (world_talk world)) mark databases device old new name
      → ((acts : List Act) → Does (λ (world : WorldValue F). Some (world_talk world)) acts old new
      → IsPrefix (map text acts) (map text (install_acts mark device.user databases))) → SaidShort (map text (install_acts mark device.user databases)) old new
  full_said full begins = record {
    acts = acts_until_one mark device.user full.before full.one;
    does = full.does;
    some = some-until mark device.user full.before full.one;
    short = until-shorter mark device.user databases full.before full.one
        (begins (acts_until_one mark device.user full.before full.one) full.does);
  }

  stop_said : (why : Stop) → IsInstallStop (λ (world : WorldValue F). Some (world_talk world)) fault mark databases device old new why
      → ((acts : List Act) → Does (λ (world : WorldValue F). Some (world_talk world)) acts old new
      → IsPrefix (map text acts) (map text (install_acts mark device.user databases)))
      → StopsAnswered (stop_status cause why) → SaidShort (map text (install_acts mark device.user databases)) old new
  stop_said (stop.Session session_fault.Down) stops begins answered = absurd (never_down cause answered)
  stop_said (stop.Session (session_fault.OtherUser handheld desktop)) stops begins answered = absurd stops.0
  stop_said (stop.Session session_fault.TooManyUsers) stops begins answered = absurd stops.0
  stop_said (stop.Session (session_fault.Refused function code)) stops begins answered = absurd answered
  stop_said (stop.Session (session_fault.BadReply function broken)) stops begins answered = absurd answered
  stop_said (stop.Session session_fault.NoMemory) stops begins answered = absurd answered
  stop_said (stop.Limit name) stops begins answered = full_said stops begins
  stop_said (stop.NewHandheld name) stops begins answered = absurd stops
  stop_said stop.DeskFault stops begins answered = absurd stops

  said_short : (answer : Result (Vec DbReport) Stop) {status : Status}
      → IfErr answer (IsInstallStop (λ (world : WorldValue F). Some (world_talk world)) fault mark databases device old new)
      → (status ≡ left_status cause answer) ⊎ (status ≡ NoMemory)
      → ((acts : List Act) → Does (λ (world : WorldValue F). Some (world_talk world)) acts old new
      → IsPrefix (map text acts) (map text (install_acts mark device.user databases)))
      → StopsAnswered status → SaidShort (map text (install_acts mark device.user databases)) old new
  said_short answer stops (inr memory) begins answered = absurd (subst StopsAnswered memory answered)
  said_short (Ok made) stops (inl left) begins answered = absurd (subst StopsAnswered left answered)
  said_short (Err why) stops (inl left) begins answered = stop_said why stops begins (subst StopsAnswered left answered)

  ended_whole : (answer : Result (Vec DbReport) Stop) → IfOk answer (λ reports. ToldLoaded mark databases device old new reports.items)
      → OnOk answer (SaidWhole (map text (install_acts mark device.user databases)) old new)
  ended_whole (Ok made) over = record { acts = install_acts mark device.user databases; does = over.does; all = refl }
  ended_whole (Err why) over = tt

  -- what its call answered says so much of the session
  pub load_said : (answer : Result (Vec DbReport) Stop) {status : Status} → ToldLoads fault mark databases device old new answer
      → (status ≡ left_status cause answer) ⊎ (status ≡ NoMemory) → IsPrefix new.log.issued (map text (install_acts mark device.user databases))
      → ((acts : List Act) → Does (λ (world : WorldValue F). Some (world_talk world)) acts old new
      → IsPrefix (map text acts) (map text (install_acts mark device.user databases)))
      → SaidOf (map text (install_acts mark device.user databases)) old new answer status
  load_said answer ends left issued begins = record {
    some = some-acts mark device.user databases;
    begins = issued;
    whole = ended_whole answer ends.ended;
    short = said_short answer ends.cause left begins;
  }

-- ---- what its status shows

down_shows : (mark : Mark) (device : Device) (databases : List DatabaseValue) (palm_after : FolderTold) (report : Report) (cause : Option Down)
    → LoadShows mark device databases palm_after report (down_status cause)
down_shows mark device databases palm_after report cause = grind (arith, common_steps)

module _ {F : Type 0} (fault : WorldValue F → Option LinkFault) (mark : Mark) (databases : List DatabaseValue) {old new : WorldValue F}
    {palm_after : FolderTold} {report : Report} (rests : IsAtRest old.server.device) (rise : NamesRise databases)
    (bounded : AllByRecursion IsBoundedDatabase databases) (tells : Tells old new palm_after report) (cause : Option Down) where
  abbrev device : Device
  device = old.server.device

  said_all : {acts : List Act} → Does (λ (world : WorldValue F). Some (world_talk world)) acts old new → SaidAll (map text acts) report
  said_all does = grind (arith, logged_all tells.silent tells.is_log does)

  all_of : (before rest : List DatabaseValue) (one : DatabaseValue) → AllByRecursion IsBoundedDatabase (before ++ one ∷ rest)
      → AllByRecursion IsBoundedDatabase before × IsBoundedDatabase one
  all_of [] rest one all = (tt, all.0)
  all_of (database ∷ before) rest one all = let more = all_of before rest one all.1 in ((all.0, more.0), more.1)

  full_shows : {name : List ℕ} → IsFull (λ (world : WorldValue F). Some (world_talk world)) mark databases device old new name
      → LoadShows mark device databases palm_after report (Limit name)
  full_shows {name} full =
      let first = stands_first full.before full.rest full.one device.databases (subst NamesRise (sym full.parts) rise)
      (ap (λ (ds : List DatabaseValue). first_full ds device.databases) full.parts ∙ full.first ∙ ap (λ (n : List ℕ). Some n) full.named) in
      let both = all_of full.before full.rest full.one (subst (AllByRecursion IsBoundedDatabase) (sym full.parts) bounded) in
      let logged = logged_all tells.silent tells.is_log full.does in
      let there = logged.device ∙ stopped-after mark device full.before full.one rests both.0 both.1 first in
      record {
        first = full.first;
        before = full.before;
        one = full.one;
        rest = full.rest;
        parts = full.parts;
        named = full.named;
        said = said_all full.does;
        handheld = subst (λ (d : Device). Stands palm_after.contents d.databases d.user) there tells.stands;
      }

  stop_shows : (why : Stop) → IsInstallStop (λ (world : WorldValue F). Some (world_talk world)) fault mark databases device old new why
      → LoadShows mark device databases palm_after report (stop_status cause why)
  stop_shows (stop.Session session_fault.Down) stops = down_shows mark device databases palm_after report cause
  stop_shows (stop.Session (session_fault.OtherUser handheld desktop)) stops = absurd stops.0
  stop_shows (stop.Session session_fault.TooManyUsers) stops = absurd stops.0
  stop_shows (stop.Session (session_fault.Refused function code)) stops = tt
  stop_shows (stop.Session (session_fault.BadReply function broken)) stops = tt
  stop_shows (stop.Session session_fault.NoMemory) stops = tt
  stop_shows (stop.Limit name) stops = full_shows stops
  stop_shows (stop.NewHandheld name) stops = absurd stops
  stop_shows stop.DeskFault stops = absurd stops

  shows : (answer : Result (Vec DbReport) Stop) {status : Status} → ToldLoads fault mark databases device old new answer
      → (status ≡ left_status cause answer) ⊎ (status ≡ NoMemory) → LoadShows mark device databases palm_after report status
  shows answer ends (inr memory) = subst (LoadShows mark device databases palm_after report) (sym memory) tt
  shows (Ok made) ends (inl left) = subst (LoadShows mark device databases palm_after report) (sym left) tt
  shows (Err why) ends (inl left) = subst (LoadShows mark device databases palm_after report) (sym left) (stop_shows why ends.cause)

  cut : (name : List ℕ) (why : Stop) → IsUnrefusedStop why
      → IsInstallStop (λ (world : WorldValue F). Some (world_talk world)) fault mark databases device old new why
      → StopsAtFull name (Err why) → (stop_status cause why ≡ Limit name) ⊎ IsCutShort (stop_status cause why)
  cut name (stop.Session session_fault.Down) never stops at = inr (down_cut cause)
  cut name (stop.Session (session_fault.OtherUser handheld desktop)) never stops at = absurd stops.0
  cut name (stop.Session session_fault.TooManyUsers) never stops at = absurd stops.0
  cut name (stop.Session (session_fault.Refused function code)) never stops at = absurd never
  cut name (stop.Session (session_fault.BadReply function broken)) never stops at = absurd never
  cut name (stop.Session session_fault.NoMemory) never stops at = inr tt
  cut name (stop.Limit other) never stops at = inl (ap Limit at)
  cut name (stop.NewHandheld other) never stops at = absurd at
  cut name stop.DeskFault never stops at = absurd at

  full_told : (answer : Result (Vec DbReport) Stop) {status : Status} (name : List ℕ) → IsUnrefusedEnd answer
      → ToldLoads fault mark databases device old new answer → (status ≡ left_status cause answer) ⊎ (status ≡ NoMemory)
      → first_full databases device.databases ≡ Some name
      → (status ≡ Limit name) ⊎ IsCutShort status
  full_told answer name never ends (inr memory) full = inr (subst IsCutShort (sym memory) tt)
  full_told (Ok made) name never ends (inl left) full = absurd (ends.full name full)
  full_told (Err why) name never ends (inl left) full =
      subst (λ (s : Status). (s ≡ Limit name) ⊎ IsCutShort s) (sym left) (cut name why never ends.cause (ends.full name full))

  pub load_shows : (answer : Result (Vec DbReport) Stop) {status : Status} → IsUnrefusedEnd answer
      → ToldLoads fault mark databases device old new answer → (status ≡ left_status cause answer) ⊎ (status ≡ NoMemory)
      → ShowsLoad mark device databases palm_after status report
  load_shows answer never ends left = record { status_is = shows answer ends left; full = λ name full. full_told answer name never ends left full }
