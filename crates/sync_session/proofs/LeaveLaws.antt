-- What a session leaves of its link and of the desktop's folder, by how it went.
use Rattle.std.proofs.Common.{◌≡◌, ap, refl, inl, inr, ℕ, List, [], ◌∷◌, ◌++◌, length, map, arith, Option, None, Some, IsErrOf, Ok, Err, Result}
use Rattle.std.specs.Global.{Vec}
use Rattle.std.specs.List.{AllByRecursion, flat_map}
use Rattle.std.specs.Option.{option_map}
use Rattle.hs_folders.specs.FileMaps.{FileMap}
use Rattle.hs_folders.specs.Moments.{Moments}
use Rattle.hs_folders.proofs.MomentLaws.{no_moment}
use Rattle.pdb_values.specs.declared.user.Marks.{Marks}
use Rattle.session_parts.proofs.LinkWords.{LinkFault, Talk, SessionValue, Act, text, link_ended, marking, Does, Stops, Ended, Halted, SessionFault}
use Rattle.desk_journal.specs.Entries.{EntryValue}
use Rattle.desk_journal.specs.Overlays.{FinishesAs, finished, put_all}
use Rattle.desk_journal.proofs.StepLaws.{all-append}
use Rattle.folder_files.specs.Slots.{SlotInfoValue}
use Rattle.sync_session.proofs.MeetingWords.{DbHead, DatabaseValue, SlotValue, marks_of, slot_at, DeskValue, marks_in, shelves_in, gained, news_under}
use Rattle.sync_session.proofs.MeetingWords.{SpansBehind, each_acts, Planned}
use Rattle.desk_store.specs.Changes.{archive_entries, db_entries, slots_entry}
use Rattle.desk_store.specs.Desks.{all_rows}
use Rattle.desk_store.specs.declared.change.DbChange.{DbChange}
use Rattle.desk_store.specs.declared.role.Role.TheVariants.{Archive, Base, Rows}
use Rattle.pdb_values.specs.declared.user.UserInfo.{UserInfo}
use Rattle.desk_store.specs.declared.fault.CommitFault.{CommitFault}
use Rattle.desk_store.specs.declared.fault.CommitFault.TheVariants as commit
use Rattle.desktop_session.proofs.StopLaws.{fell_none, stops_none, stops_then}
use Rattle.session_plan.specs.Commits.{Commits}
use Rattle.sync_session.specs.Courses.{AfterCommit, AfterMeeting, AfterNews, AfterPreparing, AfterReading, Prepares}
use Rattle.session_parts.specs.Meets.{MeetsOrNot}
use Rattle.sync_session.specs.Courses.{ReadsAll, Runs, closed, done_for, jobs_met, picked_for, stopped}
use Rattle.sync_session.specs.Leaving.{IsSlotsFile, LeavesFolder}
use Rattle.session_parts.specs.Leaving.{Leaves}
use Rattle.session_plan.specs.PlannedLimits.{limit_planned}
use Rattle.session_plan.specs.PlannedLosses.{loss_planned}
use Rattle.session_plan.specs.PlannedReports.{reports_planned}
use Rattle.sync_session.specs.Readings.{reads_under}
use Rattle.session_plan.specs.Takes.{changes_of, each_of, taken_entries, taken_slots}
use Rattle.session_plan.specs.Users.{begun_user}
use Rattle.sync_session.specs.Stopping.{Judges}
use Rattle.session_parts.specs.Stopping.{stop_of}
use Rattle.session_parts.specs.declared.meeting.Met.{Met}
use Rattle.session_parts.specs.declared.outcome.Outcome.{Outcome}
use Rattle.sync_session.specs.declared.preparing.Prepared.{Prepared}
use Rattle.session_parts.specs.declared.report.DbReport.{DbReport}
use Rattle.session_parts.specs.declared.stop.Stop.{Stop}
use Rattle.session_parts.specs.declared.stop.Stop.TheVariants as stop
use Rattle.session_plan.specs.declared.wishes.Wishes.{Wishes}
use Rattle.session_parts.proofs.RestLaws.{all-flat_map}
use Rattle.session_parts.proofs.SpanLaws.{on_ok}
use Rattle.desk_store.specs.Shelves.{infos_of}
use Rattle.desk_store.specs.Views.{parted_in}

-- ---- causes

-- a refused commit, and nothing else, is told as a fault of the folder
refused_cause : (fault : CommitFault) → IsErrOf {T = Vec DbReport} (Err (stop_of fault)) stop.DeskFault → fault ≡ commit.DeskFault
refused_cause commit.DeskFault is = refl
refused_cause commit.NoMemory is = absurd cc

cause_refused : (fault : CommitFault) → fault ≡ commit.DeskFault → IsErrOf {T = Vec DbReport} (Err (stop_of fault)) stop.DeskFault
cause_refused commit.DeskFault is = refl
cause_refused commit.NoMemory is = absurd cc

-- the limits don't blame the folder
not_desk : (over loss : Option (List ℕ)) (reports : List DbReport) (cause : Stop) → Judges over loss reports (Err cause) → cause ≡ stop.DeskFault → ⊥
not_desk over loss reports (stop.Session fault) judged is = cc
not_desk over loss reports (stop.Limit name) judged is = cc
not_desk over loss reports (stop.NewHandheld name) judged is = cc
not_desk over loss reports stop.DeskFault judged is = judged

nor_reading : {F : Type 0} (heads : List DbHead) (desk : DeskValue F) (user : UserInfo) (reading : Result (Vec Planned) SessionFault) (cause : Stop)
    → AfterReading heads desk user reading (Err cause) → cause ≡ stop.DeskFault → ⊥
nor_reading heads desk user (Ok planned) cause goes is =
    not_desk (limit_planned (shelves_in desk) (length heads) (all_rows desk.slots) planned.items)
    (loss_planned user (marks_in desk) (parted_in desk) (shelves_in desk) planned.items) (reports_planned (shelves_in desk) planned.items) cause goes.0 is
nor_reading heads desk user (Err fault) cause goes is = cc

-- ---- the files of a commit

-- each is one of the slot at this place
abbrev AreSlotsFiles : ℕ → List EntryValue → Type 0
AreSlotsFiles place entries = AllByRecursion (λ (entry : EntryValue). IsSlotsFile place entry.name) entries

archive_files : (place : ℕ) (archive : Option DatabaseValue) → AreSlotsFiles place (archive_entries place archive)
archive_files place None = tt
archive_files place (Some archive) = (inr (record { role = Archive; name = archive.head.name; is = refl }), tt)

change_files : (place : ℕ) (change : DbChange) → AreSlotsFiles place (db_entries place change)
change_files place change = (
  inr (record { role = Rows; name = change.rows.head.name; is = refl }),
  (inr (record { role = Base; name = change.base.head.name; is = refl }), archive_files place change.archive),
)

taken_files : (done : Marks) (user : UserInfo) (planned : List Planned) (ids : List (List ℕ)) (place : ℕ) (slots : List SlotValue)
    → AreSlotsFiles place (taken_entries done user planned ids place slots)
unfolding taken_entries
taken_files done user planned ids place slots =
    let changes : List DbChange = changes_of done.last (slot_at slots place).shelves planned ids in
    let infos : List SlotInfoValue = infos_of (taken_slots done user planned ids place slots) in
    all-append (λ (entry : EntryValue). IsSlotsFile place entry.name) (flat_map (db_entries place) changes) (slots_entry infos ∷ [])
    (all-flat_map (λ (entry : EntryValue). IsSlotsFile place entry.name) (db_entries place) changes (change_files place)) (inl refl, tt)

-- ---- call by call

-- the link and the folder of a session
module _ {L F : Type 0} (talk : L → Option Talk) (since : L → L → Type 0) (fault : L → Option LinkFault) (downs : L → ℕ)
    (contents : F → Option FileMap) (moments : F → Moments) (paths : F → Option (List (List ℕ))) (faults : F → ℕ) where
  -- what went out begins some requests, and this is left of the folder
  record LeavesBoth (old : L) (folder : F) (left : Outcome L F) : Type 0 where
    requests : List (List ℕ)
    stops : Stops talk since fault downs requests old left.link
    desk : LeavesFolder contents moments paths faults folder left

  -- a stop by which the folder was not touched
  both_stopped : {requests : List (List ℕ)} {old new : L} {folder : F} {cause : Stop} {left : Outcome L F} → Stops talk since fault downs requests old new
      → left ≡ stopped new folder cause → (cause ≡ stop.DeskFault → ⊥) → LeavesBoth old folder left
  both_stopped {requests} {folder} {cause} stops is other = rw is (record {
    requests = requests;
    stops = stops;
    desk = record {
      entries = [];
      place = 0;
      files = tt;
      written = tt;
      stands = inl refl;
      each_moment = no_moment (FinishesAs (option_map (put_all []) (contents folder))) (moments folder) (moments folder) refl;
      cause = record { later = omega arith; rose = λ is. absurd (let same : cause ≡ stop.DeskFault = cc in other same); still = λ none. refl };
      same_paths = refl;
    };
  })

  -- the commit was done, and then the session was ended, or it stopped
  leaves_committed : (place : ℕ) {taken : List SlotValue} {entries : List EntryValue} {desk after : DeskValue F} {link : L} (end : Result (Vec DbReport) Stop)
      → Commits contents moments paths faults taken entries desk (Ok after)
      → AreSlotsFiles place entries → (IsErrOf end stop.DeskFault → ⊥)
      → LeavesFolder contents moments paths faults desk.folder (record { link = link; folder = after.folder; end = end })
  leaves_committed place {entries} {desk} {after} end commits files other = record {
    entries = entries;
    place = place;
    files = files;
    written = on_ok (contents after.folder ≡ option_map (put_all entries) (contents desk.folder)) end commits.written;
    stands = inr (ap (option_map finished) commits.written);
    each_moment = commits.each_moment;
    cause = record { later = commits.cause.later; rose = λ is. absurd (other is); still = λ none. commits.cause.still (λ is. is) };
    same_paths = commits.same_paths;
  }

  both_closed : {requests : List (List ℕ)} (place : ℕ) {taken : List SlotValue} {entries : List EntryValue} {old : L} {desk after : DeskValue F}
      (reports : Vec DbReport) (answer : Result (Ended L) (Halted L)) → Stops talk since fault downs requests old (link_ended answer)
      → Commits contents moments paths faults taken entries desk (Ok after)
      → AreSlotsFiles place entries → LeavesBoth old desk.folder (closed after.folder reports answer)
  both_closed {requests} place reports (Ok ended) stops commits files =
      record { requests = requests; stops = stops; desk = leaves_committed place (Ok reports) commits files (λ is. cc) }
  both_closed {requests} place reports (Err halted) stops commits files =
      record { requests = requests; stops = stops; desk = leaves_committed place (Err (stop.Session halted.cause)) commits files (λ is. cc) }

  module _ (itself : (a : L) → since a a) where
    -- nothing was said
    nothing_said : {old new : L} → new ≡ old → Stops talk since fault downs [] old new
    nothing_said {old} same = rw same (stops_none talk since fault downs [] old old refl (itself old) (fell_none fault downs old))

    after_commit : (done : Marks) (prepared : Prepared) {taken : List SlotValue} {entries : List EntryValue} (place : ℕ) (old : SessionValue L)
        {desk : DeskValue F} (answer : Result (DeskValue F) (CommitFault × F)) {left : Outcome L F}
        → Commits contents moments paths faults taken entries desk answer
        → AreSlotsFiles place entries
        → AfterCommit talk since fault downs done prepared old answer left → LeavesBoth old.link desk.folder left
    after_commit done prepared place old (Ok after) commits files goes =
        rw goes.is (both_closed place prepared.reports goes.answer goes.ends.stops commits files)
    after_commit done prepared {entries} place old (Err refusal) commits files goes = rw goes (record {
      requests = [];
      stops = nothing_said refl;
      desk = record {
        entries = entries;
        place = place;
        files = files;
        written = tt;
        stands = commits.left;
        each_moment = commits.each_moment;
        cause = record {
          later = commits.cause.later;
          rose = λ is. commits.cause.rose (refused_cause refusal.0 is);
          still = λ none. commits.cause.still (λ is. none (cause_refused refusal.0 is));
        };
        same_paths = commits.same_paths;
      };
    })

    module _ (since_more : (a b c : L) → since a b → since b c → since a c) where
      -- behind acts that were said
      both_behind : {acts : List Act} {old mid : L} {folder : F} {left : Outcome L F} → Stops talk since fault downs (map text acts) old mid
          → Does talk acts old mid → LeavesBoth mid folder left → LeavesBoth old folder left
      both_behind {acts} {old} {mid} {left} stops does both = record {
        requests = map text acts ++ both.requests;
        stops = stops_then talk since fault downs since_more acts both.requests old mid left.link does stops both.stops;
        desk = both.desk;
      }

      after_news : (done : Marks) (prepared : Prepared) {old now : SessionValue L} (desk : DeskValue F) (answer : Result (Vec (Vec ℕ)) SessionFault)
          {left : Outcome L F} → SpansBehind talk since fault downs (marking (begun_user old.user) 0x40)
          (news_under (shelves_in desk)) (λ told one handle given (ids : Vec ℕ). gained (shelves_in desk) told one handle given ids.items) prepared.planned.items (λ (made : Vec (Vec ℕ)). made.items)
          old now answer
          → AfterNews talk since fault downs contents moments paths faults done prepared now desk answer left → LeavesBoth old.link desk.folder left
      after_news done prepared {now} desk (Ok ids) sends goes =
          both_behind sends.stops sends.does (after_commit done prepared desk.picked now goes.answer goes.commits
          (taken_files done now.user prepared.planned.items (each_of ids.items) desk.picked desk.slots) goes.goes)
      after_news done prepared desk (Err cause) sends goes = both_stopped sends.stops goes (λ is. cc)

      after_preparing : (done : Marks) (wishes : Wishes) {heads : List DbHead} (desk : DeskValue F) {old now : SessionValue L} (answer : Result Prepared Stop)
          {left : Outcome L F} → Prepares talk since fault downs heads wishes desk old now answer
          → AfterPreparing talk since fault downs contents moments paths faults done now desk answer left → LeavesBoth old.link desk.folder left
      after_preparing done wishes {heads} desk {old} {now} (Ok prepared) prepares goes =
          both_behind prepares.reads.reads.stops (read_whole prepares.reading prepares.reads prepares.goes)
          (after_news done prepared desk goes.answer goes.sends goes.goes)
        where
          -- what was prepared was all read
          read_whole : (reading : Result (Vec Planned) SessionFault) (reads : ReadsAll talk since fault downs heads wishes desk old now reading)
              → AfterReading heads desk now.user reading (Ok prepared)
              → Does talk (each_acts (reads_under (shelves_in desk)) (talk old.link) (jobs_met heads wishes desk old.user) reads.reads.stretches)
              old.link now.link
          read_whole (Ok planned) reads goes = reads.reads.does
          read_whole (Err cause) reads goes = absurd cc
      after_preparing done wishes {heads} desk {now} (Err cause) prepares goes =
          both_stopped prepares.reads.reads.stops goes (nor_reading heads desk now.user prepares.reading cause prepares.goes)

      after_meeting : (marks : List Marks) (wishes : Wishes) {old : L} (desk : DeskValue F) (answer : Result (Met L) (Halted L)) {left : Outcome L F}
          → MeetsOrNot talk since fault downs marks wishes.user old answer
          → AfterMeeting talk since fault downs contents moments paths faults marks wishes desk answer left → LeavesBoth old desk.folder left
      after_meeting marks wishes desk (Ok met) (inl meets) goes =
          both_behind meets.stops meets.does
          (after_preparing (done_for wishes met.linked.user (picked_for marks wishes.user met.linked.user desk)) wishes
          (picked_for marks wishes.user met.linked.user desk) goes.answer goes.prepares goes.goes)
      after_meeting marks wishes desk (Ok met) (inr none) goes = absurd none
      after_meeting marks wishes desk (Err halted) (inl meets) goes = both_stopped meets.stops goes (λ is. cc)
      after_meeting marks wishes desk (Err halted) (inr none) goes = both_stopped (nothing_said none.0) goes (λ is. cc)

-- ---- the whole

module _ {L F : Type 0} {talk : L → Option Talk} {since : L → L → Type 0} {fault : L → Option LinkFault} {downs : L → ℕ}
    {contents : F → Option FileMap} {moments : F → Moments} {paths : F → Option (List (List ℕ))} {faults : F → ℕ} (itself : (a : L) → since a a)
    (since_more : (a b c : L) → since a b → since b c → since a c) {wishes : Wishes} {old : L} {desk : DeskValue F} {left : Outcome L F}
    (runs : Runs talk since fault downs contents moments paths faults wishes old desk left) where
  runs_both : LeavesBoth talk since fault downs contents moments paths faults old desk.folder left
  runs_both =
      after_meeting talk since fault downs contents moments paths faults itself since_more (marks_of desk.slots) wishes desk runs.answer
      runs.meets runs.goes

  pub runs_link : Leaves since fault downs old left.link
  runs_link = record { later = runs_both.stops.later; fell = runs_both.stops.fell }

  pub runs_folder : LeavesFolder contents moments paths faults desk.folder left
  runs_folder = runs_both.desk
