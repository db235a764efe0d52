-- What a session leaves of its link and of the desktop's folder, by how it went.
use Rattle.std.proofs.Common.{◌≡◌, ap, refl, sym, inl, inr, ℕ, List, [], ◌∷◌, ◌++◌, map, arith, Option, None, Some, IsErrOf, Ok, Err, Result, false}
use Rattle.std.specs.Global.{Vec}
use Rattle.std.specs.Option.{option_map}
use Rattle.hs_folders.specs.FileMaps.{FileMap}
use Rattle.hs_folders.specs.Moments.{Moments}
use Rattle.hs_folders.proofs.MomentLaws.{no_moment}
use Rattle.session_parts.proofs.LinkWords.{LinkFault, Talk, SessionValue, Act, text, link_ended, Does, Stops, Ended, Halted, SessionFault}
use Rattle.desk_journal.specs.Entries.{EntryValue}
use Rattle.desk_journal.specs.Overlays.{FinishesAs, finished, put_all}
use Rattle.desktop_session.specs.Seats.{no_wish}
use Rattle.pdb_values.specs.declared.user.Marks.{Marks as SlotMarks}
use Rattle.desk_store.specs.Shelves.{SlotValue, marks_of}
use Rattle.desk_store.specs.Views.{DeskValue, shelves_in}
use Rattle.desk_store.specs.declared.change.DbChange.{DbChange}
use Rattle.desk_store.specs.declared.fault.CommitFault.{CommitFault}
use Rattle.desk_store.specs.declared.fault.CommitFault.TheVariants as commit
use Rattle.desktop_session.proofs.StopLaws.{fell_none, stops_none, stops_then}
use Rattle.mirrors.specs.Asks.{Asks}
use Rattle.session_plan.specs.Commits.{Commits}
use Rattle.session_parts.specs.Leaving.{Leaves}
use Rattle.session_parts.specs.Meets.{MeetsOrNot}
use Rattle.session_parts.specs.Stopping.{stop_of}
use Rattle.session_parts.specs.Stretches.{SpansEach}
use Rattle.session_parts.specs.declared.meeting.Met.{Met}
use Rattle.session_parts.specs.declared.stop.Stop.{Stop}
use Rattle.session_parts.specs.declared.stop.Stop.TheVariants as stop
use Rattle.session_parts.proofs.SpanLaws.{on_ok}
use Rattle.category_mirror.specs.declared.job.FilingJob.{FilingJob}
use Rattle.session_parts.specs.declared.report.DbReport.{DbReport}
use Rattle.session_parts.specs.declared.outcome.Outcome.{Outcome}
use Rattle.category_mirror.specs.Blocks.{MergeValue}
use Rattle.category_mirror.specs.Changes.{CommitsFiled, changes_filed, entries_filed}
use Rattle.category_mirror.specs.Courses.{AfterCommit, AfterFiling, AfterMark, AfterMeeting, FilingRan, Marks, closed, picked_for, stopped}
use Rattle.category_mirror.specs.FilingActs.{SaysFiled, files_under, marks_for}
use Rattle.category_mirror.specs.Leaving.{LeavesFolder}

-- ---- causes

refused_cause : (fault : CommitFault) → IsErrOf {T = Vec DbReport} (Err (stop_of fault)) stop.DeskFault → fault ≡ commit.DeskFault
refused_cause commit.DeskFault is = refl
refused_cause commit.NoMemory is = absurd cc

cause_refused : (fault : CommitFault) → fault ≡ commit.DeskFault → IsErrOf {T = Vec DbReport} (Err (stop_of fault)) stop.DeskFault
cause_refused commit.DeskFault is = refl
cause_refused commit.NoMemory is = absurd cc

module _ {L F : Type 0} (talk : L → Option Talk) (since : L → L → Type 0) (fault : L → Option LinkFault) (downs : L → ℕ)
    (contents : F → Option FileMap) (moments : F → Moments) (paths : F → Option (List (List ℕ))) (faults : F → ℕ) where
  -- what went out begins some requests, and this is left of the folder
  record LeavesBoth (old : L) (folder : F) (left : Outcome L F) : Type 0 where
    requests : List (List ℕ)
    stops : Stops talk since fault downs requests old left.link
    desk : LeavesFolder contents moments paths faults folder left

  none_put : (o : Option FileMap) → option_map (put_all []) o ≡ o
  none_put None = refl
  none_put (Some held) = refl

  -- the folder was not touched
  untouched : {link : L} (folder : F) (end : Result (Vec DbReport) Stop) → (IsErrOf end stop.DeskFault → ⊥)
      → LeavesFolder contents moments paths faults folder (record { link = link; folder = folder; end = end })
  untouched folder end other = record {
    entries = [];
    written = on_ok (contents folder ≡ option_map (put_all []) (contents folder)) end (sym (none_put (contents folder)));
    stands = inl refl;
    each_moment = no_moment (FinishesAs (option_map (put_all []) (contents folder))) (moments folder) (moments folder) refl;
    cause = record { later = omega arith; rose = λ is. absurd (other is); still = λ none. refl };
    same_paths = refl;
  }

  both_stopped : {requests : List (List ℕ)} {old new : L} {folder : F} {cause : Stop} {left : Outcome L F} → Stops talk since fault downs requests old new
      → left ≡ stopped new folder cause → (cause ≡ stop.DeskFault → ⊥) → LeavesBoth old folder left
  both_stopped {requests} {folder = folder} {cause = cause} stops is other = rw is (record {
    requests = requests;
    stops = stops;
    desk = untouched folder (Err cause) (λ is. let same : cause ≡ stop.DeskFault = cc in other same);
  })

  committed : {taken : List SlotValue} {entries : List EntryValue} {desk after : DeskValue F} {link : L} (end : Result (Vec DbReport) Stop)
      → Commits contents moments paths faults taken entries desk (Ok after) → (IsErrOf end stop.DeskFault → ⊥)
      → LeavesFolder contents moments paths faults desk.folder (record { link = link; folder = after.folder; end = end })
  committed {entries = entries} {desk = desk} {after = after} end commits other = record {
    entries = entries;
    written = on_ok (contents after.folder ≡ option_map (put_all entries) (contents desk.folder)) end commits.written;
    stands = inr (ap (option_map finished) commits.written);
    each_moment = commits.each_moment;
    cause = record { later = commits.cause.later; rose = λ is. absurd (other is); still = λ none. commits.cause.still (λ is. is) };
    same_paths = commits.same_paths;
  }

  -- it was ended, or it stopped at its end
  finished_link : {folder : F} (after : F) (reports : Vec DbReport) (answer : Result (Ended L) (Halted L))
      → ((link : L) (end : Result (Vec DbReport) Stop) → (IsErrOf end stop.DeskFault → ⊥)
      → LeavesFolder contents moments paths faults folder (record { link = link; folder = after; end = end }))
      → {requests : List (List ℕ)} {old : L} → Stops talk since fault downs requests old (link_ended answer) → LeavesBoth old folder (closed after reports answer)
  finished_link after reports (Ok ended) leaves {requests} stops = record { requests = requests; stops = stops; desk = leaves ended.link (Ok reports) (λ is. cc) }
  finished_link after reports (Err halted) leaves {requests} stops =
      record { requests = requests; stops = stops; desk = leaves halted.link (Err (stop.Session halted.cause)) (λ is. cc) }

  module _ (itself : (a : L) → since a a) where
    nothing_said : {old new : L} → new ≡ old → Stops talk since fault downs [] old new
    nothing_said {old} same = rw same (stops_none talk since fault downs [] old old refl (itself old) (fell_none fault downs old))

    after_commit : (changes : List DbChange) (reports : Vec DbReport) (old : SessionValue L) (desk : DeskValue F) (answer : Result (DeskValue F) (CommitFault × F))
        {left : Outcome L F} → CommitsFiled contents moments paths faults changes desk answer
        → AfterCommit talk since fault downs reports old answer left → LeavesBoth old.link desk.folder left
    after_commit [] reports old desk (Ok after) commits goes =
        let same : after ≡ desk = cc in
        rw (goes.is, same) (finished_link desk.folder reports goes.answer (λ link end other. untouched desk.folder end other) goes.stops)
    after_commit [] reports old desk (Err refusal) commits goes = absurd cc
    after_commit (change ∷ changes) reports old desk (Ok after) commits goes =
        rw goes.is (finished_link after.folder reports goes.answer (λ link end other. committed end commits other) goes.stops)
    after_commit (change ∷ changes) reports old desk (Err refusal) commits goes = rw goes (record {
      requests = [];
      stops = nothing_said refl;
      desk = record {
        entries = entries_filed (change ∷ changes) desk;
        written = tt;
        stands = commits.left;
        each_moment = commits.each_moment;
        cause = record {
          later = commits.cause.later;
          rose = λ is. commits.cause.rose (refused_cause refusal.0 is);
          still = λ none. commits.cause.still (λ is. none (cause_refused refusal.0 is));
        };
        same_paths = commits.same_paths;
      };
    })

    module _ (since_more : (a b c : L) → since a b → since b c → since a c) where
      both_behind : {acts : List Act} {old mid : L} {folder : F} {left : Outcome L F} → Stops talk since fault downs (map text acts) old mid
          → Does talk acts old mid → LeavesBoth mid folder left → LeavesBoth old folder left
      both_behind {acts} {old} {mid} {left = left} stops does both = record {
        requests = map text acts ++ both.requests;
        stops = stops_then talk since fault downs since_more acts both.requests old mid left.link does stops both.stops;
        desk = both.desk;
      }

      after_mark : (changes : List DbChange) (reports : Vec DbReport) {old : SessionValue L} (desk : DeskValue F) {left : Outcome L F}
          → Marks talk since fault downs contents moments paths faults changes reports old desk left → LeavesBoth old.link desk.folder left
      after_mark changes reports {old} desk {left} marks = by marks.answer marks.asks marks.goes
        where
          by : (answer : Result (Unit {0}) SessionFault) → Asks talk since fault downs (marks_for changes old.user) old marks.now answer
              → AfterMark talk since fault downs contents moments paths faults changes reports marks.now desk answer left → LeavesBoth old.link desk.folder left
          by (Ok done) asks carries = both_behind asks.stops asks.does (after_commit changes reports marks.now desk carries.answer carries.commits carries.goes)
          by (Err cause) asks goes = both_stopped asks.stops goes (λ other. cc)

      after_filing : (jobs : List FilingJob) {old now : SessionValue L} (desk : DeskValue F) (answer : Result (Vec (Option MergeValue)) SessionFault)
          {left : Outcome L F}
          → SpansEach talk since fault downs (files_under (shelves_in desk)) (SaysFiled (shelves_in desk)) jobs (λ (made : Vec (Option MergeValue)). made.items) old now answer
          → AfterFiling talk since fault downs contents moments paths faults jobs now desk answer left → LeavesBoth old.link desk.folder left
      after_filing jobs desk (Ok merges) files (inl turns) =
          both_behind files.stops files.does (after_mark (changes_filed (shelves_in desk) jobs merges.items) turns.reports desk turns.marks)
      after_filing jobs desk (Ok merges) files (inr is) = both_stopped files.stops is (λ other. cc)
      after_filing jobs desk (Err cause) files is = both_stopped files.stops is (λ other. cc)

      after_meeting : (marks : List SlotMarks) {old : L} (desk : DeskValue F) (answer : Result (Met L) (Halted L)) {left : Outcome L F}
          → MeetsOrNot talk since fault downs marks no_wish old answer
          → AfterMeeting talk since fault downs contents moments paths faults marks desk answer left → LeavesBoth old desk.folder left
      after_meeting marks desk (Ok met) (inl meets) goes =
          both_behind meets.stops meets.does (after_filing _ (picked_for marks met.linked.user desk) goes.answer goes.files goes.goes)
      after_meeting marks desk (Ok met) (inr none) goes = absurd none
      after_meeting marks desk (Err halted) (inl meets) goes = both_stopped meets.stops goes (λ is. cc)
      after_meeting marks desk (Err halted) (inr none) goes = both_stopped (nothing_said none.0) goes (λ is. cc)

-- ---- the whole

module _ {L F : Type 0} {talk : L → Option Talk} {since : L → L → Type 0} {fault : L → Option LinkFault} {downs : L → ℕ}
    {contents : F → Option FileMap} {moments : F → Moments} {paths : F → Option (List (List ℕ))} {faults : F → ℕ} (itself : (a : L) → since a a)
    (since_more : (a b c : L) → since a b → since b c → since a c) {old : L} {desk : DeskValue F} {left : Outcome L F}
    (ran : FilingRan talk since fault downs contents moments paths faults old desk left) where
  ran_both : LeavesBoth talk since fault downs contents moments paths faults old desk.folder left
  ran_both =
      after_meeting talk since fault downs contents moments paths faults itself since_more (marks_of desk.slots) desk ran.answer ran.meets ran.goes

  pub ran_link : Leaves since fault downs old left.link
  ran_link = record { later = ran_both.stops.later; fell = ran_both.stops.fell }

  pub ran_folder : LeavesFolder contents moments paths faults desk.folder left
  ran_folder = ran_both.desk
