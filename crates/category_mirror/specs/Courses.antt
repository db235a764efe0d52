-- How a session that brings categories together went over any link, call by call: each record tells
-- what one call answered, and how it went on then.
use Rattle.std.specs.Prelude.{◌≡◌, ◌⊎◌, ℕ, List, [], ◌∷◌, length, Option, None, Some, IfErr, IfOk, Result, Ok, Err}
use Rattle.std.specs.Global.{Vec}
use Rattle.hs_folders.specs.FileMaps.{FileMap}
use Rattle.hs_folders.specs.Moments.{Moments}
use Rattle.pdb_values.specs.Databases.{DatabaseValue}
use Rattle.pdb_values.specs.NamedDatabases.{database_of}
use Rattle.pdb_values.specs.declared.user.Marks.{Marks as SlotMarks}
use Rattle.pdb_values.specs.declared.user.UserInfo.{UserInfo}
use Rattle.desktop_session.specs.Seats.{no_wish, seat_for}
use Rattle.dlp_commands.specs.declared.link.LinkFault.{LinkFault}
use Rattle.dlp_commands.specs.Talks.{Talk}
use Rattle.desk_store.specs.declared.change.DbChange.{DbChange}
use Rattle.desk_store.specs.declared.fault.CommitFault.{CommitFault}
use Rattle.desk_store.specs.Desks.{place_of}
use Rattle.desk_store.specs.Shelves.{ShelvesValue, marks_of}
use Rattle.desk_store.specs.Views.{DeskValue, shelves_in}
use Rattle.desktop_session.specs.declared.ending.Ended.{Ended}
use Rattle.desktop_session.specs.declared.ending.Halted.{Halted}
use Rattle.desktop_session.specs.declared.fault.SessionFault.{SessionFault}
use Rattle.desktop_session.specs.declared.fault.SessionFault.TheVariants as session
use Rattle.desktop_session.specs.Acts.{text}
use Rattle.desktop_session.specs.Ends.{link_ended}
use Rattle.desktop_session.specs.Lasts.{IsByLastReply}
use Rattle.desktop_session.specs.Requests.{ending}
use Rattle.desktop_session.specs.Sessions.{SessionValue}
use Rattle.desktop_session.specs.Stops.{Does, Stops}
use Rattle.mirrors.specs.Asks.{Asks}
use Rattle.session_parts.specs.declared.meeting.Met.{Met}
use Rattle.session_parts.specs.declared.report.Did.{Did}
use Rattle.session_parts.specs.declared.skip.Skip.{Skip}
use Rattle.session_parts.specs.declared.skip.Skip.TheVariants as skip
use Rattle.session_parts.specs.declared.stop.Stop.{Stop}
use Rattle.session_parts.specs.declared.stop.Stop.TheVariants as stop
use Rattle.session_parts.specs.Causes.{IsLater}
use Rattle.session_parts.specs.Meets.{MeetsOrNot}
use Rattle.session_parts.specs.Stopping.{stop_of}
use Rattle.session_parts.specs.Stretches.{SpansEach}
use Rattle.session_plan.specs.Tasks.{records_of}
use Rattle.category_mirror.specs.declared.job.FilingJob.{FilingJob}
use Rattle.session_parts.specs.declared.report.Did.{Did}
use Rattle.session_parts.specs.declared.report.Did.TheVariants.{Skipped, Filed}
use Rattle.session_parts.specs.declared.report.DbReport.{DbReport}
use Rattle.session_parts.specs.declared.outcome.Outcome.{Outcome}
use Rattle.category_mirror.specs.Blocks.{MergeValue}
use Rattle.category_mirror.specs.Changes.{CommitsFiled, changes_filed}
use Rattle.category_mirror.specs.FilingActs.{SaysFiled, files_under, marks_for}
use Rattle.category_mirror.specs.Jobs.{filing_jobs}
use Rattle.category_mirror.specs.Refiled.{moved_count, used_count}

-- ---- what is told

-- why it was skipped, or that a block is no table, or how many categories and moved rows there are
abbrev pub did_of : Option Skip → Option MergeValue → Option DatabaseValue → Did
did_of (Some skip) merge rows = Skipped skip
did_of None None rows = Skipped skip.Blocks
did_of None (Some merge) rows = Filed (record {
  used = used_count merge.table;
  moved = moved_count merge.numbers (records_of rows);
})

abbrev pub report_filed : ShelvesValue → FilingJob → Option MergeValue → DbReport
report_filed shelves job merge = record {
  name = job.name;
  did = did_of job.skip merge (database_of job.name shelves.rows);
}

unfoldable pub reports_filed : ShelvesValue → List FilingJob → List (Option MergeValue)
    → List DbReport
reports_filed shelves [] merges = []
reports_filed shelves (job ∷ jobs) [] = []
reports_filed shelves (job ∷ jobs) (merge ∷ merges) =
    report_filed shelves job merge ∷ reports_filed shelves jobs merges

-- ---- what is left

-- a session that stopped
abbrev pub stopped : {L F : Type 0} → L → F → Stop → Outcome L F
stopped link folder cause = record { link = link; folder = folder; end = Err cause }

-- one that both sides ended, or that stopped at its end
abbrev pub closed : {L F : Type 0} → F → Vec DbReport → Result (Ended L) (Halted L)
    → Outcome L F
closed folder reports (Ok ended) = record { link = ended.link; folder = folder; end = Ok reports }
closed folder reports (Err halted) = stopped halted.link folder (stop.Session halted.cause)

-- ---- behind the writes

-- the end was told, as far as it went
pub record Finishes {L F : Type 0} (talk : L → Option Talk) (since : L → L → Type 0)
    (fault : L → Option LinkFault) (downs : L → ℕ)
    (reports : Vec DbReport) (old : SessionValue L) (folder : F)
    (left : Outcome L F) : Type 0 where
  pub answer : Result (Ended L) (Halted L)
  pub stops : Stops talk since fault downs (text ending ∷ []) old.link (link_ended answer)
  pub does : IfOk answer (λ ended. Does talk (ending ∷ []) old.link ended.link)
  pub cause : IfErr answer
      (λ halted. IsLater (talk halted.link) (fault halted.link) halted.cause)
  pub is : left ≡ closed folder reports answer

-- the desktop has committed, or it didn't
abbrev pub AfterCommit : {L F : Type 0} → (L → Option Talk) → (L → L → Type 0)
    → (L → Option LinkFault) → (L → ℕ)
    → Vec DbReport → SessionValue L → Result (DeskValue F) (CommitFault × F)
    → Outcome L F → Type 0
AfterCommit talk since fault downs reports old (Ok desk) left =
    Finishes talk since fault downs reports old desk.folder left
AfterCommit talk since fault downs reports old (Err refusal) left =
    left ≡ stopped old.link refusal.1 (stop_of refusal.0)

-- the desktop was to commit these changes
pub record Carries {L F : Type 0} (talk : L → Option Talk) (since : L → L → Type 0)
    (fault : L → Option LinkFault) (downs : L → ℕ)
    (contents : F → Option FileMap) (moments : F → Moments) (paths : F → Option (List (List ℕ)))
    (faults : F → ℕ)
    (changes : List DbChange) (reports : Vec DbReport) (old : SessionValue L)
    (desk : DeskValue F) (left : Outcome L F) : Type 0 where
  pub answer : Result (DeskValue F) (CommitFault × F)
  pub commits : CommitsFiled contents moments paths faults changes desk answer
  pub goes : AfterCommit talk since fault downs reports old answer left

-- the handheld knows no desktop where it was to, and then the desktop was to commit
abbrev pub AfterMark : {L F : Type 0} → (L → Option Talk) → (L → L → Type 0)
    → (L → Option LinkFault) → (L → ℕ) → (F → Option FileMap) → (F → Moments)
    → (F → Option (List (List ℕ))) → (F → ℕ) → List DbChange → Vec DbReport → SessionValue L
    → DeskValue F → Result (Unit {0}) SessionFault → Outcome L F → Type 0
AfterMark talk since fault downs contents moments paths faults made reports now desk (Ok done) left =
    Carries talk since fault downs contents moments paths faults made reports now desk left
AfterMark talk since fault downs contents moments paths faults made reports now desk (Err why) left =
    left ≡ stopped now.link desk.folder (stop.Session why)

-- The handheld was marked where the desktop has changes, the desktop was to commit them, and the
-- session to end then.
pub record Marks {L F : Type 0} (talk : L → Option Talk) (since : L → L → Type 0)
    (fault : L → Option LinkFault) (downs : L → ℕ)
    (contents : F → Option FileMap) (moments : F → Moments) (paths : F → Option (List (List ℕ)))
    (faults : F → ℕ)
    (changes : List DbChange) (reports : Vec DbReport) (old : SessionValue L)
    (desk : DeskValue F) (left : Outcome L F) : Type 0 where
  pub now : SessionValue L
  pub answer : Result (Unit {0}) SessionFault
  pub asks : Asks talk since fault downs (marks_for changes old.user) old now answer
  pub cause : IfErr answer (IsLater (talk now.link) (fault now.link))
  pub goes : AfterMark talk since fault downs contents moments paths faults changes reports now desk
      answer left

-- The desktop was to commit what changes by these merges, and the session to end then.
pub record Turns {L F : Type 0} (talk : L → Option Talk) (since : L → L → Type 0)
    (fault : L → Option LinkFault) (downs : L → ℕ)
    (contents : F → Option FileMap) (moments : F → Moments) (paths : F → Option (List (List ℕ)))
    (faults : F → ℕ)
    (jobs : List FilingJob) (merges : List (Option MergeValue)) (old : SessionValue L)
    (desk : DeskValue F) (left : Outcome L F) : Type 0 where
  pub reports : Vec DbReport
  pub told : reports.items ≡ reports_filed (shelves_in desk) jobs merges
  pub marks : Marks talk since fault downs contents moments paths faults
      (changes_filed (shelves_in desk) jobs merges) reports old desk left

-- all blocks are written where they differ, or not; behind them memory may be wanted before the
-- commit
abbrev pub AfterFiling : {L F : Type 0} → (L → Option Talk) → (L → L → Type 0)
    → (L → Option LinkFault) → (L → ℕ) → (F → Option FileMap) → (F → Moments) →
    (F → Option (List (List ℕ))) → (F → ℕ) → List FilingJob → SessionValue L → DeskValue F
    → Result (Vec (Option MergeValue)) SessionFault
    → Outcome L F → Type 0
AfterFiling talk since fault downs contents moments paths faults jobs now desk (Ok merges) left =
    Turns talk since fault downs contents moments paths faults jobs merges.items now desk left
    ⊎ (left ≡ stopped now.link desk.folder (stop.Session session.NoMemory))
AfterFiling talk since fault downs contents moments paths faults jobs now desk (Err cause) left =
    left ≡ stopped now.link desk.folder (stop.Session cause)

-- ---- the whole

-- the slot of a handheld is picked
abbrev pub picked_for : {F : Type 0} → List SlotMarks → UserInfo → DeskValue F → DeskValue F
picked_for marks user desk =
    record desk { picked = place_of (length desk.slots) (seat_for marks no_wish user) }

-- Both sides have met: the categories of each database were brought together on the handheld, one
-- after another.
pub record Files {L F : Type 0} (talk : L → Option Talk) (since : L → L → Type 0)
    (fault : L → Option LinkFault) (downs : L → ℕ)
    (contents : F → Option FileMap) (moments : F → Moments) (paths : F → Option (List (List ℕ)))
    (faults : F → ℕ)
    (met : Met L) (desk : DeskValue F) (left : Outcome L F) : Type 0 where
  pub now : SessionValue L
  pub answer : Result (Vec (Option MergeValue)) SessionFault
  pub files : SpansEach talk since fault downs (files_under (shelves_in desk))
      (SaysFiled (shelves_in desk)) (filing_jobs met.heads.items (shelves_in desk))
      (λ (made : Vec (Option MergeValue)). made.items) met.linked now answer
  pub goes : AfterFiling talk since fault downs contents moments paths faults
      (filing_jobs met.heads.items (shelves_in desk)) now desk answer left

-- both sides have met, or they have not
abbrev pub AfterMeeting : {L F : Type 0} → (L → Option Talk) → (L → L → Type 0)
    → (L → Option LinkFault) → (L → ℕ) → (F → Option FileMap) → (F → Moments) →
    (F → Option (List (List ℕ))) → (F → ℕ) → List SlotMarks → DeskValue F → Result (Met L) (Halted L)
    → Outcome L F → Type 0
AfterMeeting talk since fault downs contents moments paths faults marks desk (Ok met) left =
    Files talk since fault downs contents moments paths faults met
    (picked_for marks met.linked.user desk) left
AfterMeeting talk since fault downs contents moments paths faults marks desk (Err halted) left =
    left ≡ stopped halted.link desk.folder (stop.Session halted.cause)

-- A session from its beginning: both sides meet, where the handheld's user has a slot.
pub record FilingRan {L F : Type 0} (talk : L → Option Talk) (since : L → L → Type 0)
    (fault : L → Option LinkFault) (downs : L → ℕ)
    (contents : F → Option FileMap) (moments : F → Moments) (paths : F → Option (List (List ℕ)))
    (faults : F → ℕ)
    (old : L) (desk : DeskValue F) (left : Outcome L F) : Type 0 where
  pub answer : Result (Met L) (Halted L)
  pub meets : MeetsOrNot talk since fault downs (marks_of desk.slots) no_wish old answer
  pub last : IfErr answer (λ halted. IsByLastReply (talk halted.link) halted.cause)
  pub goes : AfterMeeting talk since fault downs contents moments paths faults
      (marks_of desk.slots) desk answer left
