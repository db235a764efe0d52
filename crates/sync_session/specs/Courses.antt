-- How a session went over any link, call by call: each record tells what one call answered, and how
-- it went on then.
use Rattle.std.specs.Prelude.{◌≡◌, ℕ, List, [], ◌∷◌, length, map, Option, IfErr, IfOk, Result, Ok, Err}
use Rattle.std.specs.Global.{Vec}
use Rattle.hs_folders.specs.FileMaps.{FileMap}
use Rattle.hs_folders.specs.Moments.{Moments}
use Rattle.pdb_values.specs.declared.head.DbHead.{DbHead}
use Rattle.pdb_values.specs.declared.user.Marks.{Marks}
use Rattle.pdb_values.specs.declared.user.UserInfo.{UserInfo}
use Rattle.dlp_commands.specs.declared.link.LinkFault.{LinkFault}
use Rattle.dlp_commands.specs.Talks.{Talk}
use Rattle.desk_store.specs.declared.fault.CommitFault.{CommitFault}
use Rattle.desk_store.specs.Desks.{all_rows, place_of}
use Rattle.desk_store.specs.Shelves.{marks_of}
use Rattle.desk_store.specs.Views.{DeskValue, marks_in, parted_in, shelves_in}
use Rattle.desktop_session.specs.declared.ending.Ended.{Ended}
use Rattle.desktop_session.specs.declared.ending.Halted.{Halted}
use Rattle.desktop_session.specs.declared.fault.SessionFault.{SessionFault}
use Rattle.desktop_session.specs.Acts.{Act}
use Rattle.desktop_session.specs.Requests.{ending, marking}
use Rattle.desktop_session.specs.Lasts.{IsByLastReply}
use Rattle.desktop_session.specs.Seats.{seat_for}
use Rattle.desktop_session.specs.Sessions.{SessionValue}
use Rattle.desktop_session.specs.declared.seat.UserWish.{UserWish}
use Rattle.mirrors.specs.Agreements.{agreed}
use Rattle.session_plan.specs.declared.job.Job.{Job}
use Rattle.session_parts.specs.declared.meeting.Met.{Met}
use Rattle.session_parts.specs.declared.outcome.Outcome.{Outcome}
use Rattle.session_plan.specs.declared.planned.Planned.{Planned}
use Rattle.sync_session.specs.declared.preparing.Prepared.{Prepared}
use Rattle.session_parts.specs.declared.report.DbReport.{DbReport}
use Rattle.session_parts.specs.declared.stop.Stop.{Stop}
use Rattle.session_parts.specs.declared.stop.Stop.TheVariants as stop
use Rattle.session_plan.specs.declared.wishes.Wishes.{Wishes}
use Rattle.session_plan.specs.Commits.{CommitsPlanned}
use Rattle.sync_session.specs.Endings.{Ends}
use Rattle.session_plan.specs.Jobs.{jobs_of}
use Rattle.session_parts.specs.Meets.{MeetsOrNot}
use Rattle.sync_session.specs.Phases.{GainsEach, news_under}
use Rattle.session_plan.specs.PlannedLimits.{limit_planned}
use Rattle.session_plan.specs.PlannedLosses.{loss_planned}
use Rattle.session_plan.specs.PlannedReports.{reports_planned}
use Rattle.session_plan.specs.Planning.{ArePlanned}
use Rattle.sync_session.specs.Readings.{ShowsEach, reads_under}
use Rattle.sync_session.specs.Stopping.{Judges}
use Rattle.session_parts.specs.Stopping.{stop_of}
use Rattle.session_parts.specs.Stretches.{SpansBehind, SpansEach}
use Rattle.session_plan.specs.Takes.{each_of}
use Rattle.session_plan.specs.Users.{begun_user, done_marks, done_user}
use Rattle.session_plan.specs.Partings.{agrees_with}

-- ---- what is left

-- a session that stopped
abbrev pub stopped : {L F : Type 0} → L → F → Stop → Outcome L F
stopped link folder cause = record { link = link; folder = folder; end = Err cause }

-- one that both sides ended, or that stopped at its end
abbrev pub closed : {L F : Type 0} → F → Vec DbReport → Result (Ended L) (Halted L) → Outcome L F
closed folder reports (Ok ended) = record { link = ended.link; folder = folder; end = Ok reports }
closed folder reports (Err halted) = stopped halted.link folder (stop.Session halted.cause)

-- ---- behind the commit

-- the last acts: the mark that ends what is written, and the end
abbrev pub last_acts : UserInfo → Marks → List Act
last_acts user done = marking (done_user user done) 0xF0 ∷ ending ∷ []

-- the databases were purged, and both sides told the end, as far as it went
pub record Closes {L F : Type 0} (talk : L → Option Talk) (since : L → L → Type 0)
    (fault : L → Option LinkFault) (downs : L → ℕ)
    (done : Marks) (prepared : Prepared) (old : SessionValue L) (folder : F)
    (left : Outcome L F) : Type 0 where
  pub answer : Result (Ended L) (Halted L)
  pub ends : Ends talk since fault downs prepared.planned.items
      (last_acts old.user done) old answer
  pub is : left ≡ closed folder prepared.reports answer

-- the desktop has committed, or it didn't
abbrev pub AfterCommit : {L F : Type 0} → (L → Option Talk) → (L → L → Type 0)
    → (L → Option LinkFault) → (L → ℕ) → Marks → Prepared → SessionValue L
    → Result (DeskValue F) (CommitFault × F) → Outcome L F → Type 0
AfterCommit talk since fault downs done prepared old (Ok desk) left =
    Closes talk since fault downs done prepared old desk.folder left
AfterCommit talk since fault downs done prepared old (Err refusal) left =
    left ≡ stopped old.link refusal.1 (stop_of refusal.0)

-- the desktop was to commit, where the handheld's new records got these ids
pub record Carries {L F : Type 0} (talk : L → Option Talk) (since : L → L → Type 0)
    (fault : L → Option LinkFault) (downs : L → ℕ)
    (contents : F → Option FileMap) (moments : F → Moments) (paths : F → Option (List (List ℕ)))
    (faults : F → ℕ)
    (done : Marks) (prepared : Prepared) (ids : List (List ℕ)) (old : SessionValue L)
    (desk : DeskValue F) (left : Outcome L F) : Type 0 where
  pub answer : Result (DeskValue F) (CommitFault × F)
  pub commits : CommitsPlanned contents moments paths faults done old.user
      prepared.planned.items ids desk answer
  pub goes : AfterCommit talk since fault downs done prepared old answer left

-- ---- the news

-- the handheld has its news, or not all of it
abbrev pub AfterNews : {L F : Type 0} → (L → Option Talk) → (L → L → Type 0)
    → (L → Option LinkFault) → (L → ℕ) → (F → Option FileMap) → (F → Moments) →
    (F → Option (List (List ℕ))) → (F → ℕ) → Marks → Prepared
    → SessionValue L → DeskValue F → Result (Vec (Vec ℕ)) SessionFault → Outcome L F → Type 0
AfterNews talk since fault downs contents moments paths faults done prepared now desk
    (Ok ids) left =
    Carries talk since fault downs contents moments paths faults done prepared
    (each_of ids.items) now desk left
AfterNews talk since fault downs contents moments paths faults done prepared now desk
    (Err cause) left =
    left ≡ stopped now.link desk.folder (stop.Session cause)

-- the handheld was to get its news
pub record Writes {L F : Type 0} (talk : L → Option Talk) (since : L → L → Type 0)
    (fault : L → Option LinkFault) (downs : L → ℕ)
    (contents : F → Option FileMap) (moments : F → Moments) (paths : F → Option (List (List ℕ)))
    (faults : F → ℕ)
    (done : Marks) (prepared : Prepared) (old : SessionValue L) (desk : DeskValue F)
    (left : Outcome L F) : Type 0 where
  pub now : SessionValue L
  pub answer : Result (Vec (Vec ℕ)) SessionFault
  pub sends : SpansBehind talk since fault downs (marking (begun_user old.user) 0x40)
      (news_under (shelves_in desk)) (GainsEach (shelves_in desk)) prepared.planned.items
      (λ (made : Vec (Vec ℕ)). made.items) old now answer
  pub goes : AfterNews talk since fault downs contents moments paths faults
      done prepared now desk answer left

-- ---- what precedes each write

-- the databases of a session, as the handheld listed their heads and the desktop has them
abbrev pub jobs_met : {F : Type 0} → List DbHead → Wishes → DeskValue F → UserInfo → List Job
jobs_met heads wishes desk user =
    jobs_of heads (shelves_in desk) (agrees_with (agreed user (marks_in desk)) (parted_in desk)) wishes

-- they were to be read, and planned
pub record ReadsAll {L F : Type 0} (talk : L → Option Talk) (since : L → L → Type 0)
    (fault : L → Option LinkFault) (downs : L → ℕ)
    (heads : List DbHead) (wishes : Wishes) (desk : DeskValue F) (old new : SessionValue L)
    (answer : Result (Vec Planned) SessionFault) : Type 0 where
  pub reads : SpansEach talk since fault downs (reads_under (shelves_in desk))
      (ShowsEach (shelves_in desk)) (jobs_met heads wishes desk old.user)
      (λ (planned : Vec Planned). map (λ (one : Planned). one.view) planned.items) old new answer
  pub plans : IfOk answer
      (λ planned. ArePlanned (shelves_in desk)
      (agrees_with (agreed old.user (marks_in desk)) (parted_in desk))
      (jobs_met heads wishes desk old.user)
      (map (λ (one : Planned). one.view) planned.items) planned.items)

-- the reports of what was prepared
abbrev pub reported : Result Prepared Stop → Result (Vec DbReport) Stop
reported (Ok prepared) = Ok prepared.reports
reported (Err cause) = Err cause

-- the limits were looked at, where the handheld listed so many databases, and what the session would
-- cost
abbrev pub JudgesPlanned : {F : Type 0} → DeskValue F → UserInfo → ℕ → List Planned
    → Result (Vec DbReport) Stop → Type 0
JudgesPlanned desk user listed planned answer =
    Judges (limit_planned (shelves_in desk) listed (all_rows desk.slots) planned)
    (loss_planned user (marks_in desk) (parted_in desk) (shelves_in desk) planned)
    (reports_planned (shelves_in desk) planned) answer

-- so they were, or not all was read
abbrev pub AfterReading : {F : Type 0} → List DbHead → DeskValue F → UserInfo
    → Result (Vec Planned) SessionFault → Result Prepared Stop → Type 0
AfterReading heads desk user (Ok planned) answer =
    JudgesPlanned desk user (length heads) planned.items (reported answer)
    × IfOk answer (λ prepared. prepared.planned ≡ planned)
AfterReading heads desk user (Err cause) answer = answer ≡ Err (stop.Session cause)

-- what precedes each write was to be done
pub record Prepares {L F : Type 0} (talk : L → Option Talk) (since : L → L → Type 0)
    (fault : L → Option LinkFault) (downs : L → ℕ)
    (heads : List DbHead) (wishes : Wishes) (desk : DeskValue F) (old new : SessionValue L)
    (answer : Result Prepared Stop) : Type 0 where
  pub reading : Result (Vec Planned) SessionFault
  pub reads : ReadsAll talk since fault downs heads wishes desk old new reading
  pub goes : AfterReading heads desk new.user reading answer

-- it was done, or not all of it
abbrev pub AfterPreparing : {L F : Type 0} → (L → Option Talk) → (L → L → Type 0)
    → (L → Option LinkFault) → (L → ℕ) → (F → Option FileMap) → (F → Moments) →
    (F → Option (List (List ℕ))) → (F → ℕ) → Marks
    → SessionValue L → DeskValue F → Result Prepared Stop → Outcome L F → Type 0
AfterPreparing talk since fault downs contents moments paths faults done now desk
    (Ok prepared) left =
    Writes talk since fault downs contents moments paths faults done prepared now desk left
AfterPreparing talk since fault downs contents moments paths faults done now desk (Err cause) left =
    left ≡ stopped now.link desk.folder cause

-- ---- the whole

-- the slot of a handheld is picked
abbrev pub picked_for : {F : Type 0} → List Marks → UserWish → UserInfo → DeskValue F
    → DeskValue F
picked_for marks wish user desk =
    record desk { picked = place_of (length desk.slots) (seat_for marks wish user) }

-- the marks that end its session
abbrev pub done_for : {F : Type 0} → Wishes → UserInfo → DeskValue F → Marks
done_for wishes user desk =
    done_marks wishes.date wishes.user.name (marks_of desk.slots) user (marks_in desk)

-- both sides have met
pub record GoesOn {L F : Type 0} (talk : L → Option Talk) (since : L → L → Type 0)
    (fault : L → Option LinkFault) (downs : L → ℕ)
    (contents : F → Option FileMap) (moments : F → Moments) (paths : F → Option (List (List ℕ)))
    (faults : F → ℕ)
    (marks : List Marks) (wishes : Wishes) (met : Met L) (desk : DeskValue F)
    (left : Outcome L F) : Type 0 where
  pub now : SessionValue L
  pub answer : Result Prepared Stop
  pub prepares : Prepares talk since fault downs met.heads.items wishes
      (picked_for marks wishes.user met.linked.user desk) met.linked now answer
  pub goes : AfterPreparing talk since fault downs contents moments paths faults
      (done_for wishes met.linked.user (picked_for marks wishes.user met.linked.user desk)) now
      (picked_for marks wishes.user met.linked.user desk) answer left

-- both sides have met, or they have not
abbrev pub AfterMeeting : {L F : Type 0} → (L → Option Talk) → (L → L → Type 0)
    → (L → Option LinkFault) → (L → ℕ) → (F → Option FileMap) → (F → Moments) →
    (F → Option (List (List ℕ))) → (F → ℕ) → List Marks → Wishes
    → DeskValue F → Result (Met L) (Halted L) → Outcome L F → Type 0
AfterMeeting talk since fault downs contents moments paths faults marks wishes desk (Ok met)
    left = GoesOn talk since fault downs contents moments paths faults marks wishes met desk left
AfterMeeting talk since fault downs contents moments paths faults marks wishes desk
    (Err halted) left =
    left ≡ stopped halted.link desk.folder (stop.Session halted.cause)

-- a session from its beginning
pub record Runs {L F : Type 0} (talk : L → Option Talk) (since : L → L → Type 0)
    (fault : L → Option LinkFault) (downs : L → ℕ)
    (contents : F → Option FileMap) (moments : F → Moments) (paths : F → Option (List (List ℕ)))
    (faults : F → ℕ)
    (wishes : Wishes) (old : L) (desk : DeskValue F) (left : Outcome L F) : Type 0 where
  pub answer : Result (Met L) (Halted L)
  pub meets : MeetsOrNot talk since fault downs
      (marks_of desk.slots) wishes.user old answer
  pub last : IfErr answer (λ halted. IsByLastReply (talk halted.link) halted.cause)
  pub goes : AfterMeeting talk since fault downs contents moments paths faults
      (marks_of desk.slots) wishes desk answer left
