-- How a session went over any link, by the replies: what was asked is what its three inquiries ask,
-- the plan is that of what was learnt, the desktop commits by the ids that were told, and it ended
-- as its last part did.
use Rattle.std.specs.Prelude.{◌≡◌, ℕ, List, length, map, IfOk, Result, Ok, Err}
use Rattle.std.specs.Global.{Vec}
use Rattle.hs_folders.specs.declared.folder.Folder.{Ghosts as FolderMembers}
use Rattle.pdb_values.specs.declared.head.DbHead.{DbHead}
use Rattle.pdb_values.specs.declared.user.Marks.{Marks}
use Rattle.pdb_values.specs.declared.user.UserInfo.{UserInfo}
use Rattle.dlp_commands.specs.declared.link.Link.{Ghosts}
use Rattle.conduit_rules.specs.declared.view.Seen.{Seen}
use Rattle.desk_store.specs.Shelves.{marks_of}
use Rattle.desk_store.specs.Views.{DeskValue, marks_in, parted_in, shelves_in}
use Rattle.desk_store.specs.declared.fault.CommitFault.{CommitFault}
use Rattle.desktop_session.specs.Answers.{mapped}
use Rattle.desktop_session.specs.Following.{Follows}
use Rattle.desktop_session.specs.declared.fault.SessionFault.{SessionFault}
use Rattle.mirrors.specs.Agreements.{agreed}
use Rattle.session_parts.specs.declared.outcome.Outcome.{Outcome}
use Rattle.session_parts.specs.declared.report.DbReport.{DbReport}
use Rattle.session_parts.specs.declared.stop.Stop.{Stop}
use Rattle.session_parts.specs.declared.stop.Stop.TheVariants as stop
use Rattle.session_parts.specs.Stopping.{stop_of}
use Rattle.session_plan.specs.declared.planned.Planned.{Planned}
use Rattle.sync_session.specs.declared.preparing.Prepared.{Prepared}
use Rattle.session_plan.specs.declared.wishes.Wishes.{Wishes}
use Rattle.session_plan.specs.Commits.{CommitsPlanned}
use Rattle.session_plan.specs.Partings.{agrees_with}
use Rattle.session_plan.specs.Planning.{ArePlanned}
use Rattle.sync_session.specs.Courses.{JudgesPlanned, done_for, jobs_met, picked_for, reported, stopped}
use Rattle.sync_session.specs.Inquiries.{Learnt, each_seen, finishes, learns, learnt_with, reads_all, sends}

-- ---- behind the commit

-- what a session does to both sides: the handheld's user, the marks that end it, the databases as
-- they are planned, and what is told of them
pub record Work : Type 0 where
  pub user : UserInfo
  pub done : Marks
  pub planned : List Planned
  pub reports : Vec DbReport

abbrev pub work_of : UserInfo → Marks → Prepared → Work
work_of user done prepared = record {
  user = user;
  done = done;
  planned = prepared.planned.items;
  reports = prepared.reports;
}

-- its end, by how its last part ended
abbrev pub end_by : Vec DbReport → Result (Unit {0}) SessionFault → Result (Vec DbReport) Stop
end_by reports (Ok done) = Ok reports
end_by reports (Err cause) = Err (stop.Session cause)

-- each database was to lose what goes, and both sides to end
pub record Finishes {L F : Type 0} (link : Ghosts L) (work : Work) (old : L) (folder : F)
    (left : Outcome L F) : Type 0 where
  pub answer : Result (Unit {0}) SessionFault
  pub follows : Follows link (finishes work.user work.done work.planned) old left.link answer
  pub end_is : left.end ≡ end_by work.reports answer
  pub same_folder : left.folder ≡ folder

-- the desktop has committed, or it didn't, and nothing more was asked
abbrev pub AfterCommit : {L F : Type 0} → Ghosts L → Work → L
    → Result (DeskValue F) (CommitFault × F) → Outcome L F → Type 0
AfterCommit link work old (Ok desk) left = Finishes link work old desk.folder left
AfterCommit link work old (Err refusal) left = left ≡ stopped old refusal.1 (stop_of refusal.0)

-- the desktop was to commit, where the replies told these ids of the handheld's new records
pub record Commits {L F : Type 0} (link : Ghosts L) (folder : FolderMembers F) (work : Work)
    (ids : List (List ℕ)) (old : L) (desk : DeskValue F) (left : Outcome L F) : Type 0 where
  pub answer : Result (DeskValue F) (CommitFault × F)
  pub commits : CommitsPlanned folder.contents folder.moments folder.paths folder.faults work.done
      work.user work.planned ids desk answer
  pub goes : AfterCommit link work old answer left

-- ---- the news

-- the handheld has its news, or not all of it
abbrev pub AfterNews : {L F : Type 0} → Ghosts L → FolderMembers F → Work → L → DeskValue F
    → Result (List (List ℕ)) SessionFault → Outcome L F → Type 0
AfterNews link folder work now desk (Ok ids) left = Commits link folder work ids now desk left
AfterNews link folder work now desk (Err cause) left =
    left ≡ stopped now desk.folder (stop.Session cause)

-- the handheld was to get its news
pub record Sends {L F : Type 0} (link : Ghosts L) (folder : FolderMembers F) (work : Work)
    (old : L) (desk : DeskValue F) (left : Outcome L F) : Type 0 where
  pub now : L
  pub answer : Result (List (List ℕ)) SessionFault
  pub follows : Follows link (sends (shelves_in desk) work.user work.planned) old now answer
  pub goes : AfterNews link folder work now desk answer left

-- ---- what precedes each write

-- what was seen of each planned database
abbrev pub planned_seen : List Planned → List (List Seen)
planned_seen planned = each_seen (map (λ (one : Planned). one.view) planned)

-- they are planned by what was learnt, and the limits were looked at, and what the session would
-- cost the desktop
pub record IsJudged {F : Type 0} (wishes : Wishes) (learnt : Learnt) (desk : DeskValue F)
    (planned : List Planned) (answer : Result (Vec DbReport) Stop) : Type 0 where
  pub seen : planned_seen planned ≡ learnt.views
  pub plans : ArePlanned (shelves_in desk)
      (agrees_with (agreed learnt.user (marks_in desk)) (parted_in desk))
      (jobs_met learnt.heads wishes desk learnt.user)
      (map (λ (one : Planned). one.view) planned) planned
  pub judged : JudgesPlanned desk learnt.user (length learnt.heads) planned answer

-- each database was read, and then planned, or not all was read
abbrev pub AfterReading : {F : Type 0} → Wishes → UserInfo → List DbHead → DeskValue F
    → Result (List (List Seen)) SessionFault → Result Prepared Stop → Type 0
AfterReading wishes user heads desk (Ok views) answer =
    (planned : Vec Planned)
    × IsJudged wishes (learnt_with user heads views) desk planned.items (reported answer)
    × IfOk answer (λ prepared. prepared.planned ≡ planned)
AfterReading wishes user heads desk (Err cause) answer = answer ≡ Err (stop.Session cause)

-- so a call did it that is to do what precedes each write
pub record Prepares {L F : Type 0} (link : Ghosts L) (wishes : Wishes) (user : UserInfo)
    (heads : List DbHead) (old new : L) (desk : DeskValue F) (answer : Result Prepared Stop)
    : Type 0 where
  pub views : Result (List (List Seen)) SessionFault
  pub follows : Follows link (reads_all wishes desk user heads) old new views
  pub goes : AfterReading wishes user heads desk views answer

-- nothing forbids the session, or it stops before it writes
abbrev pub AfterJudging : {L F : Type 0} → Ghosts L → FolderMembers F → Wishes → UserInfo
    → List Planned → L → DeskValue F → Result (Vec DbReport) Stop → Outcome L F → Type 0
AfterJudging link folder wishes user planned now desk (Ok reports) left =
    Sends link folder
    (record {
      user = user;
      done = done_for wishes user desk;
      planned = planned;
      reports = reports;
    }) now desk left
AfterJudging link folder wishes user planned now desk (Err cause) left =
    left ≡ stopped now desk.folder cause

-- all was learnt, over the desktop whose slot for the handheld is picked
pub record Decides {L F : Type 0} (link : Ghosts L) (folder : FolderMembers F) (wishes : Wishes)
    (learnt : Learnt) (now : L) (desk : DeskValue F) (left : Outcome L F) : Type 0 where
  pub planned : List Planned
  pub answer : Result (Vec DbReport) Stop
  pub plans : IsJudged wishes learnt desk planned answer
  pub goes : AfterJudging link folder wishes learnt.user planned now desk answer left

-- ---- the whole

-- all was learnt, or not
abbrev pub AfterLearning : {L F : Type 0} → Ghosts L → FolderMembers F → Wishes → L → DeskValue F
    → Result Learnt SessionFault → Outcome L F → Type 0
AfterLearning link folder wishes now desk (Ok learnt) left =
    Decides link folder wishes learnt now
    (picked_for (marks_of desk.slots) wishes.user learnt.user desk) left
AfterLearning link folder wishes now desk (Err cause) left =
    left ≡ stopped now desk.folder (stop.Session cause)

-- so a session went on once both sides had met
pub record GoesOn {L F : Type 0} (link : Ghosts L) (folder : FolderMembers F) (wishes : Wishes)
    (user : UserInfo) (heads : List DbHead) (old : L) (desk : DeskValue F) (left : Outcome L F)
    : Type 0 where
  pub now : L
  pub answer : Result (List (List Seen)) SessionFault
  pub follows : Follows link
      (reads_all wishes (picked_for (marks_of desk.slots) wishes.user user desk) user heads) old now
      answer
  pub goes : AfterLearning link folder wishes now desk (mapped (learnt_with user heads) answer) left

-- a session from its beginning
pub record AsksSession {L F : Type 0} (link : Ghosts L) (folder : FolderMembers F)
    (wishes : Wishes) (old : L) (desk : DeskValue F) (left : Outcome L F) : Type 0 where
  pub now : L
  pub answer : Result Learnt SessionFault
  pub follows : Follows link (learns wishes desk) old now answer
  pub goes : AfterLearning link folder wishes now desk answer left
