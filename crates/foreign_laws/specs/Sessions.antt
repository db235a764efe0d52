-- A session that ended, over any handheld.
use Rattle.std.specs.Prelude.{◌≡◌, ℕ, List, Ok}
use Rattle.std.specs.Global.{Vec}
use Rattle.hs_folders.specs.declared.folder.Folder.{Ghosts as FolderMembers}
use Rattle.pdb_values.specs.declared.user.UserInfo.{UserInfo}
use Rattle.desk_store.specs.Shelves.{marks_of}
use Rattle.desk_store.specs.Views.{DeskValue, shelves_in}
use Rattle.session_parts.specs.declared.outcome.Outcome.{Outcome}
use Rattle.session_parts.specs.declared.report.DbReport.{DbReport}
use Rattle.session_plan.specs.Commits.{CommitsPlanned}
use Rattle.session_plan.specs.declared.planned.Planned.{Planned}
use Rattle.session_plan.specs.declared.wishes.Wishes.{Wishes}
use Rattle.sync_session.specs.ByReplies.{IsJudged}
use Rattle.sync_session.specs.Courses.{done_for, picked_for}
use Rattle.sync_session.specs.Inquiries.{Learnt, finishes, learns, sends}
use Rattle.foreign_laws.specs.Endings.{EndsOver}

-- the desktop, with the slot that it has for this user
abbrev pub picked : {F : Type 0} → Wishes → UserInfo → DeskValue F → DeskValue F
picked wishes user desk = picked_for (marks_of desk.slots) wishes.user user desk

-- What was learnt was planned and judged, the handheld got its news, the desktop committed with the
-- ids that were told, each database lost what goes, and both sides ended: between these two states
-- of the handheld, and with this desktop behind.
pub record EndsBehind {S F : Type 0} (Step : S → List ℕ → List ℕ → S → Type 0)
    (folder : FolderMembers F) (wishes : Wishes) (learnt : Learnt) (old : S) (desk : DeskValue F)
    (new : S) (after : DeskValue F) : Type 0 where
  pub planned : List Planned
  pub reports : Vec DbReport
  pub judged : IsJudged wishes learnt desk planned (Ok reports)
  pub ids : List (List ℕ)
  pub told : S
  pub news : EndsOver Step (sends (shelves_in desk) learnt.user planned) old ids told
  pub commit : CommitsPlanned folder.contents folder.moments folder.paths folder.faults
      (done_for wishes learnt.user desk) learnt.user planned ids desk (Ok after)
  pub ending : EndsOver Step (finishes learnt.user (done_for wishes learnt.user desk) planned) told
      tt new

-- both sides met and each database was read before that
pub record EndsSession {S F : Type 0} (Step : S → List ℕ → List ℕ → S → Type 0)
    (folder : FolderMembers F) (wishes : Wishes) (old : S) (desk : DeskValue F) (new : S)
    (after : DeskValue F) : Type 0 where
  pub learnt : Learnt
  pub between : S
  pub learning : EndsOver Step (learns wishes desk) old learnt between
  pub behind : EndsBehind Step folder wishes learnt between (picked wishes learnt.user desk) new
      after

-- A session over a link, which leads to such a handheld at each moment, ended with this desktop
-- behind.
pub record EndedWith {L S F : Type 0} (Step : S → List ℕ → List ℕ → S → Type 0)
    (folder : FolderMembers F) (wishes : Wishes) (hand : L → S) (old : L) (desk : DeskValue F)
    (left : Outcome L F) : Type 0 where
  pub after : DeskValue F
  pub same : left.folder ≡ after.folder
  pub ends : EndsSession Step folder wishes (hand old) desk (hand left.link) after
