-- A session over a folder went as one over all that the folder tells.
use Rattle.std.proofs.Common.{◌≡◌, ◌⊎◌, ap, inl, inr, refl, subst, ℕ, List}
use Rattle.std.specs.Prelude.{Option, Result, Ok, Err}
use Rattle.std.specs.Global.{Vec}
use Rattle.hs_folders.specs.FileMaps.{FileMap}
use Rattle.hs_folders.specs.declared.folder.Folder.{Ghosts as FolderMembers}
use Rattle.pdb_values.specs.declared.user.UserInfo.{UserInfo}
use Rattle.dlp_commands.specs.declared.link.Link.{Ghosts}
use Rattle.desk_journal.specs.Entries.{EntryValue}
use Rattle.desk_store.specs.Shelves.{SlotValue}
use Rattle.desk_store.specs.Views.{DeskValue}
use Rattle.desk_store.specs.declared.fault.CommitFault.{CommitFault}
use Rattle.desktop_session.specs.declared.fault.SessionFault.{SessionFault}
use Rattle.port_link.specs.Calls.{LinkValue}
use Rattle.session_parts.specs.declared.outcome.Outcome.{Outcome}
use Rattle.session_parts.specs.declared.report.DbReport.{DbReport}
use Rattle.session_parts.specs.declared.stop.Stop.{Stop}
use Rattle.session_plan.specs.Commits.{Commits as CommitsSlots}
use Rattle.session_plan.specs.declared.planned.Planned.{Planned}
use Rattle.session_plan.specs.declared.wishes.Wishes.{Wishes}
use Rattle.sync_session.specs.ByReplies.{AfterCommit, AfterJudging, AfterLearning, AfterNews, AsksSession, Commits, Decides, Finishes, Sends, Work}
use Rattle.sync_session.specs.Inquiries.{Learnt}
use Rattle.run_words.specs.Cables.{Cable}
use Rattle.call_parts.specs.Told.{FolderTold}
use Rattle.port_run.specs.Asking.{AsksCable, folder_members, link_members}
use Rattle.port_run.specs.Told.{desk_told}
use Rattle.port_run.specs.Wishes.{AsksFor}

module _ {L F : Type 0} (link : Ghosts L) (folder : FolderMembers F) where
  -- a desktop, what is left of a session, and what a commit answered, by what the folder tells
  abbrev told_desk : DeskValue F → DeskValue FolderTold
  told_desk desk = record { folder = desk_told folder desk.folder; slots = desk.slots; picked = desk.picked }

  abbrev told_left : Outcome L F → Outcome L FolderTold
  told_left left = record { link = left.link; folder = desk_told folder left.folder; end = left.end }

  abbrev told_answer : Result (DeskValue F) (CommitFault × F) → Result (DeskValue FolderTold) (CommitFault × FolderTold)
  told_answer (Ok desk) = Ok (told_desk desk)
  told_answer (Err refusal) = Err (refusal.0, desk_told folder refusal.1)

  stopped_told : {at : L} {there : F} {why : Stop} (left : Outcome L F) → left ≡ record { link = at; folder = there; end = Err why }
      → told_left left ≡ record { link = at; folder = desk_told folder there; end = Err why }
  stopped_told left is = ap told_left is

  -- ---- the commit, and what is behind it

  finished_told : {work : Work} {old : L} {there : F} {left : Outcome L F} → Finishes link work old there left
      → Finishes link work old (desk_told folder there) (told_left left)
  finished_told goes =
      record { answer = goes.answer; follows = goes.follows; end_is = goes.end_is; same_folder = ap (desk_told folder) goes.same_folder }

  committed_told : (work : Work) (old : L) (left : Outcome L F) (answer : Result (DeskValue F) (CommitFault × F))
      → AfterCommit link work old answer left → AfterCommit link work old (told_answer answer) (told_left left)
  committed_told work old left (Ok desk) goes = finished_told goes
  committed_told work old left (Err refusal) is = stopped_told left is

  module _ {taken : List SlotValue} {entries : List EntryValue} {desk : DeskValue F} where
    slots_told : (answer : Result (DeskValue F) (CommitFault × F)) → CommitsSlots folder.contents folder.moments folder.paths folder.faults taken entries desk answer
        → CommitsSlots folder_members.contents folder_members.moments folder_members.paths folder_members.faults taken entries (told_desk desk) (told_answer answer)
    slots_told (Ok after) commits = record {
      slots = commits.slots;
      picked = commits.picked;
      stands = commits.stands;
      written = commits.written;
      left = commits.left;
      made = elim commits.made [ inl same ↦ inl (ap (desk_told folder) same) | inr is ↦ inr is ];
      each_moment = commits.each_moment;
      cause = commits.cause;
      same_paths = commits.same_paths;
    }
    slots_told (Err refusal) commits = record {
      slots = tt;
      picked = tt;
      stands = tt;
      written = tt;
      left = commits.left;
      made = elim commits.made [ inl same ↦ inl (ap (desk_told folder) same) | inr is ↦ inr is ];
      each_moment = commits.each_moment;
      cause = commits.cause;
      same_paths = commits.same_paths;
    }

  commits_told : {work : Work} {ids : List (List ℕ)} {old : L} {desk : DeskValue F} {left : Outcome L F} → Commits link folder work ids old desk left
      → Commits link folder_members work ids old (told_desk desk) (told_left left)
  commits_told {work = work} {old = old} {left = left} commits = record {
    answer = told_answer commits.answer;
    commits = slots_told commits.answer commits.commits;
    goes = committed_told work old left commits.answer commits.goes;
  }

  -- ---- what precedes it

  news_told : (work : Work) (now : L) (desk : DeskValue F) (left : Outcome L F) (answer : Result (List (List ℕ)) SessionFault)
      → AfterNews link folder work now desk answer left → AfterNews link folder_members work now (told_desk desk) answer (told_left left)
  news_told work now desk left (Ok ids) goes = commits_told goes
  news_told work now desk left (Err cause) is = stopped_told left is

  sent_told : {work : Work} {old : L} {desk : DeskValue F} {left : Outcome L F} → Sends link folder work old desk left
      → Sends link folder_members work old (told_desk desk) (told_left left)
  sent_told {work = work} {desk = desk} {left = left} goes =
      record { now = goes.now; answer = goes.answer; follows = goes.follows; goes = news_told work goes.now desk left goes.answer goes.goes }

  judged_told : (wishes : Wishes) (user : UserInfo) (planned : List Planned) (now : L) (desk : DeskValue F) (left : Outcome L F)
      (answer : Result (Vec DbReport) Stop) → AfterJudging link folder wishes user planned now desk answer left
      → AfterJudging link folder_members wishes user planned now (told_desk desk) answer (told_left left)
  judged_told wishes user planned now desk left (Ok reports) goes = sent_told goes
  judged_told wishes user planned now desk left (Err cause) is = stopped_told left is

  decided_told : {wishes : Wishes} {learnt : Learnt} {now : L} {desk : DeskValue F} {left : Outcome L F} → Decides link folder wishes learnt now desk left
      → Decides link folder_members wishes learnt now (told_desk desk) (told_left left)
  decided_told {wishes = wishes} {learnt = learnt} {now = now} {desk = desk} {left = left} goes = record {
    planned = goes.planned;
    answer = goes.answer;
    plans = record { seen = goes.plans.seen; plans = goes.plans.plans; judged = goes.plans.judged };
    goes = judged_told wishes learnt.user goes.planned now desk left goes.answer goes.goes;
  }

  learnt_told : (wishes : Wishes) (now : L) (desk : DeskValue F) (left : Outcome L F) (answer : Result Learnt SessionFault)
      → AfterLearning link folder wishes now desk answer left → AfterLearning link folder_members wishes now (told_desk desk) answer (told_left left)
  learnt_told wishes now desk left (Ok learnt) goes = decided_told goes
  learnt_told wishes now desk left (Err cause) is = stopped_told left is

  asked_told : {wishes : Wishes} {old : L} {desk : DeskValue F} {left : Outcome L F} → AsksSession link folder wishes old desk left
      → AsksSession link folder_members wishes old (told_desk desk) (told_left left)
  asked_told {wishes = wishes} {desk = desk} {left = left} asks = record {
    now = asks.now;
    answer = asks.answer;
    follows = asks.follows;
    goes = learnt_told wishes asks.now desk left asks.answer asks.goes;
  }

-- so it is over a port
pub asks_cable : {D : Type 0} (folder : FolderMembers D) {cable : Cable} {wishes : Wishes} {first : LinkValue} {desk : DeskValue D} {left : Outcome LinkValue D}
    → AsksFor cable wishes → AsksSession link_members folder wishes first desk left
    → AsksCable cable desk.slots (folder.contents desk.folder) first left.link (desk_told folder left.folder) left.end
asks_cable folder {wishes = wishes} {desk = desk} asked asks = record {
  wishes = wishes;
  asked = asked;
  desk = told_desk link_members folder desk;
  slots_are = refl;
  held_is = refl;
  session = asked_told link_members folder asks;
}

-- the same over a link that was this, with a folder that told the same
pub asks_over : {cable : Cable} {slots : List SlotValue} {held other : Option FileMap} {first last before behind : LinkValue} {after : FolderTold}
    {answer : Result (Vec DbReport) Stop} → held ≡ other → first ≡ before → last ≡ behind → AsksCable cable slots held first last after answer
    → AsksCable cable slots other before behind after answer
asks_over {cable} {slots} {held} {other} {first} {last} {before} {behind} {after} {answer} same was is asks =
    subst (λ (files : Option FileMap). AsksCable cable slots files before behind after answer) same
    (subst (λ (link : LinkValue). AsksCable cable slots held link behind after answer) was
    (subst (λ (link : LinkValue). AsksCable cable slots held first link after answer) is asks))
