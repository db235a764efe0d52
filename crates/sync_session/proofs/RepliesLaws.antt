-- A session goes by its replies: part by part, and the same without the views that were let go of.
use Rattle.std.proofs.Common.{◌≡◌, ◌++◌, ◌∷◌, ap, inr, refl, subst, List, [], ℕ, map}
use Rattle.std.specs.Global.{Vec}
use Rattle.std.specs.Prelude.{IfOk, Result, Ok, Err, length}
use Rattle.hs_folders.specs.declared.folder.Folder.{Ghosts as FolderMembers}
use Rattle.pdb_values.specs.declared.head.DbHead.{DbHead}
use Rattle.pdb_values.specs.declared.user.Marks.{Marks}
use Rattle.pdb_values.specs.declared.user.UserInfo.{UserInfo}
use Rattle.conduit_rules.specs.declared.view.Seen.{Seen}
use Rattle.dlp_commands.specs.declared.link.Link.{Ghosts}
use Rattle.dlp_commands.specs.Tries.{Try}
use Rattle.desk_store.specs.Shelves.{ShelvesValue, marks_of}
use Rattle.desk_store.specs.Views.{DeskValue, marks_in, parted_in, shelves_in}
use Rattle.desk_store.specs.declared.fault.CommitFault.{CommitFault}
use Rattle.desktop_session.specs.declared.fault.SessionFault.{SessionFault}
use Rattle.desktop_session.specs.declared.fault.SessionFault.TheVariants as session
use Rattle.desktop_session.specs.Answers.{mapped}
use Rattle.desktop_session.specs.Asking.{marks}
use Rattle.desktop_session.specs.Following.{Follows}
use Rattle.desktop_session.specs.Inquiries.{Inquiry, ◌>>=◌}
use Rattle.mirrors.specs.Agreements.{agreed}
use Rattle.mirrors.proofs.PartFollows.{lost_first, then_ends, then_goes, then_made}
use Rattle.session_parts.specs.Inquiries.{each, meets}
use Rattle.session_parts.specs.declared.outcome.Outcome.{Outcome}
use Rattle.session_parts.specs.declared.stop.Stop.{Stop}
use Rattle.session_parts.specs.declared.stop.Stop.TheVariants as stop
use Rattle.session_plan.specs.Partings.{agrees_with}
use Rattle.session_plan.specs.Planning.{ArePlanned}
use Rattle.session_plan.specs.Takes.{taken_entries, taken_slots}
use Rattle.session_plan.specs.Users.{begun_user}
use Rattle.session_plan.specs.declared.planned.Planned.{Planned}
use Rattle.session_plan.specs.declared.wishes.Wishes.{Wishes}
use Rattle.sync_session.specs.ByReplies.{AfterCommit, AfterLearning, AfterNews, AfterReading, AsksSession, Commits, Finishes, GoesOn, Prepares, Sends, Work, planned_seen, work_of}
use Rattle.sync_session.specs.Courses.{JudgesPlanned, done_for, jobs_met, picked_for, reported, stopped}
use Rattle.sync_session.specs.Inquiries.{ends_with, finishes, gives_one, learns, learnt_with, purges_one, reads_all, sends}
use Rattle.sync_session.specs.Unseen.{SameButViews}
use Rattle.sync_session.specs.declared.preparing.Prepared.{Prepared}
use Rattle.sync_session.proofs.ViewLaws.{by_plans, seen_as, taken_entries-seen, taken_slots-seen}

-- ---- the same without the views

module _ {J A : Type 0} (f : J → J) (ask : J → Inquiry A) (same : (job : J) → ask (f job) ≡ ask job) where
  each-map : (answers : List A) (jobs : List J) → each ask answers (map f jobs) ≡ each ask answers jobs
  unfolding each
  each-map answers [] = refl
  each-map answers (job ∷ jobs) = λ k. same job k >>= (λ answer. each-map (answers ++ answer ∷ []) jobs k)

-- with other planned databases
abbrev pub planning : Work → List Planned → Work
planning work planned = record work { planned = planned }

module _ {old new : List Planned} (same : SameButViews old new) where
  sends-same : (shelves : ShelvesValue) (user : UserInfo) → sends shelves user new ≡ sends shelves user old
  sends-same shelves user =
      by_plans (λ planned. sends shelves user planned)
      (λ view planned. ap (λ (news : Inquiry (List (List ℕ))). marks (begun_user user) 0x40 >>= (λ begun. news))
      (each-map (seen_as view) (gives_one shelves) (λ one. refl) [] planned)) old new same

  finishes-same : (user : UserInfo) (done : Marks) → finishes user done new ≡ finishes user done old
  finishes-same user done =
      by_plans (λ planned. finishes user done planned)
      (λ view planned. ap (λ (purged : Inquiry (List (Unit {0}))). purged >>= (λ done_each. ends_with user done))
      (each-map (seen_as view) purges_one (λ one. refl) [] planned)) old new same

  module _ {L F : Type 0} {link : Ghosts L} (work : Work) {left : Outcome L F} where
    finished-same : {before : L} {at : F} → Finishes link (planning work new) before at left → Finishes link (planning work old) before at left
    finished-same {before} goes = record {
      answer = goes.answer;
      follows = subst (λ (asked : Inquiry (Unit {0})). Follows link asked before left.link goes.answer) (finishes-same work.user work.done) goes.follows;
      end_is = goes.end_is;
      same_folder = goes.same_folder;
    }

    committed-same : {folder : FolderMembers F} {ids : List (List ℕ)} {before : L} {desk : DeskValue F} → Commits link folder (planning work new) ids before desk left
        → Commits link folder (planning work old) ids before desk left
    committed-same {folder} {ids} {before} {desk} commits = record {
      answer = commits.answer;
      commits = rw (
        by_plans (λ planned. taken_slots work.done work.user planned ids desk.picked desk.slots)
            (λ view planned. taken_slots-seen view work.done work.user planned ids desk.picked desk.slots) old new same,
        by_plans (λ planned. taken_entries work.done work.user planned ids desk.picked desk.slots)
            (λ view planned. taken_entries-seen view work.done work.user planned ids desk.picked desk.slots) old new same,
      ) at commits.commits;
      goes = by commits.answer commits.goes;
    }
      where
        by : (answer : Result (DeskValue F) (CommitFault × F)) → AfterCommit link (planning work new) before answer left
            → AfterCommit link (planning work old) before answer left
        by (Ok after) goes = finished-same goes
        by (Err refusal) goes = goes

    pub sent-same : {folder : FolderMembers F} {before : L} {desk : DeskValue F} → Sends link folder (planning work new) before desk left
        → Sends link folder (planning work old) before desk left
    sent-same {folder} {before} {desk} goes = record {
      now = goes.now;
      answer = goes.answer;
      follows = subst (λ (asked : Inquiry (List (List ℕ))). Follows link asked before goes.now goes.answer) (sends-same (shelves_in desk) work.user)
          goes.follows;
      goes = by goes.answer goes.goes;
    }
      where
        by : (answer : Result (List (List ℕ)) SessionFault) → AfterNews link folder (planning work new) goes.now desk answer left
            → AfterNews link folder (planning work old) goes.now desk answer left
        by (Ok ids) goes = committed-same goes
        by (Err cause) goes = goes

-- ---- what precedes each write

-- memory ran out behind the last reply
pub follows_lost_then : {L A : Type 0} {link : Ghosts L} {asked : Inquiry A} {x : A} {old new : L} → Follows link asked old new (Ok x)
    → Follows link asked old new (Err session.NoMemory)
follows_lost_then goes = record {
  tries = goes.tries;
  heard = goes.heard;
  leads = λ fine. record { left = (goes.leads fine).left; after = (goes.leads fine).after; stands = inr tt };
  fell = goes.fell;
}

module _ {L F : Type 0} {link : Ghosts L} {wishes : Wishes} {user : UserInfo} {heads : List DbHead} {old new : L} {desk : DeskValue F} where
  -- not all was read
  pub unprepared : {cause : SessionFault} → Follows link (reads_all wishes desk user heads) old new (Err cause)
      → Prepares link wishes user heads old new desk (Err (stop.Session cause))
  unprepared {cause} goes = record { views = Err cause; follows = goes; goes = refl }

  -- all was read and planned, and then judged
  pub prepared_by : (planned : Vec Planned) {answer : Result Prepared Stop}
      → Follows link (reads_all wishes desk user heads) old new (Ok (planned_seen planned.items))
      → ArePlanned (shelves_in desk) (agrees_with (agreed user (marks_in desk)) (parted_in desk)) (jobs_met heads wishes desk user)
      (map (λ (one : Planned). one.view) planned.items) planned.items
      → JudgesPlanned desk user (length heads) planned.items (reported answer) → IfOk answer (λ prepared. prepared.planned ≡ planned)
      → Prepares link wishes user heads old new desk answer
  prepared_by planned goes plans judged same = record {
    views = Ok (planned_seen planned.items);
    follows = goes;
    goes = (planned, record { seen = refl; plans = plans; judged = judged }, same);
  }

-- ---- once both sides have met

-- what precedes each write was done, or not all of it
abbrev pub AfterPreparing : {L F : Type 0} → Ghosts L → FolderMembers F → UserInfo → Marks → L → DeskValue F → Result Prepared Stop → Outcome L F → Type 0
AfterPreparing link folder user done now desk (Ok prepared) left = Sends link folder (work_of user done prepared) now desk left
AfterPreparing link folder user done now desk (Err cause) left = left ≡ stopped now desk.folder cause

-- the desktop whose slot for the handheld is picked
abbrev picked : {F : Type 0} → Wishes → UserInfo → DeskValue F → DeskValue F
picked wishes user desk = picked_for (marks_of desk.slots) wishes.user user desk

module _ {L F : Type 0} (link : Ghosts L) (folder : FolderMembers F) (wishes : Wishes) (user : UserInfo) (heads : List DbHead) (now : L)
    (desk : DeskValue F) (left : Outcome L F) where
  learnt_by : (views : Result (List (List Seen)) SessionFault) (answer : Result Prepared Stop)
      → AfterReading wishes user heads (picked wishes user desk) views answer
      → AfterPreparing link folder user (done_for wishes user (picked wishes user desk)) now (picked wishes user desk) answer left
      → AfterLearning link folder wishes now desk (mapped (learnt_with user heads) views) left
  learnt_by (Ok views) (Ok prepared) reads goes = record {
    planned = reads.0.items;
    answer = Ok prepared.reports;
    plans = reads.1;
    goes = rw reads.2 at goes;
  }
  learnt_by (Ok views) (Err cause) reads goes = record { planned = reads.0.items; answer = Err cause; plans = reads.1; goes = goes }
  learnt_by (Err cause) (Ok prepared) is goes = absurd cc
  learnt_by (Err cause) (Err other) is goes =
      let same : other ≡ stop.Session cause = cc in
      subst (λ (why : Stop). left ≡ stopped now desk.folder why) same goes

pub went_on : {L F : Type 0} {link : Ghosts L} {folder : FolderMembers F} {wishes : Wishes} {user : UserInfo} {heads : List DbHead} {old now : L}
    {desk : DeskValue F} {left : Outcome L F} {answer : Result Prepared Stop} → Prepares link wishes user heads old now (picked wishes user desk) answer
    → AfterPreparing link folder user (done_for wishes user (picked wishes user desk)) now (picked wishes user desk) answer left
    → GoesOn link folder wishes user heads old desk left
went_on {link = link} {folder} {wishes} {user} {heads} {old} {now} {desk} {left} {answer} prepares goes = record {
  now = now;
  answer = prepares.views;
  follows = prepares.follows;
  goes = learnt_by link folder wishes user heads now desk left prepares.views answer prepares.goes goes;
}

-- ---- the whole

module _ {L F : Type 0} {link : Ghosts L} {folder : FolderMembers F} {wishes : Wishes} {old : L} {desk : DeskValue F} {left : Outcome L F}
    (heard_none : (a : L) → link.heard a [] a) where
  -- memory ran out before anything was asked
  pub asked_nothing : left ≡ stopped old desk.folder (stop.Session session.NoMemory) → AsksSession link folder wishes old desk left
  asked_nothing is = record { now = old; answer = Err session.NoMemory; follows = lost_first heard_none (learns wishes desk) old; goes = is }

  module _ (heard_more : (a b c : L) (first next : List Try) → link.heard a first b → link.heard b next c → link.heard a (first ++ next) c)
      {now : L} where
    pub asked_unmet : {cause : SessionFault} → Follows link (meets (marks_of desk.slots) wishes.user) old now (Err cause)
        → left ≡ stopped now desk.folder (stop.Session cause) → AsksSession link folder wishes old desk left
    asked_unmet {cause} follows is = record { now = now; answer = Err cause; follows = then_ends heard_none heard_more _ follows; goes = is }

    pub asked_all : {user : UserInfo} {heads : List DbHead} → Follows link (meets (marks_of desk.slots) wishes.user) old now (Ok (user, heads))
        → GoesOn link folder wishes user heads now desk left → AsksSession link folder wishes old desk left
    asked_all {user} {heads} follows goes = record {
      now = goes.now;
      answer = mapped (learnt_with user heads) goes.answer;
      follows = then_goes heard_none heard_more _ follows (then_made heard_none heard_more (learnt_with user heads) goes.answer goes.follows);
      goes = goes.goes;
    }
