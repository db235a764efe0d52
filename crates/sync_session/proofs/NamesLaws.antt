-- A session names no database but those that its wishes have an action for.
use Rattle.std.proofs.Common.{◌≡◌, ◌++◌, ℕ, Bool, true, false, List, [], ◌∷◌, map, inl, inr, refl, subst, sym, ap}
use Rattle.std.specs.Prelude.{IfSome, Option, None, Some, Result, Ok, Err, is_some}
use Rattle.std.specs.List.{AllByRecursion}
use Rattle.hs_folders.specs.declared.folder.Folder.{Ghosts as FolderMembers}
use Rattle.pdb_values.specs.Contents.{ContentValue}
use Rattle.pdb_values.specs.Databases.{DatabaseValue}
use Rattle.pdb_values.specs.NamedDatabases.{database_of}
use Rattle.pdb_values.specs.declared.head.DbHead.{DbHead}
use Rattle.pdb_values.specs.declared.record.Record.{Record}
use Rattle.pdb_values.specs.declared.user.Marks.{Marks}
use Rattle.pdb_values.specs.declared.user.UserInfo.{UserInfo}
use Rattle.pdb_values.proofs.NamedLaws.{database_of-name}
use Rattle.conduit_rules.specs.declared.action.Action.{Action}
use Rattle.conduit_rules.specs.declared.planned.Plan.{Plan}
use Rattle.dlp_requests.specs.RequestValues.{RequestValue}
use Rattle.dlp_commands.specs.declared.link.Link.{Ghosts}
use Rattle.dlp_commands.specs.Tries.{Try}
use Rattle.desk_store.specs.Shelves.{ShelvesValue, marks_of}
use Rattle.desk_store.specs.Views.{DeskValue, shelves_in}
use Rattle.desk_store.specs.declared.fault.CommitFault.{CommitFault}
use Rattle.desktop_session.specs.declared.fault.SessionFault.{SessionFault}
use Rattle.desktop_session.specs.Asking.{makes, marks, opens, writes_app, writes_sort}
use Rattle.desktop_session.specs.Following.{Follows}
use Rattle.desktop_session.specs.Inquiries.{Inquiry}
use Rattle.mirrors.specs.News.{news_of}
use Rattle.run_words.specs.Actions.{action_for}
use Rattle.session_parts.specs.Inquiries.{each, meets}
use Rattle.session_parts.specs.Naming.{AreSuch, Each, NamesOnly}
use Rattle.session_parts.specs.declared.outcome.Outcome.{Outcome}
use Rattle.session_parts.specs.declared.report.DbReport.{DbReport}
use Rattle.session_parts.specs.declared.skip.Skip.{Skip}
use Rattle.session_parts.specs.declared.stop.Stop.{Stop}
use Rattle.session_parts.proofs.NamingLaws.{each_bind, each_tried, names_each, names_fast, names_meets, names_news, names_purges, names_slowly, names_under, such-append}
use Rattle.session_plan.specs.Blocks.{GivenBlocks}
use Rattle.session_plan.specs.Heads.{made_head}
use Rattle.session_plan.specs.Jobs.{job_of, jobs_of, names_with}
use Rattle.session_plan.specs.Skips.{head_of, reason_by}
use Rattle.session_plan.specs.Tasks.{action_of_word, records_of}
use Rattle.session_plan.specs.Users.{begun_user, done_user}
use Rattle.session_plan.specs.declared.job.Job.{Job}
use Rattle.session_plan.specs.declared.planned.Planned.{Planned}
use Rattle.session_plan.specs.declared.wishes.Wishes.{Wishes}
use Rattle.std.specs.Global.{Vec}
use Rattle.sync_session.specs.ByReplies.{AfterCommit, AfterJudging, AfterLearning, AfterNews, AsksSession, Finishes, Sends, Work}
use Rattle.sync_session.specs.Courses.{jobs_met, picked_for, stopped}
use Rattle.sync_session.specs.Inquiries.{Learnt, fills, finishes, gives_by, gives_made, gives_old, gives_one, learns, purges_by, purges_one, reads_all, reads_by, reads_job, reads_under, sends, writes_block, writes_blocks}
use Rattle.sync_session.specs.Phases.{blocks_at}

-- ---- what holds of each of a list

all_mapped : {X Y : Type 0} (f : X → Y) (P : Y → Type 0) → ((x : X) → P (f x)) → (xs : List X) → AllByRecursion P (map f xs)
all_mapped f P holds [] = tt
all_mapped f P holds (x ∷ xs) = (holds x, all_mapped f P holds xs)

all_behind : {X Y : Type 0} (f : X → Y) (P : Y → Type 0) (xs : List X) → AllByRecursion P (map f xs) → AllByRecursion (λ (x : X). P (f x)) xs
all_behind f P [] all = tt
all_behind f P (x ∷ xs) all = (all.0, all_behind f P xs all.1)

all_weaker : {X : Type 0} (P Q : X → Type 0) → ((x : X) → P x → Q x) → (xs : List X) → AllByRecursion P xs → AllByRecursion Q xs
all_weaker P Q weaker [] all = tt
all_weaker P Q weaker (x ∷ xs) all = (weaker x all.0, all_weaker P Q weaker xs all.1)

-- ---- the databases of a session

-- the wishes have an action for the database of a name
abbrev pub IsActed : Wishes → List ℕ → Type 0
IsActed wishes name = is_some (action_of_word (action_for name wishes.actions.items)) ≡ true

-- one that isn't skipped is such a one, and its rows have its name
pub record IsActedJob (IsName : List ℕ → Type 0) (job : Job) : Type 0 where
  pub acted : job.skip ≡ None → IsName job.name
  pub rows : IfSome job.rows (λ rows. rows.name ≡ job.name)

module _ (heads : List DbHead) (shelves : ShelvesValue) (agree : List ℕ → Bool) (wishes : Wishes) where
  has_action : (action : Option Action) (handheld rows : Option DbHead) (base : Bool) → reason_by action handheld rows base ≡ None → is_some action ≡ true
  has_action None handheld rows base none = absurd cc
  has_action (Some action) handheld rows base none = refl

  has_name : (name : List ℕ) (found : Option DatabaseValue) → database_of name shelves.rows ≡ found → IfSome (head_of found) (λ rows. rows.name ≡ name)
  has_name name None is = tt
  has_name name (Some database) is = database_of-name name shelves.rows database is

  job_acted : (name : List ℕ) → IsActedJob (IsActed wishes) (job_of heads shelves agree wishes name)
  job_acted name = record {
    acted = has_action (action_of_word (action_for name wishes.actions.items)) _ _ _;
    rows = has_name name (database_of name shelves.rows) refl;
  }

  jobs_acted : AllByRecursion (IsActedJob (IsActed wishes)) (jobs_of heads shelves agree wishes)
  unfolding jobs_of
  jobs_acted = all_mapped (job_of heads shelves agree wishes) (IsActedJob (IsActed wishes)) job_acted (names_with heads shelves)

-- ---- what is asked of each

module _ (IsName : List ℕ → Type 0) where
  abbrev Such : RequestValue → Type 0
  Such = NamesOnly IsName

  names_reads : (fast : Bool) (base : List Record) (handle : ℕ) → Each Such (reads_under fast base handle)
  names_reads true base handle = names_fast IsName base handle
  names_reads false base handle = names_slowly IsName handle

  names_job : (shelves : ShelvesValue) (job : Job) → IsActedJob IsName job → Each Such (reads_job shelves job)
  names_job shelves job is = by job.skip job.handheld is.acted
    where
      base : List Record
      base = records_of (database_of job.name shelves.bases)

      by : (skip : Option Skip) (handheld : Option DbHead) → (skip ≡ None → IsName job.name) → Each Such (reads_by skip handheld job.fast job.name base)
      by (Some skip) handheld acted = tt
      by None None acted = tt
      by None (Some handheld) acted =
          names_under IsName (opens 0xD0 job.name) (reads_under job.fast base) ((acted refl, tt), λ reply. tt) (names_reads job.fast base)

  names_block : (writes : ℕ → List ℕ → Inquiry (Unit {0})) (handle : ℕ) (block : Option (List ℕ)) → ((bytes : List ℕ) → Each Such (writes handle bytes))
      → Each Such (writes_block writes handle block)
  names_block writes handle None such = tt
  names_block writes handle (Some bytes) such = such bytes

  names_fill : (handle : ℕ) (blocks : GivenBlocks) (plan : Plan) → Each Such (fills handle blocks plan)
  names_fill handle blocks plan =
      each_bind Such (writes_blocks handle blocks) _
      (each_bind Such (writes_block writes_app handle blocks.app) _ (names_block writes_app handle blocks.app (λ bytes. (tt, λ reply. tt)))
      (λ app. names_block writes_sort handle blocks.sort (λ bytes. (tt, λ reply. tt))))
      (λ written. names_news IsName handle plan)

  names_given : (shelves : ShelvesValue) (one : Planned) → IsActedJob IsName one.job → Each Such (gives_one shelves one)
  names_given shelves one is = by one.job.skip one.job.handheld one.job.rows is.acted is.rows
    where
      blocks : GivenBlocks
      blocks = blocks_at shelves one.job.name

      old : (entries : List (ℕ × ContentValue)) → IsName one.job.name → Each Such (gives_old one.job.name one.plan entries)
      old [] acted = tt
      old (entry ∷ entries) acted =
          names_under IsName (opens 0xD0 one.job.name) _ ((acted, tt), λ reply. tt) (λ handle. names_news IsName handle one.plan)

      made : (rows : Option DbHead) → IfSome rows (λ rows. rows.name ≡ one.job.name) → IsName one.job.name → Each Such (gives_made rows blocks one.plan)
      made None same acted = tt
      made (Some rows) same acted =
          names_under IsName (makes (made_head rows)) (λ handle. fills handle blocks one.plan) ((subst IsName (sym same) acted, tt), λ reply. tt)
          (λ handle. names_fill handle blocks one.plan)

      by : (skip : Option Skip) (handheld rows : Option DbHead) → (skip ≡ None → IsName one.job.name) → IfSome rows (λ rows. rows.name ≡ one.job.name)
          → Each Such (gives_by skip handheld rows blocks one.job.name one.plan)
      by (Some skip) handheld rows acted same = tt
      by None (Some handheld) rows acted same = old (news_of one.plan) (acted refl)
      by None None rows acted same = made rows same (acted refl)

  names_purged : (one : Planned) → IsActedJob IsName one.job → Each Such (purges_one one)
  names_purged one is = by one.job.skip is.acted
    where
      by : (skip : Option Skip) → (skip ≡ None → IsName one.job.name) → Each Such (purges_by skip one.job.name one.plan.purge.items)
      by (Some skip) acted = tt
      by None acted =
          names_under IsName (opens 0xD0 one.job.name) _ ((acted refl, tt), λ reply. tt) (λ handle. names_purges IsName handle one.plan.purge.items)

  -- ---- the three parts

  module _ (planned : List Planned) (all : AllByRecursion (λ (one : Planned). IsActedJob IsName one.job) planned) where
    names_sends : (shelves : ShelvesValue) (user : UserInfo) → Each Such (sends shelves user planned)
    names_sends shelves user =
        each_bind Such (marks (begun_user user) 0x40) _ (tt, λ reply. tt)
        (λ begun. names_each IsName (gives_one shelves) [] planned
        (all_weaker (λ (one : Planned). IsActedJob IsName one.job) (λ (one : Planned). Each Such (gives_one shelves one)) (names_given shelves) planned all))

    names_finishes : (user : UserInfo) (done : Marks) → Each Such (finishes user done planned)
    names_finishes user done =
        each_bind Such (each purges_one [] planned) _ (names_each IsName purges_one [] planned
        (all_weaker (λ (one : Planned). IsActedJob IsName one.job) (λ (one : Planned). Each Such (purges_one one)) names_purged planned all))
        (λ purged. each_bind Such (marks (done_user user done) 0xF0) _ (tt, λ reply. tt) (λ marked. (tt, λ reply. tt)))

names_learns : {F : Type 0} (wishes : Wishes) (desk : DeskValue F) → Each (NamesOnly (IsActed wishes)) (learns wishes desk)
names_learns {F} wishes desk =
    each_bind (NamesOnly (IsActed wishes)) (meets (marks_of desk.slots) wishes.user) _ (names_meets (IsActed wishes) (marks_of desk.slots) wishes.user)
    (λ met. each_bind (NamesOnly (IsActed wishes)) (reads_all wishes (picked met.0) met.0 met.1) _ (readings met.0 met.1) (λ views. tt))
  where
    picked : UserInfo → DeskValue F
    picked user = picked_for (marks_of desk.slots) wishes.user user desk

    readings : (user : UserInfo) (heads : List DbHead) → Each (NamesOnly (IsActed wishes)) (reads_all wishes (picked user) user heads)
    readings user heads =
        names_each (IsActed wishes) (reads_job (shelves_in (picked user))) [] (jobs_met heads wishes (picked user) user)
        (all_weaker (IsActedJob (IsActed wishes)) (λ (job : Job). Each (NamesOnly (IsActed wishes)) (reads_job (shelves_in (picked user)) job))
        (names_job (IsActed wishes) (shelves_in (picked user))) (jobs_met heads wishes (picked user) user) (jobs_acted heads _ _ wishes))

-- ---- the whole

-- what was tried between two moments of a link, and that each request of it is such a one
pub record TriedSuch {L : Type 0} (link : Ghosts L) (IsSuch : RequestValue → Type 0) (old new : L) : Type 0 where
  pub tries : List Try
  pub heard : link.heard old tries new
  pub such : link.fault old ≡ None → AreSuch IsSuch tries

module _ {L : Type 0} {link : Ghosts L} (IsSuch : RequestValue → Type 0) where
  tried_part : {A : Type 0} {asked : Inquiry A} {answer : Result A SessionFault} {old new : L} → Each IsSuch asked → Follows link asked old new answer
      → TriedSuch link IsSuch old new
  tried_part {asked = asked} such goes = record {
    tries = goes.tries;
    heard = goes.heard;
    such = λ fine. each_tried IsSuch asked goes.tries (goes.leads fine).left such (goes.leads fine).after;
  }

  still_fine : {A : Type 0} {asked : Inquiry A} {x : A} {old new : L} → Follows link asked old new (Ok x) → link.fault old ≡ None → link.fault new ≡ None
  still_fine goes fine = elim (goes.leads fine).stands [ inl is ↦ is.1 | inr cut ↦ absurd cut ]

  module _ (heard_more : (a b c : L) (first next : List Try) → link.heard a first b → link.heard b next c → link.heard a (first ++ next) c) where
    tried_then : {A : Type 0} {asked : Inquiry A} {x : A} {old mid new : L} → Each IsSuch asked → Follows link asked old mid (Ok x)
        → TriedSuch link IsSuch mid new → TriedSuch link IsSuch old new
    tried_then {old = old} {mid} {new} such goes next =
        let first = tried_part such goes in
        record {
          tries = first.tries ++ next.tries;
          heard = heard_more old mid new first.tries next.tries first.heard next.heard;
          such = λ fine. such-append IsSuch first.tries next.tries (first.such fine) (next.such (still_fine goes fine));
        }

-- each is for a database that the wishes have an action for
abbrev Acted : Wishes → RequestValue → Type 0
Acted wishes = NamesOnly (IsActed wishes)

-- planned databases are such ones
abbrev AreActed : Wishes → List Planned → Type 0
AreActed wishes planned = AllByRecursion (λ (one : Planned). IsActedJob (IsActed wishes) one.job) planned

stopped_there : {L F : Type 0} {link : Ghosts L} {IsSuch : RequestValue → Type 0} {old at : L} {there : F} {why : Stop} {left : Outcome L F}
    → left ≡ stopped at there why → TriedSuch link IsSuch old at → TriedSuch link IsSuch old left.link
stopped_there {link = link} {IsSuch} {old} is tried =
    subst (λ (end : _). TriedSuch link IsSuch old end) (sym (ap (λ (outcome : Outcome _ _). outcome.link) is)) tried

finish_named : {L F : Type 0} {link : Ghosts L} (wishes : Wishes) (work : Work) {old : L} {there : F} {left : Outcome L F} → AreActed wishes work.planned
    → Finishes link work old there left → TriedSuch link (Acted wishes) old left.link
finish_named wishes work all goes = tried_part (Acted wishes) (names_finishes (IsActed wishes) work.planned all work.user work.done) goes.follows

module _ {L F : Type 0} {link : Ghosts L} {folder : FolderMembers F} (wishes : Wishes) {left : Outcome L F}
    (heard_more : (a b c : L) (first next : List Try) → link.heard a first b → link.heard b next c → link.heard a (first ++ next) c) where
  send_named : {work : Work} {old : L} {desk : DeskValue F} → AreActed wishes work.planned → Sends link folder work old desk left
      → TriedSuch link (Acted wishes) old left.link
  send_named {work} {old} {desk} all goes = by goes.answer goes.follows goes.goes
    where
      asks : Each (Acted wishes) (sends (shelves_in desk) work.user work.planned)
      asks = names_sends (IsActed wishes) work.planned all (shelves_in desk) work.user

      committed : {ids : List (List ℕ)} → Follows link (sends (shelves_in desk) work.user work.planned) old goes.now (Ok ids)
          → (answer : Result (DeskValue F) (CommitFault × F)) → AfterCommit link work goes.now answer left → TriedSuch link (Acted wishes) old left.link
      committed follows (Ok after) end = tried_then (Acted wishes) heard_more asks follows (finish_named wishes work all end)
      committed follows (Err refusal) is = stopped_there is (tried_part (Acted wishes) asks follows)

      by : (answer : Result (List (List ℕ)) SessionFault) → Follows link (sends (shelves_in desk) work.user work.planned) old goes.now answer
          → AfterNews link folder work goes.now desk answer left → TriedSuch link (Acted wishes) old left.link
      by (Ok ids) follows commits = committed follows commits.answer commits.goes
      by (Err cause) follows is = stopped_there is (tried_part (Acted wishes) asks follows)

module _ {L F : Type 0} {link : Ghosts L} (folder : FolderMembers F) (wishes : Wishes) (left : Outcome L F)
    (heard_more : (a b c : L) (first next : List Try) → link.heard a first b → link.heard b next c → link.heard a (first ++ next) c)
    (desk : DeskValue F) where
  judged_named : {learnt : Learnt} {old now : L} (there : DeskValue F) (planned : List Planned) → AreActed wishes planned
      → Follows link (learns wishes desk) old now (Ok learnt) → (answer : Result (Vec DbReport) Stop)
      → AfterJudging link folder wishes learnt.user planned now there answer left → TriedSuch link (Acted wishes) old left.link
  judged_named there planned all follows (Ok reports) goes =
      tried_then (Acted wishes) heard_more (names_learns wishes desk) follows (send_named wishes heard_more all goes)
  judged_named there planned all follows (Err cause) is = stopped_there is (tried_part (Acted wishes) (names_learns wishes desk) follows)

pub session_named : {L F : Type 0} {link : Ghosts L} {folder : FolderMembers F} (wishes : Wishes) {left : Outcome L F}
    (heard_more : (a b c : L) (first next : List Try) → link.heard a first b → link.heard b next c → link.heard a (first ++ next) c)
    {old : L} {desk : DeskValue F} → AsksSession link folder wishes old desk left → TriedSuch link (Acted wishes) old left.link
session_named {link = link} {folder} wishes {left} heard_more {old} {desk} asks = by asks.answer asks.follows asks.goes
  where
    by : (answer : Result Learnt SessionFault) → Follows link (learns wishes desk) old asks.now answer
        → AfterLearning link folder wishes asks.now desk answer left → TriedSuch link (Acted wishes) old left.link
    by (Ok learnt) follows goes =
        judged_named folder wishes left heard_more desk (picked_for (marks_of desk.slots) wishes.user learnt.user desk) goes.planned (all_behind (λ (one : Planned). one.job) (IsActedJob (IsActed wishes)) goes.planned
        (subst (AllByRecursion (IsActedJob (IsActed wishes))) (sym goes.plans.plans.jobs_are) (jobs_acted learnt.heads _ _ wishes))) follows goes.answer
        goes.goes
    by (Err cause) follows is = stopped_there is (tried_part (Acted wishes) (names_learns wishes desk) follows)
