-- Each database is read alike, and a whole session goes alike.
use Rattle.std.proofs.Common.{◌≡◌, ◌∙◌, refl, sym, ap, subst, ℕ, Bool, true, false, List, [], ◌∷◌, map}
use Rattle.std.specs.Prelude.{Option, Some, None, Ok}
use Rattle.hs_folders.specs.declared.folder.Folder.{Ghosts as FolderMembers}
use Rattle.pdb_values.specs.Contents.{ContentValue}
use Rattle.pdb_values.specs.NamedDatabases.{database_of}
use Rattle.pdb_values.specs.declared.user.Marks.{Marks}
use Rattle.pdb_values.specs.declared.head.DbHead.{DbHead}
use Rattle.pdb_values.specs.declared.record.Record.{Record}
use Rattle.pdb_values.specs.declared.user.UserInfo.{UserInfo}
use Rattle.conduit_rules.specs.declared.planned.Plan.{Plan}
use Rattle.desktop_session.specs.Asking.{writes_app, writes_sort}
use Rattle.desktop_session.specs.Greeted.{greets, lists_all}
use Rattle.desktop_session.specs.Inquiries.{Ends, Inquiry, ◌>>=◌}
use Rattle.mirrors.specs.Agreements.{agreed}
use Rattle.session_parts.specs.Inquiries.{each, meets}
use Rattle.session_plan.specs.Partings.{agrees_with}
use Rattle.session_plan.specs.Planning.{ArePlanned}
use Rattle.conduit_rules.specs.declared.view.Seen.{Seen}
use Rattle.palm_device.specs.Devices.{Device}
use Rattle.desk_store.specs.Shelves.{ShelvesValue, marks_of}
use Rattle.desk_store.specs.Views.{DeskValue, marks_in, parted_in, shelves_in}
use Rattle.dlp_commands.specs.DeviceSteps.{DeviceStep}
use Rattle.mirrors.specs.News.{news_of}
use Rattle.session_parts.specs.declared.skip.Skip.{Skip}
use Rattle.session_plan.specs.Blocks.{GivenBlocks}
use Rattle.session_plan.specs.Heads.{made_head}
use Rattle.session_plan.specs.Tasks.{records_of}
use Rattle.session_plan.specs.Users.{begun_user, done_user}
use Rattle.session_plan.specs.declared.planned.Planned.{Planned}
use Rattle.session_plan.specs.declared.job.Job.{Job}
use Rattle.session_plan.specs.declared.wishes.Wishes.{Wishes}
use Rattle.sync_session.specs.Courses.{JudgesPlanned, done_for, jobs_met}
use Rattle.sync_session.specs.Inquiries.{Learnt, fills, finishes, gives_by, gives_made, gives_old, gives_one, learns, learnt_with, purges_by, purges_one, reads_all, reads_by, reads_job, reads_under, sends, writes_block, writes_blocks}
use Rattle.sync_session.specs.Phases.{blocks_at}
use Rattle.foreign_laws.specs.Foreign.{Foreign, ForeignStep, IsForeign, own_heads}
use Rattle.foreign_laws.specs.Alike.{GiveTheSame}
use Rattle.foreign_laws.specs.Endings.{EndsOver}
use Rattle.foreign_laws.specs.Sessions.{EndedWith, EndsBehind, EndsSession, picked}
use Rattle.foreign_laws.specs.Links.{LeadsTo}
use Rattle.std.specs.Global.{Vec}
use Rattle.dlp_commands.specs.declared.link.Link.{Ghosts}
use Rattle.session_parts.specs.declared.outcome.Outcome.{Outcome}
use Rattle.session_parts.specs.declared.report.DbReport.{DbReport}
use Rattle.sync_session.specs.ByReplies.{AsksSession}
use Rattle.foreign_laws.specs.Twins.{EndsAlike, HasTwin}
use Rattle.foreign_laws.proofs.AskTwins.{twin_ends, twin_marks, twin_writes_app, twin_writes_sort}
use Rattle.foreign_laws.proofs.OpenTwins.{makes_alike, opens_alike}
use Rattle.foreign_laws.proofs.PartTwins.{twin_bind, twin_each, twin_end, twin_fast, twin_greets, twin_news, twin_purges, twin_slowly, twin_under}
use Rattle.foreign_laws.proofs.DeviceLists.{own_lists}
use Rattle.foreign_laws.proofs.EndLaws.{ends_parts, ends_then, ok_same}
use Rattle.foreign_laws.proofs.JobTwins.{heads_give_the_same}
use Rattle.foreign_laws.proofs.LinkLaws.{session_ends}
use Rattle.foreign_laws.proofs.ListTwins.{lists_each}
use Rattle.foreign_laws.proofs.StepLaws.{stays_foreign}

twin_reads_under : (fast : Bool) (base : List Record) (handle : ℕ) → HasTwin (reads_under fast base handle) (reads_under fast base 1)
twin_reads_under true base handle = twin_fast handle base
twin_reads_under false base handle = twin_slowly handle

twin_reads_by : (skip : Option Skip) (handheld : Option DbHead) (fast : Bool) (name : List ℕ) (base : List Record)
    → EndsAlike (reads_by skip handheld fast name base)
twin_reads_by (Some skip) handheld fast name base = twin_end (Ok [])
twin_reads_by None None fast name base = twin_end (Ok [])
twin_reads_by None (Some handheld) fast name base = twin_under (opens_alike 0xD0 name) (λ handle. twin_reads_under fast base handle)

pub twin_reads_job : (shelves : ShelvesValue) (job : Job) → EndsAlike (reads_job shelves job)
twin_reads_job shelves job = twin_reads_by job.skip job.handheld job.fast job.name (records_of (database_of job.name shelves.bases))

pub twin_reads_all : {F : Type 0} (wishes : Wishes) (desk : DeskValue F) (user : UserInfo) (heads : List DbHead) → EndsAlike (reads_all wishes desk user heads)
twin_reads_all wishes desk user heads = twin_each (reads_job (shelves_in desk)) (twin_reads_job (shelves_in desk)) [] (jobs_met heads wishes desk user)

-- ---- it gets its news, and loses what goes

module _ (handle : ℕ) where
  twin_block : (writes : ℕ → List ℕ → Inquiry (Unit {0})) → ((bytes : List ℕ) → HasTwin (writes handle bytes) (writes 1 bytes))
      → (block : Option (List ℕ)) → HasTwin (writes_block writes handle block) (writes_block writes 1 block)
  twin_block writes alike None = twin_end (Ok tt)
  twin_block writes alike (Some bytes) = alike bytes

  twin_blocks : (blocks : GivenBlocks) → HasTwin (writes_blocks handle blocks) (writes_blocks 1 blocks)
  twin_blocks blocks =
      twin_bind (twin_block writes_app (twin_writes_app handle) blocks.app) (λ app. twin_block writes_sort (twin_writes_sort handle) blocks.sort)

  pub twin_gives : (blocks : GivenBlocks) (plan : Plan) → HasTwin (fills handle blocks plan) (fills 1 blocks plan)
  twin_gives blocks plan = twin_bind (twin_blocks blocks) (λ written. twin_news handle plan)

twin_old : (name : List ℕ) (plan : Plan) (entries : List (ℕ × ContentValue)) → EndsAlike (gives_old name plan entries)
twin_old name plan [] = twin_end (Ok [])
twin_old name plan (entry ∷ entries) =
    twin_under (opens_alike 0xD0 name) (λ handle. twin_news handle plan)

twin_made : (rows : Option DbHead) (blocks : GivenBlocks) (plan : Plan) → EndsAlike (gives_made rows blocks plan)
twin_made None blocks plan = twin_end (Ok [])
twin_made (Some rows) blocks plan =
    twin_under (makes_alike (made_head rows)) (λ handle. twin_gives handle blocks plan)

twin_gives_by : (skip : Option Skip) (handheld rows : Option DbHead) (blocks : GivenBlocks) (name : List ℕ) (plan : Plan)
    → EndsAlike (gives_by skip handheld rows blocks name plan)
twin_gives_by (Some skip) handheld rows blocks name plan = twin_end (Ok [])
twin_gives_by None (Some handheld) rows blocks name plan = twin_old name plan (news_of plan)
twin_gives_by None None rows blocks name plan = twin_made rows blocks plan

pub twin_gives_one : (shelves : ShelvesValue) (one : Planned) → EndsAlike (gives_one shelves one)
twin_gives_one shelves one = twin_gives_by one.job.skip one.job.handheld one.job.rows (blocks_at shelves one.job.name) one.job.name one.plan

pub twin_sends : (shelves : ShelvesValue) (user : UserInfo) (planned : List Planned) → EndsAlike (sends shelves user planned)
twin_sends shelves user planned =
    twin_bind (twin_marks (begun_user user) 0x40) (λ begun. twin_each (gives_one shelves) (twin_gives_one shelves) [] planned)

twin_purges_by : (skip : Option Skip) (name : List ℕ) (ids : List ℕ) → EndsAlike (purges_by skip name ids)
twin_purges_by (Some skip) name ids = twin_end (Ok tt)
twin_purges_by None name ids = twin_under (opens_alike 0xD0 name) (λ handle. twin_purges handle ids)

pub twin_purges_one : (one : Planned) → EndsAlike (purges_one one)
twin_purges_one one = twin_purges_by one.job.skip one.job.name one.plan.purge.items

pub twin_finishes : (user : UserInfo) (done : Marks) (planned : List Planned) → EndsAlike (finishes user done planned)
twin_finishes user done planned =
    twin_bind (twin_each purges_one twin_purges_one [] planned)
    (λ purged. twin_bind (twin_marks (done_user user done) 0xF0) (λ marked. twin_ends))

-- ---- what is learnt

-- our own device told the same, but for the heads, which it lists in its order
record LearnsAlike {F : Type 0} (wishes : Wishes) (desk : DeskValue F) (learnt : Learnt) (old new : Device) : Type 0 where
  own : List DbHead
  ends : EndsOver DeviceStep (learns wishes desk) old (learnt_with learnt.user own learnt.views) new
  same : GiveTheSame learnt.heads own

learns_alike : {F : Type 0} (wishes : Wishes) (desk : DeskValue F) (old new : Foreign) (learnt : Learnt) → IsForeign old
    → EndsOver ForeignStep (learns wishes desk) old learnt new → LearnsAlike wishes desk learnt old.device new.device
learns_alike wishes desk old new learnt proper ended =
    let marks = marks_of desk.slots in
    let next : UserInfo × List DbHead → Inquiry Learnt =
    λ met. reads_all wishes (picked wishes met.0 desk) met.0 met.1 >>= λ views. Ends (Ok (learnt_with met.0 met.1 views)) in
    let lists : UserInfo → Inquiry (UserInfo × List DbHead) = λ user. lists_all >>= λ heads. Ends (Ok (user, heads)) in
    let met = ends_parts ForeignStep (meets marks wishes.user) next old learnt new ended in
    let greeted = ends_parts ForeignStep (greets marks wishes.user) lists old met.x met.between met.first in
    let user = greeted.x in
    let begun = greeted.between in
    let fine = stays_foreign (greets marks wishes.user) old begun user proper greeted.first in
    let listed = ends_parts ForeignStep lists_all (λ (heads : List DbHead). Ends (Ok (user, heads))) begun met.x met.between greeted.rest in
    let has = lists_each begun listed.between listed.x fine listed.first in
    let is : met.x ≡ (user, listed.x) = sym (ok_same listed.rest.0) in
    let same : met.between ≡ begun = listed.rest.1 ∙ has.same in
    let rest = subst (λ (s : Foreign). EndsOver ForeignStep (next (user, listed.x)) s learnt new) same
    (subst (λ (m : UserInfo × List DbHead). EndsOver ForeignStep (next m) met.between learnt new) is met.rest) in
    let here = picked wishes user desk in
    let read = ends_parts ForeignStep (reads_all wishes here user listed.x)
    (λ (views : List (List Seen)). Ends (Ok (learnt_with user listed.x views))) begun learnt new rest in
    let all : learnt ≡ learnt_with user listed.x read.x = sym (ok_same read.rest.0) in
    let own = own_heads begun.device.databases in
    let give = heads_give_the_same begun listed.between listed.x fine has in
    let greet = (twin_greets marks wishes.user).ends old begun user proper greeted.first in
    let list = ends_then DeviceStep lists_all (λ (heads : List DbHead). Ends (Ok (user, heads))) begun.device own begun.device (user, own) begun.device
    (own_lists begun.device fine.proper) (refl, refl) in
    let meet = ends_then DeviceStep (greets marks wishes.user) lists old.device user begun.device (user, own) begun.device greet list in
    let reads = (twin_reads_all wishes here user listed.x).ends begun read.between read.x fine read.first in
    let jobs = give.jobs (shelves_in here) (agrees_with (agreed user (marks_in here)) (parted_in here)) wishes in
    let reading : EndsOver DeviceStep (reads_all wishes here user own) begun.device read.x read.between.device =
    subst (λ (js : List Job). EndsOver DeviceStep (each (reads_job (shelves_in here)) [] js) begun.device read.x read.between.device) jobs reads in
    let after : new.device ≡ read.between.device = ap (λ (hand : Foreign). hand.device) read.rest.1 in
    let whole : EndsOver DeviceStep (learns wishes desk) old.device (learnt_with user own read.x) new.device =
    ends_then DeviceStep (meets marks wishes.user) next old.device (user, own) begun.device (learnt_with user own read.x) new.device meet
    (ends_then DeviceStep (reads_all wishes here user own) (λ (views : List (List Seen)). Ends (Ok (learnt_with user own views))) begun.device read.x
    read.between.device (learnt_with user own read.x) new.device reading (refl, after)) in
    record {
      own = own;
      ends = subst (λ (l : Learnt). EndsOver DeviceStep (learns wishes desk) old.device (learnt_with l.user own l.views) new.device) (sym all) whole;
      same = subst (λ (l : Learnt). GiveTheSame l.heads own) (sym all) give;
    }

-- ---- a session

behind_alike : {F : Type 0} (folder : FolderMembers F) (wishes : Wishes) (learnt : Learnt) (own : List DbHead) (old new : Foreign) (desk after : DeskValue F)
    → IsForeign old → GiveTheSame learnt.heads own → EndsBehind ForeignStep folder wishes learnt old desk new after
    → EndsBehind DeviceStep folder wishes (learnt_with learnt.user own learnt.views) old.device desk new.device after
behind_alike folder wishes learnt own old new desk after proper same ended =
    let fine = stays_foreign (sends (shelves_in desk) learnt.user ended.planned) old ended.told ended.ids proper ended.news in
    record {
      planned = ended.planned;
      reports = ended.reports;
      judged = record {
        seen = ended.judged.seen;
        plans = subst (λ (js : List Job). ArePlanned (shelves_in desk) (agrees_with (agreed learnt.user (marks_in desk)) (parted_in desk)) js
            (map (λ (one : Planned). one.view) ended.planned) ended.planned)
            (same.jobs (shelves_in desk) (agrees_with (agreed learnt.user (marks_in desk)) (parted_in desk)) wishes) ended.judged.plans;
        judged = subst (λ (n : ℕ). JudgesPlanned desk learnt.user n ended.planned (Ok ended.reports)) same.count ended.judged.judged;
      };
      ids = ended.ids;
      told = ended.told.device;
      news = (twin_sends (shelves_in desk) learnt.user ended.planned).ends old ended.told ended.ids proper ended.news;
      commit = ended.commit;
      ending = (twin_finishes learnt.user (done_for wishes learnt.user desk) ended.planned).ends ended.told new tt fine ended.ending;
    }

pub session_twin : {F : Type 0} (folder : FolderMembers F) (wishes : Wishes) (old new : Foreign) (desk after : DeskValue F) → IsForeign old
    → EndsSession ForeignStep folder wishes old desk new after → EndsSession DeviceStep folder wishes old.device desk new.device after
session_twin folder wishes old new desk after proper ended =
    let learnt = ended.learnt in
    let alike = learns_alike wishes desk old ended.between learnt proper ended.learning in
    record {
      learnt = learnt_with learnt.user alike.own learnt.views;
      between = ended.between.device;
      learning = alike.ends;
      behind = behind_alike folder wishes learnt alike.own ended.between new (picked wishes learnt.user desk) after
          (stays_foreign (learns wishes desk) old ended.between learnt proper ended.learning) alike.same ended.behind;
    }

pub link_twin : {L F : Type 0} (link : Ghosts L) (folder : FolderMembers F) (hand : L → Foreign) (wishes : Wishes) (old : L) (desk : DeskValue F)
    (left : Outcome L F) (reports : Vec DbReport) → LeadsTo link hand → IsForeign (hand old) → link.fault old ≡ None
    → AsksSession link folder wishes old desk left → left.end ≡ Ok reports
    → EndedWith DeviceStep folder wishes (λ (l : L). (hand l).device) old desk left
link_twin link folder hand wishes old desk left reports to proper none asks ok =
    let ended = session_ends link folder hand to left reports ok wishes old desk none asks in
    record {
      after = ended.after;
      same = ended.same;
      ends = session_twin folder wishes (hand old) (hand left.link) desk ended.after proper ended.ends;
    }
