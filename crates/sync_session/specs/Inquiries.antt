-- What a session asks, by the replies so far: of one database after another, in each of its three
-- parts.
use Rattle.std.specs.Prelude.{ℕ, Bool, true, false, List, [], ◌∷◌, map, Option, None, Some, Ok}
use Rattle.pdb_values.specs.Contents.{ContentValue}
use Rattle.pdb_values.specs.NamedDatabases.{database_of}
use Rattle.pdb_values.specs.declared.head.DbHead.{DbHead}
use Rattle.pdb_values.specs.declared.record.Record.{Record}
use Rattle.pdb_values.specs.declared.user.Marks.{Marks}
use Rattle.pdb_values.specs.declared.user.UserInfo.{UserInfo}
use Rattle.conduit_rules.specs.declared.planned.Plan.{Plan}
use Rattle.conduit_rules.specs.declared.view.Seen.{Seen}
use Rattle.conduit_rules.specs.declared.view.View.{View}
use Rattle.desk_store.specs.Shelves.{ShelvesValue, marks_of}
use Rattle.desk_store.specs.Views.{DeskValue, shelves_in}
use Rattle.desktop_session.specs.Asking.{ends, makes, marks, opens, writes_app, writes_sort}
use Rattle.desktop_session.specs.Inquiries.{Ends, Inquiry, ◌>>=◌}
use Rattle.mirrors.specs.News.{news_of}
use Rattle.mirrors.specs.ReadInquiries.{reads_fast, reads_slowly}
use Rattle.mirrors.specs.WriteInquiries.{purges, sends_news}
use Rattle.session_parts.specs.Inquiries.{each, meets, under}
use Rattle.session_parts.specs.declared.skip.Skip.{Skip}
use Rattle.session_plan.specs.Blocks.{GivenBlocks}
use Rattle.session_plan.specs.Heads.{made_head}
use Rattle.session_plan.specs.Tasks.{records_of}
use Rattle.session_plan.specs.Users.{begun_user, done_user}
use Rattle.session_plan.specs.declared.job.Job.{Job}
use Rattle.session_plan.specs.declared.planned.Planned.{Planned}
use Rattle.session_plan.specs.declared.wishes.Wishes.{Wishes}
use Rattle.sync_session.specs.Courses.{jobs_met, picked_for}
use Rattle.sync_session.specs.Phases.{blocks_at}

-- ---- a database is read

-- once it is open: what changed since the base, or every record
abbrev pub reads_under : Bool → List Record → ℕ → Inquiry (List Seen)
reads_under true base handle = reads_fast base handle
reads_under false base handle = reads_slowly handle

-- what was seen then, of each
abbrev pub each_seen : List View → List (List Seen)
each_seen views = map (λ (view : View). view.seen.items) views

-- what is skipped or what the handheld lacks is not opened
abbrev pub reads_by : Option Skip → Option DbHead → Bool → List ℕ → List Record
    → Inquiry (List Seen)
reads_by (Some skip) handheld fast name base = Ends (Ok [])
reads_by None None fast name base = Ends (Ok [])
reads_by None (Some handheld) fast name base =
    under (opens 0xD0 name) (reads_under fast base)

-- since the base rows that these shelves have of it
abbrev pub reads_job : ShelvesValue → Job → Inquiry (List Seen)
reads_job shelves job =
    reads_by job.skip job.handheld job.fast job.name
    (records_of (database_of job.name shelves.bases))

-- ---- it gets its news

-- a block, where there is one
abbrev pub writes_block : (ℕ → List ℕ → Inquiry (Unit {0})) → ℕ → Option (List ℕ)
    → Inquiry (Unit {0})
writes_block writes handle None = Ends (Ok tt)
writes_block writes handle (Some bytes) = writes handle bytes

-- the app block, and then the sort block
abbrev pub writes_blocks : ℕ → GivenBlocks → Inquiry (Unit {0})
writes_blocks handle blocks = do
  app ← writes_block writes_app handle blocks.app
  writes_block writes_sort handle blocks.sort

-- both, and then what its plan says
abbrev pub fills : ℕ → GivenBlocks → Plan → Inquiry (List ℕ)
fills handle blocks plan = do
  written ← writes_blocks handle blocks
  sends_news handle plan

-- one that the handheld has is opened where there is something to put
abbrev pub gives_old : List ℕ → Plan → List (ℕ × ContentValue) → Inquiry (List ℕ)
gives_old name plan [] = Ends (Ok [])
gives_old name plan (entry ∷ entries) = under (opens 0xD0 name) (λ handle. sends_news handle plan)

-- one that it lacks is made by the head of the desktop's rows, where there are some
abbrev pub gives_made : Option DbHead → GivenBlocks → Plan → Inquiry (List ℕ)
gives_made None blocks plan = Ends (Ok [])
gives_made (Some rows) blocks plan =
    under (makes (made_head rows)) (λ handle. fills handle blocks plan)

-- one that is skipped gets nothing
abbrev pub gives_by : Option Skip → Option DbHead → Option DbHead → GivenBlocks → List ℕ → Plan
    → Inquiry (List ℕ)
gives_by (Some skip) handheld rows blocks name plan = Ends (Ok [])
gives_by None (Some handheld) rows blocks name plan = gives_old name plan (news_of plan)
gives_by None None rows blocks name plan = gives_made rows blocks plan

-- with the blocks that these shelves have of it; the answer is the ids of its new records
abbrev pub gives_one : ShelvesValue → Planned → Inquiry (List ℕ)
gives_one shelves one =
    gives_by one.job.skip one.job.handheld one.job.rows (blocks_at shelves one.job.name) one.job.name
    one.plan

-- ---- it loses what goes

abbrev pub purges_by : Option Skip → List ℕ → List ℕ → Inquiry (Unit {0})
purges_by (Some skip) name ids = Ends (Ok tt)
purges_by None name ids = under (opens 0xD0 name) (λ handle. purges handle ids)

abbrev pub purges_one : Planned → Inquiry (Unit {0})
purges_one one = purges_by one.job.skip one.job.name one.plan.purge.items

-- ---- the three parts of a session

-- what the desktop learns before it writes: the user, the heads of the databases, and what is seen
-- of each that is read
pub record Learnt : Type 0 where
  pub user : UserInfo
  pub heads : List DbHead
  pub views : List (List Seen)

abbrev pub learnt_with : UserInfo → List DbHead → List (List Seen) → Learnt
learnt_with user heads views = record { user = user; heads = heads; views = views }

-- the databases of the desktop's picked slot are read, one after another
abbrev pub reads_all : {F : Type 0} → Wishes → DeskValue F → UserInfo → List DbHead
    → Inquiry (List (List Seen))
reads_all wishes desk user heads =
    each (reads_job (shelves_in desk)) [] (jobs_met heads wishes desk user)

-- both sides meet, and each database is read
abbrev pub learns : {F : Type 0} → Wishes → DeskValue F → Inquiry Learnt
learns wishes desk = do
  met ← meets (marks_of desk.slots) wishes.user
  views ← reads_all wishes (picked_for (marks_of desk.slots) wishes.user met.0 desk) met.0 met.1
  Ends (Ok (learnt_with met.0 met.1 views))

-- the handheld is marked as one whose session is under way, and gets its news
abbrev pub sends : ShelvesValue → UserInfo → List Planned → Inquiry (List (List ℕ))
sends shelves user planned = do
  begun ← marks (begun_user user) 0x40
  each (gives_one shelves) [] planned

-- it is marked as one whose session is done, and that ends
abbrev pub ends_with : UserInfo → Marks → Inquiry (Unit {0})
ends_with user done = do
  marked ← marks (done_user user done) 0xF0
  ends

-- behind the desktop's commit each database loses what goes, and then the session ends
abbrev pub finishes : UserInfo → Marks → List Planned → Inquiry (Unit {0})
finishes user done planned = do
  purged ← each purges_one [] planned
  ends_with user done
