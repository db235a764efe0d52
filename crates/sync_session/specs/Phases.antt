-- What a session says of each of its databases, in one phase after another.
use Rattle.std.specs.Prelude.{◌≡◌, ℕ, List, [], ◌∷◌, ◌++◌, Option, None, Some, IfOk, Result}
use Rattle.std.specs.Global.{Vec}
use Rattle.pdb_values.specs.Contents.{ContentValue}
use Rattle.pdb_values.specs.NamedDatabases.{database_of}
use Rattle.pdb_values.specs.declared.head.DbHead.{DbHead}
use Rattle.dlp_commands.specs.declared.link.LinkFault.{LinkFault}
use Rattle.dlp_commands.specs.Talks.{Talk}
use Rattle.desktop_session.specs.declared.fault.SessionFault.{SessionFault}
use Rattle.desktop_session.specs.Acts.{Act}
use Rattle.conduit_rules.specs.declared.planned.Plan.{Plan}
use Rattle.desktop_session.specs.Requests.{making, opening}
use Rattle.desktop_session.specs.Says.{saying}
use Rattle.desktop_session.specs.Sessions.{SessionValue}
use Rattle.mirrors.specs.Asks.{Asks}
use Rattle.mirrors.specs.News.{news_of, purge_writes, puts}
use Rattle.desk_store.specs.Shelves.{ShelvesValue}
use Rattle.session_plan.specs.Blocks.{GivenBlocks, blocks_of}
use Rattle.session_plan.specs.declared.planned.Planned.{Planned}
use Rattle.session_parts.specs.declared.skip.Skip.{Skip}
use Rattle.sync_session.specs.Gains.{AreGained}
use Rattle.sync_session.specs.News.{block_acts}
use Rattle.session_plan.specs.Heads.{made_head}
use Rattle.session_parts.specs.Spans.{nothing, within}

-- a database that an act opens or makes gets what its plan says
abbrev pub news_within : Act → Plan → ℕ → List ℕ → List Act
news_within one plan = within one (λ handle given. puts handle given (news_of plan))

-- the ids that its new records got, by what was told before that act
abbrev pub GainsIds : Act → Option Talk → Plan → ℕ → List ℕ → Vec ℕ → Type 0
GainsIds one told plan =
    λ handle given ids. AreGained (saying (one ∷ []) told) plan handle given ids.items

-- what a database that the handheld has gets: it is opened where there is something
abbrev pub opened_news : List ℕ → List (ℕ × ContentValue) → ℕ → List ℕ → List Act
opened_news name [] = nothing
opened_news name (entry ∷ entries) =
    within (opening name) (λ handle given. puts handle given (entry ∷ entries))

-- one that is made by this head gets its blocks, and then what is put
abbrev pub made_within : DbHead → GivenBlocks → List (ℕ × ContentValue) → ℕ → List ℕ → List Act
made_within head blocks entries =
    within (making head) (λ handle given. block_acts handle blocks ++ puts handle given entries)

-- A session wrote these blocks into a database that it had just made, and then put what its plan
-- says, where its new records got some ids; or it stopped on the way.
pub record Fills {L : Type 0} (talk : L → Option Talk) (since : L → L → Type 0)
    (fault : L → Option LinkFault) (downs : L → ℕ) (handle : ℕ) (blocks : GivenBlocks) (plan : Plan)
    (old new : SessionValue L) (answer : Result (Vec ℕ) SessionFault) : Type 0 where
  pub given : List ℕ
  pub asks : Asks talk since fault downs
      (block_acts handle blocks ++ puts handle given (news_of plan)) old new answer
  pub said : IfOk answer
      (λ ids. AreGained (saying (block_acts handle blocks) (talk old.link)) plan handle given
      ids.items)

-- one that it lacks is made, also where there is nothing
abbrev pub made_news : Option DbHead → GivenBlocks → List (ℕ × ContentValue) → ℕ → List ℕ
    → List Act
made_news None blocks entries = nothing
made_news (Some rows) blocks entries = made_within (made_head rows) blocks entries

-- the ids that the new records of one that was made got, by what was told before that
abbrev pub GainsMade : DbHead → GivenBlocks → Option Talk → Plan → ℕ → List ℕ → List ℕ → Type 0
GainsMade head blocks told plan handle given ids =
    AreGained (saying (making head ∷ block_acts handle blocks) told) plan handle given ids

-- one that is skipped gets nothing
abbrev pub news_by : Option Skip → Option DbHead → Option DbHead → GivenBlocks → List ℕ
    → List (ℕ × ContentValue) → ℕ → List ℕ → List Act
news_by (Some skip) handheld rows blocks name entries = nothing
news_by None None rows blocks name entries = made_news rows blocks entries
news_by None (Some handheld) rows blocks name entries = opened_news name entries

-- the blocks of the desktop's rows of a name
abbrev pub blocks_at : ShelvesValue → List ℕ → GivenBlocks
blocks_at shelves name = blocks_of (database_of name shelves.rows)

-- what a database gets before the desktop commits
unfoldable pub news_under : ShelvesValue → Option Talk → Planned → ℕ → List ℕ → List Act
news_under shelves told one =
    news_by one.job.skip one.job.handheld one.job.rows (blocks_at shelves one.job.name) one.job.name
    (news_of one.plan)

-- what it loses then, unless it is skipped
abbrev pub purges_by : Option Skip → List ℕ → List ℕ → ℕ → List ℕ → List Act
purges_by (Some skip) name ids = nothing
purges_by None name ids = within (opening name) (λ handle given. purge_writes handle ids)

unfoldable pub purges_under : Option Talk → Planned → ℕ → List ℕ → List Act
purges_under told one = purges_by one.job.skip one.job.name one.plan.purge.items

-- the ids that its new records got, once it was opened or made; none where the handheld doesn't get
-- it
abbrev pub gained_by : Option Skip → Option DbHead → Option DbHead → GivenBlocks → List ℕ → Plan
    → Option Talk → ℕ → List ℕ → List ℕ → Type 0
gained_by (Some skip) handheld rows blocks name plan told handle given ids = ids ≡ []
gained_by None (Some handheld) rows blocks name plan told handle given ids =
    AreGained (saying (opening name ∷ []) told) plan handle given ids
gained_by None None (Some rows) blocks name plan told handle given ids =
    GainsMade (made_head rows) blocks told plan handle given ids
gained_by None None None blocks name plan told handle given ids = ids ≡ []

unfoldable pub gained : ShelvesValue → Option Talk → Planned → ℕ → List ℕ → List ℕ → Type 0
gained shelves told one handle given ids =
    gained_by one.job.skip one.job.handheld one.job.rows (blocks_at shelves one.job.name)
    one.job.name one.plan told handle given ids

-- they were answered
abbrev pub GainsEach : ShelvesValue → Option Talk → Planned → ℕ → List ℕ → Vec ℕ → Type 0
GainsEach shelves = λ told one handle given ids. gained shelves told one handle given ids.items
