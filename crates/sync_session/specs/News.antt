-- What a handheld gets, and what it loses then: under handle 1, since one database is open at a
-- time.
use Rattle.std.specs.Prelude.{ℕ, List, [], ◌∷◌, ◌++◌, length, replicate, take, drop, Option, Some, None}
use Rattle.pdb_values.specs.Contents.{ContentValue}
use Rattle.pdb_values.specs.Databases.{DatabaseValue}
use Rattle.conduit_rules.specs.Plans.{replaced_rows, purged_ids}
use Rattle.desktop_session.specs.Acts.{Act}
use Rattle.desktop_session.specs.Requests.{making, closing, writing_app, writing_sort}
use Rattle.mirrors.specs.News.{as_new, purge_writes, puts}
use Rattle.session_plan.specs.Blocks.{GivenBlocks, blocks_for}
use Rattle.session_plan.specs.Tasks.{Meeting, Task}
use Rattle.session_plan.specs.Choosing.{add_count, choice, seen_held}
use Rattle.session_plan.specs.Heads.{made_head}
use Rattle.sync_session.specs.Reads.{opened}

-- ---- news: replacements in rising ids, then the adds under the ids that they got

abbrev pub replaced : Meeting → Task → List (ℕ × ContentValue)
replaced meeting task = replaced_rows (choice meeting task).keep (seen_held meeting task)

abbrev pub writes : Meeting → Task → List ℕ → List Act
writes meeting task given =
    puts 1 (replicate (length (replaced meeting task)) 0 ++ given)
    (replaced meeting task ++ as_new (choice meeting task).adds)

-- a block is written
abbrev pub block_act : (ℕ → List ℕ → Act) → ℕ → Option (List ℕ) → List Act
block_act writing handle None = []
block_act writing handle (Some bytes) = writing handle bytes ∷ []

-- the app block, and then the sort block
unfoldable pub block_acts : ℕ → GivenBlocks → List Act
block_acts handle blocks =
    block_act writing_app handle blocks.app ++ block_act writing_sort handle blocks.sort

-- those that a database gets
abbrev pub task_blocks : Task → List Act
task_blocks task = block_acts 1 (blocks_for task.handheld task.rows)

-- a database that the handheld lacks is made by the head of the desktop's rows, also where nothing
-- is to be written
abbrev pub made : Option DatabaseValue → List Act → List Act
made None acts = []
made (Some rows) acts = making (made_head rows.head) ∷ (acts ++ closing 1 ∷ [])

-- one that it has is opened where something is to be written
abbrev pub opened_for : List ℕ → List Act → List Act
opened_for name [] = []
opened_for name (act ∷ acts) = opened name (act ∷ acts)

abbrev pub news_by : Option DatabaseValue → Task → List Act → List Act
news_by None task acts = made task.rows acts
news_by (Some handheld) task acts = opened_for task.name acts

-- the blocks, and then the records
unfoldable pub news_acts : Meeting → Task → List ℕ → List Act
news_acts meeting task given =
    news_by task.handheld task (task_blocks task ++ writes meeting task given)

-- the ids are dealt out to the databases in order
unfoldable pub all_news : Meeting → List Task → List ℕ → List Act
all_news meeting [] given = []
all_news meeting (task ∷ later) given =
    news_acts meeting task (take (add_count meeting task) given)
    ++ all_news meeting later (drop (add_count meeting task) given)

-- ---- purges: what isn't kept goes one by one, then what has the delete bit, and all counts as
-- unchanged

unfoldable pub purge_acts : Meeting → Task → List Act
purge_acts meeting task =
    opened task.name
    (purge_writes 1 (purged_ids (choice meeting task).keep (seen_held meeting task)))
