-- How a database is read: under handle 1, since one is open at a time.
use Rattle.std.specs.Prelude.{ℕ, List, [], ◌∷◌, ◌++◌, length, if◌then◌else◌, is_none}
use Rattle.desktop_session.specs.Acts.{Act}
use Rattle.desktop_session.specs.Requests.{opening, closing}
use Rattle.mirrors.specs.FastReads.{fast_asks}
use Rattle.mirrors.specs.Reads.{slow_reads}
use Rattle.session_plan.specs.Tasks.{Meeting, Task, records_of}
use Rattle.session_plan.specs.Choosing.{base_rows, is_fast}

-- fast, by the base rows, or slow
abbrev pub reads : Meeting → Task → List Act
reads meeting task =
    if is_fast meeting task then fast_asks (base_rows task) 1 (records_of task.handheld)
    else slow_reads 1 (length (records_of task.handheld))

-- a database is opened, and closed at the end
abbrev pub opened : List ℕ → List Act → List Act
opened name acts = opening name ∷ (acts ++ closing 1 ∷ [])

-- what the handheld lacks is not read
unfoldable pub read_acts : Meeting → Task → List Act
read_acts meeting task = if is_none task.handheld then [] else opened task.name (reads meeting task)
