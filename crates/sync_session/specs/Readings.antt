-- How each database of a session is read, under its handle, and what is seen of it.
use Rattle.std.specs.Prelude.{◌≡◌, ℕ, Bool, true, false, List, [], ◌∷◌, Option, None, Some, IfSome}
use Rattle.pdb_values.specs.NamedDatabases.{database_of}
use Rattle.pdb_values.specs.declared.head.DbHead.{DbHead}
use Rattle.pdb_values.specs.declared.record.Record.{Record}
use Rattle.dlp_commands.specs.Talks.{Talk}
use Rattle.conduit_rules.specs.declared.view.Seen.{Seen}
use Rattle.conduit_rules.specs.declared.view.View.{View}
use Rattle.desk_store.specs.Shelves.{ShelvesValue}
use Rattle.desktop_session.specs.Acts.{Act}
use Rattle.desktop_session.specs.Requests.{opening}
use Rattle.desktop_session.specs.Says.{saying}
use Rattle.mirrors.specs.Reads.{entries_of, slow_reads, slow_shown}
use Rattle.mirrors.specs.FastReads.{fast_reads_of, fast_shown}
use Rattle.session_plan.specs.declared.job.Job.{Job}
use Rattle.session_parts.specs.declared.skip.Skip.{Skip}
use Rattle.session_parts.specs.Spans.{nothing, within}
use Rattle.session_plan.specs.Tasks.{records_of}

-- what is said once a database is open: all records, or what changed since the base
abbrev pub reads_by : Bool → List Record → Option Talk → ℕ → List ℕ → List Act
reads_by true base told handle given = fast_reads_of base handle told
reads_by false base told handle given = slow_reads handle (entries_of told handle)

-- what is said of a database of this name, which is opened
abbrev pub name_reads : Bool → List ℕ → List Record → Option Talk → ℕ → List ℕ → List Act
name_reads fast name base told =
    within (opening name) (reads_by fast base (saying (opening name ∷ []) told))

-- what is skipped or what the handheld lacks is not opened
abbrev pub opened_reads : Option Skip → Option DbHead → Bool → List ℕ → List Record → Option Talk
    → ℕ → List ℕ → List Act
opened_reads (Some skip) handheld fast name base told = nothing
opened_reads None None fast name base told = nothing
opened_reads None (Some handheld) fast name base told =
    name_reads fast name base told

unfoldable pub reads_under : ShelvesValue → Option Talk → Job → ℕ → List ℕ → List Act
reads_under shelves told job =
    opened_reads job.skip job.handheld job.fast job.name
    (records_of (database_of job.name shelves.bases)) told

-- what is seen then, where a device is told
abbrev pub shown_by : Bool → List Record → Option Talk → ℕ → List Seen → Type 0
shown_by true base told handle seen =
    IfSome told (λ talk. seen ≡ fast_shown base handle talk.device)
shown_by false base told handle seen = IfSome told (λ talk. seen ≡ slow_shown talk.device handle)

-- once it was opened, as its view has it
abbrev pub ShowsName : Bool → List ℕ → List Record → Option Talk → ℕ → List ℕ → View → Type 0
ShowsName fast name base told =
    λ handle given view.
    shown_by fast base (saying (opening name ∷ []) told) handle view.seen.items

abbrev pub opened_shown : Option Skip → Option DbHead → Bool → List ℕ → List Record → Option Talk
    → ℕ → List Seen → Type 0
opened_shown (Some skip) handheld fast name base told handle seen = seen ≡ []
opened_shown None None fast name base told handle seen = seen ≡ []
opened_shown None (Some handheld) fast name base told handle seen =
    shown_by fast base (saying (opening name ∷ []) told) handle seen

unfoldable pub shown_under : ShelvesValue → Option Talk → Job → ℕ → List ℕ → List Seen → Type 0
shown_under shelves told job handle given seen =
    opened_shown job.skip job.handheld job.fast job.name
    (records_of (database_of job.name shelves.bases)) told handle seen

-- as its view has it
abbrev pub ShowsEach : ShelvesValue → Option Talk → Job → ℕ → List ℕ → View → Type 0
ShowsEach shelves =
    λ told job handle given view. shown_under shelves told job handle given view.seen.items
