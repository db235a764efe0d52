-- By which planned database a session would cost the desktop live rows first.
use Rattle.std.specs.Prelude.{ℕ, Bool, ◌&&◌, ◌||◌, ◌++◌, List, find, is_none, Option}
use Rattle.std.specs.List.{list_any}
use Rattle.std.specs.Option.{option_map}
use Rattle.pdb_values.specs.NamedDatabases.{database_of}
use Rattle.pdb_values.specs.declared.record.Record.{Record}
use Rattle.pdb_values.specs.declared.user.Marks.{Marks}
use Rattle.pdb_values.specs.declared.user.UserInfo.{UserInfo}
use Rattle.folder_files.specs.Partings.{parting_of}
use Rattle.folder_files.specs.declared.parted.Parted.{Parted}
use Rattle.desk_store.specs.Shelves.{ShelvesValue}
use Rattle.session_plan.specs.declared.planned.Planned.{Planned}
use Rattle.session_plan.specs.Choosing.{action_or_sync, base_rows_by, is_sync}
use Rattle.session_plan.specs.Losses.{has_lost_all, is_lost, is_stranger_to}
use Rattle.session_plan.specs.Partings.{is_unmet}
use Rattle.session_plan.specs.PlannedLimits.{archived_under}
use Rattle.session_plan.specs.Tasks.{records_of}

-- the base rows of a planned database
abbrev pub base_under : ShelvesValue → Planned → List Record
base_under shelves one =
    base_rows_by (database_of one.job.name shelves.rows) (database_of one.job.name shelves.bases)

-- the handheld is a stranger to the slot, or it lost the database
abbrev pub may_lose_planned : UserInfo → Marks → List Parted → ShelvesValue → Planned → Bool
may_lose_planned handheld slot parted shelves one =
    (is_stranger_to handheld slot || is_unmet (parting_of one.job.name parted))
    || has_lost_all (base_under shelves one) one.view.seen.items

-- a plan leaves the content of some live row of the desktop neither live nor archived, behind it
abbrev pub loses_planned : ShelvesValue → Planned → Bool
loses_planned shelves one =
    list_any
    (is_lost one.plan.kept.items one.plan.adds.items
    (archived_under shelves one ++ one.plan.archive.items))
    (records_of (database_of one.job.name shelves.rows))

-- it may, it does, and the database isn't skipped and goes by both sides
abbrev pub is_loss_planned : UserInfo → Marks → List Parted → ShelvesValue → Planned → Bool
is_loss_planned handheld slot parted shelves one =
    is_none one.job.skip
    && (is_sync (action_or_sync one.job.action)
    && (may_lose_planned handheld slot parted shelves one && loses_planned shelves one))

-- the first of them
unfoldable pub loss_planned : UserInfo → Marks → List Parted → ShelvesValue → List Planned
    → Option (List ℕ)
loss_planned handheld slot parted shelves planned =
    option_map (λ (one : Planned). one.job.name)
    (find (is_loss_planned handheld slot parted shelves) planned)
