-- The table of what becomes of a record that both sides had after the last synchronisation, one
-- equation a cell.
use Rattle.std.specs.Prelude.{Bool, true, false, if◌then◌else◌}
use Rattle.conduit_rules.specs.declared.table.Side.{Side}
use Rattle.conduit_rules.specs.declared.table.Side.TheVariants.{Same, Changed, Deleted, ArchivedSame, ArchivedChanged, Gone}
use Rattle.conduit_rules.specs.declared.table.Keep.{Keep}
use Rattle.conduit_rules.specs.declared.table.Keep.TheVariants.{None as KeepNone, Base as KeepBase, Handheld as KeepHandheld, Desktop as KeepDesktop}
use Rattle.conduit_rules.specs.declared.table.Archive.{Archive}
use Rattle.conduit_rules.specs.declared.table.Archive.TheVariants.{None as ArchiveNone, Base as ArchiveBase, Handheld as ArchiveHandheld}
use Rattle.conduit_rules.specs.declared.table.Archive.TheVariants.{Desktop as ArchiveDesktop, Both as ArchiveBoth}
use Rattle.conduit_rules.specs.declared.table.Outcome.{Outcome}

-- both sides keep this content under the id
abbrev pub kept : Keep → Outcome
kept whose = record { keep = whose; archive = ArchiveNone; news = false }

-- the record goes from both sides into the archive
abbrev pub put_away : Archive → Outcome
put_away whose = record { keep = KeepNone; archive = whose; news = false }

-- the record goes from both sides
abbrev pub nothing_left : Outcome
nothing_left = put_away ArchiveNone

-- the handheld's content stays under the id, and the desktop's becomes a new record
abbrev pub both_kept : Outcome
both_kept = record { keep = KeepHandheld; archive = ArchiveNone; news = true }

-- the row of a handheld that has the content of the base row
abbrev pub with_same : Side → Outcome
with_same Same = kept KeepBase
with_same Changed = kept KeepDesktop
with_same Deleted = nothing_left
with_same ArchivedSame = put_away ArchiveBase
with_same ArchivedChanged = put_away ArchiveDesktop
with_same Gone = nothing_left

-- the row of a handheld that changed the record
abbrev pub with_changed : Side → Bool → Outcome
with_changed Same equal = kept KeepHandheld
with_changed Changed equal = if equal then kept KeepHandheld else both_kept
with_changed Deleted equal = kept KeepHandheld
with_changed ArchivedSame equal = kept KeepHandheld
with_changed ArchivedChanged equal = if equal then put_away ArchiveHandheld else both_kept
with_changed Gone equal = kept KeepHandheld

-- the row of a handheld that deleted the record
abbrev pub with_deleted : Side → Outcome
with_deleted Same = nothing_left
with_deleted Changed = kept KeepDesktop
with_deleted Deleted = nothing_left
with_deleted ArchivedSame = put_away ArchiveBase
with_deleted ArchivedChanged = put_away ArchiveDesktop
with_deleted Gone = nothing_left

-- the row of a handheld that archived the record as it was
abbrev pub with_archived_same : Side → Outcome
with_archived_same Same = put_away ArchiveBase
with_archived_same Changed = kept KeepDesktop
with_archived_same Deleted = put_away ArchiveBase
with_archived_same ArchivedSame = put_away ArchiveBase
with_archived_same ArchivedChanged = put_away ArchiveDesktop
with_archived_same Gone = nothing_left

-- the row of a handheld that changed the record and archived it
abbrev pub with_archived_changed : Side → Bool → Outcome
with_archived_changed Same equal = put_away ArchiveHandheld
with_archived_changed Changed equal = if equal then put_away ArchiveHandheld else both_kept
with_archived_changed Deleted equal = put_away ArchiveHandheld
with_archived_changed ArchivedSame equal = put_away ArchiveHandheld
with_archived_changed ArchivedChanged equal =
    if equal then put_away ArchiveHandheld else put_away ArchiveBoth
with_archived_changed Gone equal = put_away ArchiveHandheld

-- the cell of both sides' states; a handheld is never gone
abbrev pub decision : Side → Side → Bool → Outcome
decision Same desktop equal = with_same desktop
decision Changed desktop equal = with_changed desktop equal
decision Deleted desktop equal = with_deleted desktop
decision ArchivedSame desktop equal = with_archived_same desktop
decision ArchivedChanged desktop equal = with_archived_changed desktop equal
decision Gone desktop equal = nothing_left
