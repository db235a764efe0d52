-- The lines of a call that was done.
use Rattle.std.specs.Prelude.{ℕ, Bool, if◌then◌else◌, List, ◌++◌, codes}
use Rattle.std.specs.List.{flat_map}
use Rattle.std.specs.Fmt.{decimal}
use Rattle.pdb_values.specs.Stems.{stem_of}
use Rattle.session_parts.specs.declared.report.Counts.{Counts}
use Rattle.session_parts.specs.declared.report.DbReport.{DbReport}
use Rattle.session_parts.specs.declared.report.Did.{Did}
use Rattle.session_parts.specs.declared.report.FiledCounts.{FiledCounts}
use Rattle.session_parts.specs.declared.report.Did.TheVariants.{Synced, Skipped, Installed, BackedUp, Filed}
use Rattle.session_parts.specs.declared.skip.Skip.{Skip}
use Rattle.session_parts.specs.declared.skip.Skip.TheVariants as skip
use Rattle.cmd_status.specs.Lines.{line_feed, ended_line}

-- how the handheld's database was read
abbrev pub mode_word : Bool → List ℕ
mode_word fast = if fast then codes " fast" else codes " slow"

-- a word and a count behind it
abbrev pub count_text : List ℕ → ℕ → List ℕ
count_text word count = word ++ decimal count

-- why a database was left alone
abbrev pub skip_word : Skip → List ℕ
skip_word skip.Nothing = codes "nothing"
skip_word skip.Resource = codes "resource"
skip_word skip.ReadOnly = codes "read-only"
skip_word skip.Stream = codes "stream"
skip_word skip.Differs = codes "differs"
skip_word skip.Missing = codes "missing"
skip_word skip.Blocks = codes "blocks"

-- ` MODE read R replaced P added A purged D archived V rows N`
unfoldable pub counts_text : Counts → List ℕ
counts_text counts =
    mode_word counts.fast
    ++ count_text (codes " read ") counts.read ++ count_text (codes " replaced ") counts.replaced
    ++ count_text (codes " added ") counts.added
    ++ count_text (codes " purged ") counts.purged
    ++ count_text (codes " archived ") counts.archived ++ count_text (codes " rows ") counts.rows

-- ` categories N moved M`
abbrev pub filed_text : FiledCounts → List ℕ
filed_text counts =
    count_text (codes " categories ") counts.used ++ count_text (codes " moved ") counts.moved

-- the counts of a run, or ` skipped REASON`, or ` installed entries N`, or ` backed up entries N`,
-- or those of categories
abbrev pub did_text : Did → List ℕ
did_text (Synced counts) = counts_text counts
did_text (Skipped reason) = codes " skipped " ++ skip_word reason
did_text (Installed entries) = count_text (codes " installed entries ") entries
did_text (BackedUp entries) = count_text (codes " backed up entries ") entries
did_text (Filed counts) = filed_text counts

-- what was done with the database of a name, behind its stem
unfoldable pub database_line : List ℕ → Did → List ℕ
database_line name did = stem_of name ++ did_text did ++ line_feed

-- the line of what was done with one database
abbrev pub line_of_report : DbReport → List ℕ
line_of_report report = database_line report.name report.did

-- what a run prints that was done: a line each database, and then `ended`
abbrev pub done_lines : List DbReport → List ℕ
done_lines databases = flat_map line_of_report databases ++ ended_line
