-- The lines of a session that was to touch some databases alone.
use Rattle.std.specs.Prelude.{ℕ, Bool, true, false, if◌then◌else◌, List, [], ◌++◌, codes, count_by, nat_lt, not}
use Rattle.std.specs.List.{flat_map}
use Rattle.std.specs.Fmt.{decimal}
use Rattle.session_parts.specs.declared.report.DbReport.{DbReport}
use Rattle.session_parts.specs.declared.report.Did.{Did}
use Rattle.session_parts.specs.declared.report.Did.TheVariants.{Skipped}
use Rattle.session_parts.specs.declared.skip.Skip.TheVariants as skip
use Rattle.cmd_status.specs.Lines.{ended_line}
use Rattle.call_parts.specs.DoneLines.{line_of_report}

-- a database was to be touched
abbrev pub is_touched : Did → Bool
is_touched (Skipped skip.Nothing) = false
is_touched other = true

-- the line of one that was
abbrev pub line_if_touched : DbReport → List ℕ
line_if_touched report = if is_touched report.did then line_of_report report else []

-- how many others there are, where there are some
abbrev pub others_line : ℕ → List ℕ
others_line count =
    if nat_lt 0 count then decimal count ++ codes " others skipped nothing\n" else []

-- what such a session prints: a line each database that was to be touched, how many others the
-- handheld has, and then `ended`
abbrev pub touched_lines : List DbReport → List ℕ
touched_lines databases =
    flat_map line_if_touched databases
    ++ others_line (count_by (λ report. not (is_touched report.did)) databases) ++ ended_line
