use Rattle.std.proofs.Common.{◌≡◌, take}
use Rattle.std.specs.Prelude.{string_bytes}
use Rattle.std.specs.List.{flat_map}
use Rattle.call_parts.specs.TouchedLines.{line_if_touched}
use Rattle.call_parts.proofs.touched_lines.touched_lines.Given as goal

abbrev pub invariant-loop-report : goal.invariant-loop-report
invariant-loop-report l = string_bytes l.lines ≡ flat_map line_if_touched (take l.report-index l.databases)
