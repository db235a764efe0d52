use Rattle.std.proofs.Common.{◌≡◌, ◌++◌, drop}
use Rattle.std.specs.Prelude.{string_bytes}
use Rattle.file_text.specs.Entries.{lines_from, full_resource_line, full_resource_lines}
use Rattle.file_text.proofs.entries.push_full_resources.Given as goal

abbrev pub invariant-loop-place : goal.invariant-loop-place
invariant-loop-place l =
    string_bytes l.text ++ lines_from full_resource_line l.place (drop l.place l.resources) ≡ string_bytes l.initial.text ++ full_resource_lines l.resources
