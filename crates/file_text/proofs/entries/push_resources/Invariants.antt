use Rattle.std.proofs.Common.{◌≡◌, ◌++◌, drop}
use Rattle.std.specs.Prelude.{string_bytes}
use Rattle.file_text.specs.Entries.{lines_from, resource_line, resource_lines}
use Rattle.file_text.proofs.entries.push_resources.Given as goal

abbrev pub invariant-loop-place : goal.invariant-loop-place
invariant-loop-place l =
    string_bytes l.text ++ lines_from resource_line l.place (drop l.place l.resources) ≡ string_bytes l.initial.text ++ resource_lines l.resources
