use Rattle.std.proofs.Common.{◌≡◌, ◌++◌, drop}
use Rattle.std.specs.Prelude.{string_bytes}
use Rattle.file_text.specs.Entries.{lines_from, full_record_line, full_record_lines}
use Rattle.file_text.proofs.entries.push_full_records.Given as goal

abbrev pub invariant-loop-place : goal.invariant-loop-place
invariant-loop-place l =
    string_bytes l.text ++ lines_from full_record_line l.place (drop l.place l.records) ≡ string_bytes l.initial.text ++ full_record_lines l.records
