use Rattle.std.proofs.Common.{◌≡◌, ◌++◌, []}
use Rattle.std.specs.Prelude.{map, string_bytes}
use Rattle.trace_text.specs.TraceLines.{frame_value}
use Rattle.trace_page.specs.Pages.{rows}
use Rattle.trace_page.specs.Seen.{seen_of}
use Rattle.trace_page.proofs.SeenLaws.{past_at, rest_at}
use Rattle.trace_page.proofs.page.push_rows.Given as goal

abbrev pub invariant-loop-frame : goal.invariant-loop-frame
invariant-loop-frame l = record {
  seen : l.seen ≡ seen_of (past_at l.frames l.frame-index);
  text : string_bytes l.text ++ rows (past_at l.frames l.frame-index) (rest_at l.frames l.frame-index)
      ≡ string_bytes l.initial.text ++ rows [] (map frame_value l.frames);
}
