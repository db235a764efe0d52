use Rattle.std.proofs.Common.{◌≡◌, ◌≤◌, ◌+◌, []}
use Rattle.std.specs.Prelude.{map}
use Rattle.trace_text.specs.TraceLines.{frame_value}
use Rattle.trace_page.specs.Pages.{counted, is_again, is_disturbed, is_request}
use Rattle.trace_page.specs.Seen.{seen_of}
use Rattle.trace_page.proofs.SeenLaws.{past_at, rest_at}
use Rattle.trace_page.proofs.heading.tally_of.Given as goal

abbrev pub invariant-loop-frame : goal.invariant-loop-frame
invariant-loop-frame l = record {
  seen : l.seen ≡ seen_of (past_at l.frames l.frame-index);
  requests : l.tally.requests + counted is_request (past_at l.frames l.frame-index) (rest_at l.frames l.frame-index)
      ≡ counted is_request [] (map frame_value l.frames);
  disturbed : l.tally.disturbed + counted is_disturbed (past_at l.frames l.frame-index) (rest_at l.frames l.frame-index)
      ≡ counted is_disturbed [] (map frame_value l.frames);
  again : l.tally.again + counted is_again (past_at l.frames l.frame-index) (rest_at l.frames l.frame-index)
      ≡ counted is_again [] (map frame_value l.frames);
  few_requests : l.tally.requests ≤ l.frame-index;
  few_disturbed : l.tally.disturbed ≤ l.frame-index;
  few_again : l.tally.again ≤ l.frame-index;
}
