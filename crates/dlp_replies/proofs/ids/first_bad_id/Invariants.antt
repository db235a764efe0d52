use Rattle.std.proofs.Common.{◌≡◌, ◌+◌, ◌*◌, ◌-◌, ◌/◌, length}
use Rattle.dlp_replies.specs.Checks.{first_bad}
use Rattle.dlp_replies.specs.IdLists.{ids_checks, words}
use Rattle.dlp_replies.proofs.ids.first_bad_id.Given as goal

abbrev pub invariant-loop : goal.invariant-loop
invariant-loop l = record {
  near : l.place ≡ 2 + 4 * l.counter;
  left : length (words l.rest) ≡ length l.bytes / 4 - l.counter;
  same : first_bad (ids_checks 2 (words l.bytes)) ≡ first_bad (ids_checks l.place (words l.rest));
}
