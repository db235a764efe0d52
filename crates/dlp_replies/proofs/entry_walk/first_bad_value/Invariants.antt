use Rattle.std.proofs.Common.{◌≡◌, ◌+◌, ◌*◌, ◌-◌, ◌≤◌, true, is_some}
use Rattle.dlp_replies.specs.Checks.{first_bad}
use Rattle.dlp_replies.specs.EntryReading.{rows_checks, rows_in, rows_or_none}
use Rattle.dlp_replies.proofs.entry_walk.first_bad_value.Given as goal

abbrev pub invariant-loop : goal.invariant-loop
invariant-loop l = record {
  near : l.place ≤ 4 + 255 * l.counter;
  all : is_some (rows_in (l.count - l.counter) l.rest) ≡ true;
  same : first_bad (rows_checks 4 (rows_or_none (rows_in l.count l.bytes)))
      ≡ first_bad (rows_checks l.place (rows_or_none (rows_in (l.count - l.counter) l.rest)));
}
