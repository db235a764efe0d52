use Rattle.std.proofs.Common.{◌≡◌, ◌-◌, is_some}
use Rattle.dlp_replies.specs.EntryReading.{rows_in}
use Rattle.dlp_replies.proofs.entry_walk.are_entries.Given as goal

abbrev pub invariant-loop : goal.invariant-loop
invariant-loop l = is_some (rows_in l.count l.bytes) ≡ is_some (rows_in (l.count - l.counter) l.rest)
