use Rattle.std.proofs.Common.{◌≡◌, ◌+◌, ◌++◌, map, drop}
use Rattle.port_link.specs.Logs.{entry_value}
use Rattle.port_run.specs.LogTexts.{lines_from}
use Rattle.port_run.proofs.log_text.write_log.Given as goal

abbrev pub invariant-loop-entry : goal.invariant-loop-entry
invariant-loop-entry l =
    (l.number ≡ l.entry-index + 1)
    × (l.text.items ++ lines_from l.own l.other l.number (map entry_value (drop l.entry-index l.log)) ≡ lines_from l.own l.other 1 (map entry_value l.log))
