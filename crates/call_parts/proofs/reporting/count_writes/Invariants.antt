use Rattle.std.proofs.Common.{◌≡◌, ◌≤◌, take}
use Rattle.std.specs.List.{count_by}
use Rattle.dlp_args.specs.Messages.{MessageTextValue}
use Rattle.dlp_commands.specs.Changes.{changes}
use Rattle.call_parts.proofs.reporting.count_writes.Given as goal

abbrev pub invariant-loop-text : goal.invariant-loop-text
invariant-loop-text l = record {
  counted : l.count ≡ count_by (λ (text : MessageTextValue). changes text.bytes) (take l.text-index l.requests);
  few : l.count ≤ l.text-index;
}
