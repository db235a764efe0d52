use Rattle.std.proofs.Common.{◌≡◌, ◌++◌, ◌≤◌, length}
use Rattle.std.specs.Option.{option_map}
use Rattle.cmd_status.specs.Sources.{source_limit}
use Rattle.cmd_status.proofs.source.read_all.Given as goal

abbrev pub invariant-loop-turn : goal.invariant-loop-turn
invariant-loop-turn g l = record {
  bytes : g.S.Source.left l.initial.source ≡ option_map (λ left. l.bytes.items ++ left) (g.S.Source.left l.source);
  turns : l._turn ≤ length l.bytes.items;
  short : length l.bytes.items ≤ source_limit;
  paths : g.S.Source.paths l.source ≡ g.S.Source.paths l.initial.source;
  count : g.S.Source.faults l.initial.source ≤ g.S.Source.faults l.source;
}
