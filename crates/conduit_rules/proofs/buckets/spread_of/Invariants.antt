use Rattle.std.proofs.Common.{◌≡◌, ◌<◌, take}
use Rattle.conduit_rules.specs.Buckets.{spread_of}
use Rattle.conduit_rules.proofs.buckets.spread_of.Given as goal

abbrev pub invariant-loop-byte : goal.invariant-loop-byte
invariant-loop-byte l = record {
  small : l.spread < 4294967291;
  is : l.spread ≡ spread_of (take l.byte-index l.bytes);
}
