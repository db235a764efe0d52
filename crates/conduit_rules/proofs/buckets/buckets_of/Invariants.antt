use Rattle.std.proofs.Common.{◌≡◌, ◌<◌, length, map, take}
use Rattle.pdb_values.specs.Contents.{ContentValue}
use Rattle.conduit_rules.specs.Buckets.{free_in}
use Rattle.conduit_rules.specs.Contents.{count_of}
use Rattle.conduit_rules.proofs.buckets.buckets_of.Given as goal

abbrev pub invariant-loop-content : goal.invariant-loop-content
invariant-loop-content l = record {
  some : 0 < l.count;
  len : length l.buckets.items ≡ l.count;
  counts : (c : ContentValue) → free_in (map (λ b. b.items) l.buckets.items) c ≡ count_of c (take l.content-index l.contents);
}
