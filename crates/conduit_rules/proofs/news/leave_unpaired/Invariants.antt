use Rattle.std.proofs.Common.{◌≡◌, ◌++◌, ◌<◌, drop, length, map}
use Rattle.conduit_rules.specs.Buckets.{free_in}
use Rattle.conduit_rules.specs.Contents.{count_of}
use Rattle.conduit_rules.specs.News.{unpaired}
use Rattle.conduit_rules.proofs.news.leave_unpaired.Given as goal

abbrev pub invariant-loop-offer : goal.invariant-loop-offer
invariant-loop-offer l = record {
  some : 0 < length l.free.items;
  left : l.adds.items ++ unpaired (free_in (map (λ b. b.items) l.free.items)) (drop l.offer-index l.offers) ≡ unpaired (λ c. count_of c l.fn.partners) l.offers;
}
