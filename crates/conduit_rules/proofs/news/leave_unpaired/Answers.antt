use Rattle.std.proofs.Common.{arith, map}
use Rattle.std.proofs.lemmas.Grind.{common_steps}
use Rattle.conduit_rules.specs.Buckets.{free_in}
use Rattle.conduit_rules.specs.Contents.{count_of}
use Rattle.conduit_rules.proofs.BucketLaws.{offers-next}
use Rattle.conduit_rules.proofs.NewsLaws.{unpaired-same}
use Rattle.conduit_rules.proofs.news.leave_unpaired.Goals as goal
use Rattle.conduit_rules.proofs.news.leave_unpaired.Goals.{then-not-take_equal+in_ok-copy+in_ok-push, else-not-take_equal}

pub loop-offer-init : goal.loop-offer-init
loop-offer-init c = record {
  some = c.in_ok-free.ensures.some;
  left = cc (unpaired-same (free_in (map (λ b. b.items) c.in_ok-free.free.items)) (λ x. count_of x c.args.partners.now) c.args.offers.now
      c.in_ok-free.ensures.counts);
}

pub loop-offer-preserved : goal.loop-offer-preserved
loop-offer-preserved c =
    let next = offers-next c.loop-offer.adds.items (free_in (map (λ b. b.items) c.loop-offer.free.items))
    (free_in (map (λ b. b.items) c.take_equal.new.buckets.items)) c.args.offers.now c.loop-offer.offer-index
    c.offer-item.result c.loop-offer-test.true c.offer-item.is c.take_equal.ensures.left in
    record {
      some = c.take_equal.ensures.some;
      left = elim c.if-not-take_equal.branch [
        | then-not-take_equal+in_ok-copy+in_ok-push w ↦ grind
            (arith, common_steps, w.adds-is)
        | else-not-take_equal w ↦ grind (arith, common_steps, w.adds-is)
      ];
    }
