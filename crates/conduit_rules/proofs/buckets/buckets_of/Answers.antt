use Rattle.std.proofs.Common.{◌∙◌, ◌++◌, ◌∷◌, [], ap, sym}
use Rattle.conduit_rules.specs.Buckets.{bucket_of}
use Rattle.conduit_rules.proofs.BucketLaws.{put-in, set-len}
use Rattle.conduit_rules.proofs.buckets.buckets_of.Goals as goal

pub loop-content-preserved : goal.loop-content-preserved
loop-content-preserved c = record {
  some = c.loop-content.invariant.some;
  len = cc (set-len c.loop-content.buckets.items c.place_of-place.result c.push.new.self);
  counts = λ x. put-in (λ b. b.items) c.loop-content.buckets.items c.place_of-place.result c.index_mut.result.now c.push.new.self c.args.contents.now
      c.loop-content.content-index c.content-item.result x
      (rw c.loop-content.invariant.len c.loop-content.invariant.some)
      (c.place_of-place.ensures ∙ ap (λ n. bucket_of n c.content-item.result) (sym c.loop-content.invariant.len))
      c.index_mut.ensures.value
      (c.in_ok-push.ensures.items ∙ ap (λ y. c.index_mut.result.now.items ++ y ∷ []) c.in_ok-copy.ensures)
      c.loop-content-test.true c.content-item.is (c.loop-content.invariant.counts x);
}
