use Rattle.std.proofs.Common.{◌≡◌, ◌∙◌, ap, length, rules}
use Rattle.conduit_rules.specs.Buckets.{bucket_of}
use Rattle.conduit_rules.proofs.BucketLaws.{taken-in}
use Rattle.conduit_rules.proofs.buckets.take_equal.Goals as goal

pub returns-clause-left : goal.returns-clause-left
returns-clause-left c = λ x.
    let len : c.len.result ≡ length c.args.buckets.now.items = search rules in
    taken-in (λ b. b.items) c.args.buckets.now.items c.place_of-place.result c.index_mut.result.now c.take_partner.new.free c.args.content.now x c.requires
    (c.place_of-place.ensures ∙ ap (λ n. bucket_of n c.args.content.now) len) c.index_mut.ensures.value c.take_partner.ensures.left
