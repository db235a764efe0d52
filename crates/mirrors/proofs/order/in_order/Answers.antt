-- A stable sort, and then the first of each id.
use Rattle.std.proofs.Common.{rules}
use Rattle.std.proofs.lemmas.Fn.{dedup_same}
use Rattle.std.proofs.lemmas.List.Sorted.{IsNonDecreasingBy-from_sort_by_key, answers_always}
use Rattle.conduit_rules.specs.declared.view.Seen.{Seen}
use Rattle.mirrors.proofs.OrderLaws.{InOrder, in_order-sorted, same_id}
use Rattle.mirrors.proofs.order.in_order.Goals as goal

pub returns : goal.returns
returns c =
    let kept : InOrder c.args.seen.items c.dedup_by.new.self.items =
    in_order-sorted c.args.seen.items c.sort_by_key.new.self.items
    (c.sort_by_key.ensures.stable (λ (s : Seen). s.id) (answers_always _ _ _ (λ f a r h k. search rules)))
    c.sort_by_key.ensures.permutation
    (IsNonDecreasingBy-from_sort_by_key (λ (s : Seen). s.id) _ c.in_ok-sort_by_key.ensures.sorted (λ a r q k. search rules))
    c.requires
    (dedup_same _ same_id _ (λ x y b f x' y' k. search rules) _ _ c.dedup_by.ensures.filtered) in
    record { ordered = kept.kept; rising = kept.rises }
