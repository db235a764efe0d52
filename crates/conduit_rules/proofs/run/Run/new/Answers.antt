use Rattle.std.proofs.Common.{refl, rules}
use Rattle.std.proofs.lemmas.List.Sorted.{answers_always, IsNonDecreasingBy-from_sort_by_key, length_permutation}
use Rattle.conduit_rules.proofs.SortLaws.{run-sorted}
use Rattle.conduit_rules.proofs.run.Run.new.Goals as goal

pub returns : goal.returns
returns g c = (
  refl,
  run-sorted (λ e. (e.0, e.1.now)) g.T.HasId.id_of c.args.list.now c.in_ok-entries.entries.items c.sort_by_key.new.self.items
      c.in_ok-entries.ensures
      (length_permutation _ _ c.sort_by_key.ensures.permutation)
      (c.sort_by_key.ensures.stable (λ e. g.T.HasId.id_of e.1.now) (answers_always _ _ _ (λ f a r h k. search rules)))
      (IsNonDecreasingBy-from_sort_by_key (λ e. g.T.HasId.id_of e.1.now) _ c.in_ok-sort_by_key.ensures.sorted (λ a r q k. search rules)),
)
