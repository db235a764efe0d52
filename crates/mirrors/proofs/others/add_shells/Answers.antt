-- One entry more.
use Rattle.std.proofs.Common.{◌≡◌, ◌∙◌, ◌<◌, ◌++◌, ◌∷◌, [], ap, sym, subst, append_assoc, map, take, slice_get, Some}
use Rattle.std.proofs.lemmas.List.{map-append}
use Rattle.std.proofs.lemmas.List.Elements.{All-push}
use Rattle.conduit_rules.specs.ById.{id_bound}
use Rattle.conduit_rules.specs.declared.view.Seen.{Seen}
use Rattle.mirrors.specs.Entries.{AreBounded}
use Rattle.mirrors.specs.Shells.{shell}
use Rattle.mirrors.proofs.PlaceLaws.{get_there}
use Rattle.mirrors.proofs.others.add_shells.Goals as goal
use Rattle.desktop_session.proofs.GrowLaws.{take_next}

pub loop-place-preserved : goal.loop-place-preserved
loop-place-preserved c =
    let before = c.loop-place.invariant in
    let id = c.index-ids-place.result in
    let here : slice_get c.args.ids.now c.loop-place.place ≡ Some id =
    get_there c.args.ids.now c.loop-place.place c.loop-place-test.true c.index-ids-place.is in
    let front = take c.loop-place.place c.args.ids.now in
    record {
      seen = c.in_ok-push.ensures.items ∙ ap (λ xs. xs ++ c.shell_of.result ∷ []) before.seen
          ∙ append_assoc c.args.seen.now.items (map shell front) (c.shell_of.result ∷ [])
          ∙ ap (λ (s : Seen). c.args.seen.now.items ++ (map shell front ++ s ∷ [])) c.shell_of.ensures.shell
          ∙ ap (λ xs. c.args.seen.now.items ++ xs) (sym (map-append shell front (id ∷ [])))
          ∙ ap (λ xs. c.args.seen.now.items ++ map shell xs) (sym (take_next c.args.ids.now c.loop-place.place here));
      bounded = subst AreBounded (sym c.in_ok-push.ensures.items)
          (All-push (λ (s : Seen). s.id < id_bound) c.loop-place.seen.items c.shell_of.result before.bounded c.shell_of.ensures.bounded);
    }
