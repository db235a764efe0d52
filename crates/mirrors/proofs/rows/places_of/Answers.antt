use Rattle.std.proofs.Common.{◌≡◌, ◌∙◌, refl, ap, sym, Some, slice_get}
use Rattle.pdb_values.specs.declared.record.Record.{Record}
use Rattle.mirrors.proofs.PlaceLaws.{get_there, place_on}
use Rattle.mirrors.proofs.rows.places_of.Goals as goal

pub loop-place-init : goal.loop-place-init
loop-place-init c = λ id. rw c.new-places.ensures.empty refl

pub loop-place-preserved : goal.loop-place-preserved
loop-place-preserved c = λ id.
    let item = c.index-base-place.result in
    let here : slice_get c.args.base.now c.loop-place.place ≡ Some item =
    get_there c.args.base.now c.loop-place.place c.loop-place-test.true c.index-base-place.is in
    cc (
      c.in_ok-note.ensures id,
      c.loop-place.invariant id,
      place_on id c.loop-place.place c.args.base.now here
          (c.number.ensures.number ∙ ap (λ (item : Record). item.id)
          (sym c.index-base-place.is)),
    )
