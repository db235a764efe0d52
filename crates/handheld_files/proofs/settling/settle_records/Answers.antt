use Rattle.std.proofs.Common.{◌≡◌, ◌∙◌, List, Some, ap, refl, slice_get}
use Rattle.pdb_values.specs.declared.record.Record.{Record}
use Rattle.palm_device.specs.FreshIds.{with_ids}
use Rattle.palm_device.specs.Records.{with_records}
use Rattle.handheld_files.proofs.FreshLaws.{get_some, settle_all, settle_next}
use Rattle.handheld_files.proofs.settling.settle_records.Goals as goal

pub loop-place-init : goal.loop-place-init
unfolding with_ids
loop-place-init c = refl

pub loop-place-preserved : goal.loop-place-preserved
loop-place-preserved c =
    let id = c.index-ids-place.result in
    let here : slice_get c.args.ids.now c.loop-place.place ≡ Some id = get_some c.args.ids.now c.loop-place.place id c.loop-place-test.true c.index-ids-place.is
    in
    let next = settle_next c.args.ids.now c.args.database.now.records c.loop-place.place id here c.requires in
    rw (c.settle_record.ensures, c.loop-place.invariant) (ap (λ (records : List Record). with_records records c.args.database.now) next)

pub returns : goal.returns
returns c = c.loop-place.invariant ∙ ap (λ (records : List Record). with_records records c.args.database.now)
    (settle_all c.args.ids.now c.args.database.now.records c.loop-place.place c.loop-place-test.false c.requires)
