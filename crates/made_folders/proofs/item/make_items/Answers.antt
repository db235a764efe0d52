use Rattle.std.proofs.Common.{◌+◌, ◌-◌, ◌<◌, arith}
use Rattle.std.proofs.lemmas.Grind.{common_steps}
use Rattle.made_folders.specs.Items.{made}
use Rattle.made_folders.proofs.ItemLaws.{draw, drawn_all}
use Rattle.made_folders.proofs.item.make_items.Goals as goal

pub loop-place-preserved : goal.loop-place-preserved
loop-place-preserved c =
    let place = c.loop-place.place in
    let test = c.loop-place-test.true in
    let more : 0 < c.args.count - place = omega arith in
    let step = draw (made c.args.seed c.args.count) c.loop-place.items.items (place + 1) (c.args.count
    - place) c.next_word-word.result c.loop-place.generator c.next_word-word.new.self c.loop-place.invariant.so_far more c.next_word-word.ensures in
    grind (arith, common_steps, step)

pub returns-clause-items : goal.returns-clause-items
returns-clause-items c =
    let place = c.loop-place.place in
    let test = c.loop-place-test.false in
    let near = c.loop-place.invariant.near in
    drawn_all (made c.args.seed c.args.count) c.loop-place.items.items
    (place + 1) (c.args.count - place) c.loop-place.generator c.loop-place.invariant.so_far (omega arith)
