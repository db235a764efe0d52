use Rattle.std.proofs.Common.{◌∙◌, ◌-◌, sym, arith}
use Rattle.dlp_replies.proofs.EntryLaws.{place_on, place_there, place_ends, place_past}
use Rattle.dlp_replies.proofs.entry_walk.item_in.Goals as goal

pub returns-then-place-from : goal.returns-then-place-from
returns-then-place-from c = sym (place_past c.args.count c.args.place c.args.bytes.now (omega (arith, c.if-place-from.true, c.from.ensures)))

pub returns-in_err-after : goal.returns-in_err-after
returns-in_err-after c = rw c.from_residual.ensures
    (sym (c.loop.invariant ∙ place_ends (c.args.count - c.loop.counter) (c.args.place - c.loop.counter) c.loop.rest.now (sym c.in_err-after.ensures)))

pub loop-preserved : goal.loop-preserved
loop-preserved c = c.loop.invariant ∙ place_on c.args.count c.args.place c.loop.counter c.loop.rest.now c.in_ok-after.field-0-0 c.in_ok-after.after.now
    c.loop-test.true (omega (arith, c.if-place-from.false, c.from.ensures)) (sym c.in_ok-after.ensures)

pub returns-in_err-item : goal.returns-in_err-item
returns-in_err-item c = rw c.from_residual-in_err-item.ensures
    (sym (c.loop.invariant ∙ place_ends (c.args.count - c.loop.counter) (c.args.place - c.loop.counter) c.loop.rest.now (sym c.in_err-item.ensures)))

pub returns : goal.returns
returns c = sym (c.loop.invariant ∙ place_there (c.args.count - c.loop.counter) (c.args.place - c.loop.counter) c.loop.rest.now c.in_ok-item.item
    c.in_ok-item.field-0-1.now (omega (arith, c.loop-test.false))
    (omega (arith, c.loop-test.false, c.loop.auto.counter-end, c.if-place-from.false, c.from.ensures)) (sym c.in_ok-item.ensures))
