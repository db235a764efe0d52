use Rattle.line_steps.proofs.CountingLaws.{lands_same, lent_lands}
use Rattle.line_steps.proofs.Names.{ap, sym, subst, ◌∙◌, err_from_is_err_and, BearsFragment, ends_run}
use Rattle.line_steps.proofs.HaltedLaws.{halted_heeded}
use Rattle.line_steps.proofs.HeardLaws.{heard_ack-holds, heard_ack-next, heard_data, heard_something, hears_lent}
use Rattle.line_steps.proofs.UnderwayLaws.{heeded-underway}
use Rattle.line_steps.proofs.HoldsLaws.{going}
use Rattle.line_steps.specs.declared.hearing.Heard.TheVariants as heard_as
use Rattle.line_steps.proofs.taking.take_marked.Goals as goal

-- src/taking.rt:26:9
pub hear_frame-heard-requires-clause-goes : goal.hear_frame-heard-requires-clause-goes
hear_frame-heard-requires-clause-goes c =
    let n = c.args.x.now.taken in
    let it = c.get.ensures in
    ap (λ v. ends_run v.fate v.bytes) it.is ∙ (going n c.requires.holds it.here).goes_on

-- src/taking.rt:26:9
pub hear_frame-heard-requires-clause-bears : goal.hear_frame-heard-requires-clause-bears
hear_frame-heard-requires-clause-bears c =
    let n = c.args.x.now.taken in
    let it = c.get.ensures in
    subst (λ v. BearsFragment v) (sym it.is) (going n c.requires.holds it.here).bears

-- src/taking.rt:28:28
pub take_ack-requires-clause-holds : goal.take_ack-requires-clause-holds
take_ack-requires-clause-holds c =
    heard_ack-holds c.requires.holds c.in-Ack.ensures.hears.2 c.in-Ack.ensures.heeded c.in-Ack.ensures.gap

-- src/taking.rt:28:28
pub take_ack-requires-clause-next : goal.take_ack-requires-clause-next
take_ack-requires-clause-next c =
    let n = c.args.x.now.taken in
    let it = c.get.ensures in
    heard_ack-next c.args.x.now c.args.y.now c.hear_frame-heard.new.half.receiver c.requires.next it.here
    (hears_lent c.args.y.now.receiver (heard_as.Ack c.in-Ack.key) c.hear_frame-heard.new.half.receiver it c.in-Ack.ensures.hears)

-- src/taking.rt:29:36
pub take_data-requires : goal.take_data-requires
take_data-requires c =
    let n = c.args.x.now.taken in
    let it = c.get.ensures in
    let key = c.in-Data.key in
    let taken = c.in-Data.taken in
    heard_data c.requires.holds c.requires.next it.here
    (hears_lent c.args.y.now.receiver (heard_as.Data key taken) c.hear_frame-heard.new.half.receiver it c.in-Data.ensures.hears)
    c.in-Data.ensures.heeded c.in-Data.ensures.gap

-- src/taking.rt:21:1
pub returns-in-Nothing-clause-holds : goal.returns-in-Nothing-clause-holds
returns-in-Nothing-clause-holds c =
    let n = c.args.x.now.taken in
    let it = c.get.ensures in
    absurd (heard_something it.frame c.args.y.now.receiver c.hear_frame-heard.new.half.receiver (going n c.requires.holds it.here)
    (hears_lent c.args.y.now.receiver heard_as.Nothing c.hear_frame-heard.new.half.receiver it c.in-Nothing.ensures.hears))

pub returns-in-Nothing-clause-moved : goal.returns-in-Nothing-clause-moved
returns-in-Nothing-clause-moved c =
    let n = c.args.x.now.taken in
    let it = c.get.ensures in
    absurd (heard_something it.frame c.args.y.now.receiver c.hear_frame-heard.new.half.receiver (going n c.requires.holds it.here)
    (hears_lent c.args.y.now.receiver heard_as.Nothing c.hear_frame-heard.new.half.receiver it c.in-Nothing.ensures.hears))

pub returns-in-Nothing-clause-less : goal.returns-in-Nothing-clause-less
returns-in-Nothing-clause-less c =
    let n = c.args.x.now.taken in
    let it = c.get.ensures in
    absurd (heard_something it.frame c.args.y.now.receiver c.hear_frame-heard.new.half.receiver (going n c.requires.holds it.here)
    (hears_lent c.args.y.now.receiver heard_as.Nothing c.hear_frame-heard.new.half.receiver it c.in-Nothing.ensures.hears))

pub returns-in_ok-take_ack-in-Ack-clause-underway : goal.returns-in_ok-take_ack-in-Ack-clause-underway
returns-in_ok-take_ack-in-Ack-clause-underway c =
    heeded-underway c.in-Ack.ensures.heeded c.in_ok-take_ack-in-Ack.ensures.underway

pub returns-in_ok-take_data-in-Data-clause-underway : goal.returns-in_ok-take_data-in-Data-clause-underway
returns-in_ok-take_data-in-Data-clause-underway c =
    heeded-underway c.in-Data.ensures.heeded c.in_ok-take_data-in-Data.ensures.underway

pub returns-in-Nothing-clause-underway : goal.returns-in-Nothing-clause-underway
returns-in-Nothing-clause-underway c =
    let n = c.args.x.now.taken in
    let it = c.get.ensures in
    absurd (heard_something it.frame c.args.y.now.receiver c.hear_frame-heard.new.half.receiver (going n c.requires.holds it.here)
    (hears_lent c.args.y.now.receiver heard_as.Nothing c.hear_frame-heard.new.half.receiver it c.in-Nothing.ensures.hears))

pub returns-in_err-take_ack-in-Ack-clause-halted : goal.returns-in_err-take_ack-in-Ack-clause-halted
returns-in_err-take_ack-in-Ack-clause-halted c =
    let p = err_from_is_err_and c.from_residual.result c.from_residual.ensures.1 in
    rw (p.1, p.2) (halted_heeded c.in-Ack.ensures.heeded c.in_err-take_ack-in-Ack.ensures.halted)

pub returns-in_err-take_data-in-Data-clause-halted : goal.returns-in_err-take_data-in-Data-clause-halted
returns-in_err-take_data-in-Data-clause-halted c =
    let p = err_from_is_err_and c.from_residual-in_err-take_data-in-Data.result c.from_residual-in_err-take_data-in-Data.ensures.1 in
    rw (p.1, p.2) (halted_heeded c.in-Data.ensures.heeded c.in_err-take_data-in-Data.ensures.halted)

pub returns-in_err-take_ack-in-Ack-clause-lands : goal.returns-in_err-take_ack-in-Ack-clause-lands
returns-in_err-take_ack-in-Ack-clause-lands c =
    let n = c.args.x.now.taken in
    let it = c.get.ensures in
    let half = c.hear_frame-heard.new.half in
    let lands = lent_lands c.args.y.now half c.requires.next it c.hear_frame-heard.ensures.tally in
    lands_same n c.args.wire.now c.args.y.now half c.take_ack.new.y c.take_ack.ensures.reader lands

pub returns-in_err-take_data-in-Data-clause-lands : goal.returns-in_err-take_data-in-Data-clause-lands
returns-in_err-take_data-in-Data-clause-lands c =
    let n = c.args.x.now.taken in
    let it = c.get.ensures in
    let half = c.hear_frame-heard.new.half in
    let lands = lent_lands c.args.y.now half c.requires.next it c.hear_frame-heard.ensures.tally in
    lands_same n c.args.wire.now c.args.y.now half c.take_data.new.y c.take_data.ensures.reader lands

pub returns-in_ok-take_ack-in-Ack-clause-lands : goal.returns-in_ok-take_ack-in-Ack-clause-lands
returns-in_ok-take_ack-in-Ack-clause-lands c =
    let n = c.args.x.now.taken in
    let it = c.get.ensures in
    let half = c.hear_frame-heard.new.half in
    let lands = lent_lands c.args.y.now half c.requires.next it c.hear_frame-heard.ensures.tally in
    lands_same n c.args.wire.now c.args.y.now half c.take_ack.new.y c.take_ack.ensures.reader lands

pub returns-in_ok-take_data-in-Data-clause-lands : goal.returns-in_ok-take_data-in-Data-clause-lands
returns-in_ok-take_data-in-Data-clause-lands c =
    let n = c.args.x.now.taken in
    let it = c.get.ensures in
    let half = c.hear_frame-heard.new.half in
    let lands = lent_lands c.args.y.now half c.requires.next it c.hear_frame-heard.ensures.tally in
    lands_same n c.args.wire.now c.args.y.now half c.take_data.new.y c.take_data.ensures.reader lands

pub returns-in-Nothing-clause-lands : goal.returns-in-Nothing-clause-lands
returns-in-Nothing-clause-lands c =
    let n = c.args.x.now.taken in
    let it = c.get.ensures in
    let half = c.hear_frame-heard.new.half in
    let lands = lent_lands c.args.y.now half c.requires.next it c.hear_frame-heard.ensures.tally in
    lands

pub returns-in_err-take_ack-in-Ack-clause-up : goal.returns-in_err-take_ack-in-Ack-clause-up
returns-in_err-take_ack-in-Ack-clause-up c =
    let p = err_from_is_err_and c.from_residual.result c.from_residual.ensures.1 in
    rw (p.1, p.2) c.in_err-take_ack-in-Ack.ensures.up

pub returns-in_err-take_data-in-Data-clause-up : goal.returns-in_err-take_data-in-Data-clause-up
returns-in_err-take_data-in-Data-clause-up c =
    let p = err_from_is_err_and c.from_residual-in_err-take_data-in-Data.result c.from_residual-in_err-take_data-in-Data.ensures.1 in
    rw (p.1, p.2) c.in_err-take_data-in-Data.ensures.up
