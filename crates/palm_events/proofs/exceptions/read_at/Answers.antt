use Rattle.std.proofs.Common.{◌+◌, arith}
use Rattle.palm_events.proofs.FormLaws.{form-days_in}
use Rattle.palm_events.proofs.exceptions.read_at.Goals as goal

pub returns-clause-form : goal.returns-clause-form
returns-clause-form c =
    form-days_in c.args.bytes.now (c.args.place + 2) c.from-count.result _ (omega arith) (omega arith) c.in_default.ensures.form
