use Rattle.std.proofs.lemmas.Grind.{common_steps}
use Rattle.std.proofs.Common.{arith}
use Rattle.hotsync_looks.proofs.LookLaws.{refusal_known}
use Rattle.hotsync_looks.proofs.look.look_into.Goals as goal

pub returns-in_err-text-clause-refusal : goal.returns-in_err-text-clause-refusal
returns-in_err-text-clause-refusal g c =
    grind (arith, common_steps, refusal_known c.args.look c.args.file.now c.deref.result.now c.in_err-text.field-0.0 c.in_err-text.ensures.refused)
