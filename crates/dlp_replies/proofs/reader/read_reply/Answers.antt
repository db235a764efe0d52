use Rattle.std.proofs.Common.{arith, subst, Result}
use Rattle.dlp_args.specs.Views.{Gives}
use Rattle.dlp_replies.specs.declared.fault.ReplyFault.{ReplyFault}
use Rattle.dlp_replies.specs.ReplyValues.{ReplyValue}
use Rattle.dlp_replies.specs.Views.{reply_value}
use Rattle.dlp_replies.proofs.OwnLaws.{reply_owns}
use Rattle.dlp_replies.proofs.ReplyLaws.{is_found, reply_again}
use Rattle.dlp_replies.proofs.reader.read_reply.Goals as goal

pub returns-clause-found : goal.returns-clause-found
returns-clause-found c = is_found c.args.function c.args.bytes.now c.take_reply.result (λ i. omega (arith, c.type_inv.bytes i)) c.take_reply.ensures

pub returns-clause-only : goal.returns-clause-only
returns-clause-only c = λ value is. subst (λ (r : Result ReplyValue ReplyFault). Gives reply_value c.take_reply.result r)
    (reply_again c.args.function value c.args.bytes.now is) c.take_reply.ensures

pub returns-clause-own : goal.returns-clause-own
returns-clause-own c = reply_owns c.args.function c.args.bytes.now c.take_reply.result
    (is_found c.args.function c.args.bytes.now c.take_reply.result (λ i. omega (arith, c.type_inv.bytes i)) c.take_reply.ensures)
