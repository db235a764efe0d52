-- The end that sends says it.
use Rattle.std.proofs.Common.{arith}
use Rattle.trace_text.specs.declared.frame.End.TheVariants.{Handheld, Desktop}
use Rattle.trace_check.specs.Sending.{sent_value}
use Rattle.trace_check.proofs.TalkingLaws.{said-in}
use Rattle.trace_check.proofs.talking.Talking.say.Goals as goal

pub say-requires : goal.say-requires
say-requires c = omega (arith, c.requires.begun Handheld, c.requires.count)

pub say-requires-in-Desktop : goal.say-requires-in-Desktop
say-requires-in-Desktop c = omega (arith, c.requires.begun Desktop, c.requires.count)

pub returns-in-Handheld-clause-said : goal.returns-in-Handheld-clause-said
returns-in-Handheld-clause-said c =
    said-in Handheld (sent_value c.args.sent.now) c.args.self.now c.say.result c.say.new.self c.in-Handheld.is c.if-not-sent.false c.say.ensures

pub returns-in-Desktop-clause-said : goal.returns-in-Desktop-clause-said
returns-in-Desktop-clause-said c =
    said-in Desktop (sent_value c.args.sent.now) c.args.self.now c.say-in-Desktop.result c.say-in-Desktop.new.self c.in-Desktop.is c.if-not-sent.false
    c.say-in-Desktop.ensures
