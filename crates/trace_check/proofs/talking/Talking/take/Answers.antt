-- The frame is counted behind what was said.
use Rattle.std.proofs.Common.{◌+◌, ap}
use Rattle.trace_check.specs.Sending.{sent_value}
use Rattle.trace_check.proofs.TalkingLaws.{talks-take}
use Rattle.trace_check.proofs.talking.Talking.take.Goals as goal

pub returns : goal.returns
returns c past is so =
    let said = c.say-said.new.self in
    talks-take (sent_value c.args.sent.now) past c.args.self.now said _ c.say-said.result is so c.say-said.ensures.said
    (ap (λ n. record { handheld = said.handheld; desktop = said.desktop; count = said.count + 1; fault = n }) c.newest_fault-self.ensures)
