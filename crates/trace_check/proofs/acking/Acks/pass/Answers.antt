-- What was sent is taken.
use Rattle.std.proofs.Common.{Some}
use Rattle.trace_check.specs.Sending.{sent_value}
use Rattle.trace_check.proofs.acking.Acks.pass.Goals as goal

pub returns-in-Some : goal.returns-in-Some
returns-in-Some c = record { sent = Some (sent_value c.in-Some.sent); adds = c.in-Some.ensures; hears = c.take.ensures }
