use Rattle.std.proofs.Common.{◌≡◌, [], replicate}
use Rattle.line_world.specs.Logs.{texts}
use Rattle.device_stream.proofs.report.DeviceReport.of_number.Given as goal

abbrev pub invariant-loop : goal.invariant-loop
invariant-loop l = record {
  performed : texts l.report.performed.items ≡ replicate l.counter [];
  replies : texts l.report.replies.items ≡ replicate l.counter [];
}
