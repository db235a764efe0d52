use Rattle.cmd_status.specs.Told.{sink_told}
use Rattle.call_parts.proofs.TraceLaws.{text_written}
use Rattle.call_parts.proofs.tracing.write_text.Goals as goal

pub returns-in-Ok : goal.returns-in-Ok
returns-in-Ok g c =
    text_written c.args.text.now (sink_told g.T.Sink c.args.trace.now)
    (sink_told g.T.Sink c.write_all.new.self) c.args.status
    c.requires c.in-Ok.ensures.written c.write_all.ensures.paths c.write_all.ensures.cause.later
