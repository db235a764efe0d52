use Rattle.cmd_status.specs.Told.{sink_told}
use Rattle.call_parts.specs.Told.{call_told}
use Rattle.hotsync_run.proofs.program.run_untold.Goals as goal

pub returns-clause-call : goal.returns-clause-call
returns-clause-call g c =
    let answer = c.run_program.result.answer in
    record {
      before = call_told g.H.Folder g.D.Folder g.S.Source g.T.Sink c.args.device c.args.desk c.args.source.now c.args.trace.now;
      after = call_told g.H.Folder g.D.Folder g.S.Source g.T.Sink answer.device answer.desk c.run_program.new.source c.run_program.new.trace;
      out = sink_told g.O.Sink c.args.out.now;
      out_after = sink_told g.O.Sink c.run_program.new.out;
      err = sink_told g.E.Sink c.args.err.now;
      err_after = sink_told g.E.Sink c.run_program.new.err;
      untold = c.requires;
      called = c.run_program.ensures.run;
    }
