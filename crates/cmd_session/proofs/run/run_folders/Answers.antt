use Rattle.run_words.specs.Views.{run_view}
use Rattle.cmd_status.specs.Told.{sink_told}
use Rattle.call_parts.specs.Told.{call_told}
use Rattle.call_parts.proofs.CallPrinted.{call_printed}
use Rattle.cmd_session.proofs.SessionRuns.{run_printable}
use Rattle.cmd_session.proofs.UndisturbedLaws.{run_ends_well}
use Rattle.cmd_session.proofs.run.run_folders.Goals as goal

pub returns-clause-run : goal.returns-clause-run
returns-clause-run g c =
    let run = run_view c.args.words.now in
    let before = call_told g.H.Folder g.D.Folder g.S.Source g.T.Sink c.args.device c.args.desk c.args.source.now c.args.trace.now in
    let answer = c.judged_run-answer.result in
    let after = call_told g.H.Folder g.D.Folder g.S.Source g.T.Sink answer.device answer.desk c.judged_run-answer.new.source c.judged_run-answer.new.trace in
    let out = sink_told g.O.Sink c.args.out.now in
    let out_after = sink_told g.O.Sink c.printed.new.out in
    let end = c.printed.ensures in
    let status = c.printed.result.status in
    let ran = call_printed (run_printable run) status end.status c.judged_run-answer.ensures.ran in
    rw (end.report, end.device, end.desk) (record {
      ran = ran;
      complete = run_ends_well run before after out out_after status answer.report ran end.printed;
      printed = end.printed;
    })
