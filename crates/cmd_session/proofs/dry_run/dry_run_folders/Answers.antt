use Rattle.run_words.specs.Views.{run_view}
use Rattle.cmd_status.specs.Told.{sink_told}
use Rattle.cmd_session.proofs.DryLaws.{dry_printed}
use Rattle.call_parts.proofs.CallPrinted.{call_printed}
use Rattle.cmd_session.proofs.SessionRuns.{run_printable}
use Rattle.cmd_session.proofs.UndisturbedLaws.{run_ends_well}
use Rattle.cmd_session.proofs.dry_run.dry_run_folders.Goals as goal

pub returns-clause-run : goal.returns-clause-run
returns-clause-run g c =
    let run = run_view c.args.words.now in
    let answer = c.judged_dry_run-answer.result in
    let out = sink_told g.O.Sink c.args.out.now in
    let out_after = sink_told g.O.Sink c.printed.new.out in
    let end = c.printed.ensures in
    let status = c.printed.result.status in
    rw (end.report, end.device, end.desk) (dry_printed status end.status (λ first last has.
    let ran = call_printed (run_printable run) status end.status has in
    record {
      ran = ran;
      complete = run_ends_well run first last out out_after status answer.report ran end.printed;
      printed = end.printed;
    }) c.judged_dry_run-answer.ensures.ran)
