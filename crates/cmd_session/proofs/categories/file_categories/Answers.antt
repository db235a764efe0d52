use Rattle.run_words.specs.Views.{between_view}
use Rattle.cmd_status.specs.Told.{sink_told}
use Rattle.call_parts.specs.Told.{call_told}
use Rattle.call_parts.proofs.CallPrinted.{call_printed}
use Rattle.cmd_session.proofs.FilingRuns.{filing_printable}
use Rattle.cmd_session.proofs.FilingWell.{filing_ends_well}
use Rattle.cmd_session.proofs.categories.file_categories.Goals as goal

pub returns-clause-categories : goal.returns-clause-categories
returns-clause-categories g c =
    let words = between_view c.args.words.now in
    let before = call_told g.H.Folder g.D.Folder g.S.Source g.T.Sink c.args.device c.args.desk c.args.source.now c.args.trace.now in
    let answer = c.judged_categories-answer.result in
    let after =
    call_told g.H.Folder g.D.Folder g.S.Source g.T.Sink answer.device answer.desk c.judged_categories-answer.new.source c.judged_categories-answer.new.trace in
    let out = sink_told g.O.Sink c.args.out.now in
    let out_after = sink_told g.O.Sink c.printed.new.out in
    let end = c.printed.ensures in
    let status = c.printed.result.status in
    let ran = call_printed (filing_printable words) status end.status c.judged_categories-answer.ensures.ran in
    rw (end.report, end.device, end.desk) (record {
      ran = ran;
      complete = filing_ends_well words before after out out_after status answer.report ran end.printed;
      printed = end.printed;
    })
