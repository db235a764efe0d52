use Rattle.run_words.specs.Views.{between_view}
use Rattle.cmd_status.specs.Told.{sink_told}
use Rattle.call_parts.specs.Told.{call_told}
use Rattle.call_parts.proofs.CallPrinted.{call_printed}
use Rattle.cmd_files.proofs.InstallRuns.{install_printable}
use Rattle.cmd_files.proofs.InstallWell.{install_ends_well}
use Rattle.cmd_files.proofs.install.install_file.Goals as goal

pub returns-clause-install : goal.returns-clause-install
returns-clause-install g c =
    let words = between_view c.args.words.now in
    let before = call_told g.H.Folder g.D.Folder g.S.Source g.T.Sink c.args.device c.args.desk c.args.source.now c.args.trace.now in
    let answer = c.judged_install-answer.result in
    let after =
    call_told g.H.Folder g.D.Folder g.S.Source g.T.Sink answer.device answer.desk c.judged_install-answer.new.source c.judged_install-answer.new.trace in
    let out = sink_told g.O.Sink c.args.out.now in
    let out_after = sink_told g.O.Sink c.printed.new.out in
    let end = c.printed.ensures in
    let status = c.printed.result.status in
    let ran = call_printed (install_printable words) status end.status c.judged_install-answer.ensures.ran in
    rw (end.report, end.device, end.desk) (record {
      ran = ran;
      complete = install_ends_well words before after out out_after status answer.report ran end.printed;
      printed = end.printed;
    })
