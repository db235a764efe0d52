use Rattle.std.proofs.Common.{◌≡◌, ◌∙◌, ap, length}
use Rattle.run_words.specs.Views.{capture_view}
use Rattle.hotsync_looks.specs.Served.{served_lines}
use Rattle.cmd_status.specs.Told.{sink_told}
use Rattle.cmd_status.proofs.PrintedLaws.{printed_weaken}
use Rattle.call_parts.specs.Told.{call_told}
use Rattle.cmd_files.proofs.EmulationLaws.{emulation_decided, emulation_printed}
use Rattle.cmd_files.proofs.emulation.emulate.Goals as goal

pub returns-clause-emulation : goal.returns-clause-emulation
returns-clause-emulation g c =
    let capture = capture_view c.args.words.now in
    let before = call_told g.H.Folder g.D.Folder g.S.Source g.T.Sink c.args.device c.args.desk c.args.source.now c.args.sink.now in
    let answer = c.judged_emulation-answer.result in
    let after = call_told g.H.Folder g.D.Folder g.S.Source g.T.Sink answer.device answer.desk c.judged_emulation-answer.new.source
    c.judged_emulation-answer.new.sink in
    let out = sink_told g.O.Sink c.args.out.now in
    let out_after = sink_told g.O.Sink c.print_talk-status.new.out in
    let printed = c.print_talk-status.ensures.printed in
    let status = c.print_talk-status.result in
    let ran = emulation_printed c.judged_emulation-answer.ensures.ran status c.print_talk-status.ensures.status in
    record {
      ran = ran;
      printed = printed_weaken (λ text. text ≡ served_lines (length answer.report.performed.items)) (λ text is. is ∙ ap (λ requests. served_lines (length requests)) c.deref.ensures.value) printed;
      complete = emulation_decided capture before after out out_after status answer.report ran printed;
    }
