use Rattle.std.proofs.Common.{◌≡◌, ◌∙◌, ap}
use Rattle.made_folders.specs.Items.{made}
use Rattle.call_parts.specs.DoneLines.{done_lines}
use Rattle.cmd_status.specs.Told.{sink_told}
use Rattle.cmd_session.proofs.MakeLaws.{ends_printed, made_printed}
use Rattle.cmd_status.proofs.PrintedLaws.{printed_weaken}
use Rattle.cmd_session.proofs.make.run_made_folders.Goals as goal

pub returns : goal.returns
returns g c =
    let out = sink_told g.O.Sink c.args.out.now in
    let out_after = sink_told g.O.Sink c.print_status-status.new.out in
    let status = c.made_session-status.result.0 in
    let report = c.made_session-status.result.1 in
    let printed = c.print_status-status in
    record {
      ran = made_printed (made c.args.seed c.args.count) status report printed.result printed.ensures.status c.made_session-status.ensures.made;
      ends = ends_printed printed.result printed.ensures.status c.made_session-status.ensures.ends;
      printed = printed_weaken (λ text. text ≡ done_lines report.databases.items) (λ text is. is ∙ ap done_lines c.deref.ensures.value) printed.ensures.printed;
    }
