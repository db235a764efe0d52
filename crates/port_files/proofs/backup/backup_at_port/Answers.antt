use Rattle.std.proofs.Common.{map, string_bytes}
use Rattle.std.specs.Prelude.{codes}
use Rattle.run_words.specs.Porteds.{ported_of}
use Rattle.port_run.specs.Told.{sync_told}
use Rattle.port_files.specs.Backups.{backup_command}
use Rattle.port_files.proofs.UnreadLaws.{unread}
use Rattle.port_files.proofs.backup.backup_at_port.Goals as goal

pub returns-clause-call : goal.returns-clause-call
returns-clause-call g c =
    rw c.in-Ok.ensures.command
    (record {
      found = c.judged_backup-synced.result.status;
      ran = c.judged_backup-synced.ensures.ran;
      status_is = c.print_status-status.ensures.status;
      printed = rw c.deref.ensures.value at c.print_status-status.ensures.printed;
    })

pub returns-in-Err-NoMemory-clause-call : goal.returns-in-Err-NoMemory-clause-call
returns-in-Err-NoMemory-clause-call g c =
    let said = c.print_refusal-status in
    let end = c.not_started-in-Err-NoMemory in
    rw (end.ensures.port, end.ensures.desk)
    (unread backup_command (ported_of (codes "backup") (map string_bytes c.args.words.now))
    (sync_told g.P.Port g.D.Folder g.T.Sink c.args.port c.args.folder c.args.trace.now)
    said.ensures.status end.ensures.status end.ensures.report said.ensures.printed)
