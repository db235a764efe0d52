use Rattle.handheld_files.specs.Openings.{opened_device}
use Rattle.call_parts.specs.Told.{sides_told}
use Rattle.call_parts.proofs.RetoldLaws.{talk_traced}
use Rattle.cmd_files.proofs.BackupSpoke.{backup_retold}
use Rattle.cmd_files.proofs.backup.traced_backup.Goals as goal

pub returns-clause-talk : goal.returns-clause-talk
returns-clause-talk g c =
    let before = sides_told g.H.Folder g.D.Folder c.args.store.folder c.args.files in
    let after = sides_told g.H.Folder g.D.Folder c.backup_talk-answer.result.device c.backup_talk-answer.result.desk in
    let end = c.traced.ensures in
    rw (end.report, end.device, end.desk) (talk_traced c.traced.result.status
    (backup_retold c.args.script (opened_device c.args.store.databases c.args.store.user) before after)
    c.backup_talk-answer.ensures.talk end.status)
