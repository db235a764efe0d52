use Rattle.std.proofs.Common.{[], ◌∷◌}
use Rattle.handheld_files.specs.Openings.{opened_device}
use Rattle.install_backup.specs.InstallActs.{install_mark}
use Rattle.call_parts.specs.Told.{sides_told}
use Rattle.call_parts.proofs.RetoldLaws.{talk_traced}
use Rattle.cmd_files.proofs.LoadSpoke.{load_retold}
use Rattle.cmd_files.proofs.install.traced_install.Goals as goal

pub returns-clause-talk : goal.returns-clause-talk
returns-clause-talk g c =
    let before = sides_told g.H.Folder g.D.Folder c.args.store.folder c.args.desk in
    let after = sides_told g.H.Folder g.D.Folder c.load_talk-answer.result.device c.load_talk-answer.result.desk in
    let end = c.traced.ensures in
    rw (end.report, end.device, end.desk) (talk_traced c.traced.result.status
    (load_retold [] (install_mark c.args.database) (opened_device c.args.store.databases c.args.store.user) (c.args.database ∷ []) before.palm after.palm)
    (rw (c.empty-script.ensures, c.install_mark-mark.ensures) at c.load_talk-answer.ensures.talk) end.status)
