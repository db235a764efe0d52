use Rattle.std.proofs.Common.{◌∙◌, ap, refl}
use Rattle.handheld_server.specs.SaidThings.{downs_of}
use Rattle.line_world.specs.Worlds.{world_talk}
use Rattle.call_parts.specs.FreshLines.{fresh_line}
use Rattle.call_parts.specs.Told.{folder_told, sides_told}
use Rattle.call_parts.proofs.SaidLaws.{opened_rests}
use Rattle.call_parts.proofs.SpokeLaws.{kept_silent}
use Rattle.cmd_files.proofs.BackupSpoke.{backup_spoke}
use Rattle.cmd_files.proofs.backup_talk.backup_talk.Goals as goal

pub returns-in-Err-clause-talk : goal.returns-in-Err-clause-talk
returns-in-Err-clause-talk g c =
    let end = c.not_started in
    kept_silent (sides_told g.H.Folder g.D.Folder c.args.store.folder c.args.files) (sides_told g.H.Folder g.D.Folder end.result.device end.result.desk)
    end.ensures.status end.ensures.report (ap (λ f. folder_told g.H.Folder.contents g.H.Folder.moments g.H.Folder.paths g.H.Folder.faults f)
    (end.ensures.device ∙ c.in-Err.ensures.back))
    (ap (λ f. folder_told g.D.Folder.contents g.D.Folder.moments g.D.Folder.paths g.D.Folder.faults f) end.ensures.desk)

pub returns-clause-talk : goal.returns-clause-talk
returns-clause-talk g c =
    let outcome = c.backup_session-outcome in
    let closed = c.close_session-closed.ensures in
    let world = fresh_line c.args.store.folder c.args.store.databases c.args.store.user c.args.script in
    let rests = opened_rests c.requires.kept c.requires.proper refl in
    rw closed.folder (backup_spoke g.D.Folder.paths g.D.Folder.faults (λ world. world.fault) (λ world. downs_of world.fault) {old = world}
    c.moves_told-end.result c.requires.stands rests c.requires.kept refl refl (rw c.in-Ok.ensures.line at outcome.ensures.link.later)
    ((rw c.in-Ok.ensures.line at outcome.ensures.ends) (world_talk world) refl rests) c.moves_told-end.ensures closed.closes outcome.ensures.cause
    outcome.ensures.paths)
