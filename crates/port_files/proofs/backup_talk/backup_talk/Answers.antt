use Rattle.std.proofs.Common.{◌∙◌, ap, subst}
use Rattle.port_link.specs.Calls.{LinkValue}
use Rattle.port_run.specs.Links.{port_of}
use Rattle.port_run.specs.Told.{PortTold, desk_told, port_told}
use Rattle.port_files.specs.Backups.{backup_command}
use Rattle.port_files.specs.Talks.{HasTalk}
use Rattle.port_files.proofs.TalkLaws.{kept_silent}
use Rattle.port_files.proofs.backup_talk.backup_talk.Goals as goal

pub returns-in-Ok-clause-talked : goal.returns-in-Ok-clause-talked
returns-in-Ok-clause-talked g c words =
    let over = c.backup_over in
    subst (λ (told : PortTold). HasTalk (backup_command words) told (port_told g.P.Port over.result.port) (desk_told g.D.Folder c.args.folder)
    (desk_told g.D.Folder over.result.desk) over.result.status over.result.report)
    (ap (λ (link : LinkValue). port_of link) c.in-Ok.ensures.link) (over.ensures.talked words)

pub returns-in-Err-clause-talked : goal.returns-in-Err-clause-talked
returns-in-Err-clause-talked g c words =
    let end = c.not_started in
    kept_silent (backup_command words) end.ensures.status end.ensures.report
    (ap (λ p. port_told g.P.Port p) (end.ensures.port ∙ c.in-Err.ensures.back)) (ap (λ f. desk_told g.D.Folder f) end.ensures.desk)
