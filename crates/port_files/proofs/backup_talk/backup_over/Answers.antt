use Rattle.std.proofs.Common.{refl}
use Rattle.std.specs.Option.{option_map}
use Rattle.port_link.specs.Causes.{downs_of, link_fault}
use Rattle.port_run.proofs.CloseLaws.{closing}
use Rattle.port_run.proofs.TalkLaws.{link_ran}
use Rattle.port_files.proofs.TalkLaws.{has_talk}
use Rattle.port_files.proofs.backup_talk.backup_over.Goals as goal

pub returns-clause-talked : goal.returns-clause-talked
returns-clause-talked g c words =
    let outcome = c.backup_session-outcome in
    let parts = c.into_parts-port in
    has_talk g.D.Folder.contents g.D.Folder.moments g.D.Folder.paths g.D.Folder.faults (λ link. downs_of (option_map link_fault link.cause)) words c.args.folder
    c.args.link outcome.result c.moves_told-end.result c.requires.fresh c.requires.first
    (link_ran parts.result.1 c.requires.fresh outcome.ensures.link.later parts.ensures.leaves parts.ensures.cause parts.ensures.paths parts.ensures.later)
    outcome.ensures.ran outcome.ensures.ends outcome.ensures.cause outcome.ensures.paths c.moves_told-end.ensures
    (closing parts.result.2 c.moves_told-end.result c.close_session-closed.result c.close_session-closed.ensures) refl refl
