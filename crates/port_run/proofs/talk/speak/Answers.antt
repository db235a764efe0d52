use Rattle.std.proofs.Common.{length, refl, subst, sym}
use Rattle.std.specs.Prelude.{IfErr}
use Rattle.std.specs.Option.{option_map}
use Rattle.port_link.specs.Causes.{downs_of, link_fault}
use Rattle.sync_session.specs.StopCauses.{IsStopBy}
use Rattle.port_run.proofs.AskedLaws.{asks_cable}
use Rattle.port_run.proofs.CloseLaws.{closing}
use Rattle.port_run.proofs.TalkLaws.{has_talked, link_ran}
use Rattle.port_run.proofs.talk.speak.Goals as goal

pub returns-clause-talked : goal.returns-clause-talked
returns-clause-talked g c =
    let outcome = c.run_session-outcome in
    let parts = c.into_parts-port in
    has_talked (λ link. downs_of (option_map link_fault link.cause)) c.args.desk.slots c.args.link c.requires.fresh
    c.requires.first c.requires.asked c.requires.bounded c.requires.sound
    (link_ran parts.result.1 c.requires.fresh outcome.ensures.link.later parts.ensures.leaves parts.ensures.cause parts.ensures.paths parts.ensures.later)
    outcome.ensures.folder (λ told is rests. outcome.ensures.ends told c.requires.ordered is rests)
    (subst (λ cause. IfErr outcome.result.end (IsStopBy (option_map link_fault cause) (length c.args.desk.slots))) (sym parts.ensures.cause) outcome.ensures.cause)
    (asks_cable g.D.Folder c.requires.asked outcome.ensures.follows)
    (closing parts.result.2 outcome.result.end c.close_session-closed.result c.close_session-closed.ensures) refl refl
