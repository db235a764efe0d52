use Rattle.session_parts.proofs.CauseLaws.{later_refused}
use Rattle.std.proofs.Common.{sym, refl}
use Rattle.desktop_session.specs.Answers.{resource_of}
use Rattle.install_backup.proofs.copying.read_resource.Goals as goal

pub returns-in-Err-clause-cause : goal.returns-in-Err-clause-cause
returns-in-Err-clause-cause g c =
    let gives = rw c.in-Err.is at c.resource_at.follows.holds-at-none.3 in
    later_refused resource_of c.in-Err.fault refl c.resource_at.follows.holds-at-none.2 (sym gives)
