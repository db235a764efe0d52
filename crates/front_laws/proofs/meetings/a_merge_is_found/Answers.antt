use Rattle.front_laws.proofs.WholeLaws.{merged-at, whole-found, holds-end}
use Rattle.front_laws.proofs.meetings.a_merge_is_found.Goals as goal

pub returns-clause-desktop : goal.returns-clause-desktop
returns-clause-desktop c = merged-at

pub returns-clause-whole : goal.returns-clause-whole
returns-clause-whole c = whole-found

pub returns-clause-holds : goal.returns-clause-holds
returns-clause-holds c = holds-end
