use Rattle.conduit_rules.proofs.KeptLaws.{handheld_change_stays, desktop_change_stays, gone_change_stays, new_stays}
use Rattle.conduit_rules.proofs.laws.no_change_is_lost.Goals as goal

pub returns-clause-handheld : goal.returns-clause-handheld
returns-clause-handheld c = handheld_change_stays

pub returns-clause-desktop : goal.returns-clause-desktop
returns-clause-desktop c = desktop_change_stays

pub returns-clause-gone : goal.returns-clause-gone
returns-clause-gone c = gone_change_stays

pub returns-clause-new : goal.returns-clause-new
returns-clause-new c = new_stays
