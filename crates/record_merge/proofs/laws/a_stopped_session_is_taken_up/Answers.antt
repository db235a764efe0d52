use Rattle.record_merge.proofs.StopLaws.{baseless-stopped, choice-stopped, handheld-given, desktop-again}
use Rattle.record_merge.proofs.laws.a_stopped_session_is_taken_up.Goals as goal

pub returns-clause-both : goal.returns-clause-both
returns-clause-both c = λ v rows base records counts given is n w.
    choice-stopped n v w rows base records counts given is.fresh is.shows is.free

pub returns-clause-baseless : goal.returns-clause-baseless
returns-clause-baseless c = λ v rows base records counts given is n w.
    baseless-stopped n v w rows base records counts given is.shows is.free

pub returns-clause-handheld : goal.returns-clause-handheld
returns-clause-handheld c = handheld-given

pub returns-clause-desktop : goal.returns-clause-desktop
returns-clause-desktop c = desktop-again
