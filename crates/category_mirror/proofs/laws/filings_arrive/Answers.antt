-- What a session makes of a handheld.
use Rattle.category_mirror.proofs.DoneLaws.{session_goes}
use Rattle.category_mirror.proofs.laws.filings_arrive.Goals as goal

pub returns-clause-order : goal.returns-clause-order
returns-clause-order c = λ filing rests. (session_goes filing rests).order

pub returns-clause-device : goal.returns-clause-device
returns-clause-device c = λ filing rests. (session_goes filing rests).after
