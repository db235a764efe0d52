use Rattle.device_stream.proofs.AlikeLaws.{Takes-alike, Talks-alike, waited_by-alike}
use Rattle.device_stream.proofs.laws.alike_hands_talk_alike.Goals as goal

pub returns-clause-takes : goal.returns-clause-takes
returns-clause-takes c = Takes-alike

pub returns-clause-talks : goal.returns-clause-talks
returns-clause-talks c = Talks-alike

pub returns-clause-waits : goal.returns-clause-waits
returns-clause-waits c = waited_by-alike
