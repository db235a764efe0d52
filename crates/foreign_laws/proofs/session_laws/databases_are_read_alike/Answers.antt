use Rattle.foreign_laws.proofs.SessionTwins.{twin_reads_all}
use Rattle.foreign_laws.proofs.session_laws.databases_are_read_alike.Goals as goal

pub returns : goal.returns
returns g c = twin_reads_all
