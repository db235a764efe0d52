use Rattle.port_laws.proofs.DeskLaws.{desk_reads}
use Rattle.port_laws.proofs.laws.bytes_may_come.Goals as goal

pub returns : goal.returns
returns c = desk_reads
