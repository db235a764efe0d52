use Rattle.port_link.proofs.PartLaws.{course-scanned}
use Rattle.port_link.proofs.laws.packets_are_those_of_the_bytes.Goals as goal

pub returns : goal.returns
returns c events fault old new course = course-scanned events fault old new course
