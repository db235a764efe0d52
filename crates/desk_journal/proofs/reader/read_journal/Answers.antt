-- What is read has the bytes as its text, and each journal is read, by the laws of journals.
use Rattle.std.proofs.Common.{arith}
use Rattle.desk_journal.proofs.ReadLaws.{found_of, only_of}
use Rattle.desk_journal.proofs.reader.read_journal.Goals as goal

pub returns-clause-found : goal.returns-clause-found
returns-clause-found c = found_of c.read.result c.args.bytes.now (λ i. omega (arith, c.type_inv.bytes i)) c.read.ensures

pub returns-clause-only : goal.returns-clause-only
returns-clause-only c = λ entries is text. only_of c.read.result entries c.read.ensures is text
