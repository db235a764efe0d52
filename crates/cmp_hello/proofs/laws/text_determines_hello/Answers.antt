use Rattle.cmp_hello.proofs.HelloLaws.{one_hello}
use Rattle.cmp_hello.proofs.laws.text_determines_hello.Goals as goal

pub returns : goal.returns
returns c = one_hello
