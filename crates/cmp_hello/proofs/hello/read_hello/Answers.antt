use Rattle.cmp_hello.proofs.HelloLaws.{text_is_read}
use Rattle.cmp_hello.proofs.hello.read_hello.Goals as goal

pub returns-clause-only : goal.returns-clause-only
returns-clause-only c = text_is_read c.args.bytes.now c.read_fields.result c.read_fields.ensures.fault c.read_fields.ensures.hello
