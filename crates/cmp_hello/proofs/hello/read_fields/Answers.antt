use Rattle.std.proofs.Common.{◌≡◌, drop, arith}
use Rattle.std.proofs.lemmas.List.{take_rest}
use Rattle.byteorder.specs.Endian.{big_number}
use Rattle.cmp_hello.proofs.HelloLaws.{text_of_fields}
use Rattle.cmp_hello.proofs.hello.read_fields.Goals as goal

pub returns-clause-hello : goal.returns-clause-hello
returns-clause-hello c =
    let text = text_of_fields c.in-Some.kind c.args.bytes.now (omega arith) (λ i. omega (arith, c.type_inv.bytes i)) c.in-Some.ensures.there (omega arith) in
    let rate : c.read_u32.result ≡ big_number 4 (drop 6 c.args.bytes.now) = rw take_rest at c.read_u32.ensures in
    rw rate text
