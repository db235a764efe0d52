use Rattle.std.proofs.Common.{◌∙◌, arith}
use Rattle.dlp_args.proofs.ArgumentLaws.{arguments_are, arguments_only}
use Rattle.dlp_args.proofs.reader.read_args.Goals as goal

pub returns-clause-found : goal.returns-clause-found
returns-clause-found c = arguments_are c.args.count c.args.start c.args.bytes.now c.take_args.result (λ i. omega (arith, c.type_inv.bytes i))
    c.take_args.ensures

pub returns-clause-only : goal.returns-clause-only
returns-clause-only c = λ arguments len is. c.take_args.ensures ∙ arguments_only c.args.start c.args.bytes.now arguments len is
