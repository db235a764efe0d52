use Rattle.std.proofs.Common.{◌≡◌, arith, ap, sym}
use Rattle.card_export.specs.Properties.{label_name}
use Rattle.card_export.proofs.custom.label_name.Goals as goal

pub returns-in-0-clause-name : goal.returns-in-0-clause-name
returns-in-0-clause-name c = sym (ap label_name c.in-0.is)

pub returns-in-1-clause-name : goal.returns-in-1-clause-name
returns-in-1-clause-name c = sym (ap label_name c.in-1.is)

pub returns-in-2-clause-name : goal.returns-in-2-clause-name
returns-in-2-clause-name c = sym (ap label_name c.in-2.is)

pub returns-in_default-clause-name : goal.returns-in_default-clause-name
returns-in_default-clause-name c =
    let last : c.args.number ≡ 3 = omega arith in
    sym (ap label_name last)
