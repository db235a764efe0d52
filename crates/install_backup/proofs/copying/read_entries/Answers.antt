-- Resources, or records.
use Rattle.std.proofs.Common.{◌≡◌, ◌∙◌, ap, sym, true, false}
use Rattle.pdb_values.specs.Heads.{holds_resources}
use Rattle.pdb_values.specs.declared.head.DbHead.{DbHead}
use Rattle.install_backup.proofs.copying.read_entries.Goals as goal

pub returns-then-holds_resources-clause-asks : goal.returns-then-holds_resources-clause-asks
returns-then-holds_resources-clause-asks g c =
    let is : holds_resources c.args.made.head.attributes ≡ true =
    ap (λ (head : DbHead). holds_resources head.attributes) (sym c.head.ensures.head) ∙ sym c.holds_resources.ensures ∙ c.if-holds_resources.true in
    rw is c.read_resources.ensures.asks

pub returns-else-holds_resources-clause-asks : goal.returns-else-holds_resources-clause-asks
returns-else-holds_resources-clause-asks g c =
    let is : holds_resources c.args.made.head.attributes ≡ false =
    ap (λ (head : DbHead). holds_resources head.attributes) (sym c.head.ensures.head) ∙ sym c.holds_resources.ensures ∙ c.if-holds_resources.false in
    rw is c.read_records.ensures.asks
