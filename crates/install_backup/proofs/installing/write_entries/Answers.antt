-- Resources, or records.
use Rattle.std.proofs.Common.{◌≡◌, ◌∙◌, ap, sym, true, false}
use Rattle.pdb_values.specs.Heads.{holds_resources}
use Rattle.pdb_values.specs.declared.head.DbHead.{DbHead}
use Rattle.install_backup.specs.InstallActs.{entry_acts}
use Rattle.install_backup.proofs.RecordLaws.{installed-numbered}
use Rattle.install_backup.proofs.installing.write_entries.Goals as goal

pub write_records-requires : goal.write_records-requires
write_records-requires g c = rw c.requires (installed-numbered c.args.database.now.records)

pub returns-then-holds_resources-clause-asks : goal.returns-then-holds_resources-clause-asks
unfolding entry_acts
returns-then-holds_resources-clause-asks g c =
    let is : holds_resources c.args.database.now.head.attributes ≡ true =
    ap (λ (head : DbHead). holds_resources head.attributes) (sym c.head.ensures.head) ∙ sym c.holds_resources.ensures ∙ c.if-holds_resources.true in
    rw is (rw c.resources.ensures.resources at c.write_resources.ensures.asks)

pub returns-else-holds_resources-clause-asks : goal.returns-else-holds_resources-clause-asks
unfolding entry_acts
returns-else-holds_resources-clause-asks g c =
    let is : holds_resources c.args.database.now.head.attributes ≡ false =
    ap (λ (head : DbHead). holds_resources head.attributes) (sym c.head.ensures.head) ∙ sym c.holds_resources.ensures ∙ c.if-holds_resources.false in
    rw is (rw c.requires at c.write_records.ensures.asks)
