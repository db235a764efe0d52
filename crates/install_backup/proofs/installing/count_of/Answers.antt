-- The entries that are written.
use Rattle.std.proofs.Common.{◌≡◌, ◌∙◌, ap, sym, true, false, length}
use Rattle.pdb_values.specs.Heads.{holds_resources}
use Rattle.pdb_values.specs.declared.head.DbHead.{DbHead}
use Rattle.install_backup.specs.InstallActs.{written_count}
use Rattle.install_backup.proofs.installing.count_of.Goals as goal

pub returns-then-holds_resources : goal.returns-then-holds_resources
unfolding written_count
returns-then-holds_resources c =
    let is : holds_resources c.args.database.now.head.attributes ≡ true =
    ap (λ (head : DbHead). holds_resources head.attributes) (sym c.head.ensures.head) ∙ sym c.holds_resources.ensures ∙ c.if-holds_resources.true in
    rw is (ap length c.resources.ensures.resources)

pub returns-else-holds_resources : goal.returns-else-holds_resources
unfolding written_count
returns-else-holds_resources c =
    let is : holds_resources c.args.database.now.head.attributes ≡ false =
    ap (λ (head : DbHead). holds_resources head.attributes) (sym c.head.ensures.head) ∙ sym c.holds_resources.ensures ∙ c.if-holds_resources.false in
    rw is (ap length c.requires.records)
