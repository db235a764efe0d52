-- Live records, settled.
use Rattle.std.proofs.Common.{◌≡◌, ◌∙◌, ap, sym, true, List}
use Rattle.pdb_values.specs.Databases.{DatabaseValue}
use Rattle.pdb_values.specs.Heads.{holds_resources}
use Rattle.pdb_values.specs.declared.head.DbHead.{DbHead}
use Rattle.pdb_values.specs.declared.record.Record.{Record}
use Rattle.handheld_files.specs.Settled.{as_opened}
use Rattle.palm_device.specs.Records.{with_records}
use Rattle.install_backup.proofs.RecordLaws.{records-none, settled-installed}
use Rattle.install_backup.proofs.live.to_install.Goals as goal

pub returns-then-holds_resources : goal.returns-then-holds_resources
returns-then-holds_resources c =
    let is : holds_resources c.args.database.now.head.attributes ≡ true =
    ap (λ (head : DbHead). holds_resources head.attributes) (sym c.head.ensures.head) ∙ sym c.holds_resources.ensures ∙ c.if-holds_resources.true in
    ap (λ (database : DatabaseValue). database.records) c.new.ensures
    ∙ sym (records-none c.args.database.now.records (c.head.ensures.database.no_records is))

pub returns : goal.returns
returns c =
    ap (λ (database : DatabaseValue). database.records) c.in_ok-settle.ensures.settled
    ∙ ap (λ (records : List Record). (as_opened (with_records records c.in_ok-live.live)).records) c.in_ok-live.ensures
    ∙ settled-installed c.args.database.now.records c.in_ok-live.live
