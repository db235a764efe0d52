use Rattle.std.proofs.Common.{◌∙◌, ap}
use Rattle.table_export.specs.Exports.{exported_rows}
use Rattle.table_export.specs.Tables.{rows_in}
use Rattle.table_export.specs.declared.kind.Kind.TheVariants.{Addresses}
use Rattle.table_export.proofs.ReadLaws.{rows_in-table_text, table_text_injective}
use Rattle.table_export.proofs.TableLaws.{IsRow-exported_rows}
use Rattle.table_export.proofs.export.addresses_table.Goals as goal

pub returns-clause-rows : goal.returns-clause-rows
returns-clause-rows c =
    let database = c.args.database.now in
    let proper = IsRow-exported_rows Addresses c.args.privacy database in
    ap rows_in c.in_ok-text.ensures ∙ rows_in-table_text c.args.marks (exported_rows Addresses c.args.privacy database) proper

pub returns-clause-alone : goal.returns-clause-alone
returns-clause-alone c rows proper same =
    let database = c.args.database.now in
    table_text_injective c.args.marks rows (exported_rows Addresses c.args.privacy database) proper (IsRow-exported_rows Addresses c.args.privacy database)
    (same ∙ c.in_ok-text.ensures)
