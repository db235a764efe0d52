use Rattle.std.specs.Prelude.{string_bytes}
use Rattle.std.specs.declared.alloc.Global.{Global}
use Rattle.table_export.specs.Exports.{exported_rows, first_bad_item, is_of_kind}
use Rattle.table_export.specs.Tables.{table_text}
use Rattle.table_export.specs.declared.kind.Marks.TheVariants as marks
use Rattle.table_export.specs.declared.kind.Kind.TheVariants.{Addresses}
use Rattle.hotsync_c.proofs.ExportLaws.{refusal_says}
use Rattle.hotsync_c.proofs.export.address_rows.Goals as goal

pub returns-clause-refused : goal.returns-clause-refused
returns-clause-refused c =
    let e = c.addresses_table.ensures in
    let database = c.args.database.now in
    let wishes = c.args.wishes.now in
    refusal_says (string_bytes {Z = Global}) (table_text marks.Absent (exported_rows Addresses wishes.privacy database)) (is_of_kind Addresses database.head) wishes.broken
    (first_bad_item Addresses wishes.privacy database) c.addresses_table.result e.kind.1 e.kind.0 (λ i p x. let t = (e.bad i p).0 x in (t.1, t.2))
