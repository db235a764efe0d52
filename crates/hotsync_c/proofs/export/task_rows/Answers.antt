use Rattle.std.specs.Prelude.{string_bytes}
use Rattle.std.specs.declared.alloc.Global.{Global}
use Rattle.table_export.specs.Exports.{exported_rows, first_bad_item, is_of_kind}
use Rattle.table_export.specs.Tables.{table_text}
use Rattle.table_export.specs.declared.kind.Marks.TheVariants as marks
use Rattle.table_export.specs.declared.kind.Kind.TheVariants.{Tasks}
use Rattle.hotsync_c.proofs.ExportLaws.{refusal_says}
use Rattle.hotsync_c.proofs.export.task_rows.Goals as goal

pub returns-clause-refused : goal.returns-clause-refused
returns-clause-refused c =
    let e = c.tasks_table.ensures in
    let database = c.args.database.now in
    let wishes = c.args.wishes.now in
    refusal_says (string_bytes {Z = Global}) (table_text marks.Absent (exported_rows Tasks wishes.privacy database)) (is_of_kind Tasks database.head) wishes.broken
    (first_bad_item Tasks wishes.privacy database) c.tasks_table.result e.kind.1 e.kind.0 (λ i p x. let t = (e.bad i p).0 x in (t.1, t.2))
