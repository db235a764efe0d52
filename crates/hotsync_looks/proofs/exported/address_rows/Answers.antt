use Rattle.std.specs.Prelude.{string_bytes}
use Rattle.std.specs.declared.alloc.Global.{Global}
use Rattle.palm_records.specs.declared.choice.Privacy.{Privacy}
use Rattle.table_export.specs.Exports.{exported_rows, first_bad_item, is_of_kind}
use Rattle.table_export.specs.Tables.{table_text}
use Rattle.table_export.specs.declared.kind.Kind.TheVariants.{Addresses}
use Rattle.hotsync_looks.specs.ExportTexts.{broken_of, marks_of, privacy_of}
use Rattle.hotsync_looks.proofs.ExportLaws.{refusal_says_by}
use Rattle.hotsync_looks.proofs.exported.address_rows.Goals as goal

pub returns-clause-refused : goal.returns-clause-refused
returns-clause-refused c =
    let e = c.addresses_table.ensures in
    let database = c.args.database.now in
    refusal_says_by (string_bytes {Z = Global}) (λ (wanted : Privacy). table_text (marks_of c.args.export) (exported_rows Addresses wanted database))
    (λ (wanted : Privacy). first_bad_item Addresses wanted database) (is_of_kind Addresses database.head) c.privacy_of.result (privacy_of c.args.export)
    c.broken_of.result (broken_of c.args.export) c.addresses_table.result c.privacy_of.ensures c.broken_of.ensures
    e.kind.1 e.kind.0 (λ i p x. let t = (e.bad i p).0 x in (t.1, t.2))
