use Rattle.std.specs.Prelude.{string_bytes}
use Rattle.std.specs.declared.alloc.Global.{Global}
use Rattle.palm_records.specs.Choices.{first_bad}
use Rattle.calendar_export.specs.Exports.{exported, fault_of, is_of_kind, source_of}
use Rattle.calendar_export.specs.Items.{calendar_text}
use Rattle.calendar_export.specs.declared.kind.Kind.TheVariants.{Tasks}
use Rattle.hotsync_c.proofs.ExportLaws.{refusal_says}
use Rattle.hotsync_c.proofs.export.task_text.Goals as goal

pub returns-clause-refused : goal.returns-clause-refused
returns-clause-refused c =
    let e = c.tasks_text.ensures in
    let database = c.args.database.now in
    let wishes = c.args.wishes.now in
    refusal_says (string_bytes {Z = Global}) (calendar_text (source_of wishes.made database) (exported Tasks wishes.privacy database))
    (is_of_kind Tasks database.head) wishes.broken (first_bad (fault_of Tasks) wishes.privacy 0 database.records) c.tasks_text.result
    e.kind.1 e.kind.0 (λ i p x. let t = (e.bad i p).0 x in (t.1, t.2))
