use Rattle.std.specs.Prelude.{string_bytes}
use Rattle.std.specs.declared.alloc.Global.{Global}
use Rattle.palm_records.specs.Choices.{first_bad}
use Rattle.palm_records.specs.declared.choice.Privacy.{Privacy}
use Rattle.calendar_export.specs.Exports.{exported, fault_of, is_of_kind, source_of}
use Rattle.calendar_export.specs.Items.{calendar_text}
use Rattle.calendar_export.specs.declared.kind.Kind.TheVariants.{Tasks}
use Rattle.hotsync_looks.specs.ExportTexts.{broken_of, privacy_of}
use Rattle.hotsync_looks.proofs.ExportLaws.{refusal_says_by}
use Rattle.hotsync_looks.proofs.exported.task_text.Goals as goal

pub returns-clause-refused : goal.returns-clause-refused
returns-clause-refused c =
    let e = c.tasks_text.ensures in
    let database = c.args.database.now in
    refusal_says_by (string_bytes {Z = Global}) (λ (wanted : Privacy). calendar_text (source_of c.args.made database) (exported Tasks wanted database))
    (λ (wanted : Privacy). first_bad (fault_of Tasks) wanted 0 database.records) (is_of_kind Tasks database.head)
    c.privacy_of.result (privacy_of c.args.export) c.broken_of.result (broken_of c.args.export) c.tasks_text.result c.privacy_of.ensures c.broken_of.ensures
    e.kind.1 e.kind.0 (λ i p x. let t = (e.bad i p).0 x in (t.1, t.2))
