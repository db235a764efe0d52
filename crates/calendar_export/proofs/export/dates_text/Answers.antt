use Rattle.std.proofs.Common.{◌∙◌, ap}
use Rattle.content_lines.specs.Properties.{properties_text}
use Rattle.content_lines.proofs.ExportLaws.{exported-all}
use Rattle.palm_records.specs.Choices.{is_exported}
use Rattle.calendar_export.specs.declared.kind.Kind.TheVariants.{Dates}
use Rattle.calendar_export.specs.Exports.{exported, item_of, source_of}
use Rattle.calendar_export.specs.Items.{IsItem}
use Rattle.calendar_export.proofs.CalendarLaws.{calendar_text_injective}
use Rattle.calendar_export.proofs.export.dates_text.Goals as goal

pub returns-clause-text : goal.returns-clause-text
returns-clause-text c = c.in_ok-text.ensures ∙ ap properties_text c.in_ok-calendar.ensures.calendar

pub returns-clause-alone : goal.returns-clause-alone
returns-clause-alone c items proper same =
    let database = c.args.database.now in
    calendar_text_injective (source_of c.args.made database) Dates items (exported Dates c.args.privacy database) c.in_ok-calendar.ensures.plain proper
    (exported-all (IsItem Dates) (item_of Dates database.app) (is_exported c.args.privacy) database.records c.in_ok-calendar.ensures.items)
    (same ∙ returns-clause-text c)
