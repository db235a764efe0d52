use Rattle.std.proofs.Common.{◌≢◌, ◌∙◌, subst, sym}
use Rattle.std.specs.Prelude.{IsUtf8}
use Rattle.csv.specs.Records.{fields_of}
use Rattle.csv.specs.declared.writer.QuoteStyle.TheVariants as style
use Rattle.table_export.proofs.TextLaws.{IsUtf8-row_text}
use Rattle.table_export.proofs.csv_row.row_bytes.Goals as goal

pub returns-in-Ok-clause-bytes : goal.returns-in-Ok-clause-bytes
returns-in-Ok-clause-bytes c =
    let from = c.from_writer-writer.ensures in
    let plain : c.from_writer-writer.result.cfg.style ≢ style.NonNumeric = rw (from.cfg, c.terminator.ensures, c.new.ensures) (λ e. cc e) in
    let h = c.in_ok-write_byte_record.ensures.bytes from.fields from.wrote plain in
    let text = rw (from.cfg, c.terminator.ensures, c.new.ensures, c.as_byte_record.ensures, from.wtr, c.new-2.ensures.items, from.empty) at h in
    c.in-Ok.ensures.ok ∙ text

pub returns-in-Ok-clause-text : goal.returns-in-Ok-clause-text
returns-in-Ok-clause-text c =
    subst IsUtf8 (sym (returns-in-Ok-clause-bytes c)) (IsUtf8-row_text (fields_of c.args.row.now) c.fields_are_text.ensures)
