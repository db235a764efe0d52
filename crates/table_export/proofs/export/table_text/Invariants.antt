use Rattle.std.proofs.Common.{◌≡◌, ◌++◌, map, string_bytes, take}
use Rattle.std.specs.Prelude.{filter}
use Rattle.palm_records.specs.Choices.{is_exported}
use Rattle.card_export.specs.Exports.{text_of}
use Rattle.table_export.specs.Exports.{head_row, item_row}
use Rattle.table_export.specs.Tables.{line_of, table_text}
use Rattle.table_export.proofs.export.table_text.Given as goal

abbrev pub invariant-loop-item : goal.invariant-loop-item
invariant-loop-item l =
    string_bytes l.text
    ≡ line_of l.marks (head_row l.kind (text_of l.database.app))
    ++ table_text l.marks (map (item_row l.kind l.database.app) (filter (is_exported l.privacy) (take l.item-index l.item-items)))
