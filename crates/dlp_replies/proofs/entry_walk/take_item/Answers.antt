use Rattle.std.proofs.Common.{sym}
use Rattle.dlp_replies.specs.Views.{entry_row}
use Rattle.dlp_replies.proofs.EntryLaws.{item_ok, item_bad}
use Rattle.dlp_replies.proofs.entry_walk.take_item.Goals as goal

pub returns-in-Ok : goal.returns-in-Ok
returns-in-Ok c = sym (item_ok c.args.bytes.now (entry_row c.in_ok-cells.cells) c.in_ok-cells.rest.now c.in-Ok.item (sym c.in_ok-cells.ensures.entry)
    c.in-Ok.ensures)

pub returns-in-Err : goal.returns-in-Err
returns-in-Err c = sym (item_bad c.args.bytes.now (entry_row c.in_ok-cells.cells) c.in_ok-cells.rest.now c.in-Err.field-0 (sym c.in_ok-cells.ensures.entry)
    c.in-Err.ensures)
