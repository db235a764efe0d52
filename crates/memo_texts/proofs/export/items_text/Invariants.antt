use Rattle.std.proofs.Common.{◌≡◌, string_bytes, take}
use Rattle.std.specs.Prelude.{All}
use Rattle.memo_texts.specs.Exports.{IsItem, items_text}
use Rattle.memo_texts.proofs.export.items_text.Given as goal

abbrev pub invariant-loop-item : goal.invariant-loop-item
invariant-loop-item l = record {
  text : string_bytes l.text ≡ items_text l.database.app l.privacy (take l.item-index l.item-items);
  memos : All (IsItem l.database.app l.privacy) (take l.item-index l.item-items);
}
