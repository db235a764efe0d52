use Rattle.std.proofs.Common.{◌≡◌, map, take}
use Rattle.std.specs.Prelude.{All, filter}
use Rattle.std.specs.List.{flat_map}
use Rattle.pdb_values.specs.Stems.{stem_of}
use Rattle.palm_records.specs.Choices.{is_exported}
use Rattle.card_export.specs.Exports.{IsItem, card_of}
use Rattle.card_export.specs.Properties.{card_properties}
use Rattle.card_export.proofs.export.cards_of.Given as goal

abbrev pub invariant-loop-item : goal.invariant-loop-item
invariant-loop-item l = record {
  cards : l.cards
      ≡ flat_map card_properties
      (map (card_of (stem_of l.database.head.name) l.database.app) (filter (is_exported l.privacy) (take l.item-index l.item-items)));
  stored : All (IsItem l.database.app l.privacy) (take l.item-index l.item-items);
}
