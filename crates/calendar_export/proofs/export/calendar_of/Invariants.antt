use Rattle.std.proofs.Common.{◌≡◌, ◌++◌, map, take}
use Rattle.std.specs.Prelude.{All, filter}
use Rattle.std.specs.List.{flat_map}
use Rattle.palm_records.specs.Choices.{is_exported}
use Rattle.calendar_export.specs.Components.{opening}
use Rattle.calendar_export.specs.Exports.{IsSaid, item_of, source_of}
use Rattle.calendar_export.specs.Items.{item_properties}
use Rattle.calendar_export.proofs.export.calendar_of.Given as goal

abbrev pub invariant-loop-item : goal.invariant-loop-item
invariant-loop-item l = record {
  calendar : l.calendar
      ≡ opening
      ++ flat_map (item_properties (source_of l.fn.made l.database))
      (map (item_of l.kind l.database.app) (filter (is_exported l.privacy) (take l.item-index l.item-items)));
  items : All (IsSaid l.kind l.database.app l.privacy) (take l.item-index l.item-items);
}
