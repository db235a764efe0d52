use Rattle.palm_records.specs.Strings.{until_zero}
use Rattle.category_tables.proofs.PlaceLaws.{of_label-map}
use Rattle.category_tables.proofs.place.of_label.Goals as goal

pub returns-clause-value : goal.returns-clause-value
returns-clause-value c = rw (of_label-map c.args.entries.now (until_zero c.args.label.now), ← c.until_zero.ensures) c.place_of_label.ensures.value
