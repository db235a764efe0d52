use Rattle.std.proofs.Common.{◌≡◌, ◌-◌}
use Rattle.category_tables.specs.Makings.{merging_value}
use Rattle.category_tables.specs.Merges.{begun, by_id, by_label, rounds}
use Rattle.category_tables.specs.Tables.{table_value}
use Rattle.category_tables.proofs.merge_tables.joined.Given as goal

abbrev pub invariant-loop-number : goal.invariant-loop-number
invariant-loop-number l =
    merging_value l.made ≡ rounds (by_id (table_value l.handheld) (table_value l.desktop)) (l.number - 1) (begun (table_value l.handheld))

abbrev pub invariant-loop-number-2 : goal.invariant-loop-number-2
invariant-loop-number-2 l =
    merging_value l.made ≡ rounds (by_label (table_value l.handheld) (table_value l.desktop)) (l.number - 1) (merging_value l.initial.made)
