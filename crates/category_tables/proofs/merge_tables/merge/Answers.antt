use Rattle.std.proofs.Common.{◌≡◌, ap, map, refl}
use Rattle.category_tables.specs.Merges.{MergingValue, merged_table, merging, places_of}
use Rattle.category_tables.specs.Tables.{entry_value, table_value}
use Rattle.category_tables.proofs.merge_tables.merge.Goals as goal

pub returns-clause-table : goal.returns-clause-table
unfolding merged_table
returns-clause-table c =
    let entries : map entry_value c.joined-made.result.entries ≡ (merging (table_value c.args.handheld.now) (table_value c.args.desktop.now)).entries =
    ap (λ (m : MergingValue). m.entries) c.joined-made.ensures in
    rw (c.greatest.ensures, c.max.ensures, entries) refl

pub returns-clause-places : goal.returns-clause-places
unfolding places_of
returns-clause-places c = ap (λ (m : MergingValue). m.places) c.joined-made.ensures
