use Rattle.std.proofs.Common.{arith, ◌≡◌, ◌∙◌, [], refl, sym, true, false}
use Rattle.std.proofs.lemmas.List.{get_or-map}
use Rattle.category_tables.specs.Merges.{by_label, is_new}
use Rattle.category_tables.specs.Tables.{entry_value, no_entry, table_value}
use Rattle.category_tables.proofs.merging.Merging.join_by_label.Goals as goal

pub returns-then-is_new : goal.returns-then-is_new
unfolding by_label
returns-then-is_new c =
    let new : is_new (table_value c.args.handheld.now) (table_value c.args.desktop.now) c.args.number ≡ true =
    sym c.is_new.ensures ∙ c.if-is_new.true in
    let entry = get_or-map entry_value c.args.desktop.now.entries c.args.number (record { label = []; id = 0 }) no_entry (omega arith) in
    rw (new, entry) c.place_label.ensures

pub returns-else-is_new : goal.returns-else-is_new
unfolding by_label
returns-else-is_new c =
    let old : is_new (table_value c.args.handheld.now) (table_value c.args.desktop.now) c.args.number ≡ false =
    sym c.is_new.ensures ∙ c.if-is_new.false in
    rw old refl
