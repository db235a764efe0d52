use Rattle.std.proofs.Common.{arith, ◌≡◌, ◌∙◌, [], map, sym, true, false}
use Rattle.std.proofs.lemmas.List.{get_or-map}
use Rattle.category_tables.specs.Merges.{is_new}
use Rattle.category_tables.specs.Tables.{entry_value, is_used, no_entry}
use Rattle.category_tables.proofs.PlaceLaws.{none_told}
use Rattle.category_tables.proofs.merging.is_new.Goals as goal

pub returns-then-is_used : goal.returns-then-is_used
unfolding is_new
returns-then-is_used c =
    let used : is_used (map entry_value c.args.desktop.now.entries) c.args.number ≡ true = sym c.is_used.ensures ∙ c.if-is_used.true in
    let entry = get_or-map entry_value c.args.desktop.now.entries c.args.number (record { label = []; id = 0 }) no_entry (omega arith) in
    rw (used, entry, ← c.of_id.ensures.value) (none_told _ _ c.is_none.ensures)

pub returns-else-is_used : goal.returns-else-is_used
unfolding is_new
returns-else-is_used c =
    let used : is_used (map entry_value c.args.desktop.now.entries) c.args.number ≡ false = sym c.is_used.ensures ∙ c.if-is_used.false in
    rw used c.if-is_used.false
