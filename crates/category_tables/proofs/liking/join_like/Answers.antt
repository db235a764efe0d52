-- One label more.
use Rattle.std.proofs.Common.{arith, ◌≡◌, ◌∙◌, [], refl, sym, true, false}
use Rattle.std.proofs.lemmas.List.{get_or-map}
use Rattle.category_tables.specs.Likes.{by_like}
use Rattle.category_tables.specs.Tables.{entry_value, is_used, no_entry, table_value}
use Rattle.category_tables.proofs.liking.join_like.Goals as goal

pub returns-then-is_used : goal.returns-then-is_used
unfolding by_like
returns-then-is_used c =
    let used : is_used (table_value c.args.made.now).entries c.args.number ≡ true = sym c.is_used.ensures ∙ c.if-is_used.true in
    let entry = get_or-map entry_value c.args.made.now.entries c.args.number (record { label = []; id = 0 }) no_entry (omega arith) in
    rw (used, entry, ← c.new_id.ensures) c.place_label.ensures

pub returns-else-is_used : goal.returns-else-is_used
unfolding by_like
returns-else-is_used c =
    let unused : is_used (table_value c.args.made.now).entries c.args.number ≡ false = sym c.is_used.ensures ∙ c.if-is_used.false in
    rw unused refl
