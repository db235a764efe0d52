use Rattle.std.proofs.Common.{arith, []}
use Rattle.std.proofs.lemmas.List.{get_or-map}
use Rattle.category_tables.specs.Owned.{is_owned}
use Rattle.category_tables.specs.Tables.{entry_value, no_entry}
use Rattle.category_tables.proofs.read.is_owned.Goals as goal

pub returns : goal.returns
unfolding is_owned
returns c =
    let entry = get_or-map entry_value c.args.table.now.entries c.args.number (record { label = []; id = 0 }) no_entry (omega arith) in
    rw (entry, ← c.of_id.ensures.value) c.is_found.ensures
