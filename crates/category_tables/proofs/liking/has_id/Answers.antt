-- The ids of entries are those of their values.
use Rattle.std.proofs.Common.{◌∙◌}
use Rattle.category_tables.proofs.LikeLaws.{has_id_map}
use Rattle.category_tables.proofs.liking.has_id.Goals as goal

pub returns : goal.returns
returns c = c.has_entry_id.ensures ∙ has_id_map c.args.entries.now c.args.id
