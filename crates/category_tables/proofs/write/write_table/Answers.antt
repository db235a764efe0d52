use Rattle.std.proofs.Common.{append_assoc, refl}
use Rattle.category_tables.specs.Texts.{table_text}
use Rattle.category_tables.proofs.write.write_table.Goals as goal

pub returns : goal.returns
unfolding table_text
returns c =
    rw (c.in_ok-extend_from_slice-2.ensures.items, c.in_ok-push_ids.ensures, c.in_ok-push_labels.ensures, c.in_ok-extend_from_slice.ensures.items)
    (simp append_assoc refl)
