-- The parts of the block, one behind the other.
use Rattle.std.proofs.Common.{append_assoc, refl}
use Rattle.category_tables.specs.Likes.{block_like as block_of}
use Rattle.category_tables.proofs.LikeBlockLaws.{all_behind}
use Rattle.category_tables.proofs.like_block.block_like.Goals as goal

pub returns : goal.returns
unfolding block_of
returns c =
    rw (
      c.in_ok-extend_from_slice-2.ensures.items,
      c.in_ok-push_ids_like.ensures,
      c.in_ok-push_labels_like.ensures,
      c.in_ok-extend_from_slice.ensures.items,
      c.in_ok-out.ensures.items,
      all_behind 274 c.args.block.now,
    ) (simp append_assoc refl)
