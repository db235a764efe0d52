-- A block without new labels.
use Rattle.category_tables.specs.Likes.{liking}
use Rattle.category_tables.specs.Texts.{table_in}
use Rattle.category_tables.proofs.LikeBlockLaws.{block_stays}
use Rattle.category_tables.proofs.LikeNumberLaws.{known_stay}
use Rattle.category_tables.proofs.laws.a_block_without_new_labels_stays.Goals as goal

pub returns : goal.returns
returns c = λ made block holds known.
    block_stays (table_in block).entries (liking (table_in block) made).entries block holds.long (known_stay (table_in block) made holds.table.whole known)
