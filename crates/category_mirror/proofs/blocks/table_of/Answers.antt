-- The head of a block is read.
use Rattle.std.proofs.Common.{ap, refl, ◌∙◌}
use Rattle.category_mirror.specs.Blocks.{block_table, head_table}
use Rattle.category_mirror.proofs.BlockLaws.{read_is}
use Rattle.category_mirror.proofs.blocks.table_of.Goals as goal

pub returns-in-Some-clause-table : goal.returns-in-Some-clause-table
unfolding block_table
returns-in-Some-clause-table c = rw c.in-Some.is (read_is c.head_of.result.now c.read_table.result c.read_table.ensures ∙ ap head_table c.head_of.ensures)

pub returns-in-None-clause-table : goal.returns-in-None-clause-table
unfolding block_table
returns-in-None-clause-table c = rw c.in-None.is refl
