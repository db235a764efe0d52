use Rattle.category_tables.proofs.WrittenLaws.{table-written}
use Rattle.category_tables.proofs.laws.a_table_is_written_again.Goals as goal

pub returns : goal.returns
returns c = table-written
