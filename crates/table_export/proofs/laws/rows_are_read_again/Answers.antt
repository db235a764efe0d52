use Rattle.table_export.proofs.ReadLaws.{rows_in-table_text}
use Rattle.table_export.proofs.laws.rows_are_read_again.Goals as goal

pub returns : goal.returns
returns c = rows_in-table_text
