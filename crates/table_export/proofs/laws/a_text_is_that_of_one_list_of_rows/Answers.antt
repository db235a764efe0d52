use Rattle.table_export.proofs.ReadLaws.{table_text_injective}
use Rattle.table_export.proofs.laws.a_text_is_that_of_one_list_of_rows.Goals as goal

pub returns : goal.returns
returns c = table_text_injective
