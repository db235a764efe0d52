use Rattle.category_tables.proofs.TextLaws.{table-read, text_holds}
use Rattle.category_tables.proofs.laws.a_table_is_read_again.Goals as goal

pub returns : goal.returns
returns c = record { holds = text_holds; table = table-read }
