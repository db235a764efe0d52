use Rattle.table_export.proofs.TableLaws.{exported_rows-wide}
use Rattle.table_export.proofs.laws.each_row_has_a_field_for_each_name.Goals as goal

pub returns : goal.returns
returns c = exported_rows-wide
