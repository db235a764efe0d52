use Rattle.category_tables.proofs.MergedLaws.{merged_is_table, places_used}
use Rattle.category_tables.proofs.laws.a_merged_table_is_a_table.Goals as goal

pub returns : goal.returns
returns c = record {
  table = merged_is_table;
  places = λ handheld desktop number one other few. places_used handheld desktop number one other few;
}
