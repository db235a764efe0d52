use Rattle.category_tables.proofs.MergedLaws.{merged_again}
use Rattle.category_tables.proofs.laws.a_table_is_merged_once.Goals as goal

pub returns : goal.returns
returns c = record {
  table = λ handheld desktop one other. (merged_again handheld desktop one other).0;
  places = λ handheld desktop one other. (merged_again handheld desktop one other).1;
}
