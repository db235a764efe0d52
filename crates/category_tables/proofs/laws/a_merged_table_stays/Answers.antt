use Rattle.category_tables.proofs.MergedLaws.{merged_is_merged, own_same, own_stays}
use Rattle.category_tables.proofs.laws.a_merged_table_stays.Goals as goal

pub returns : goal.returns
returns c = record {
  table = λ handheld desktop one other. own_same _ (merged_is_merged handheld desktop one other);
  places = λ handheld desktop number are few used. own_stays _ number (merged_is_merged handheld desktop are.handheld_is are.desktop_is) few used;
}
