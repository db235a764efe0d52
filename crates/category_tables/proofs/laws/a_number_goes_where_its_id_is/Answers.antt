use Rattle.category_tables.proofs.MergedLaws.{known_place, swapped_back}
use Rattle.category_tables.proofs.laws.a_number_goes_where_its_id_is.Goals as goal

pub returns : goal.returns
returns c = record {
  known = λ handheld desktop number place are uses. known_place handheld desktop number place are.handheld_is are.desktop_is uses.some uses.few
      uses.used;
  swapped = λ handheld desktop i j number are uses. swapped_back handheld desktop i j number are.tables.handheld_is are.tables.desktop_is are.swap
      uses.some uses.few uses.used;
}
