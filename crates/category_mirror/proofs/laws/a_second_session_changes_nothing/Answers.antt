-- A second session.
use Rattle.category_mirror.proofs.AgainLaws.{still}
use Rattle.category_mirror.proofs.laws.a_second_session_changes_nothing.Goals as goal

pub returns : goal.returns
returns c = record {
  block = λ handheld rows all. (still handheld rows all).block;
  rows = λ handheld rows merge all is. (still handheld rows all).rows_too merge is;
}
